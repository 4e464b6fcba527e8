-- The theorems of this crate as statements, which contracts can name.
use Rattle.std.specs.Prelude.{◌≡◌, ◌↔◌, ⊤, List, [], Some}
use Rattle.c_objects.specs.Facts.{Facts}
use Rattle.c_tree.specs.Compared as forms
use Rattle.c_tree.specs.Forget.{syntax_of}
use Rattle.c_tree.specs.Node.{Node}
use Rattle.metal_tree.specs.MetalMachines.Machine.{Item}
use Rattle.hole_matching.specs.Alternatives.{Matches, matched_alternative}
use Rattle.hole_matching.specs.ComparedSubjects.{compared, compared_all, with_parts}
use Rattle.hole_matching.specs.Holes.{Setting}
use Rattle.hole_matching.specs.Matched.{matched, nothing_taken}
use Rattle.hole_matching.specs.Matching.{Taking, Binding, Stands, IsBinding}
use Rattle.hole_matching.specs.Pattern.{Pattern, hole, likewise, other, Patterns, no_more, more}
use Rattle.hole_matching.specs.Plain.{IsPlain}
use Rattle.hole_matching.specs.Written.{pattern_of}
use Rattle.c_tree.specs.PathSubjects.Subjects.{Subject, Tree}
use Rattle.hole_matching.specs.Subjects.{inner, head_of, parts_of}

abbrev mutual
  pub IsWithoutHoles : Pattern → Type 0
  IsWithoutHoles (hole n) = ⊥
  IsWithoutHoles (likewise h ps) = AreWithoutHoles ps
  IsWithoutHoles other = ⊥

  pub AreWithoutHoles : Patterns → Type 0
  AreWithoutHoles no_more = ⊤
  AreWithoutHoles (more p ps) = IsWithoutHoles p × AreWithoutHoles ps

-- a pattern is matched with a subject by exactly the binding of what its holes take where it stands over it
abbrev pub PatternsAreMatched : Type 0
PatternsAreMatched = (g : Setting) (p : Pattern) (s : Subject) (b : Binding)
    → (matched g p s nothing_taken ≡ Some b) ↔ ((ts : List Taking) × Stands g p s ts × IsBinding g.facts ts b)

-- an alternative is matched by exactly the binding with which it matches
abbrev pub AlternativesAreMatched : Type 0
AlternativesAreMatched = (g : Setting) (items : List Item) (s : Subject) (b : Binding)
    → (matched_alternative g items s ≡ Some b) ↔ Matches g items s b

-- an alternative matches a subject with at most one binding
abbrev pub BindingsAreUnique : Type 0
BindingsAreUnique = (g : Setting) (items : List Item) (s : Subject) (b c : Binding) → Matches g items s b → Matches g items s c → b ≡ c

-- What two trees are compared by is the head and the parts that they are matched by.
abbrev pub ComparedLevelByLevel : Type 0
ComparedLevelByLevel = (u : Facts) (s : Subject) → compared u s ≡ with_parts (head_of u (inner s)) (compared_all u (parts_of (inner s)))

-- A pattern without holes stands over exactly the subjects that are compared by it. So trees are equal where they match.
abbrev pub EqualTreesMatch : Type 0
EqualTreesMatch = (g : Setting) (p : Pattern) (s : Subject) (ts : List Taking)
    → IsWithoutHoles p → Stands g p s ts ↔ (compared g.facts s ≡ p) × (ts ≡ [])

-- An expression without type names that is written as a pattern is what the same expression in a tree is compared by.
abbrev pub CopiesAreCompared : Type 0
CopiesAreCompared = (u : Facts) (e : Node) → IsPlain e → pattern_of (syntax_of e) ≡ compared u (Tree e)

-- Trees without type names that are the same by themselves are equal in a match.
abbrev pub SameTreesAreEqual : Type 0
SameTreesAreEqual = (u : Facts) (a b : Node) → IsPlain a → IsPlain b
    → forms.compared (syntax_of a) ≡ forms.compared (syntax_of b) → compared u (Tree a) ≡ compared u (Tree b)
