-- THE MATCH RELATION: a pattern stands over a subject, and its holes take what stands in their places.
use Rattle.std.specs.Prelude.{◌≡◌, ◌⊎◌, ℕ, zero, suc, nat_eq, List, [], ◌∷◌, ◌++◌, length, true, cond, Option, None, Some}
use Rattle.c_objects.specs.Facts.{Facts}
use Rattle.hole_matching.specs.ComparedSubjects.{compared, compared_all}
use Rattle.metal_tree.specs.MetalMachines.Limits.{most_holes}
use Rattle.hole_matching.specs.Holes.{Setting, may_take, takes_rest}
use Rattle.hole_matching.specs.Pattern.{Head, Call, Pattern, hole, likewise, other, Patterns, no_more, more}
use Rattle.c_tree.specs.PathSubjects.Subjects.{Subject}
use Rattle.hole_matching.specs.Subjects.{inner, head_of, parts_of}

-- One subject, or the arguments that are the rest of a list.
pub data Taken : Type 0 where
  One : Subject → Taken
  Many : List Subject → Taken

-- a hole, and what it takes at one place
pub record Taking : Type 0 where
  pub hole : ℕ
  pub taken : Taken

abbrev pub taking : ℕ → Taken → Taking
taking n x = record { hole = n; taken = x }

-- Where a part of a tree stands: it is the callee of a call, or among the arguments, or a part of another tree.
pub data Seat : Type 0 where
  Callee : Seat
  Argument : Seat
  Elsewhere : Seat

-- that of the first part under a head
abbrev pub first_seat : Head → Seat
first_seat Call = Callee
first_seat _ = Elsewhere

-- that of the part behind
abbrev pub next_seat : Seat → Seat
next_seat Elsewhere = Elsewhere
next_seat _ = Argument

-- a hole for arguments that stands last among those of a call takes the rest, also an empty one
abbrev pub TakesRest : Setting → Seat → Pattern → Patterns → List Subject → List Taking → Type 0
TakesRest g Argument (hole n) no_more ss ts = (takes_rest g n ≡ true) × (ts ≡ (taking n (Many ss) ∷ []))
TakesRest g _ _ _ ss ts = ⊥

-- A PATTERN STANDS OVER A SUBJECT, and its holes take these, in the order of the text. A hole takes what is in the parentheses.
-- Every other pattern has the head of the subject, and its parts stand over the parts.
abbrev mutual
  pub Stands : Setting → Pattern → Subject → List Taking → Type 0
  Stands g (hole n) s ts = (may_take g n (inner s) ≡ true) × (ts ≡ (taking n (One (inner s)) ∷ []))
  Stands g (likewise h ps) s ts = (head_of g.facts (inner s) ≡ Some h) × StandAll g (first_seat h) ps (parts_of (inner s)) ts
  Stands g other s ts = ⊥

  pub StandAll : Setting → Seat → Patterns → List Subject → List Taking → Type 0
  StandAll g seat no_more ss ts = (ss ≡ []) × (ts ≡ [])
  StandAll g seat (more p ps) ss ts =
      TakesRest g seat p ps ss ts
      ⊎ ((s : Subject) × (rest : List Subject) × (xs : List Taking) × (ys : List Taking)
      × (ss ≡ (s ∷ rest)) × (ts ≡ (xs ++ ys)) × Stands g p s xs × StandAll g (next_seat seat) ps rest ys)

-- what each hole has taken, by its number
abbrev pub Binding : Type 0
Binding = List (Option Taken)

abbrev pub slot : ℕ → Binding → Option Taken
slot n [] = None
slot zero (x ∷ xs) = x
slot (suc n) (x ∷ xs) = slot n xs

-- what a hole takes first
abbrev pub first_taken : ℕ → List Taking → Option Taken
first_taken n [] = None
first_taken n (t ∷ ts) = cond (nat_eq t.hole n) (Some t.taken) (first_taken n ts)

-- Equal trees, or lists of equal trees.
abbrev pub AreEqual : Facts → Taken → Taken → Type 0
AreEqual u (One s) (One t) = compared u s ≡ compared u t
AreEqual u (Many ss) (Many ts) = compared_all u ss ≡ compared_all u ts
AreEqual u _ _ = ⊥

abbrev pub IsEqualTo : Facts → Option Taken → Taken → Type 0
IsEqualTo u None x = ⊥
IsEqualTo u (Some y) x = AreEqual u y x

abbrev pub IsTaken : Taking → List Taking → Type 0
IsTaken t [] = ⊥
IsTaken t (x ∷ xs) = (t ≡ x) ⊎ IsTaken t xs

-- THE JOINT BINDING of what holes take: each hole is bound to what it takes first, and whatever it takes is equal to that.
pub record IsBinding (u : Facts) (ts : List Taking) (b : Binding) : Type 0 where
  pub slots : length b ≡ most_holes
  pub first : (n : ℕ) → slot n b ≡ first_taken n ts
  pub again : (t : Taking) → IsTaken t ts → IsEqualTo u (first_taken t.hole ts) t.taken
