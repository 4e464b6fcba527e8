-- The grammar of checkers as a predicate on written clauses.
use Rattle.std.specs.Prelude.{◌≡◌, ◌≤◌, ◌⊎◌, ℕ, ◌+◌, Bool, true, false, not, ◌&&◌, ◌||◌, is_some, List, [], ◌∷◌, ◌++◌, length, codes, Option, None, Some}
use Rattle.c_tree.specs.declared.keyword.Keyword.{Keyword}
use Rattle.c_tree.specs.Symbol.{Symbol, IntLiteral}
use Rattle.c_tree.specs.Height.{height_of}
use Rattle.c_tree.specs.Phrase.{phrase_then}
use Rattle.c_grammar.specs.Levels.{comma_level}
use Rattle.c_grammar.specs.Nonterminal.{Expression}
use Rattle.c_grammar.specs.Grammar.{IsOf}
use Rattle.c_grammar.specs.Specifiers.{is_type_word, is_basic}
use Rattle.metal_grammar.specs.Words.{Spelling, is_spelled}
use Rattle.metal_grammar.specs.Written.{Row, lone, row, WrittenType, BasicType, Declaration, WrittenCallout, Digit, Asked, WrittenItem, Pattern, Callout, Dollars, Destination, To, Split, WrittenAction, Alternative, WrittenRule, Content, Nothing, Declares, Rules, Clause}
use Rattle.metal_grammar.specs.Phrases.{clause_phrase, clause_tokens}
use Rattle.metal_grammar.specs.Clauses.{clauses_of}
use Rattle.metal_tree.specs.MetalMachines.Machine.{HoleType, AnyArguments, AnyFnCall}
use Rattle.metal_grammar.specs.Holes.{DeclaredHole, hole_type, declared_holes, Operand, are_placed}
use Rattle.metal_grammar.specs.Patterns.{has_plain_types}

-- What stands before a clause: the holes that are declared, in the order of the text, and whether a section does.
pub record Before : Type 0 where
  pub holes : List DeclaredHole
  pub section : Bool

abbrev pub nothing_before : Before
nothing_before = record { holes = []; section = false }

abbrev pub behind_content : Spelling → Content → Before → Before
behind_content spelling Nothing before = before
behind_content spelling (Declares d) before = record { holes = before.holes ++ declared_holes spelling d; section = before.section }
behind_content spelling (Rules s) before = record { holes = before.holes; section = true }

abbrev pub each : {A : Type 0} → (A → Bool) → Row A → Bool
each is (lone x) = is x
each is (row x xs) = is x && each is xs

abbrev pub some : {A : Type 0} → (A → Bool) → Row A → Bool
some is (lone x) = is x
some is (row x xs) = is x || some is xs

abbrev pub spelled_if : Spelling → List ℕ → Option ℕ → Bool
spelled_if spelling text None = true
spelled_if spelling text (Some name) = is_spelled spelling text name

-- a variable with states has a type by which it takes an expression that isn't a callee
abbrev pub may_have : Bool → Option HoleType → Bool
may_have is_state None = false
may_have true (Some AnyArguments) = false
may_have true (Some AnyFnCall) = false
may_have is_state (Some t) = true

abbrev pub are_type_words : List Keyword → Bool
are_type_words [] = true
are_type_words (k ∷ ks) = is_type_word k && are_type_words ks

-- the words before the stars are those of one basic type
abbrev pub is_type : WrittenType → Bool
is_type (BasicType words n) = are_type_words words && is_basic words
is_type _ = true

-- All declarations stand before all sections.
abbrev pub is_declaration : Spelling → Before → Declaration → Bool
is_declaration spelling before d =
    not before.section && spelled_if spelling (codes "state") d.state && is_spelled spelling (codes "decl") d.decl && is_type d.type && may_have (is_some d.state) (hole_type spelling d.type)

-- the constant is spelled `0` or `1`, and no other way
abbrev pub is_digit : Spelling → Symbol → Bool
is_digit spelling (IntLiteral value name) = is_spelled spelling (codes "0") name || is_spelled spelling (codes "1") name
is_digit spelling _ = false

abbrev pub is_callout : Spelling → WrittenCallout → Bool
is_callout spelling (Digit digit) = is_digit spelling digit
is_callout spelling (Asked name argument text) = true

abbrev pub is_item : Spelling → List DeclaredHole → WrittenItem → Bool
is_item spelling holes (Pattern e semicolon) = are_placed holes Operand e && has_plain_types e
is_item spelling holes (Callout negated callout) = is_callout spelling callout
is_item spelling holes (Dollars name) = is_spelled spelling (codes "end_of_path") name

abbrev pub is_pattern : WrittenItem → Bool
is_pattern (Pattern e semicolon) = true
is_pattern _ = false

abbrev pub is_end : WrittenItem → Bool
is_end (Dollars name) = true
is_end _ = false

-- no alternative has both a pattern and the end of the path
abbrev pub is_alternative : Spelling → List DeclaredHole → Alternative → Bool
is_alternative spelling holes items = each (is_item spelling holes) items && not (some is_pattern items && some is_end items)

abbrev pub is_destination : Spelling → Destination → Bool
is_destination spelling (To target) = true
is_destination spelling (Split true_word on_true false_word on_false) = is_spelled spelling (codes "true") true_word && is_spelled spelling (codes "false") false_word

abbrev pub are_identifiers : Spelling → List (ℕ × ℕ) → Bool
are_identifiers spelling [] = true
are_identifiers spelling (a ∷ others) = is_spelled spelling (codes "mc_identifier") a.0 && are_identifiers spelling others

abbrev pub is_action : Spelling → Option WrittenAction → Bool
is_action spelling None = true
is_action spelling (Some a) = is_spelled spelling (codes "err") a.word && are_identifiers spelling a.arguments

abbrev pub is_rule : Spelling → List DeclaredHole → WrittenRule → Bool
is_rule spelling holes r = each (is_alternative spelling holes) r.alternatives && is_destination spelling r.destination && is_action spelling r.action

abbrev pub is_content : Spelling → Before → Content → Bool
is_content spelling before Nothing = true
is_content spelling before (Declares d) = is_declaration spelling before d
is_content spelling before (Rules s) = each (is_rule spelling before.holes) s.rules

abbrev pub is_head : Spelling → Option (ℕ × ℕ) → Bool
is_head spelling None = true
is_head spelling (Some head) = is_spelled spelling (codes "sm") head.0

abbrev pub EachIs : {A : Type 0} → (A → Type 0) → Row A → Type 0
EachIs Is (lone x) = Is x
EachIs Is (row x xs) = Is x × EachIs Is xs

-- Each pattern is an expression of C under no names of types, and not higher than a tree of C may be.
abbrev pub IsItem : WrittenItem → Type 0
IsItem (Pattern e semicolon) = IsOf (Expression comma_level) [] e × (height_of e ≤ 1000)
IsItem _ = Unit {0}

abbrev pub IsAlternative : Alternative → Type 0
IsAlternative items = EachIs IsItem items

abbrev pub IsRule : WrittenRule → Type 0
IsRule r = EachIs IsAlternative r.alternatives

abbrev pub IsContent : Content → Type 0
IsContent (Rules s) = EachIs IsRule s.rules
IsContent _ = Unit {0}

-- Only a clause that is the first and the last may have no content.
abbrev pub may_contain : Bool → Content → Bool
may_contain alone Nothing = alone
may_contain alone _ = true

-- The clause is a parse of these symbols: the first clause has the head, and the last one the closing brace.
pub record IsClause (spelling : Spelling) (before : Before) (is_first is_last : Bool) (c : Clause) (ts : List Symbol) : Type 0 where
  pub tokens : ts ≡ clause_tokens c
  pub first : is_some c.head ≡ is_first
  pub closed : c.closing ≡ is_last
  pub head : is_head spelling c.head ≡ true
  pub filled : may_contain (is_first && is_last) c.content ≡ true
  pub content : is_content spelling before c.content ≡ true
  pub patterns : IsContent c.content

abbrev pub is_last : List (List Symbol) → Bool
is_last [] = true
is_last (ts ∷ others) = false

-- Each clause is a parse of these symbols, behind those before it.
abbrev pub AreClauses : Spelling → Before → Bool → List Clause → List (List Symbol) → Type 0
AreClauses spelling before is_first [] [] = Unit {0}
AreClauses spelling before is_first (c ∷ cs) (ts ∷ others) = IsClause spelling before is_first (is_last others) c ts × AreClauses spelling (behind_content spelling c.content before) false cs others
AreClauses spelling before is_first _ _ = ⊥

-- These clauses are the text of a checker.
abbrev pub IsText : Spelling → List Clause → List Symbol → Type 0
IsText spelling cs ts = AreClauses spelling nothing_before true cs (clauses_of ts)

-- The first clause without a parse begins at this symbol, where the clauses begin at this position.
abbrev pub IsUnread : Spelling → Before → Bool → ℕ → List (List Symbol) → ℕ → Type 0
IsUnread spelling before is_first position [] at = ⊥
IsUnread spelling before is_first position (ts ∷ others) at =
    ((at ≡ position) × ((c : Clause) → IsClause spelling before is_first (is_last others) c ts → ⊥))
    ⊎ ((c : Clause) × IsClause spelling before is_first (is_last others) c ts × IsUnread spelling (behind_content spelling c.content before) false (position + length ts) others at)

-- The text isn't that of a checker, and the first clause without a parse begins at this symbol.
abbrev pub IsSyntaxFault : Spelling → List Symbol → ℕ → Type 0
IsSyntaxFault spelling ts at = IsUnread spelling nothing_before true 0 (clauses_of ts) at

-- the tokens of a whole text
abbrev pub text_tokens : List Clause → List Symbol
text_tokens [] = []
text_tokens (c ∷ cs) = phrase_then (clause_phrase c) (text_tokens cs)

-- One or more clauses, each well-formed behind those before it; the first has the head, and the last the closing brace.
abbrev pub AreWellFormed : Spelling → Before → Bool → List Clause → Type 0
AreWellFormed spelling before is_first [] = ⊥
AreWellFormed spelling before is_first (c ∷ []) = IsClause spelling before is_first true c (clause_tokens c)
AreWellFormed spelling before is_first (c ∷ d ∷ cs) = IsClause spelling before is_first false c (clause_tokens c) × AreWellFormed spelling (behind_content spelling c.content before) false (d ∷ cs)
