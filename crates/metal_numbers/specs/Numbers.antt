-- What gives names their numbers.
use Rattle.std.specs.Prelude.{◌≡◌, ◌≤◌, ℕ, Bool, true, false, not, cond, List, [], ◌∷◌, ◌++◌, length, map, take, Option, None, Some}
use Rattle.metal_grammar.specs.Words.{Spelling}
use Rattle.metal_grammar.specs.Meaning as meaning
use Rattle.metal_grammar.specs.Rules.{is_among, targets_of, PlacedRule}
use Rattle.metal_grammar.specs.Faults.{any_of, is_misnamed}
use Rattle.metal_tree.specs.Parts.{state_names}
use Rattle.metal_written.specs.declared.written.StateName.{StateName}
use Rattle.metal_written.specs.Written.{state_view}
use Rattle.metal_numbers.specs.declared.numbers.Numbering.{Numbering}

-- a name more, unless it is there
abbrev pub added : List ℕ → ℕ → List ℕ
added names name = cond (is_among names name) names (names ++ (name ∷ []))

abbrev pub added_if : List ℕ → Option ℕ → List ℕ
added_if names None = names
added_if names (Some name) = added names name

-- whether a hole is of the kind that is asked for: a state variable, or none
abbrev pub is_kind : Bool → Bool → Bool
is_kind true is_state = is_state
is_kind false is_state = not is_state

-- the numbering of these holes and states
abbrev pub numbered : Spelling → List ℕ → List StateName → meaning.Numbering
numbered spelling holes states = record { spelling = spelling; holes = holes; states = map state_view states }

abbrev pub numbering_in : Spelling → Numbering → meaning.Numbering
numbering_in spelling n = numbered spelling n.holes.now n.mentioned.now

-- the names of the state variables, which are the first holes
abbrev pub variables_in : Numbering → List ℕ
variables_in n = take (length n.states.now) n.holes.now

-- Global states are in the order in which they are mentioned, and so are those of each variable.
pub record IsNumbering (spelling : Spelling) (n : Numbering) : Type 0 where
  pub within : length n.states.now ≤ length n.holes.now
  pub globals : n.globals.now ≡ meaning.globals_among spelling (map state_view n.mentioned.now)
  pub states : map state_names n.states.now ≡ map (meaning.states_among spelling (map state_view n.mentioned.now)) (variables_in n)

-- each state of a rule is one of the machine or of a state variable
abbrev pub IsNamed : List ℕ → PlacedRule → Type 0
IsNamed variables r = any_of (is_misnamed variables) (r.source ∷ targets_of r.rule.destination) ≡ false

abbrev pub AreNamed : List ℕ → List PlacedRule → Type 0
AreNamed variables [] = Unit {0}
AreNamed variables (r ∷ rs) = IsNamed variables r × AreNamed variables rs
