-- The machine that a written text is. Where the text has a fault it is of no interest.
use Rattle.std.specs.Prelude.{ℕ, ◌+◌, Bool, cond, not, nat_eq, ◌&&◌, ◌||◌, List, [], ◌∷◌, ◌++◌, length, map, flat_map, filter, filter_map, codes, Option, None, Some, unwrap_or}
use Rattle.metal_grammar.specs.Words.{Spelling, is_spelled}
use Rattle.metal_grammar.specs.Written.{members, StateName, OfMachine, OfVariable, WrittenCallout, WrittenItem, Pattern, Callout, Dollars, Destination, To, Split, WrittenAction, Clause}
use Rattle.metal_grammar.specs.Holes.{DeclaredHole}
use Rattle.metal_grammar.specs.Patterns.{with_holes}
use Rattle.metal_tree.specs.MetalMachines.Machine.{start, stop, first_named, IsConst, Piece, Hole, Source, FromGlobal, FromObject, Target, ToGlobal, ToObject, ToUnknown, Dest, Always, ByTruth, Condition, Item, Base, Holds, EndOfPath, Rule, Machine}
use Rattle.metal_grammar.specs.Message.{message_with}
use Rattle.metal_grammar.specs.Callouts.{row_of, hole_asked, text_asked}
use Rattle.metal_grammar.specs.Rules.{holes_of, PlacedRule, rules_of, targets_of}
use Rattle.metal_grammar.specs.Faults.{is_stop}

-- each of these once, where it stands first
abbrev pub distinct : List ℕ → List ℕ
distinct [] = []
distinct (n ∷ ns) = n ∷ filter (λ m. not (nat_eq m n)) (distinct ns)

abbrev pub one_more : Option ℕ → Option ℕ
one_more None = None
one_more (Some n) = Some (n + 1)

-- the number of a name among these, from 0 on
abbrev pub number_among : List ℕ → ℕ → Option ℕ
number_among [] name = None
number_among (n ∷ ns) name = cond (nat_eq n name) (Some 0) (one_more (number_among ns name))

abbrev pub number_in : List ℕ → ℕ → ℕ
number_in names name = unwrap_or (number_among names name) 0

-- the holes of a machine: its state variables first, and each kind in the order of the text
abbrev pub in_order : List DeclaredHole → List DeclaredHole
in_order holes = filter (λ h. h.is_state) holes ++ filter (λ h. not h.is_state) holes

abbrev pub hole_of : DeclaredHole → Hole
hole_of h = record { name = h.name; of = h.of }

-- the states that a text mentions, in its order
abbrev pub states_mentioned : List PlacedRule → List StateName
states_mentioned rules = flat_map (λ r. r.source ∷ targets_of r.rule.destination) rules

abbrev pub is_start : Spelling → ℕ → Bool
is_start spelling name = is_spelled spelling (codes "start") name

abbrev pub global_name : Spelling → StateName → Option ℕ
global_name spelling (OfMachine name) = cond (is_start spelling name || is_stop spelling (OfMachine name)) None (Some name)
global_name spelling (OfVariable variable name) = None

abbrev pub name_for : Spelling → ℕ → StateName → Option ℕ
name_for spelling variable (OfMachine name) = None
name_for spelling variable (OfVariable v name) = cond (nat_eq v variable && not (is_stop spelling (OfVariable v name))) (Some name) None

-- the names of the global states but `start` and `stop`, and those of a variable but `stop`
abbrev pub globals_among : Spelling → List StateName → List ℕ
globals_among spelling states = distinct (filter_map (global_name spelling) states)

abbrev pub states_among : Spelling → List StateName → ℕ → List ℕ
states_among spelling states variable = distinct (filter_map (name_for spelling variable) states)

-- What gives names their numbers: the holes in order, and the states that are mentioned.
pub record Numbering : Type 0 where
  pub spelling : Spelling
  pub holes : List ℕ
  pub states : List StateName

abbrev pub global_number : Numbering → ℕ → ℕ
global_number n name = cond (is_start n.spelling name) start (cond (is_stop n.spelling (OfMachine name)) stop (number_in (globals_among n.spelling n.states) name + first_named))

abbrev pub state_number : Numbering → ℕ → ℕ → ℕ
state_number n variable name = number_in (states_among n.spelling n.states variable) name

abbrev pub source_of : Numbering → StateName → Source
source_of n (OfMachine name) = FromGlobal (global_number n name)
source_of n (OfVariable variable name) = FromObject (number_in n.holes variable) (state_number n variable name)

abbrev pub target_of : Numbering → StateName → Target
target_of n (OfMachine name) = ToGlobal (global_number n name)
target_of n (OfVariable variable name) = cond (is_stop n.spelling (OfVariable variable name)) (ToUnknown (number_in n.holes variable)) (ToObject (number_in n.holes variable) (state_number n variable name))

abbrev pub dest_of : Numbering → Destination → Dest
dest_of n (To target) = Always (target_of n target)
dest_of n (Split true_word on_true false_word on_false) = ByTruth (target_of n on_true) (target_of n on_false)

abbrev pub number_asked : Numbering → Option ℕ → ℕ
number_asked n None = 0
number_asked n (Some name) = number_in n.holes name

abbrev pub condition_of : Numbering → Bool → WrittenCallout → Condition
condition_of n negated callout = record { negated = negated; row = unwrap_or (row_of n.spelling callout) IsConst; hole = number_asked n (hole_asked callout); text = text_asked n.spelling callout }

abbrev pub item_of : Numbering → WrittenItem → Item
item_of n (Pattern e semicolon) = Base (with_holes (number_among n.holes) e)
item_of n (Callout negated callout) = Holds (condition_of n negated callout)
item_of n (Dollars name) = EndOfPath

abbrev pub action_of : Numbering → Option WrittenAction → Option (List Piece)
action_of n None = None
action_of n (Some a) = message_with n.spelling a (map (λ argument. number_in n.holes argument.1) a.arguments)

abbrev pub rule_of : Numbering → PlacedRule → Rule
rule_of n r = record {
  number = r.number;
  position = r.position;
  source = source_of n r.source;
  alternatives = map (λ items. map (item_of n) (members items)) (members r.rule.alternatives);
  dest = dest_of n r.rule.destination;
  action = action_of n r.rule.action;
}

abbrev pub head_name : Option (ℕ × ℕ) → ℕ
head_name None = 0
head_name (Some head) = head.1

abbrev pub machine_name : List Clause → ℕ
machine_name [] = 0
machine_name (c ∷ cs) = head_name c.head

abbrev pub machine_with : Numbering → ℕ → List DeclaredHole → List PlacedRule → Machine
machine_with n name holes rules = record {
  name = name;
  variables = length (filter (λ h. h.is_state) holes);
  holes = map hole_of (in_order holes);
  globals = globals_among n.spelling n.states;
  states = map (λ h. states_among n.spelling n.states h.name) (filter (λ h. h.is_state) holes);
  rules = map (rule_of n) rules;
}

abbrev pub numbering_of : Spelling → List Clause → Numbering
numbering_of spelling cs = record { spelling = spelling; holes = map (λ h. h.name) (in_order (holes_of spelling cs)); states = states_mentioned (rules_of cs) }

abbrev pub machine_of : Spelling → List Clause → Machine
machine_of spelling cs = machine_with (numbering_of spelling cs) (machine_name cs) (holes_of spelling cs) (rules_of cs)
