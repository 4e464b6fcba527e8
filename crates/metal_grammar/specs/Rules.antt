-- The declared names and the rules of a text, each with the position of its first symbol, and what a rule names.
use Rattle.std.specs.Prelude.{ℕ, ◌+◌, Bool, cond, nat_eq, List, [], ◌∷◌, ◌++◌, length, flat_map, filter, map, Option, None, Some}
use Rattle.c_tree.specs.Phrase.{Phrase, ◌⨾◌}
pub use Rattle.metal_tree.specs.MetalMachines.Lists.{is_among}
use Rattle.metal_grammar.specs.Words.{Spelling}
use Rattle.metal_grammar.specs.Written.{Row, lone, row, members, StateName, OfMachine, OfVariable, Name, Asked, WrittenItem, Pattern, Callout, Destination, To, Split, WrittenAction, Alternative, WrittenRule, Content, Declares, Rules, Clause}
use Rattle.metal_grammar.specs.Phrases.{word, maybe_phrase, type_phrase, state_phrase, rule_phrase, head_phrase, phrase_tokens, clause_tokens}
use Rattle.metal_grammar.specs.Holes.{DeclaredHole, declared_holes}
use Rattle.metal_grammar.specs.Patterns.{names_in}
use Rattle.metal_grammar.specs.Grammar.{is_end, some}

abbrev pub size : Phrase → ℕ
size p = length (phrase_tokens p)

-- the position behind the head of a clause that begins here
abbrev pub behind_head : ℕ → Clause → ℕ
behind_head position c = position + size (maybe_phrase head_phrase c.head)

abbrev pub behind_clause : ℕ → Clause → ℕ
behind_clause position c = position + length (clause_tokens c)

-- a declared name and its position
abbrev pub Declared : Type 0
Declared = ℕ × ℕ

abbrev pub names_from : ℕ → Row ℕ → List Declared
names_from position (lone name) = (name, position) ∷ []
names_from position (row name names) = (name, position) ∷ names_from (position + 2) names

abbrev pub names_of_content : ℕ → Content → List Declared
names_of_content position (Declares d) = names_from (position + size (maybe_phrase word d.state ⨾ word d.decl ⨾ type_phrase d.type)) d.names
names_of_content position _ = []

abbrev pub declared_names : ℕ → List Clause → List Declared
declared_names position [] = []
declared_names position (c ∷ cs) = names_of_content (behind_head position c) c.content ++ declared_names (behind_clause position c) cs

abbrev pub holes_of_content : Spelling → Content → List DeclaredHole
holes_of_content spelling (Declares d) = declared_holes spelling d
holes_of_content spelling _ = []

-- the holes of a text, in its order
abbrev pub holes_of : Spelling → List Clause → List DeclaredHole
holes_of spelling cs = flat_map (λ c. holes_of_content spelling c.content) cs

abbrev pub variables_among : List DeclaredHole → List ℕ
variables_among holes = map (λ h. h.name) (filter (λ h. h.is_state) holes)

pub record PlacedRule : Type 0 where
  pub number : ℕ
  pub position : ℕ
  pub source : StateName
  pub rule : WrittenRule

abbrev pub rules_from : ℕ → ℕ → StateName → Row WrittenRule → List PlacedRule
rules_from number position source (lone r) = record { number = number; position = position; source = source; rule = r } ∷ []
rules_from number position source (row r rs) = record { number = number; position = position; source = source; rule = r } ∷ rules_from (number + 1) (position + size (rule_phrase r) + 1) source rs

abbrev pub rules_of_content : ℕ → ℕ → Content → List PlacedRule
rules_of_content number position (Rules s) = rules_from number (position + size (state_phrase s.source) + 1) s.source s.rules
rules_of_content number position _ = []

abbrev pub count_of_rules : Content → ℕ
count_of_rules (Rules s) = length (members s.rules)
count_of_rules _ = 0

abbrev pub placed_rules : ℕ → ℕ → List Clause → List PlacedRule
placed_rules number position [] = []
placed_rules number position (c ∷ cs) = rules_of_content number (behind_head position c) c.content ++ placed_rules (number + count_of_rules c.content) (behind_clause position c) cs

-- the rules of a text in its order, numbered from 1
abbrev pub rules_of : List Clause → List PlacedRule
rules_of cs = placed_rules 1 0 cs

-- the position of the first symbol of the rule with this number, if there is one
abbrev pub rule_position : ℕ → List PlacedRule → Option ℕ
rule_position number [] = None
rule_position number (r ∷ rs) = cond (nat_eq r.number number) (Some r.position) (rule_position number rs)

abbrev pub targets_of : Destination → List StateName
targets_of (To target) = target ∷ []
targets_of (Split true_word on_true false_word on_false) = on_true ∷ on_false ∷ []

-- the variable that a state is of
abbrev pub variable_of : StateName → List ℕ
variable_of (OfMachine state) = []
variable_of (OfVariable variable state) = variable ∷ []

abbrev pub pattern_names_of : WrittenItem → List ℕ
pattern_names_of (Pattern e semicolon) = names_in e
pattern_names_of _ = []

abbrev pub callout_names_of : WrittenItem → List ℕ
callout_names_of (Callout negated (Asked name (Name hole) text)) = hole ∷ []
callout_names_of _ = []

abbrev pub action_names_of : Option WrittenAction → List ℕ
action_names_of None = []
action_names_of (Some a) = map (λ argument. argument.1) a.arguments

abbrev pub pattern_names : Alternative → List ℕ
pattern_names items = flat_map pattern_names_of (members items)

abbrev pub callout_names : Alternative → List ℕ
callout_names items = flat_map callout_names_of (members items)

abbrev pub all_pattern_names : WrittenRule → List ℕ
all_pattern_names r = flat_map pattern_names (members r.alternatives)

abbrev pub all_callout_names : WrittenRule → List ℕ
all_callout_names r = flat_map callout_names (members r.alternatives)

-- the variables of a rule's source and targets
abbrev pub variables_of_states : PlacedRule → List ℕ
variables_of_states r = variable_of r.source ++ flat_map variable_of (targets_of r.rule.destination)

-- an alternative that stands at the end of a path
abbrev pub has_end : Alternative → Bool
has_end items = some is_end items
