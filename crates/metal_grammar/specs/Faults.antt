-- The faults that a written text may have, each by itself.
use Rattle.std.specs.Prelude.{ℕ, ◌+◌, Bool, true, false, cond, not, nat_eq, nat_lt, ◌&&◌, ◌||◌, is_some, is_none, List, [], ◌∷◌, ◌++◌, length, flat_map, filter, codes, Option, None, Some}
pub use Rattle.metal_tree.specs.MetalMachines.Lists.{any_of}
use Rattle.metal_grammar.specs.Words.{Spelling, is_spelled, Literal}
use Rattle.metal_grammar.specs.Written.{members, StateName, OfMachine, OfVariable, Asked, WrittenItem, Callout, Destination, To, Split, WrittenAction, Alternative, WrittenRule, Content, Declares, Clause}
use Rattle.metal_grammar.specs.Grammar.{some}
use Rattle.metal_grammar.specs.Message.{message_with}
use Rattle.metal_grammar.specs.Callouts.{row_of}
use Rattle.metal_grammar.specs.Rules.{is_among, behind_clause, Declared, PlacedRule, targets_of, variable_of, callout_names, pattern_names, action_names_of, all_pattern_names, all_callout_names, variables_of_states, has_end}

-- so many of a thing are declared by this content: state variables, holes and rules
abbrev pub count_of_holes : Content → ℕ
count_of_holes (Declares d) = length (members d.names)
count_of_holes _ = 0

abbrev pub count_of_variables : Content → ℕ
count_of_variables (Declares d) = cond (is_some d.state) (length (members d.names)) 0
count_of_variables _ = 0

-- the position of the first clause behind which there are more than the limit, of what `count` counts
abbrev pub passing : (Content → ℕ) → ℕ → ℕ → ℕ → List Clause → Option ℕ
passing count limit before position [] = None
passing count limit before position (c ∷ cs) = cond (nat_lt limit (before + count c.content)) (Some position) (passing count limit (before + count c.content) (behind_clause position c) cs)

-- the first name that stands among those before it
abbrev pub repeated : List ℕ → List Declared → Option Declared
repeated before [] = None
repeated before (d ∷ ds) = cond (is_among before d.0) (Some d) (repeated (d.0 ∷ before) ds)

abbrev pub unknown_callout_of : Spelling → WrittenItem → List ℕ
unknown_callout_of spelling (Callout negated (Asked name argument text)) = cond (is_none (row_of spelling (Asked name argument text))) (name ∷ []) []
unknown_callout_of spelling _ = []

-- the callouts of a rule that are in no row of the table, by name
abbrev pub unknown_callouts : Spelling → WrittenRule → List ℕ
unknown_callouts spelling r = flat_map (λ items. flat_map (unknown_callout_of spelling) (members items)) (members r.alternatives)

-- one of these is no such
abbrev pub is_other_among : List ℕ → ℕ → Bool
is_other_among [] n = false
is_other_among (m ∷ ms) n = not (nat_eq m n) || is_other_among ms n

abbrev pub differ : List ℕ → Bool
differ [] = false
differ (n ∷ ns) = is_other_among ns n

-- all names of a rule that may be variables: those of its states, in its patterns and callouts, and in its action
abbrev pub mentioned : PlacedRule → List ℕ
mentioned r = variables_of_states r ++ all_pattern_names r.rule ++ all_callout_names r.rule ++ action_names_of r.rule.action

-- A rule is about one state variable at most.
abbrev pub names_two_variables : List ℕ → PlacedRule → Bool
names_two_variables variables r = differ (filter (is_among variables) (mentioned r))

-- both states are the machine's, or both of one variable
abbrev pub are_alike : StateName → StateName → Bool
are_alike (OfMachine a) (OfMachine b) = true
are_alike (OfVariable v a) (OfVariable w b) = nat_eq v w
are_alike _ _ = false

abbrev pub some_end : WrittenRule → Bool
some_end r = some has_end r.alternatives

-- A split has no action, doesn't stand at the end of a path, and its two targets are alike.
abbrev pub is_bad_split : WrittenRule → Destination → Bool
is_bad_split r (To target) = false
is_bad_split r (Split true_word on_true false_word on_false) = is_some r.action || some_end r || not (are_alike on_true on_false)

-- the state of a name that is no variable, or a state of the machine that is named like a variable
abbrev pub is_misnamed : List ℕ → StateName → Bool
is_misnamed variables (OfMachine state) = is_among variables state
is_misnamed variables (OfVariable variable state) = not (is_among variables variable)

-- the state `stop`, of the machine or of a variable
abbrev pub is_stop : Spelling → StateName → Bool
is_stop spelling (OfMachine state) = is_spelled spelling (codes "stop") state
is_stop spelling (OfVariable variable state) = is_spelled spelling (codes "stop") state

abbrev pub is_global : StateName → Bool
is_global (OfMachine state) = true
is_global (OfVariable variable state) = false

-- the rule goes from a state of the machine to such states
abbrev pub is_all_global : PlacedRule → Bool
is_all_global r = is_global r.source && not (any_of (λ target. not (is_global target)) (targets_of r.rule.destination))

-- the rule names a state variable outside its states
abbrev pub names_variable : List ℕ → WrittenRule → Bool
names_variable variables r = any_of (is_among variables) (all_pattern_names r ++ all_callout_names r ++ action_names_of r.action)

-- A state is misnamed; no rule leaves `stop`; a rule from a variable's state goes to a state of the variable; and a rule among
-- states of the machine is about no variable.
abbrev pub is_bad_source : Spelling → List ℕ → PlacedRule → Bool
is_bad_source spelling variables r =
    any_of (is_misnamed variables) (r.source ∷ targets_of r.rule.destination) || is_stop spelling r.source
    || (not (is_global r.source) && any_of is_global (targets_of r.rule.destination))
    || (is_all_global r && names_variable variables r.rule)

-- this name is the variable of the source, which needs no pattern at the end of a path unless a callout there asks of it
abbrev pub is_excused : StateName → Alternative → ℕ → Bool
is_excused source items name = has_end items && is_among (variable_of source) name && not (is_among (callout_names items) name)

-- the name is a hole that stands in a pattern of the alternative
abbrev pub is_bound : List ℕ → Alternative → ℕ → Bool
is_bound holes items name = is_among holes name && is_among (pattern_names items) name

abbrev pub lacks : List ℕ → StateName → List ℕ → Alternative → Bool
lacks holes source names items = any_of (λ name. not (is_bound holes items name || is_excused source items name)) names

-- In each alternative a pattern binds the variable of the states and each name that a callout or the action asks of.
abbrev pub lacks_variable : List ℕ → PlacedRule → Bool
lacks_variable holes r = some (lacks holes r.source (variables_of_states r ++ all_callout_names r.rule ++ action_names_of r.rule.action)) r.rule.alternatives

abbrev pub any_wide : List Literal → Bool
any_wide [] = false
any_wide (l ∷ ls) = l.wide || any_wide ls

-- A literal is wide, or the literals joined are no message for these arguments.
abbrev pub is_bad_format : Spelling → Option WrittenAction → Bool
is_bad_format spelling None = false
is_bad_format spelling (Some a) = any_wide (members a.literals) || is_none (message_with spelling a (action_names_of (Some a)))
