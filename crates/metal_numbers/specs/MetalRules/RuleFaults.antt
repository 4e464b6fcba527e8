-- What the faults of a rule are found by.
use Rattle.std.specs.Prelude.{ℕ, Bool, true, not, nat_eq, ◌&&◌, ◌||◌, List, [], ◌∷◌, ◌++◌, map, flat_map}
use Rattle.metal_grammar.specs.Faults.{is_excused, unknown_callout_of}
use Rattle.metal_grammar.specs.Grammar.{some}
use Rattle.metal_grammar.specs.Rules.{PlacedRule, is_among, pattern_names, all_callout_names, action_names_of, variable_of, variables_of_states}
use Rattle.metal_grammar.specs.Words.{Spelling}
use Rattle.metal_grammar.specs.Written.{Alternative, members}
pub use Rattle.metal_written.specs.Messages.{first_of}

-- the callouts of an alternative that are in no row of the table, by name
abbrev pub unknown_callouts_in : Spelling → Alternative → List ℕ
unknown_callouts_in spelling items = flat_map (unknown_callout_of spelling) (members items)

-- the names that the arguments of a message have, each behind the word before it
abbrev pub argument_names : List (ℕ × ℕ) → List ℕ
argument_names arguments = map (λ argument. argument.1) arguments

-- this one is named, and isn't the first
abbrev pub another_named : List ℕ → ℕ → ℕ → Bool
another_named named first v = is_among named v && not (nat_eq v first)

-- the names that each alternative has to bind
abbrev pub needed : PlacedRule → List ℕ
needed r = variables_of_states r ++ all_callout_names r.rule ++ action_names_of r.rule.action

-- some alternative neither binds this name, which is a hole or not, nor needs to
abbrev pub some_lacks : Bool → PlacedRule → ℕ → Bool
some_lacks is_hole r name = some (λ items. not ((is_hole && is_among (pattern_names items) name) || is_excused r.source items name)) r.rule.alternatives

-- the name is needed, and is a hole that some alternative lacks
abbrev pub needed_hole : PlacedRule → ℕ → Bool
needed_hole r hole = is_among (needed r) hole && some_lacks true r hole

-- the name is no hole
abbrev pub is_other : List ℕ → ℕ → Bool
is_other holes name = not (is_among holes name)

-- the name is no hole, and some alternative needs it
abbrev pub lacks_other : List ℕ → PlacedRule → ℕ → Bool
lacks_other holes r name = is_other holes name && some (λ items. not (is_excused r.source items name)) r.rule.alternatives

-- the same of a name that isn't the variable of the source
abbrev pub told_lacks : List ℕ → PlacedRule → ℕ → Bool
told_lacks holes r name = not (is_among (variable_of r.source) name) && lacks_other holes r name
