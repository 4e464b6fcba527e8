-- The messages of the rules of a machine.
use Rattle.std.specs.Prelude.{ℕ, List, [], Option}
use Rattle.c_objects.specs.Facts.{Facts}
use Rattle.c_objects.specs.Objects.{Object}
use Rattle.type_rules.specs.Options.{if_there, ◌>?◌}
use Rattle.hole_matching.specs.MachineMatches.{setting_of}
use Rattle.hole_matching.specs.Matching.{Binding}
use Rattle.hole_matching.specs.Message.{Source, message}
use Rattle.metal_tree.specs.MetalMachines.Machine.{Machine}
use Rattle.metal_tree.specs.MetalMachines.Rules.{rule_numbered}

-- THE MESSAGE of the rule of this number; nothing, where the rule has no action
abbrev pub rule_message : Machine → ℕ → Facts → ℕ → ℕ → Source → Binding → Option Object → List ℕ
rule_message m number u depth function w b o =
    if_there (rule_numbered number m.rules >? λ r. r.action) [] (λ pieces. message (setting_of m u depth function) w pieces b o)
