-- The functions of a unit under the scopes that are written out for each kind.
use Rattle.std.proofs.Common.{◌≡◌, List, ◌∷◌, ap, refl, ◌∙◌}
use Rattle.c_tree.specs.Node.{Node, Nodes, no_more, more}
use Rattle.type_rules.specs.Functions.{Defined, defined_in, functions_in, defined_each, structs_of}
use Rattle.type_rules.specs.Options.{if_there}
use Rattle.type_rules.specs.Parts.{plain, none}
use Rattle.type_rules.specs.Roles.{Plain}
use Rattle.type_rules.specs.Scopes.{Scopes, at_start}
use Rattle.type_rules.specs.Ways.ScopesByCase.{scoped, scoped_each}
use Rattle.type_rules.specs.Unit.{plainly}
use Rattle.type_rules.proofs.BridgeScopes.{scoped-flat, each-flat}

-- what one node adds to the functions behind it
abbrev joined : Scopes → Node → List Defined → List Defined
joined v e fs = if_there (defined_in v e) fs (λ f. f ∷ fs)

pub each-defined : (v : Scopes) (es : Nodes) → functions_in v es ≡ defined_each v es
each-defined v no_more = refl
each-defined v (more e es) = ap (λ w. joined v e (functions_in w es)) (scoped-flat v Plain e) ∙ ap (joined v e) (each-defined (scoped v Plain e) es)

pub structs-scoped : (unit : Nodes) → structs_of unit ≡ (scoped_each at_start Plain unit).structs
structs-scoped unit = ap (λ (w : Scopes). w.structs) (each-flat plainly plain at_start unit none)
