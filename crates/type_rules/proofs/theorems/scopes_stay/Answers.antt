use Rattle.std.proofs.Common.{subst}
use Rattle.type_rules.specs.Parts.{plain, none, flat, each}
use Rattle.type_rules.specs.Scopes.{Scopes}
use Rattle.type_rules.specs.Stays.{Stays}
use Rattle.type_rules.proofs.BridgeScopes.{scoped-flat, each-flat}
use Rattle.type_rules.proofs.Stay.{after-stays, after_all-stays}
use Rattle.type_rules.proofs.theorems.scopes_stay.Goals as goal

pub returns : goal.returns
returns c v r = (
  λ e. subst (λ (w : Scopes). Stays v w) (scoped-flat v r e) (after-stays v r (flat e)),
  λ es. subst (λ (w : Scopes). Stays v w) (each-flat (λ _. r) plain v es none) (after_all-stays (λ _. r) v (each plain es none)),
)
