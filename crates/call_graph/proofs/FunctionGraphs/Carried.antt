-- From a function of the program to the definition that it is.
use Rattle.std.proofs.Common.{◌≡◌, Option, Some, Result, Ok, Err, IfOk, ap, subst, sym, ◌∙◌}
use Rattle.std.proofs.Math.Logic.{∥∥₁_map}
use Rattle.type_rules.specs.Functions.{Defined}
use Rattle.type_rules.specs.Options.{if_there}

moved : (P : Defined → Type 0) (o : Option Defined) (f d : Defined) → o ≡ Some d → P f → o ≡ Some f → P d
moved P o f d e p k = subst P (ap (λ x. if_there x d (λ y. y)) (sym k ∙ e)) p

-- what holds of the function holds of the definition that has its number
carried : (P : Defined → Type 0) (o : Option Defined) (f d : Defined) → ∥ o ≡ Some f ∥₁ → o ≡ Some d → P f → ∥ P d ∥₁
carried P o f d known e p = ∥∥₁_map known (moved P o f d e p)

-- the same of a result
pub all_carried : {A E : Type 0} (Q : A → Defined → Type 0) (r : Result A E) (o : Option Defined) (f : Defined) → ∥ o ≡ Some f ∥₁ → IfOk r (λ g. Q g f) → IfOk r (λ g. (d : Defined) → o ≡ Some d → ∥ Q g d ∥₁)
all_carried Q (Ok g) o f known p = λ d e. carried (Q g) o f d known e p
all_carried Q (Err x) o f known p = p
