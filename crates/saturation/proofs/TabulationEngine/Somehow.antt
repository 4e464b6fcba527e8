-- What follows as far as the tables are known follows somehow.
use Rattle.std.proofs.Common.{◌≡◌, ◌↔◌, List, Option, None, Some, ap, ◌∙◌}
use Rattle.std.proofs.Math.Bool.{Bool-set}
use Rattle.std.proofs.Math.Logic.{∥∥₁_map, ∥∥₁_elim}
use Rattle.std.proofs.lemmas.Option.{same_Some}
use Rattle.least_set.specs.Logs.{IsExactly}
use Rattle.least_set.specs.declared.two_premises.Wait.{Wait}
use Rattle.path_edges.specs.Ways.Equality.{same_context, same_edge}
use Rattle.path_edges.specs.declared.edges.Context.{Context}
use Rattle.path_edges.specs.declared.edges.Edge.{Edge}
use Rattle.path_edges.specs.declared.edges.Waiter.{Waiter}
use Rattle.saturation.proofs.TabulationEngine.SameValues.{context-itself, edge-itself, waits_agree, same-wait, wait-itself}
use Rattle.path_edges.specs.Ways.Equality.{contexts_agree, edges_agree}
use Rattle.path_theory.proofs.TabulationRules.Stable.{exactly}

-- of edges, and of those that wait
pub edges-somehow : {X : Type 0} (list : List Edge) (P : Edge → Type 0) → ∥ X ∥₁ → (X → IsExactly list P) → IsExactly list (λ e. ∥ P e ∥₁)
edges-somehow list P h f = exactly edges_agree same_edge edge-itself list P h f

pub waits-somehow : {X : Type 0} (list : List (Wait Context Waiter)) (P : Wait Context Waiter → Type 0) → ∥ X ∥₁ → (X → IsExactly list P) → IsExactly list (λ w. ∥ P w ∥₁)
waits-somehow list P h f = exactly waits_agree same-wait wait-itself list P h f

-- of a context, if there is one
end-is : (end : Option Context) (k : Context) → ∥ end ≡ Some k ∥₁ → end ≡ Some k
end-is None k h = ∥∥₁_elim h (λ x y. absurd (nothing x)) (λ e. e)
  where
    nothing : None ≡ Some k → ⊥
    nothing e = cc
end-is (Some j) k h = ap Some (same_context j k (∥∥₁_elim h (Bool-set _ _) (λ e. ap (λ z. contexts_agree z k) (same_Some j k e) ∙ context-itself k)))

pub end-somehow : {X : Type 0} (end : Option Context) (P : Context → Type 0) → ∥ X ∥₁ → (X → (k : Context) → (end ≡ Some k) ↔ P k) → (k : Context) → (end ≡ Some k) ↔ ∥ P k ∥₁
end-somehow end P h f k = (
  λ e. ∥∥₁_map h (λ x. (f x k).0 e),
  λ p. end-is end k (∥∥₁_elim h squash₁ (λ x. ∥∥₁_map p (λ q. (f x k).1 q))),
)
