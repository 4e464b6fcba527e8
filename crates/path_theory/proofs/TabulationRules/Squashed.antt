-- Rules of which an engine knows only that they hold somehow: what is least under these is least under the rules themselves, as far as one may
-- say so.
use Rattle.std.proofs.Common.{◌≡◌, ℕ, zero, suc, ◌<◌, arith, Option, List, [], ◌∷◌, length, Contains, ◌↔◌, refl, subst}
use Rattle.std.specs.Prelude.{slice_index_or}
use Rattle.std.proofs.Math.Logic.{∥∥₁_map, ∥∥₁_map₂, ∥∥₁_elim}
use Rattle.path_theory.specs.Model.{Model}
use Rattle.path_theory.specs.Paths.{Reported}
use Rattle.path_theory.specs.Origins.{Origins, IsLocal}
use Rattle.path_theory.specs.Facts.{Objects}
use Rattle.path_theory.specs.Relevant.{IsClosed}
use Rattle.path_theory.specs.FlowGraphs.{FlowGraphs, supergraph}
use Rattle.least_set.specs.Logs.{SomeGives}
use Rattle.least_set.specs.TwoPremises.{Follows, FollowsBase, FollowsOne, FollowsTwo, Least, LeastBase, LeastOne, LeastTwo}
use Rattle.path_theory.specs.TabulationRules.Rules.{EdgeIn, ContextIn, WaiterIn, ShowsReport}
use Rattle.path_theory.specs.TabulationRules.LeastSets.{HasNumbers}
use Rattle.path_theory.specs.TabulationRules.OwnValues.{AreComplete, AreSound}
use Rattle.path_theory.proofs.TabulationRules.OwnValues.{own_reported}

-- what holds somehow of each of a list holds somehow of all
tail : {E : Type 0} (x : E) (xs : List E) (c : E) → Contains xs c → Contains (x ∷ xs) c
tail x xs c h = (suc h.0, grind arith, h.2)

head : {E : Type 0} (x : E) (xs : List E) → Contains (x ∷ xs) x
head x xs = (zero, grind arith, refl)

split : {E : Type 0} (P : E → Type 0) (x : E) (xs : List E) → P x → ((c : E) → Contains xs c → P c) → (c : E) (k : ℕ) → k < length (x ∷ xs) → slice_index_or (x ∷ xs) k c ≡ c → P c
split P x xs p rest c zero l h = subst P h p
split P x xs p rest c (suc k) l h = rest c (k, grind arith, h)

none : {E : Type 0} (c : E) → Contains [] c → ⊥
none c h = let l = h.1 in absurd (omega (arith, l))

pub choice : {E : Type 0} (P : E → Type 0) (xs : List E) → ((c : E) → Contains xs c → ∥ P c ∥₁) → ∥ ((c : E) → Contains xs c → P c) ∥₁
choice P [] f = ∣ (λ c h. absurd (none c h)) ∣₁
choice P (x ∷ xs) f = ∥∥₁_map₂ (f x (head x xs)) (choice P xs (λ c h. f c (tail x xs c h))) (λ p rest c h. split P x xs p rest c h.0 h.1 h.2)

module _ {E K W : Type 0} (first : E → Type 0) (next : E → E → Type 0) (wait : E → K → W → Type 0) (stop : E → K → Type 0) (wake : W → E → E → Type 0) where
  -- what follows, and what is least, by rules that hold somehow
  abbrev pub MayFollow : List E → E → Type 0
  MayFollow = Follows (λ c. ∥ first c ∥₁) (λ a c. ∥ next a c ∥₁) (λ a k w. ∥ wait a k w ∥₁) (λ b k. ∥ stop b k ∥₁) (λ w b c. ∥ wake w b c ∥₁)

  abbrev pub MayBeLeast : E → Type 0
  MayBeLeast = Least (λ c. ∥ first c ∥₁) (λ a c. ∥ next a c ∥₁) (λ a k w. ∥ wait a k w ∥₁) (λ b k. ∥ stop b k ∥₁) (λ w b c. ∥ wake w b c ∥₁)

  follows-so : (log : List E) (c : E) → Follows first next wait stop wake log c → MayFollow log c
  follows-so log c (FollowsBase h) = FollowsBase ∣ h ∣₁
  follows-so log c (FollowsOne a i h) = FollowsOne a i ∣ h ∣₁
  follows-so log c (FollowsTwo a b k w i h j e v) = FollowsTwo a b k w i ∣ h ∣₁ j ∣ e ∣₁ ∣ v ∣₁

  is-least : {e : E} → MayBeLeast e → ∥ Least first next wait stop wake e ∥₁
  is-least (LeastBase h) = ∥∥₁_map h (λ b. LeastBase b)
  is-least (LeastOne x h) = ∥∥₁_map₂ (is-least x) h (λ l g. LeastOne l g)
  is-least (LeastTwo x h y e v) =
      ∥∥₁_elim (is-least x) squash₁ (λ l. ∥∥₁_elim (is-least y) squash₁ (λ m. ∥∥₁_elim h squash₁ (λ g. ∥∥₁_map₂ e v (λ d z. LeastTwo l g m d z))))

module _ (M : Model) (L : Origins M) (A : Objects M) (G : FlowGraphs M) (function : ℕ → Option M.Fn) where
  module _ {E K W : Type 0} (edge : E → EdgeIn M L A G function) (context : K → ContextIn M L A G function) (waiter : W → WaiterIn M L A G function)
      (first : E → Type 0) (next : E → E → Type 0) (wait : E → K → W → Type 0) (stop : E → K → Type 0) (wake : W → E → E → Type 0)
      (C : AreComplete M L A G function edge context waiter first next wait stop wake) (S : AreSound M L A G function edge context waiter first next wait stop wake)
      (log : List E) (closed : (c : E) → MayFollow first next wait stop wake log c → Contains log c)
      (only : (c : E) → Contains log c → MayBeLeast first next wait stop wake c)
      (N : HasNumbers M G function) (I : IsLocal M L) (Q : IsClosed M (supergraph M G) L A) where
    -- the list shows, somehow, exactly the reports of all paths
    pub somehow_reported : ∥ ((r : M.Report) → SomeGives (λ c. ShowsReport M L A G function (edge c)) log r ↔ Reported M (supergraph M G) r) ∥₁
    somehow_reported =
        ∥∥₁_map (choice (Least first next wait stop wake) log (λ c h. is-least first next wait stop wake (only c h)))
        (λ all. own_reported M L A G function edge context waiter first next wait stop wake C log (λ c f. closed c (follows-so first next wait stop wake log c f)) S all N I Q)
