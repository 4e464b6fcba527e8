-- Steps that are counted one after the other.
use Rattle.std.proofs.Common.{◌≡◌, ◌+◌, ◌-◌, ◌^◌, ◌≤◌, ℕ, suc, min, Bool, true, false, List, [], ◌∷◌, length, refl, ap, ◌∙◌, arith}
use Rattle.std.specs.Prelude.{cond, not}
use Rattle.least_set.specs.Counts.{counted_by}
use Rattle.numbered_engine.specs.Counted.{counted}
use Rattle.numbered_engine.specs.Held.{Held, counted_on, fresh, is_held}
use Rattle.numbered_engine.specs.declared.edges.NumberedEdge.{NumberedEdge}

module _ (h : Held) where
  -- the steps rise by the number of edges of contexts that aren't held
  pub counted_fresh : (es : List NumberedEdge) (x : ℕ) → x ≤ 2 ^ 64 - 1 → counted_by (counted_on h) es x ≡ min (x + length (fresh h es)) (2 ^ 64 - 1)
  counted_fresh [] x l = omega (arith, l)
  counted_fresh (e ∷ es) x l = by (is_held h e.context) (counted_fresh es)
    where
      by : (b : Bool) → ((y : ℕ) → y ≤ 2 ^ 64 - 1 → counted_by (counted_on h) es y ≡ min (y + length (fresh h es)) (2 ^ 64 - 1))
          → counted_by (counted_on h) es (cond b x (counted x)) ≡ min (x + length (cond (not b) (e ∷ fresh h es) (fresh h es))) (2 ^ 64 - 1)
      by true rest = rest x l
      by false rest =
          let low : min (x + 1) (2 ^ 64 - 1) ≤ 2 ^ 64 - 1 = omega arith in
          let more : min (min (x + 1) (2 ^ 64 - 1) + length (fresh h es)) (2 ^ 64 - 1) ≡ min (x + suc (length (fresh h es))) (2 ^ 64 - 1) = omega (arith, l) in
          rest (min (x + 1) (2 ^ 64 - 1)) low ∙ more

-- where nothing is held, all are counted
pub all_fresh : (es : List NumberedEdge) → fresh [] es ≡ es
all_fresh [] = refl
all_fresh (e ∷ es) = ap (λ l. e ∷ l) (all_fresh es)
