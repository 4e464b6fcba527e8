-- A rule by its number.
use Rattle.std.proofs.Common.{◌≡◌, ℕ, zero, suc, ◌+◌, ◌-◌, ◌<◌, ◌≤◌, List, [], ◌∷◌, length, slice_get, slice_index_or, Some, ap, refl, ◌∙◌, arith}
use Rattle.metal_tree.specs.MetalMachines.Rules.{rule_numbered}
use Rattle.metal_tree.specs.MetalMachines.Limits.{AreNumbered}
use Rattle.metal_tree.specs.MetalMachines.Theorems.{RulesAreFound}
use Rattle.metal_tree.specs.declared.rules.Rule.{Rule}
use Rattle.metal_tree.specs.Views.{rule_view, rule_views}

-- what stands there
pub there : (rs : List Rule) (k : ℕ) (d : Rule) → k < length rs → slice_get (rule_views rs) k ≡ Some (rule_view (slice_index_or rs k d))
there [] k d h = absurd (omega arith)
there (r ∷ rs) zero d h = refl
there (r ∷ rs) (suc k) d h = there rs k d (omega arith)

pub numbered : RulesAreFound → (rs : List Rule) (number : ℕ) (d : Rule) → AreNumbered 1 (rule_views rs) → 1 ≤ number → number ≤ length rs
    → rule_numbered number (rule_views rs) ≡ Some (rule_view (slice_index_or rs (number - 1) d))
numbered found rs number d h low high =
    let same : number ≡ 1 + (number - 1) = omega arith in
    ap (λ n. rule_numbered n (rule_views rs)) same ∙ found 1 (number - 1) (rule_views rs) h ∙ there rs (number - 1) d (omega arith)
