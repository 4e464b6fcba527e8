-- The order of reports is total.
use Rattle.std.proofs.Common.{◌≡◌, ℕ, List, [], ◌∷◌, Option, Some, None, refl, subst}
use Rattle.std.proofs.lemmas.Cmp.{nat_cmp_total, nat_list_cmp_total, on_total, then_total}
use Rattle.std.specs.Cmp.{IsTotalOrder}
use Rattle.std.specs.Cmp.Lexicographic.{slice_cmp}
use Rattle.std.specs.Ordering.{nat_cmp, on}
use Rattle.report_model.specs.Order.{object_cmp, report_cmp}

-- a text that is told from no text by its first number
abbrev object_key : Option (List ℕ) → List ℕ
object_key None = []
object_key (Some text) = 0 ∷ text

by_key : (a b : Option (List ℕ)) → on object_key (slice_cmp nat_cmp) a b ≡ object_cmp a b
by_key None None = refl
by_key None (Some b) = refl
by_key (Some a) None = refl
by_key (Some a) (Some b) = refl

by_keys : on object_key (slice_cmp nat_cmp) ≡ object_cmp
by_keys = λ i a b. by_key a b i

objects_total : IsTotalOrder object_cmp
objects_total = subst IsTotalOrder by_keys (on_total object_key nat_list_cmp_total)

pub reports_total : IsTotalOrder report_cmp
reports_total =
    then_total (on_total (λ r. r.place.file) nat_cmp_total)
    (then_total (on_total (λ r. r.place.token) nat_cmp_total)
    (then_total (on_total (λ r. r.checker) nat_cmp_total)
    (then_total (on_total (λ r. r.rule) nat_cmp_total)
    (then_total (on_total (λ r. r.object) objects_total)
    (on_total (λ r. r.message) nat_list_cmp_total)))))
