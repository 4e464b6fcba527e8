-- Reports that compare `Equal` have the same place, checker, rule, object and message.
use Rattle.std.proofs.Common.{◌≡◌, ◌<◌, ℕ, List, [], ◌∷◌, Option, Some, None, refl, ap}
use Rattle.std.proofs.lemmas.Cmp.{ranked}
use Rattle.std.specs.Cmp.Lexicographic.{slice_cmp}
use Rattle.std.specs.Ordering.{MatchOrdering, nat_cmp, ordering_then}
use Rattle.std.specs.declared.cmp.Ordering.{Ordering}
use Rattle.std.specs.declared.cmp.Ordering.TheVariants.{Less, Equal, Greater}
use Rattle.report_model.specs.Order.{object_cmp, report_cmp, text_cmp}
use Rattle.report_model.specs.declared.report.Report.{Report}

both-equal : (p q : Ordering) → ordering_then p q ≡ Equal → (p ≡ Equal) × (q ≡ Equal)
both-equal Less q e = cc
both-equal Equal q e = (refl, e)
both-equal Greater q e = cc

same-number : (x y : ℕ) → nat_cmp x y ≡ Equal → x ≡ y
same-number x y e = by (nat_cmp x y) e (ranked x y (nat_cmp x y) refl)
  where
    by : (o : Ordering) → o ≡ Equal → MatchOrdering o (x < y) (x ≡ y) (y < x) → x ≡ y
    by Less k m = cc
    by Equal k m = m
    by Greater k m = cc

same-text : (xs ys : List ℕ) → text_cmp xs ys ≡ Equal → xs ≡ ys
same-text [] [] e = refl
same-text [] (y ∷ ys) e = cc
same-text (x ∷ xs) [] e = cc
same-text (x ∷ xs) (y ∷ ys) e =
    let h = both-equal (nat_cmp x y) (slice_cmp nat_cmp xs ys) e in
    λ i. same-number x y h.0 i ∷ same-text xs ys h.1 i

same-object : (a b : Option (List ℕ)) → object_cmp a b ≡ Equal → a ≡ b
same-object None None e = refl
same-object None (Some b) e = cc
same-object (Some a) None e = cc
same-object (Some a) (Some b) e = ap Some (same-text a b e)

-- what is compared of two reports
pub record AreAlike (a b : Report) : Type 0 where
  pub place : a.place ≡ b.place
  pub checker : a.checker ≡ b.checker
  pub rule : a.rule ≡ b.rule
  pub object : a.object ≡ b.object
  pub message : a.message ≡ b.message

pub alike : (a b : Report) → report_cmp a b ≡ Equal → AreAlike a b
alike a b e =
    let file = both-equal (nat_cmp a.place.file b.place.file) _ e in
    let token = both-equal (nat_cmp a.place.token b.place.token) _ file.1 in
    let checker = both-equal (nat_cmp a.checker b.checker) _ token.1 in
    let rule = both-equal (nat_cmp a.rule b.rule) _ checker.1 in
    let object = both-equal (object_cmp a.object b.object) (text_cmp a.message b.message) rule.1 in record {
      place = λ i. record { file = same-number a.place.file b.place.file file.0 i; token = same-number a.place.token b.place.token token.0 i };
      checker = same-number a.checker b.checker checker.0;
      rule = same-number a.rule b.rule rule.0;
      object = same-object a.object b.object object.0;
      message = same-text a.message b.message object.1;
    }
