-- Equal to `≡` of what can be known, by its parts.
-- What can be known is equal where its parts are.
use Rattle.std.specs.Prelude.{◌≡◌, Bool, true, nat_eq, ◌&&◌}
use Rattle.std.specs.Option.{option_eq}
use Rattle.std.proofs.lemmas.Bool.{eqb-true}
use Rattle.least_set.specs.Ways.Same.{both, same_option}
use Rattle.known_search.specs.declared.members.Known.{Known}

module _ {O : Type 0} (eq : O → O → Bool) (same : (x y : O) → eq x y ≡ true → x ≡ y) where
  abbrev pub known_agree : Known O → Known O → Bool
  known_agree x y = nat_eq x.function y.function && (option_eq eq x.from y.from && eq x.object y.object)

  pub same_known : (x y : Known O) → known_agree x y ≡ true → x ≡ y
  same_known x y h =
      let p = both (nat_eq x.function y.function) (option_eq eq x.from y.from && eq x.object y.object) h in
      let q = both (option_eq eq x.from y.from) (eq x.object y.object) p.1 in
      λ i. record { function = eqb-true x.function y.function p.0 i; from = same_option eq same x.from y.from q.0 i; object = same x.object y.object q.1 i }
