-- Equal to `≡` of tuples, by their parts.
-- Tuples are equal where their parts are.
use Rattle.std.proofs.Common.{◌≡◌, nat_eq, Bool, true, ◌&&◌, ◌||◌, Option}
use Rattle.std.proofs.Math.Bool.{Bool-set}
use Rattle.std.proofs.Math.Path.{PathP, to_path_p}
use Rattle.std.proofs.lemmas.Bool.{eqb-true}
use Rattle.std.specs.Prelude.{is_some, is_none}
use Rattle.std.specs.Option.{option_eq}
use Rattle.c_objects.specs.Objects.{Object}
use Rattle.path_model.specs.CheckerModel.Choices.{State}
use Rattle.least_set.specs.Ways.Same.{both, same_option, same_pair}
use Rattle.objects.specs.Equality.{same_object, same_object-true}
use Rattle.state_tuples.specs.declared.tuple.Tuple.{Tuple}

-- WHETHER TUPLES AGREE, part by part, as `==` tests it
abbrev pub states_agree : State → State → Bool
states_agree a b = nat_eq a.0 b.0 && nat_eq a.1 b.1

abbrev pub tuples_agree : Tuple → Tuple → Bool
tuples_agree x y = nat_eq x.global y.global && (option_eq same_object x.object y.object && option_eq states_agree x.state y.state)

-- without an object there is no state: there is one proof of that at most
abbrev IsBare : Option Object → Option State → Type 0
IsBare o x = is_some o || is_none x ≡ true

-- those that agree are equal
pub same_tuple : (x y : Tuple) → nat_eq x.global y.global && (option_eq same_object x.object y.object && option_eq states_agree x.state y.state) ≡ true → x ≡ y
same_tuple x y h =
    let outer = both (nat_eq x.global y.global) (option_eq same_object x.object y.object && option_eq states_agree x.state y.state) h in
    let inner = both (option_eq same_object x.object y.object) (option_eq states_agree x.state y.state) outer.1 in
    let object : x.object ≡ y.object = same_option same_object same_object-true x.object y.object inner.0 in
    let state : x.state ≡ y.state = same_option states_agree (same_pair nat_eq nat_eq eqb-true eqb-true) x.state y.state inner.1 in
    let bare : PathP (λ i. IsBare (object i) (state i)) x.bare y.bare = to_path_p (λ i. IsBare (object i) (state i)) (Bool-set _ _ _ _) in
    λ i. record {
      global = eqb-true x.global y.global outer.0 i;
      object = object i;
      state = state i;
      bare = bare i;
    }
