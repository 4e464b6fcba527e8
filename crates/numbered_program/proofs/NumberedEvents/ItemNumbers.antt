-- Numbers of items that stand in a list once.
use Rattle.std.proofs.Common.{◌≡◌, ◌∙◌, refl, sym, ap, subst, arith, ℕ, zero, suc, ◌+◌, ◌-◌, ◌<◌, nat_eq, Bool, true, false, true≢false, cond, List, map, Contains, Option, None, Some, option_map, slice_get, eqb-true, eq-eqb, ne_eqb}
use Rattle.std.specs.Option.{option_map_or}
use Rattle.std.proofs.lemmas.Option.{same_Some, slice_get-map}
use Rattle.c_objects.specs.Objects.{Object}
use Rattle.hole_matching.specs.Callouts.{is_local}
use Rattle.least_set.proofs.Growing.{place_of}
use Rattle.least_set.specs.Logs.{IsOnce}
use Rattle.numbered_program.specs.NumberedEvents.Listed.{own_of}
use Rattle.numbered_program.proofs.NumberedTuples.FewStates.{same_state, state_itself}
use Rattle.numbered_program.proofs.NumberedTuples.Numbers.{item_at, no_item, not_zero, number_exact}
use Rattle.numbered_program.specs.NumberedTuples.FollowedObjects.{number_of}
use Rattle.numbered_program.specs.NumberedTuples.Numbers.{number_by}
use Rattle.numbered_program.specs.NumberedTuples.ObjectStates.{number_of_state}
use Rattle.objects.specs.Equality.{same_object, same_object-refl, same_object-true}
use Rattle.path_model.specs.CheckerModel.Choices.{State}
use Rattle.row_flows.specs.Numbers.{is_own, item_numbered}
use Rattle.state_tuples.specs.Ways.Equality.{states_agree}

-- ---- a number that has an item isn't 0

module _ {A : Type 0} (xs : List A) (n : ℕ) (x : A) (is : item_numbered xs n ≡ Some x) where
  pub positive : 0 < n
  positive = by n is
    where
      by : (m : ℕ) → item_numbered xs m ≡ Some x → 0 < m
      by zero e = absurd (no_item xs x e)
      by (suc m) e = omega arith

  pub is_number : nat_eq n 0 ≡ false
  is_number = not_zero n positive

  pub not_none : nat_eq 0 n ≡ false
  not_none = ne_eqb 0 n (λ e. omega (arith, e, positive))

-- ---- by a test for equal items

module _ {A : Type 0} (eq : A → A → Bool) (same : (x y : A) → eq x y ≡ true → x ≡ y) (itself : (x : A) → eq x x ≡ true) (xs : List A) (once : IsOnce xs) where
  item_again : (x : A) → Contains xs x → item_numbered xs (number_by eq xs x) ≡ Some x
  item_again x c =
      let p = place_of xs x c in
      let has : item_numbered xs (p.0 + 1) ≡ Some x = item_at xs (p.0 + 1) p.0 refl ∙ p.2 in
      let is : number_by eq xs x ≡ p.0 + 1 = (number_exact eq same itself xs (p.0 + 1) x once (omega arith)).1 has in
      ap (item_numbered xs) is ∙ has

  -- an item has the number of another exactly if it is that one
  same_number : (n : ℕ) (x y : A) (b : Bool) → item_numbered xs n ≡ Some x → (b ≡ true → x ≡ y) → (x ≡ y → b ≡ true) → nat_eq (number_by eq xs y) n ≡ b
  same_number n x y true is to from = eq-eqb (number_by eq xs y) n ((number_exact eq same itself xs n y once (positive xs n x is)).1 (is ∙ ap Some (to refl)))
  same_number n x y false is to from =
      ne_eqb (number_by eq xs y) n (λ e. true≢false (sym (from (same_Some x y (sym is ∙ (number_exact eq same itself xs n y once (positive xs n x is)).0 e)))))

-- an object has its number again
pub object_again : (followed : List Object) → IsOnce followed → (o : Object) → Contains followed o → item_numbered followed (number_of followed o) ≡ Some o
object_again followed once = item_again same_object same_object-true same_object-refl followed once

-- and no other has it
pub object_number : (followed : List Object) → IsOnce followed → (n : ℕ) (o : Object) → item_numbered followed n ≡ Some o → (p : Object) → nat_eq (number_of followed p) n ≡ same_object o p
object_number followed once n o is p =
    same_number same_object same_object-true same_object-refl followed once n o p (same_object o p) is (same_object-true o p)
    (λ e. subst (λ z. same_object o z ≡ true) e (same_object-refl o))

-- the same of states
pub state_again : (states : List State) → IsOnce states → (x : State) → Contains states x → item_numbered states (number_of_state states x) ≡ Some x
state_again states once = item_again states_agree same_state state_itself states once

pub state_number : (states : List State) → IsOnce states → (n : ℕ) (x : State) → item_numbered states n ≡ Some x → (y : State) → nat_eq (number_of_state states y) n ≡ states_agree y x
state_number states once n x is y =
    same_number states_agree same_state state_itself states once n x y (states_agree y x) is (λ h. sym (same_state y x h))
    (λ e. subst (λ z. states_agree z x ≡ true) e (state_itself x))

-- ---- numbers in mapped lists

mapped_item : {A B : Type 0} (f : A → B) (xs : List A) (n : ℕ) → item_numbered (map f xs) n ≡ option_map f (item_numbered xs n)
mapped_item f xs n = by (nat_eq n 0)
  where
    by : (b : Bool) → cond b None (slice_get (map f xs) (n - 1)) ≡ option_map f (cond b None (slice_get xs (n - 1)))
    by true = refl
    by false = slice_get-map f xs (n - 1)

-- an object is the function's own by what is said of its number
pub own_number : (followed : List Object) (n : ℕ) (o : Object) → item_numbered followed n ≡ Some o → is_own (own_of followed) n ≡ is_local o.base
own_number followed n o is =
    let f : Object → Bool = λ p. is_local p.base in
    ap (λ (z : Option Bool). option_map_or (λ b. b) z false) (mapped_item f followed n ∙ ap (option_map f) is)
