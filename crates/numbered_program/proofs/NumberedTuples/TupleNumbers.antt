-- Tuples and their numbers lead to each other.
use Rattle.std.proofs.Common.{◌≡◌, ℕ, zero, suc, ◌-◌, ◌+◌, ◌<◌, ◌≤◌, List, [], ◌∷◌, length, Bool, true, false, ◌||◌, cond, Option, None, Some, refl, sym, ap, subst, ◌∙◌, arith, slice_get, true≢false}
use Rattle.std.proofs.Math.Bool.{Bool-set}
use Rattle.std.proofs.Math.Path.{PathP, to_path_p}
use Rattle.std.specs.Prelude.{◌↔◌, is_none, is_some, nat_eq}
use Rattle.std.proofs.lemmas.Option.{none-some, same_Some}
use Rattle.c_objects.specs.Objects.{Object}
use Rattle.numbered_program.specs.NumberedTuples.Numbers.{if_numbered}
use Rattle.numbered_program.specs.NumberedTuples.Tuples.{IsNumbered, numbers_with, tuple_of, tuple_at}
use Rattle.numbered_program.proofs.NumberedTuples.Numbers.{item_at, no_item, not_zero}
use Rattle.path_model.specs.CheckerModel.Choices.{State}
use Rattle.row_flows.specs.Numbers.{item_numbered}
use Rattle.row_flows.specs.declared.tuples.NumberedTuple.{NumberedTuple}
use Rattle.state_tuples.specs.declared.tuple.Tuple.{Tuple}

-- ---- a number up to that of the last item has an item, but for 0

has_item : {A : Type 0} (xs : List A) (i : ℕ) → i < length xs → slice_get xs i ≡ None → ⊥
has_item [] i h e = absurd (omega arith)
has_item (x ∷ xs) zero h e = none-some x (sym e)
has_item (x ∷ xs) (suc i) h e = has_item xs i (omega arith) e

pub zero_of_none : {A : Type 0} (xs : List A) (n : ℕ) → n ≤ length xs → item_numbered xs n ≡ None → n ≡ 0
zero_of_none xs zero h e = refl
zero_of_none xs (suc i) h e = absurd (has_item xs i (omega arith) (sym (item_at xs (suc i) i (omega arith)) ∙ e))

none_of_zero : {A : Type 0} (xs : List A) (n : ℕ) → n ≡ 0 → item_numbered xs n ≡ None
none_of_zero xs n e = ap (item_numbered xs) e

-- the number of no item is 0
pub number_of_none : {A : Type 0} (xs : List A) (m : ℕ) → (Some 0 ≡ Some m) ↔ ((m ≤ length xs) × (item_numbered xs m ≡ None))
number_of_none xs m = (
  λ s. let same : m ≡ 0 = sym (same_Some 0 m s) in (omega (arith, same), none_of_zero xs m same),
  λ h. ap Some (sym (zero_of_none xs m h.0 h.1)),
)

-- that of an item is not, where it has one
number_of_some : {A : Type 0} (xs : List A) (x : A) (n : ℕ) → n ≤ length xs → ((m : ℕ) → 0 < m → (n ≡ m) ↔ (item_numbered xs m ≡ Some x)) → (m : ℕ)
    → (if_numbered n ≡ Some m) ↔ ((m ≤ length xs) × (item_numbered xs m ≡ Some x))
number_of_some xs x zero h f m = (λ e. absurd (none-some m e), λ k. absurd (omega (arith, (f m (positive m k.1)).1 k.1, positive m k.1)))
  where
    positive : (m : ℕ) → item_numbered xs m ≡ Some x → 0 < m
    positive zero e = absurd (no_item xs x e)
    positive (suc m) e = omega arith
number_of_some xs x (suc n) h f m = (
  λ e. let same : suc n ≡ m = same_Some (suc n) m (sym found ∙ e) in (omega (arith, same, h), (f m (omega (arith, same))).0 same),
  λ k. found ∙ ap Some ((f m (positive m k.1)).1 k.1),
)
  where
    found : if_numbered (suc n) ≡ Some (suc n)
    found = ap (λ b. cond b None (Some (suc n))) (not_zero (suc n) (omega arith))

    positive : (m : ℕ) → item_numbered xs m ≡ Some x → 0 < m
    positive zero e = absurd (no_item xs x e)
    positive (suc m) e = omega arith

-- the same of a result that is that number
pub number_of_found : {A : Type 0} (xs : List A) (x : A) (n : ℕ) (r : Option ℕ) → r ≡ if_numbered n → n ≤ length xs → ((m : ℕ) → 0 < m → (n ≡ m) ↔ (item_numbered xs m ≡ Some x)) → (m : ℕ)
    → (r ≡ Some m) ↔ ((m ≤ length xs) × (item_numbered xs m ≡ Some x))
number_of_found xs x n r e h f m = subst (λ s. (s ≡ Some m) ↔ ((m ≤ length xs) × (item_numbered xs m ≡ Some x))) (sym e) (number_of_some xs x n h f m)

-- ---- tuples by their parts

pub same_parts : (t u : Tuple) → t.global ≡ u.global → t.object ≡ u.object → t.state ≡ u.state → t ≡ u
same_parts t u g o s =
    let bare : PathP (λ i. (is_some (o i) || is_none (s i)) ≡ true) t.bare u.bare = to_path_p (λ i. (is_some (o i) || is_none (s i)) ≡ true) (Bool-set _ _ _ _) in
    λ i. record { global = g i; object = o i; state = s i; bare = bare i }

bare_state : (o : Option Object) (x : Option State) → (is_some o || is_none x) ≡ true → o ≡ None → x ≡ None
bare_state o None h e = refl
bare_state None (Some x) h e = absurd (true≢false (sym h))
bare_state (Some o) (Some x) h e = absurd (none-some o (sym e))

global_of : (g : ℕ) (o : Option Object) (x : Option State) → (tuple_of g o x).global ≡ g
global_of g None x = refl
global_of g (Some o) x = refl

object_of : (g : ℕ) (o : Option Object) (x : Option State) → (tuple_of g o x).object ≡ o
object_of g None x = refl
object_of g (Some o) x = refl

state_of : (g : ℕ) (o : Option Object) (x : Option State) → (o ≡ None → x ≡ None) → (tuple_of g o x).state ≡ x
state_of g None x h = sym (h refl)
state_of g (Some o) x h = refl

-- ---- exactly the numbers of a tuple

module _ (objects : List Object) (states : List State) (u : Tuple) where
  -- numbers of its parts are numbers of the tuple
  there : (t : NumberedTuple) → t.global ≡ u.global → t.object ≤ length objects → item_numbered objects t.object ≡ u.object → t.state ≤ length states → item_numbered states t.state ≡ u.state
      → IsNumbered objects states t × (tuple_at objects states t ≡ u)
  there t g h o k s = (
    record { object = h; state = k; bare = λ z. zero_of_none states t.state k (s ∙ none (o_none z)) },
    same_parts (tuple_at objects states t) u
        (global_of t.global (item_numbered objects t.object) (item_numbered states t.state) ∙ g)
        (object_of t.global (item_numbered objects t.object) (item_numbered states t.state) ∙ o)
        (state_of t.global (item_numbered objects t.object) (item_numbered states t.state) (λ e. s ∙ none (sym o ∙ e)) ∙ s),
  )
    where
      none : u.object ≡ None → u.state ≡ None
      none e = bare_state u.object u.state u.bare e

      o_none : t.object ≡ 0 → u.object ≡ None
      o_none z = sym o ∙ none_of_zero objects t.object z

  -- and the other way round
  pub record AreParts (t : NumberedTuple) : Type 0 where
    pub global : t.global ≡ u.global
    pub object : item_numbered objects t.object ≡ u.object
    pub state : item_numbered states t.state ≡ u.state

  parts : (t : NumberedTuple) → IsNumbered objects states t → tuple_at objects states t ≡ u → AreParts t
  parts t n e = record {
    global = sym (global_of t.global (item_numbered objects t.object) (item_numbered states t.state)) ∙ ap (λ (v : Tuple). v.global) e;
    object = sym (object_of t.global (item_numbered objects t.object) (item_numbered states t.state)) ∙ ap (λ (v : Tuple). v.object) e;
    state = sym (state_of t.global (item_numbered objects t.object) (item_numbered states t.state) bare) ∙ ap (λ (v : Tuple). v.state) e;
  }
    where
      bare : item_numbered objects t.object ≡ None → item_numbered states t.state ≡ None
      bare z = none_of_zero states t.state (n.bare (zero_of_none objects t.object n.object z))

  -- THE NUMBERS OF A TUPLE are those of its object and its state, if these have one
  pub exactly_numbered : (p q : Option ℕ) → ((n : ℕ) → (p ≡ Some n) ↔ ((n ≤ length objects) × (item_numbered objects n ≡ u.object)))
      → ((m : ℕ) → (q ≡ Some m) ↔ ((m ≤ length states) × (item_numbered states m ≡ u.state))) → (t : NumberedTuple)
      → (numbers_with u.global p q ≡ Some t) ↔ (IsNumbered objects states t × (tuple_at objects states t ≡ u))
  exactly_numbered None q f g t = (λ e. absurd (none-some t e), λ h. absurd (none-some t.object ((f t.object).1 (h.0.object, (parts t h.0 h.1).object))))
  exactly_numbered (Some n) None f g t = (λ e. absurd (none-some t e), λ h. absurd (none-some t.state ((g t.state).1 (h.0.state, (parts t h.0 h.1).state))))
  exactly_numbered (Some n) (Some m) f g t =
      let made : NumberedTuple = record { global = u.global; state = m; object = n } in (
        λ e. subst (λ r. IsNumbered objects states r × (tuple_at objects states r ≡ u)) (same_Some made t e) (there made refl ((f n).0 refl).0 ((f n).0 refl).1 ((g m).0 refl).0 ((g m).0 refl).1),
        λ h.
            let r = parts t h.0 h.1 in
            let o : n ≡ t.object = same_Some n t.object ((f t.object).1 (h.0.object, r.object)) in
            let s : m ≡ t.state = same_Some m t.state ((g t.state).1 (h.0.state, r.state)) in
            let same : made ≡ t = λ i. record { global = sym r.global i; state = s i; object = o i } in
            ap Some same,
      )
