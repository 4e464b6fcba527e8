-- Bits in the rows of keys.
use Rattle.std.proofs.Common.{◌≡◌, ℕ, ◌+◌, ◌≤◌, ◌<◌, zero, suc, arith, nat_eq, Bool, true, false, ◌&&◌, ◌||◌, if◌then◌else◌, List, [], ◌∷◌, ◌++◌, length, length-append, Some, Result, Ok, Err, OnOk, OnErr, Vec, slice_get, refl, sym, ap, ◌∙◌, subst, inl, inr, eq-eqb, ne_eqb}
use Rattle.std.specs.Cmp.{IsEquivalence}
use Rattle.std.specs.List.{list_any, IsDistinct}
use Rattle.std.proofs.lemmas.Bool.{cases_eq, eqb-true, or_parts}
use Rattle.std.proofs.lemmas.Option.{slice_get_within, same_Some}
use Rattle.indexmap.specs.IndexSet.{insert_key}
use Rattle.indexmap.proofs.CallerLemmas.{Contains-list_any}
use Rattle.least_set.proofs.Growing.{place_of}
use Rattle.least_set.specs.Ways.Same.{both}
use Rattle.entry_log.specs.Bits.{has_bit, is_set_in, passes, NoneBehind}
use Rattle.entry_log.specs.Entries.{same_entry}
use Rattle.entry_log.proofs.Reading.{same_row, unlike}

-- the bits of rows of which one has one more
abbrev pub WithBit : {A : Type 0} → List (Vec ℕ A) → List (Vec ℕ A) → ℕ → ℕ → Type 0
WithBit old new row block = (r b : ℕ) → is_set_in new r b ≡ (nat_eq r row && nat_eq b block) || is_set_in old r b

abbrev pub Alike : {A : Type 0} → List (Vec ℕ A) → List (Vec ℕ A) → Type 0
Alike old new = (r b : ℕ) → is_set_in new r b ≡ is_set_in old r b

turned : (a b : ℕ) → nat_eq a b ≡ nat_eq b a
turned a b = elim (cases_eq a b) [ inl e ↦ eq-eqb a b e ∙ sym (eq-eqb b a (sym e)) | inr n ↦ ne_eqb a b n ∙ sym (ne_eqb b a (λ q. n (sym q))) ]

-- a bit that is set may be set again
pub is_already : {A : Type 0} (rows : List (Vec ℕ A)) (row block : ℕ) → is_set_in rows row block ≡ true → WithBit rows rows row block
is_already rows row block h r b = by (nat_eq r row && nat_eq b block) refl
  where
    by : (t : Bool) → nat_eq r row && nat_eq b block ≡ t → is_set_in rows r b ≡ t || is_set_in rows r b
    by true e = let p = both (nat_eq r row) (nat_eq b block) e in ap (λ n. is_set_in rows n b) (eqb-true r row p.0) ∙ ap (is_set_in rows row) (eqb-true b block p.1) ∙ h
    by false e = refl

module _ {K : Type 0} (key : K → Bool) where
  none_pass : (row : ℕ → Bool) (n : ℕ) (ks : List K) → list_any key ks ≡ false → passes key row n ks ≡ false
  none_pass row n [] h = refl
  none_pass row n (k ∷ ks) h =
      let p = or_parts (key k) (list_any key ks) h in
      ap (λ t. (t && row n) || passes key row (suc n) ks) p.0 ∙ none_pass row (suc n) ks p.1

  passes_alike : (row other : ℕ → Bool) → ((r : ℕ) → row r ≡ other r) → (n : ℕ) (ks : List K) → passes key row n ks ≡ passes key other n ks
  passes_alike row other same n [] = refl
  passes_alike row other same n (k ∷ ks) = ap (λ t. (key k && t) || passes key row (suc n) ks) (same n) ∙ ap (λ t. (key k && other n) || t) (passes_alike row other same (suc n) ks)

  -- one more key, whose row doesn't pass
  passes_push : (row : ℕ → Bool) (n : ℕ) (ks : List K) (k : K) → row (n + length ks) ≡ false → passes key row n (ks ++ k ∷ []) ≡ passes key row n ks
  passes_push row n [] k h = let here : n ≡ n + 0 = omega arith in ap (λ t. (key k && t) || false) (ap row here ∙ h) ∙ neither (key k)
    where
      neither : (t : Bool) → (t && false) || false ≡ false
      neither true = refl
      neither false = refl
  passes_push row n (x ∷ ks) k h =
      let further : suc n + length ks ≡ n + suc (length ks) = omega arith in
      ap (λ t. (key x && row n) || t) (passes_push row (suc n) ks k (ap row further ∙ h))

  none_of : (ks : List K) → ((j : ℕ) (x : K) → slice_get ks j ≡ Some x → key x ≡ false) → list_any key ks ≡ false
  none_of [] h = refl
  none_of (x ∷ ks) h = ap (λ t. t || list_any key ks) (h zero x refl) ∙ none_of ks (λ j y e. h (suc j) y e)

  -- where just the key at an index passes, its row decides
  passes_at : (row : ℕ → Bool) (n : ℕ) (ks : List K) (i : ℕ) (k : K) → slice_get ks i ≡ Some k → key k ≡ true → ((j : ℕ) (x : K) → (j ≡ i → ⊥) → slice_get ks j ≡ Some x → key x ≡ false)
      → passes key row n ks ≡ row (n + i)
  passes_at row n [] i k e h others = absurd (omega (arith, slice_get_within {A = K} [] i k e))
  passes_at row n (x ∷ ks) zero k e h others =
      let here : n ≡ n + 0 = omega arith in
      ap (λ t. (t && row n) || passes key row (suc n) ks) (ap key (same_Some x k e) ∙ h)
      ∙ ap (λ t. row n || t) (none_pass row (suc n) ks (none_of ks (λ j y f. others (suc j) y (λ q. omega (arith, q)) f)))
      ∙ or_none (row n) ∙ ap row here
    where
      or_none : (t : Bool) → t || false ≡ t
      or_none true = refl
      or_none false = refl
  passes_at row n (x ∷ ks) (suc i) k e h others =
      let further : suc n + i ≡ n + suc i = omega arith in
      ap (λ t. (t && row n) || passes key row (suc n) ks) (others zero x (λ q. omega (arith, q)) refl)
      ∙ passes_at row (suc n) ks i k e h (λ j y other f. others (suc j) y (λ q. other (omega (arith, q))) f)
      ∙ ap row further

-- a key without a row has no bits
pub no_bit : {K A : Type 0} (eq : K → K → Bool) (keys : List K) (rows : List (Vec ℕ A)) (k : K) (block : ℕ) → list_any (eq k) keys ≡ false → has_bit eq keys rows k block ≡ false
no_bit eq keys rows k block none = none_pass (eq k) (λ r. is_set_in rows r block) zero keys none

module _ {K A : Type 0} (eq : K → K → Bool) (laws : IsEquivalence eq) (keys : List K) (distinct : IsDistinct eq keys) where
  -- the bits of a key are those of its row
  pub bit_of_row : (rows : List (Vec ℕ A)) (row : ℕ) (k : K) → slice_get keys row ≡ Some k → (block : ℕ) → has_bit eq keys rows k block ≡ is_set_in rows row block
  bit_of_row rows row k e block =
      let here : zero + row ≡ row = omega arith in
      passes_at (eq k) (λ r. is_set_in rows r block) zero keys row k e (laws.refl k) (λ j x other f. same_row eq laws keys distinct row j k x e f ∙ ne_eqb row j (λ q. other (sym q)))
      ∙ ap (λ r. is_set_in rows r block) here

  -- one more bit, in the row of a key
  one_more_bit : ((x y : K) → eq x y ≡ true → x ≡ y) → (old new : List (Vec ℕ A)) (row : ℕ) (key : K) (block : ℕ) → slice_get keys row ≡ Some key → WithBit old new row block
      → (k : K) (b : ℕ) → has_bit eq keys new k b ≡ same_entry eq (key, block) (k, b) || has_bit eq keys old k b
  one_more_bit same old new row key block e set k b = by (list_any (eq k) keys) refl
    where
      by : (t : Bool) → list_any (eq k) keys ≡ t → has_bit eq keys new k b ≡ same_entry eq (key, block) (k, b) || has_bit eq keys old k b
      by true t =
          let at = place_of keys k (Contains-list_any eq same keys k t) in
          bit_of_row new at.0 k at.2 b ∙ set at.0 b
          ∙ ap (λ s. (s && nat_eq b block) || is_set_in old at.0 b) (turned at.0 row ∙ sym (same_row eq laws keys distinct row at.0 key k e at.2))
          ∙ ap (λ s. (eq key k && s) || is_set_in old at.0 b) (turned b block)
          ∙ ap (λ s. same_entry eq (key, block) (k, b) || s) (sym (bit_of_row old at.0 k at.2 b))
      by false n =
          no_bit eq keys new k b n
          ∙ sym (ap (λ s. (s && nat_eq block b) || has_bit eq keys old k b) (laws.symm key k ∙ unlike (eq k) keys row key n e) ∙ no_bit eq keys old k b n)

-- a key that has just been put at a row, and its bit
module _ {K A : Type 0} (eq : K → K → Bool) (laws : IsEquivalence eq) (same : (x y : K) → eq x y ≡ true → x ≡ y) (keys : List K) (rows : List (Vec ℕ A)) (behind : NoneBehind (length keys) rows)
    (key : K) (more : List K) (is : more ≡ insert_key eq keys key) (d : IsDistinct eq more) (row : ℕ) (k : K) (there : slice_get more row ≡ Some k) (like : eq key k ≡ true)
    (new : List (Vec ℕ A)) (block : ℕ) where
  at_row : slice_get more row ≡ Some key
  at_row = there ∙ ap Some (sym (same key k like))

  grown : (P : List K → Type 0) → P keys → P (keys ++ key ∷ []) → P more
  grown P p q = by (list_any (eq key) keys) refl
    where
      by : (t : Bool) → list_any (eq key) keys ≡ t → P more
      by true e = subst P (sym (is ∙ ap (λ t. if t then keys else keys ++ key ∷ []) e)) p
      by false e = subst P (sym (is ∙ ap (λ t. if t then keys else keys ++ key ∷ []) e)) q

  -- a key more has no bits yet
  with_key : (x : K) (b : ℕ) → has_bit eq more rows x b ≡ has_bit eq keys rows x b
  with_key x b = grown (λ l. has_bit eq l rows x b ≡ has_bit eq keys rows x b) refl (passes_push (eq x) (λ r. is_set_in rows r b) zero keys key (behind (zero + length keys) b (omega arith)))

  longer : length keys ≤ length more
  longer = grown (λ l. length keys ≤ length l) (omega arith) (omega (arith, length-append keys (key ∷ [])))

  pub was_there : has_bit eq keys rows key block ≡ is_set_in rows row block
  was_there = sym (with_key key block) ∙ bit_of_row eq laws more d rows row key at_row block

  pub none_behind : {E : Type 0} (r : Result Bool E) → OnOk r (WithBit rows new row block) → OnErr r (Alike rows new) → NoneBehind (length more) new
  none_behind (Ok added) set same n b h =
      set n b
      ∙ ap (λ t. (t && nat_eq b block) || is_set_in rows n b) (ne_eqb n row (λ q. omega (arith, q, h, slice_get_within more row key at_row)))
      ∙ behind n b (omega (arith, h, longer))
  none_behind (Err x) set same n b h = same n b ∙ behind n b (omega (arith, h, longer))

  pub all_marked : WithBit rows new row block → (x : K) (b : ℕ) → has_bit eq more new x b ≡ same_entry eq (key, block) (x, b) || has_bit eq keys rows x b
  all_marked set x b = one_more_bit eq laws more d same rows new row key block at_row set x b ∙ ap (λ t. same_entry eq (key, block) (x, b) || t) (with_key x b)

  pub none_marked : Alike rows new → (x : K) (b : ℕ) → has_bit eq more new x b ≡ has_bit eq keys rows x b
  none_marked alike x b = passes_alike (eq x) (λ r. is_set_in new r b) (λ r. is_set_in rows r b) (λ r. alike r b) zero more ∙ with_key x b
