-- What holds of a log, as entries are inserted.
use Rattle.std.proofs.Common.{◌≡◌, ℕ, ◌%◌, ◌<◌, arith, nat_eq, Bool, true, false, not, if◌then◌else◌, List, [], ◌∷◌, ◌++◌, length, Some, Result, Ok, Err, IfOk, OnErr, Vec, slice_get, length-append, refl, sym, ap, ◌∙◌, subst}
use Rattle.std.specs.Cmp.{IsEquivalence}
use Rattle.std.proofs.lemmas.Cmp.{nat_eq_equiv, and_equiv, on_equiv}
use Rattle.std.specs.List.{list_any, IsDistinct}
use Rattle.std.proofs.lemmas.Map.Keys.{IsDistinct-push}
use Rattle.std.proofs.lemmas.Nat.Bits.{bit_at-zero}
use Rattle.std.proofs.lemmas.Option.{slice_get_within}
use Rattle.std.proofs.lemmas.Result.{IfOk-weaker, on_err_weaker}
use Rattle.indexmap.specs.IndexSet.{insert_key}
use Rattle.entry_log.specs.Bits.{is_set_in}
use Rattle.entry_log.specs.Entries.{same_entry, has_entry, Inserts}
use Rattle.entry_log.specs.Rows.{entries_at, is_at, place, Agree, Holds, Puts}
use Rattle.entry_log.specs.declared.entries.Place.{Place}
use Rattle.entry_log.proofs.Reading.{Within, entries_push, entries_more, has_where_placed}

entry_laws : {K : Type 0} (eq : K → K → Bool) → IsEquivalence eq → IsEquivalence (same_entry eq)
entry_laws {K = K} eq laws = and_equiv (on_equiv (λ (e : K × ℕ). e.0) laws) (on_equiv (λ (e : K × ℕ). e.1) nat_eq_equiv)

within_more : {K : Type 0} (keys : List K) (k : K) (ps : List Place) → Within keys ps → Within (keys ++ k ∷ []) ps
within_more keys k [] h = tt
within_more keys k (p ∷ ps) h = (omega (arith, h.0, length-append keys (k ∷ [])), within_more keys k ps h.1)

within_push : {K : Type 0} (keys : List K) (ps : List Place) (p : Place) → Within keys ps → p.row < length keys → Within keys (ps ++ p ∷ [])
within_push keys [] p h b = (b, tt)
within_push keys (q ∷ ps) p h b = (h.0, within_push keys ps p h.1 b)

-- where there are no keys, no rows and no places
pub holds_none : {K A : Type 0} (eq : K → K → Bool) (keys : List K) (rows : List (Vec ℕ A)) (order : List Place) → keys ≡ [] → rows ≡ [] → order ≡ [] → Holds eq keys rows order
unfolding IsDistinct
holds_none {K = K} {A = A} eq keys rows order k r o = subst (λ ks. Holds eq ks rows order) (sym k) (subst (λ rs. Holds eq [] rs order) (sym r) (subst (λ ps. Holds {A = A} eq [] [] ps) (sym o) none))
  where
    none : Holds {K = K} {A = A} eq [] [] []
    none = record { distinct = tt; within = tt; agree = λ row block. ap (λ n. nat_eq n 1) (bit_at-zero (block % 64)); once = tt }

module _ {K A : Type 0} (eq : K → K → Bool) (laws : IsEquivalence eq) (keys : List K) (rows : List (Vec ℕ A)) (order : List Place) (v : Holds eq keys rows order) where
  -- an entry is there where its bit is set
  pub bit_says : (row : ℕ) (k : K) (block : ℕ) → slice_get keys row ≡ Some k → is_set_in rows row block ≡ has_entry eq (entries_at keys order) (k, block)
  bit_says row k block is = v.agree row block ∙ sym (has_where_placed eq laws keys v.distinct row k block is order v.within)

  -- a key more stands for no entry yet
  pub holds_with_key : (k : K) (new : List K) → new ≡ insert_key eq keys k → IsDistinct eq new → Holds eq new rows order × (entries_at new order ≡ entries_at keys order)
  holds_with_key k new is d = by (list_any (eq k) keys) refl
    where
      by : (t : Bool) → list_any (eq k) keys ≡ t → Holds eq new rows order × (entries_at new order ≡ entries_at keys order)
      by true e = subst (λ l. Holds eq l rows order × (entries_at l order ≡ entries_at keys order)) (sym (is ∙ ap (λ t. if t then keys else keys ++ k ∷ []) e)) (v, refl)
      by false e =
          let longer : new ≡ keys ++ k ∷ [] = is ∙ ap (λ t. if t then keys else keys ++ k ∷ []) e in
          let same = entries_more keys k order v.within in
          subst (λ l. Holds eq l rows order × (entries_at l order ≡ entries_at keys order)) (sym longer) (
            record {
              distinct = subst (IsDistinct eq) longer d;
              within = within_more keys k order v.within;
              agree = v.agree;
              once = subst (IsDistinct (same_entry eq)) (sym same) v.once;
            },
            same,
          )

  module _ (row : ℕ) (k : K) (block : ℕ) (is : slice_get keys row ≡ Some k) (inside : row < length keys) where
    -- the entry that a place more stands for
    pub inserts_at : (new : List Place) (added : Bool) → Puts order new row block added → Inserts eq (entries_at keys order) (entries_at keys new) (k, block) added
    inserts_at new added p = record { added_if_new = p.added_if_new ∙ ap not (sym there); last = by (list_any (is_at row block) order) refl }
      where
        there : has_entry eq (entries_at keys order) (k, block) ≡ list_any (is_at row block) order
        there = has_where_placed eq laws keys v.distinct row k block is order v.within

        by : (t : Bool) → list_any (is_at row block) order ≡ t → entries_at keys new ≡ insert_key (same_entry eq) (entries_at keys order) (k, block)
        by true e = ap (entries_at keys) (p.last ∙ ap (λ t. if t then order else order ++ place row block ∷ []) e)
            ∙ sym (ap (λ t. if t then entries_at keys order else entries_at keys order ++ (k, block) ∷ []) (there ∙ e))
        by false e = ap (entries_at keys) (p.last ∙ ap (λ t. if t then order else order ++ place row block ∷ []) e)
            ∙ entries_push keys order (place row block) k is
            ∙ sym (ap (λ t. if t then entries_at keys order else entries_at keys order ++ (k, block) ∷ []) (there ∙ e))

    pub holds_with_place : (other : List (Vec ℕ A)) (new : List Place) (added : Bool) → Agree other new → Puts order new row block added → Holds eq keys other new
    holds_with_place other new added a p = by (list_any (is_at row block) order) refl
      where
        there : has_entry eq (entries_at keys order) (k, block) ≡ list_any (is_at row block) order
        there = has_where_placed eq laws keys v.distinct row k block is order v.within

        by : (t : Bool) → list_any (is_at row block) order ≡ t → Holds eq keys other new
        by true e =
            let same : new ≡ order = p.last ∙ ap (λ t. if t then order else order ++ place row block ∷ []) e in
            record { distinct = v.distinct; within = subst (Within keys) (sym same) v.within; agree = a; once = subst (λ ps. IsDistinct (same_entry eq) (entries_at keys ps)) (sym same) v.once }
        by false e =
            let longer : new ≡ order ++ place row block ∷ [] = p.last ∙ ap (λ t. if t then order else order ++ place row block ∷ []) e in
            record {
              distinct = v.distinct;
              within = subst (Within keys) (sym longer) (within_push keys order (place row block) v.within inside);
              agree = a;
              once = subst (IsDistinct (same_entry eq)) (sym (ap (entries_at keys) longer ∙ entries_push keys order (place row block) k is))
                  (IsDistinct-push (entry_laws eq laws) (entries_at keys order) (k, block) v.once (there ∙ e));
            }

    -- whether there was room for it or not
    pub holds_after : {E : Type 0} (other : List (Vec ℕ A)) (new : List Place) (r : Result Bool E) → Agree other new → IfOk r (Puts order new row block)
        → OnErr r ((new ≡ order) × (list_any (is_at row block) order ≡ false)) → Holds eq keys other new
    holds_after other new (Ok added) a p q = holds_with_place other new added a p
    holds_after other new (Err x) a p q = record { distinct = v.distinct; within = subst (Within keys) (sym q.0) v.within; agree = a; once = subst (λ ps. IsDistinct (same_entry eq) (entries_at keys ps)) (sym q.0) v.once }

-- an entry whose key has just been put at a row
module _ {K A E : Type 0} (eq : K → K → Bool) (laws : IsEquivalence eq) (same : (x y : K) → eq x y ≡ true → x ≡ y) (keys : List K) (rows : List (Vec ℕ A)) (order : List Place) (v : Holds eq keys rows order)
    (key : K) (block : ℕ) (more : List K) (is : more ≡ insert_key eq keys key) (d : IsDistinct eq more) (row : ℕ) (k : K) (there : slice_get more row ≡ Some k) (like : eq key k ≡ true)
    (other : List (Vec ℕ A)) (new : List Place) (r : Result Bool E) (puts : IfOk r (Puts order new row block)) (kept : OnErr r ((new ≡ order) × (list_any (is_at row block) order ≡ false))) where
  at_row : slice_get more row ≡ Some key
  at_row = there ∙ ap Some (sym (same key k like))

  with_key : Holds eq more rows order × (entries_at more order ≡ entries_at keys order)
  with_key = holds_with_key eq laws keys rows order v key more is d

  pub holds_inserted : Agree other new → Holds eq more other new
  holds_inserted a = holds_after eq laws more rows order with_key.0 row key block at_row (slice_get_within more row key at_row) other new r a puts kept

  pub inserted : IfOk r (Inserts eq (entries_at keys order) (entries_at more new) (key, block))
  inserted = IfOk-weaker r _ _
      (λ added p. subst (λ es. Inserts eq es (entries_at more new) (key, block) added) with_key.1 (inserts_at eq laws more rows order with_key.0 row key block at_row (slice_get_within more row key at_row) new added p))
      puts

  pub none_inserted : OnErr r ((entries_at more new ≡ entries_at keys order) × (has_entry eq (entries_at keys order) (key, block) ≡ false))
  none_inserted = on_err_weaker r
      (λ q. (ap (entries_at more) q.0 ∙ with_key.1, ap (λ es. has_entry eq es (key, block)) (sym with_key.1) ∙ has_where_placed eq laws more with_key.0.distinct row key block at_row order with_key.0.within ∙ q.1))
      kept
