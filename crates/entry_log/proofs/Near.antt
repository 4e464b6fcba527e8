-- What is known of the row of an entry.
use Rattle.std.proofs.Common.{◌≡◌, ℕ, ◌<◌, zero, suc, arith, Bool, List, [], ◌∷◌, length, Some, Result, IfOk, OnErr, Vec, slice_get, false, sym, ap, ◌∙◌, subst}
use Rattle.std.specs.Cmp.{IsEquivalence}
use Rattle.std.specs.List.{list_any}
use Rattle.std.proofs.lemmas.Option.{slice_get_within, same_Some}
use Rattle.std.proofs.lemmas.Result.{IfOk-weaker, on_err_weaker}
use Rattle.entry_log.specs.Entries.{has_entry, Inserts}
use Rattle.entry_log.specs.Rows.{entries_at, is_at, Agree, Holds, Puts}
use Rattle.entry_log.specs.declared.entries.Place.{Place}
use Rattle.entry_log.proofs.Reading.{Within, there, entry_at, has_where_placed}
use Rattle.entry_log.proofs.Inserting.{inserts_at, holds_after}

-- the row of a place has a key
pub row_within : {K : Type 0} (keys : List K) (ps : List Place) (i : ℕ) (p : Place) → Within keys ps → slice_get ps i ≡ Some p → p.row < length keys
row_within keys [] i p h e = absurd (omega (arith, slice_get_within {A = Place} [] i p e))
row_within keys (q ∷ ps) zero p h e = subst (λ (r : Place). r.row < length keys) (same_Some q p e) h.0
row_within keys (q ∷ ps) (suc i) p h e = row_within keys ps i p h.1 e

module _ {K A E : Type 0} (eq : K → K → Bool) (laws : IsEquivalence eq) (keys : List K) (rows : List (Vec ℕ A)) (order : List Place) (v : Holds eq keys rows order)
    (index : ℕ) (p : Place) (at : slice_get order index ≡ Some p) (row : ℕ) (of : row ≡ p.row) (block : ℕ)
    (other : List (Vec ℕ A)) (new : List Place) (r : Result Bool E) (puts : IfOk r (Puts order new row block)) (kept : OnErr r ((new ≡ order) × (list_any (is_at row block) order ≡ false))) where
  inside : row < length keys
  inside = subst (λ n. n < length keys) (sym of) (row_within keys order index p v.within at)

  own : (k : K) × (slice_get keys row ≡ Some k)
  own = there keys row inside

  same_key : (key : K) (near : ℕ) → slice_get (entries_at keys order) index ≡ Some (key, near) → own.0 ≡ key
  same_key key near e = ap (λ (x : K × ℕ). x.0) (same_Some _ _ (sym (entry_at keys order index p own.0 v.within at (ap (slice_get keys) (sym of) ∙ own.1)) ∙ e))

  pub holds_near : Agree other new → Holds eq keys other new
  holds_near a = holds_after eq laws keys rows order v row own.0 block own.1 inside other new r a puts kept

  pub inserted_near : IfOk r (λ added. (key : K) (near : ℕ) → slice_get (entries_at keys order) index ≡ Some (key, near) → Inserts eq (entries_at keys order) (entries_at keys new) (key, block) added)
  inserted_near = IfOk-weaker r _ _
      (λ added q key near e. subst (λ k. Inserts eq (entries_at keys order) (entries_at keys new) (k, block) added) (same_key key near e) (inserts_at eq laws keys rows order v row own.0 block own.1 inside new added q))
      puts

  pub refused_near : OnErr r ((entries_at keys new ≡ entries_at keys order) × ((key : K) (near : ℕ) → slice_get (entries_at keys order) index ≡ Some (key, near) → has_entry eq (entries_at keys order) (key, block) ≡ false))
  refused_near = on_err_weaker r
      (λ q. (
        ap (entries_at keys) q.0,
        λ key near e. subst (λ k. has_entry eq (entries_at keys order) (k, block) ≡ false) (same_key key near e) (has_where_placed eq laws keys v.distinct row own.0 block own.1 order v.within ∙ q.1),
      ))
      kept
