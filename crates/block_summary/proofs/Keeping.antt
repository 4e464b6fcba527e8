-- One more block is held.
use Rattle.std.proofs.Common.{◌≡◌, ◌∙◌, refl, sym, ap, subst, ℕ, nat_eq, Bool, true, false, ◌&&◌, ◌||◌, List, Option, None, Some, eq-eqb}
use Rattle.std.specs.Prelude.{cond, IsSome}
use Rattle.std.specs.Bool.{beq}
use Rattle.entry_log.specs.Entries.{same_entry}
use Rattle.entry_log.specs.Sets.{is_in}
use Rattle.row_flows.specs.contracts.tuples.NumberedTuplePartialEq.TheImpl.{eq-value as tuples_agree}
use Rattle.row_flows.specs.declared.rows.EventRow.{EventRow}
use Rattle.row_flows.specs.declared.tuples.NumberedTuple.{NumberedTuple}
use Rattle.indexmap.specs.IndexMap.{get}
use Rattle.block_summary.specs.Ways.Equality.{same_entered}
use Rattle.block_summary.specs.Exits.{AreExits}
use Rattle.block_summary.specs.Kept.{IsRight, Keeps, held_in, is_marked, kept_in, mark_row}
use Rattle.block_summary.specs.contracts.keys.EnteredPartialEq.TheImpl.{eq-value as same}
use Rattle.block_summary.specs.contracts.keys.MarkRowPartialEq.TheImpl.{eq-value as same_row}
use Rattle.block_summary.specs.declared.exits.Exits.{Exits}
use Rattle.block_summary.specs.declared.keys.Entered.{Entered}
use Rattle.block_summary.specs.declared.keys.MarkRow.{MarkRow}
use Rattle.block_summary.specs.declared.summary.BlockSummary.{BlockSummary}

pub missing : {A : Type 0} {x : A} → None ≡ Some x → ⊥
missing h = cc

none_is_some : IsSome {T = Exits} None → ⊥
none_is_some h = cc

the_same : {A : Type 0} {x y : A} → Some x ≡ Some y → x ≡ y
the_same h = cc

-- what is held for one that was absent is what was put there, and for any other what was held
pub record PutsAt (old new : BlockSummary) (x : Entered) (e : Exits) : Type 0 where
  pub there : held_in new x ≡ Some e
  pub others : (y : Entered) → same.it x y ≡ false → held_in new y ≡ held_in old y
  pub unchanged : new.unchanged ≡ old.unchanged

module _ (old new : BlockSummary) (x : Entered) (e : Exits) (puts : PutsAt old new x e) where
  case : (y : Entered) (P : Type 0) → (same.it x y ≡ true → P) → (same.it x y ≡ false → P) → P
  case y P at_it beside = by (same.it x y) refl
    where
      by : (b : Bool) → same.it x y ≡ b → P
      by true h = at_it h
      by false h = beside h

  pub stays_right : (rows_of : ℕ → ℕ → List EventRow) (own_of : ℕ → List Bool) → IsRight rows_of own_of old → AreExits (rows_of x.function x.block) x.is_root (own_of x.function) x.tuple e → IsRight rows_of own_of new
  stays_right rows_of own_of right exits = record {
    unchanged = λ rows r own t calm. subst (AreExits rows r own t) (sym puts.unchanged) (right.unchanged rows r own t calm);
    held = λ y f h. case y (AreExits (rows_of y.function y.block) y.is_root (own_of y.function) y.tuple f)
        (λ s. let xy = same_entered x y s in
        subst (λ z. AreExits (rows_of z.function z.block) z.is_root (own_of z.function) z.tuple f) xy
        (subst (AreExits (rows_of x.function x.block) x.is_root (own_of x.function) x.tuple) (the_same (sym puts.there ∙ ap (held_in new) xy ∙ h)) exits))
        (λ n. right.held y f (sym (puts.others y n) ∙ h));
  }

unmarked : (b : Bool) (u : Exits) (o : Option Exits) → cond b (Some u) o ≡ None → b ≡ false
unmarked true u o h = absurd (missing (sym h))
unmarked false u o h = refl

-- a row of marks is equal to itself
tuple_itself : (t : NumberedTuple) → tuples_agree.it t t ≡ true
tuple_itself t = ap (λ b. b && (nat_eq t.state t.state && nat_eq t.object t.object)) (eq-eqb t.global t.global refl) ∙ ap (λ b. b && nat_eq t.object t.object) (eq-eqb t.state t.state refl) ∙ eq-eqb t.object t.object refl

row_itself : (k : MarkRow) → same_row.it k k ≡ true
row_itself k = ap (λ b. b && (tuples_agree.it k.tuple k.tuple && beq k.is_root k.is_root)) (eq-eqb k.function k.function refl) ∙ ap (λ b. b && beq k.is_root k.is_root) (tuple_itself k.tuple) ∙ kind_itself k.is_root
  where
    kind_itself : (b : Bool) → beq b b ≡ true
    kind_itself true = refl
    kind_itself false = refl

-- the block that is marked for a row is one that is entered so
same_marks : (x y : Entered) → same_entry same_row.it (mark_row x, x.block) (mark_row y, y.block) ≡ same.it x y
same_marks x y = by (nat_eq x.function y.function) (tuples_agree.it x.tuple y.tuple && beq x.is_root y.is_root) (nat_eq x.block y.block)
  where
    by : (f t b : Bool) → (f && t) && b ≡ f && (b && t)
    by false t b = refl
    by true true true = refl
    by true true false = refl
    by true false true = refl
    by true false false = refl

-- ONE MORE MARK
module _ (old new : BlockSummary) (x : Entered) (row : MarkRow) (of : row ≡ mark_row x) (all : (k : MarkRow) (b : ℕ) → is_in same_row.it new.marked k b ≡ same_entry same_row.it (row, x.block) (k, b) || is_in same_row.it old.marked k b)
    (absent : kept_in old x ≡ None) (kept : new.kept ≡ old.kept) (unchanged : new.unchanged ≡ old.unchanged) where
  marked_so : (y : Entered) → is_marked new y ≡ same_entry same_row.it (mark_row x, x.block) (mark_row y, y.block) || is_marked old y
  marked_so y = all (mark_row y) y.block ∙ ap (λ r. same_entry same_row.it (r, x.block) (mark_row y, y.block) || is_marked old y) of

  marked_now : (y : Entered) → is_marked new y ≡ same.it x y || is_marked old y
  marked_now y = marked_so y ∙ ap (λ b. b || is_marked old y) (same_marks x y)

  marked_here : is_marked new x ≡ true
  marked_here =
      let here : same_entry same_row.it (mark_row x, x.block) (mark_row x, x.block) ≡ true = ap (λ b. b && nat_eq x.block x.block) (row_itself (mark_row x)) ∙ eq-eqb x.block x.block refl in
      marked_so x ∙ ap (λ b. b || is_marked old x) here

  held_now : (y : Entered) (b : Bool) → is_marked new y ≡ b → held_in new y ≡ cond b (Some old.unchanged) (kept_in old y)
  held_now y b e = ap (λ b. cond b (Some new.unchanged) (kept_in new y)) e ∙ ap (λ u. cond b (Some u) (kept_in new y)) unchanged ∙ ap (λ m. cond b (Some old.unchanged) (get same.it m y)) kept

  pub held_here : held_in new x ≡ Some new.unchanged
  held_here = ap (λ b. cond b (Some new.unchanged) (kept_in new x)) marked_here

  pub marks : PutsAt old new x old.unchanged
  marks = record {
    there = held_now x true marked_here;
    others = λ y n. held_now y (is_marked old y) (marked_now y ∙ ap (λ b. b || is_marked old y) n);
    unchanged = unchanged;
  }

  -- what was held stays, since nothing is kept for the block that is marked
  pub marking_keeps : Keeps old new
  marking_keeps = record { held = λ y is. by y is (is_marked old y) refl (same.it x y) refl }
    where
      by : (y : Entered) → IsSome (held_in old y) → (m : Bool) → is_marked old y ≡ m → (s : Bool) → same.it x y ≡ s → held_in new y ≡ held_in old y
      by y is m e false n = marks.others y n
      by y is true e true s = held_now y true (marked_now y ∙ ap (λ b. b || is_marked old y) s) ∙ sym (ap (λ b. cond b (Some old.unchanged) (kept_in old y)) e)
      by y is false e true s =
          let gone : held_in old y ≡ None = ap (λ b. cond b (Some old.unchanged) (kept_in old y)) e ∙ ap (kept_in old) (sym (same_entered x y s)) ∙ absent in
          absurd (none_is_some (subst IsSome gone is))

-- the marks that stay
pub same_held : (old new : BlockSummary) → ((k : MarkRow) (b : ℕ) → is_in same_row.it new.marked k b ≡ is_in same_row.it old.marked k b) → new.kept ≡ old.kept → new.unchanged ≡ old.unchanged → (y : Entered) → held_in new y ≡ held_in old y
same_held old new all kept unchanged y =
    ap (λ b. cond b (Some new.unchanged) (kept_in new y)) (all (mark_row y) y.block)
    ∙ ap (λ u. cond (is_marked old y) (Some u) (kept_in new y)) unchanged
    ∙ ap (λ m. cond (is_marked old y) (Some old.unchanged) (get same.it m y)) kept

pub same_right : (old new : BlockSummary) → ((k : MarkRow) (b : ℕ) → is_in same_row.it new.marked k b ≡ is_in same_row.it old.marked k b) → new.kept ≡ old.kept → new.unchanged ≡ old.unchanged
    → (rows_of : ℕ → ℕ → List EventRow) (own_of : ℕ → List Bool) → IsRight rows_of own_of old → IsRight rows_of own_of new
same_right old new all kept unchanged rows_of own_of right = record {
  unchanged = λ rows r own t calm. subst (AreExits rows r own t) (sym unchanged) (right.unchanged rows r own t calm);
  held = λ y e h. right.held y e (sym (same_held old new all kept unchanged y) ∙ h);
}

-- what isn't marked, and for which nothing is kept, isn't held
pub not_held : (old : BlockSummary) (x : Entered) (row : MarkRow) → row ≡ mark_row x → is_in same_row.it old.marked row x.block ≡ false → kept_in old x ≡ None → IsSome (held_in old x) → ⊥
not_held old x row of free absent is =
    let gone : held_in old x ≡ None = ap (λ r. cond (is_in same_row.it old.marked r x.block) (Some old.unchanged) (kept_in old x)) (sym of) ∙ ap (λ b. cond b (Some old.unchanged) (kept_in old x)) free ∙ absent in
    missing_some (held_in old x) gone is
  where
    missing_some : (o : Option Exits) → o ≡ None → IsSome o → ⊥
    missing_some o e s = none_is_some (subst IsSome e s)

-- KEPT
pub puts_kept : (old new : BlockSummary) (x : Entered) (e : Exits) → held_in old x ≡ None → ((y : Entered) → same.it x y ≡ false → kept_in new y ≡ kept_in old y) → kept_in new x ≡ Some e
    → new.marked ≡ old.marked → new.unchanged ≡ old.unchanged → PutsAt old new x e
puts_kept old new x e absent all one marked unchanged = record {
  there =
      let u = unmarked (is_marked old x) old.unchanged (kept_in old x) absent in
      ap (λ m. cond (is_in same_row.it m (mark_row x) x.block) (Some new.unchanged) (kept_in new x)) marked
      ∙ ap (λ b. cond b (Some new.unchanged) (kept_in new x)) u ∙ one;
  others = λ y n.
      ap (λ m. cond (is_in same_row.it m (mark_row y) y.block) (Some new.unchanged) (kept_in new y)) marked
      ∙ ap (λ u. cond (is_marked old y) (Some u) (kept_in new y)) unchanged
      ∙ ap (λ o. cond (is_marked old y) (Some old.unchanged) o) (all y n);
  unchanged = unchanged;
}
