-- Objects that haven't got the variable to which an event writes keep their states.
use Rattle.std.proofs.Common.{◌≡◌, ◌∙◌, sym, ap, refl, Bool, true, false, cond, not, ◌&&◌, ◌||◌, true≢false, ℕ, List, Option, None, Some}
use Rattle.block_flows.proofs.TupleFlows.Followed.{from-some}
use Rattle.block_flows.specs.TupleFlows.Facts.{is_in}
use Rattle.block_flows.specs.TupleFlows.Moved.{source_in}
use Rattle.c_objects.proofs.Plain.{if-object}
use Rattle.c_objects.proofs.Vars.{same_var-true, same_var-refl}
use Rattle.c_objects.specs.Objects.{Object, IsObject, is_indexed_by, same_var}
use Rattle.c_objects.specs.Paths.{behind, has_access, rest}
use Rattle.numbered_program.specs.EventTables.ObjectIndex.{has_variable}
use Rattle.numbered_program.specs.EventTables.Touched.{touched_at, touched_from}
use Rattle.masked_paths.specs.StrictFlows.Among.{if_followed, of_followed}
use Rattle.numbered_program.proofs.NumberedTuples.Numbers.{no_number}
use Rattle.numbered_program.specs.NumberedTuples.FollowedObjects.{number_of, row_of}
use Rattle.objects.specs.Equality.{same_object, same_object-refl, same_object-true}
use Rattle.path_model.specs.CheckerModel.Moves.{Move, copied, indexes, is_bare, source, source_of, under}
use Rattle.row_flows.specs.declared.rows.Touched.{Touched}
use Rattle.type_rules.specs.Options.{if_there, ◌>?◌}
use Rattle.type_rules.specs.Vars.{CVar}

neither : (a b : Bool) → (a || b) ≡ false → (a ≡ false) × (b ≡ false)
neither false b h = (refl, h)
neither true b h = absurd (true≢false h)

never : (a b : Bool) → b ≡ false → (a && b) ≡ false
never true b h = h
never false b h = refl

pub other_var : (a b : CVar) → same_var a b ≡ false → same_var b a ≡ false
other_var a b h = by (same_var b a) refl
  where
    by : (t : Bool) → same_var b a ≡ t → t ≡ false
    by false e = refl
    by true e = absurd (true≢false (sym (same_var-refl b) ∙ ap (λ v. same_var v b) (same_var-true b a e) ∙ h))

module _ (depth : ℕ) (followed : List Object) (o : Object) (there : is_in followed o ≡ true) where
  -- the row of an object that keeps its state
  pub no_row : (m : Option Move) (n : ℕ) → source_in depth m followed o ≡ Some o → touched_at depth m followed (n, o) ≡ None
  no_row m n e = ap (touched_from followed n o) e ∙ ap (λ b. cond b None (Some (row_of n (number_of followed o)))) (same_object-refl o)

  kept : (m : Option Move) (n : ℕ) → source depth m o ≡ Some o → touched_at depth m followed (n, o) ≡ None
  kept m n e = no_row m n (from-some followed followed o (source depth m o) o there there e)

  module _ (is : IsObject depth o) where
    -- where nothing moves
    pub unmoved : (n : ℕ) → touched_at depth None followed (n, o) ≡ None
    unmoved n = kept None n (if-object depth o is)

    -- and where the variable is another
    pub untouched : (m : Move) (n : ℕ) → has_variable m.to.base o ≡ false → touched_at depth (Some m) followed (n, o) ≡ None
    untouched m n h = kept (Some m) n (ap (λ z. z >? source_of depth m) (if-object depth o is) ∙ stays)
      where
        apart : (same_var o.base m.to.base ≡ false) × (is_indexed_by o.selectors m.to.base ≡ false)
        apart = neither (same_var o.base m.to.base) (is_indexed_by o.selectors m.to.base) h

        no_rest : rest o m.to ≡ None
        no_rest = ap (λ b. cond b (behind m.to.selectors o.selectors) None) (other_var o.base m.to.base apart.0)

        outside : under m.to o ≡ None
        outside = ap (λ z. z >? λ r. cond (not o.address || has_access r) (Some r) None) no_rest

        no_index : indexes m.to o.selectors ≡ false
        no_index = never (is_bare m.to.selectors) (is_indexed_by o.selectors m.to.base) apart.1

        stays : source_of depth m o ≡ Some o
        stays = ap (λ u. if_there u (cond (indexes m.to o.selectors) None (Some o)) (copied depth m o)) outside ∙ ap (λ b. cond b None (Some o)) no_index

-- ---- the row of a followed object by its source

module _ (depth : ℕ) (m : Option Move) (followed : List Object) (n : ℕ) (o : Object) (there : is_in followed o ≡ true) where
  abbrev row_with : Bool → Option Object → Option Touched
  row_with b z = touched_from followed n o (of_followed b (if_followed (is_in followed) z))

  by_source : (z : Option Object) → source depth m o ≡ z → touched_at depth m followed (n, o) ≡ touched_from followed n o (if_followed (is_in followed) z)
  by_source z e = ap (row_with (is_in followed o)) e ∙ ap (λ b. row_with b z) there

  pub row_of_itself : source depth m o ≡ Some o → None ≡ touched_at depth m followed (n, o)
  row_of_itself e = sym (no_row depth followed o there m n (from-some followed followed o (source depth m o) o there there e))

  pub row_of_none : source depth m o ≡ None → Some (row_of n 0) ≡ touched_at depth m followed (n, o)
  row_of_none e = sym (by_source None e)

  -- a source that isn't followed is another object, and has the number 0
  pub row_of_some : (s : Object) → source depth m o ≡ Some s → touched_from followed n o (Some s) ≡ touched_at depth m followed (n, o)
  row_of_some s e = sym (by_source (Some s) e ∙ by (is_in followed s) refl)
    where
      other : (t : Bool) → same_object s o ≡ t → is_in followed s ≡ false → t ≡ false
      other false h k = refl
      other true h k = absurd (true≢false (sym there ∙ ap (is_in followed) (sym (same_object-true s o h)) ∙ k))

      by : (b : Bool) → is_in followed s ≡ b → touched_from followed n o (cond b (Some s) None) ≡ touched_from followed n o (Some s)
      by true h = refl
      by false h = sym (
          ap (λ t. cond t None (Some (row_of n (number_of followed s)))) (other (same_object s o) refl h)
          ∙ ap (λ k. Some (row_of n k)) (no_number same_object followed s h))
