-- Lists that are made of numbered objects.
use Rattle.std.proofs.Common.{◌≡◌, ◌∙◌, sym, ap, refl, suc, ℕ, ◌+◌, ◌-◌, ◌<◌, nat_eq, Bool, true, false, cond, List, [], ◌∷◌, ◌++◌, length, get_or, take, Contains, Option, None, Some, arith, slice_get, append-nil, true≢false}
use Rattle.std.specs.List.{enumerate_from, filter_map, cons_option}
use Rattle.std.proofs.lemmas.List.{take_more}
use Rattle.std.proofs.lemmas.List.Elements.{filter_map-append}
use Rattle.std.proofs.lemmas.Option.{none-some}
use Rattle.block_flows.proofs.TupleFlows.Followed.{contains-in}
use Rattle.block_flows.proofs.TupleFlows.Lists.{contains-first, contains-later}
use Rattle.block_flows.specs.TupleFlows.Facts.{is_in}
use Rattle.block_flows.specs.TupleFlows.Moved.{AreObjects}
use Rattle.c_objects.specs.Objects.{Object}
use Rattle.numbered_program.proofs.EventTables.Untouched.{unmoved, untouched}
use Rattle.numbered_program.proofs.EventTables.LeftSides.{nothing_moves, some_moves}
use Rattle.numbered_program.specs.EventTables.ObjectIndex.{asked_for, has_variable, numbers_from, one_if}
use Rattle.numbered_program.specs.declared.event_tables.object_index.ObjectIndex.{ObjectIndex}
use Rattle.numbered_program.specs.declared.event_tables.object_index.ObjectIndex.TheVariants as kinds
use Rattle.numbered_program.specs.EventTables.Touched.{touched_at, touched_rows, touched_with}
use Rattle.numbered_program.specs.EventTables.Written.{written}
use Rattle.least_set.proofs.Growing.{at_place}
use Rattle.numbered_program.proofs.NumberedTuples.Numbers.{item_at}
use Rattle.path_model.specs.CheckerModel.Moves.{Move}
use Rattle.row_flows.specs.Numbers.{item_numbered}
use Rattle.type_rules.specs.Options.{◌>?◌}
use Rattle.type_rules.specs.Vars.{CVar}

module _ {B : Type 0} (F : ℕ × Object → Option B) where
  -- objects that give nothing
  pub none_given : (n : ℕ) (objects : List Object) → ((k : ℕ) (o : Object) → Contains objects o → F (k, o) ≡ None) → filter_map F (enumerate_from n objects) ≡ []
  none_given n [] f = refl
  none_given n (o ∷ objects) f =
      ap (λ z. cons_option z (filter_map F (enumerate_from (n + 1) objects))) (f n o (contains-first o objects))
      ∙ none_given (n + 1) objects (λ k x m. f k x (contains-later o x objects m))

  -- it is enough to ask those of which a test holds, by their numbers, if the others give nothing
  module _ (test : Object → Bool) (W : ℕ → Option B) where
    pub given_among : (n : ℕ) (objects : List Object) → ((i k : ℕ) (o : Object) → slice_get objects i ≡ Some o → k ≡ n + i → W k ≡ F (k, o))
        → ((k : ℕ) (o : Object) → Contains objects o → test o ≡ false → F (k, o) ≡ None) → filter_map W (numbers_from test n objects) ≡ filter_map F (enumerate_from n objects)
    given_among n [] same none = refl
    given_among n (o ∷ objects) same none =
        by (given_among (n + 1) objects (λ i k x e q. same (suc i) k x e (omega (arith, q))) (λ k x m h. none k x (contains-later o x objects m) h)) (test o) refl
      where
        by : filter_map W (numbers_from test (n + 1) objects) ≡ filter_map F (enumerate_from (n + 1) objects)
            → (b : Bool) → test o ≡ b → filter_map W (one_if b n ++ numbers_from test (n + 1) objects) ≡ cons_option (F (n, o)) (filter_map F (enumerate_from (n + 1) objects))
        by rest true e = ap (λ z. cons_option z (filter_map W (numbers_from test (n + 1) objects))) (same 0 n o refl (omega arith)) ∙ ap (cons_option (F (n, o))) rest
        by rest false e = rest ∙ sym (ap (λ z. cons_option z (filter_map F (enumerate_from (n + 1) objects))) (none n o (contains-first o objects) e))

module _ (depth : ℕ) (m : Option Move) (followed : List Object) where
  -- those of which a test holds have all rows, if the others have none
  pub rows_among : (test : Object → Bool) → ((k : ℕ) (o : Object) → Contains followed o → test o ≡ false → touched_at depth m followed (k, o) ≡ None)
      → filter_map (touched_with depth m followed) (numbers_from test 1 followed) ≡ touched_rows depth m followed
  rows_among test none = given_among (touched_at depth m followed) test (touched_with depth m followed) 1 followed
      (λ i k o e q. let place : k ≡ i + 1 = omega (arith, q) in ap (λ z. z >? λ x. touched_at depth m followed (k, x)) (item_at followed k i place ∙ e))
      none

  pub no_rows : ((k : ℕ) (o : Object) → Contains followed o → touched_at depth m followed (k, o) ≡ None) → touched_rows depth m followed ≡ []
  no_rows none = none_given (touched_at depth m followed) 1 followed none

-- one more of a list was gone through
module _ {A B : Type 0} (W : A → Option B) (xs : List A) (i : ℕ) (d : A) (old : List B) (within : i < length xs) (before : old ≡ filter_map W (take i xs)) where
  more : filter_map W (take (i + 1) xs) ≡ filter_map W (take i xs) ++ cons_option (W (get_or xs i d)) []
  more = ap (filter_map W) (take_more xs i d within) ∙ filter_map-append W (take i xs) (get_or xs i d ∷ [])

  pub filtered_more : (b : B) (new : List B) → W (get_or xs i d) ≡ Some b → new ≡ old ++ b ∷ [] → new ≡ filter_map W (take (i + 1) xs)
  filtered_more b new e p = p ∙ ap (λ z. z ++ b ∷ []) before ∙ sym (more ∙ ap (λ z. filter_map W (take i xs) ++ cons_option z []) e)

  pub filtered_past : W (get_or xs i d) ≡ None → old ≡ filter_map W (take (i + 1) xs)
  filtered_past e = before ∙ sym (more ∙ ap (λ z. filter_map W (take i xs) ++ cons_option z []) e ∙ append-nil (filter_map W (take i xs)))

-- an object that has a number is followed
pub numbered_in : (followed : List Object) (n : ℕ) (o : Object) → Some o ≡ item_numbered followed n → is_in followed o ≡ true
numbered_in followed n o e = contains-in followed o (by (nat_eq n 0) e)
  where
    by : (b : Bool) → Some o ≡ cond b None (slice_get followed (n - 1)) → Contains followed o
    by true k = absurd (none-some o (sym k))
    by false k = at_place followed (n - 1) o (sym k)

-- ---- the rows of a move are those of the objects with the variable to which it writes

-- an object for which an index has no number doesn't have the variable
unasked : (index : ObjectIndex) (v : CVar) (o : Object) → asked_for index v o ≡ false → has_variable v o ≡ false
unasked (kinds.All l) v o h = absurd (true≢false h)
unasked (kinds.ByVariable m) v o h = h

module _ (depth : ℕ) (followed : List Object) (are : AreObjects depth followed) where
  pub rows_written : (m : Option Move) (v : CVar) (index : ObjectIndex) → Some v ≡ written m → filter_map (touched_with depth m followed) (numbers_from (asked_for index v) 1 followed) ≡ touched_rows depth m followed
  rows_written m v index e =
      let s = some_moves m v e in
      rows_among depth m followed (asked_for index v)
      (λ k o c t. ap (λ z. touched_at depth z followed (k, o)) s.1 ∙ untouched depth followed o (contains-in followed o c) (are o c) s.0 k (ap (λ w. has_variable w o) (sym s.2) ∙ unasked index v o t))

  pub rows_unwritten : (m : Option Move) → None ≡ written m → touched_rows depth m followed ≡ []
  rows_unwritten m e = no_rows depth m followed (λ k o c. ap (λ z. touched_at depth z followed (k, o)) (nothing_moves m e) ∙ unmoved depth followed o (contains-in followed o c) (are o c) k)
