-- The table that is filled has each node's type and variable, since the numbers differ.
use Rattle.std.proofs.Common.{◌≡◌, ℕ, zero, suc, List, [], ◌∷◌, Option, None, Some, inl, inr, Bool, true, false, Result, Ok, Err, ap, refl, ◌∙◌, sym, subst}
use Rattle.std.specs.Option.{option_map}
use Rattle.type_rules.specs.Definition.{behind_parts, after, Meeting, Out, meetings_then, meetings_all_then, Cell, Table, at, is_kept, HasCell, AreRight}
use Rattle.type_rules.specs.Faults.{Fault}
use Rattle.type_rules.specs.Moves.{opened}
use Rattle.type_rules.specs.Options.{ok, unless_fault, ◌>>=◌}
use Rattle.type_rules.specs.Order.{visited, visited_all, put, put_found, put_kept, fill, fill_all}
use Rattle.type_rules.specs.Parts.{Slot, Visit, visit, Parts, none, part}
use Rattle.type_rules.specs.Roles.{Role, given}
use Rattle.type_rules.specs.Rows.{row, entry_fault, keeps, var_of}
use Rattle.type_rules.specs.Scopes.{Scopes}
use Rattle.type_rules.specs.Types.{CType}
use Rattle.type_rules.specs.Unit.{IsIn, IsInSome, Differ, DifferAll}
use Rattle.type_rules.specs.Vars.{CVar}
use Rattle.type_rules.proofs.First.{visited-ok}

at-put : (i : ℕ) (x : Cell) (table : Table) → at i (put i x table) ≡ Some x
at-put zero x [] = refl
at-put zero x (y ∷ ys) = refl
at-put (suc i) x [] = at-put i x []
at-put (suc i) x (y ∷ ys) = at-put i x ys

at-put_elsewhere : (j i : ℕ) (x : Cell) (table : Table) → (j ≡ i → ⊥) → at j (put i x table) ≡ at j table
at-put_elsewhere zero zero x table h = absurd (h refl)
at-put_elsewhere zero (suc i) x [] h = refl
at-put_elsewhere zero (suc i) x (y ∷ ys) h = refl
at-put_elsewhere (suc j) zero x [] h = refl
at-put_elsewhere (suc j) zero x (y ∷ ys) h = refl
at-put_elsewhere (suc j) (suc i) x [] h = at-put_elsewhere j i x [] (λ e. h (ap suc e))
at-put_elsewhere (suc j) (suc i) x (y ∷ ys) h = at-put_elsewhere j i x ys (λ e. h (ap suc e))

at-found_elsewhere : (j i : ℕ) (var : Option CVar) (found : Result CType Fault) (table : Table) → (j ≡ i → ⊥) → at j (put_found i var found table) ≡ at j table
at-found_elsewhere j i var (Ok t) table h = at-put_elsewhere j i (record { ty = t; var = var }) table h
at-found_elsewhere j i var (Err e) table h = refl

at-kept_elsewhere : (b : Bool) (j i : ℕ) (var : Option CVar) (found : Result CType Fault) (table : Table) → (j ≡ i → ⊥) → at j (put_kept b i var found table) ≡ at j table
at-kept_elsewhere true j i var found table h = at-found_elsewhere j i var found table h
at-kept_elsewhere false j i var found table h = refl

at-kept : (b : Bool) (i : ℕ) (var : Option CVar) (found : Result CType Fault) (t : CType) (table : Table) → b ≡ true → found ≡ Ok t → at i (put_kept b i var found table) ≡ Some (record { ty = t; var = var })
at-kept true i var (Ok u) t table h e = let k : u ≡ t = cc in at-put i (record { ty = u; var = var }) table ∙ ap (λ x. Some (record { ty = x; var = var })) k
at-kept true i var (Err f) t table h e = cc
at-kept false i var found t table h e = cc

-- what isn't the number of a node keeps its cell
mutual
  pub kept : (v : Scopes) (r : Role) (e : Visit) (table : Table) (j : ℕ) → (IsIn j e → ⊥) → at j (fill v r e table) ≡ at j table
  kept v r (visit i p s es) table j h =
      at-kept_elsewhere (keeps (behind_parts v r s es) r s) j i (var_of v (behind_parts v r s es) r s) (visited v r (visit i p s es)) (fill_all (given v r) (opened v r s) es table) (λ e. h (inl e))
      ∙ kept_all (given v r) (opened v r s) es table j (λ k. h (inr k))

  pub kept_all : (roles : Slot → Role) (v : Scopes) (es : Parts) (table : Table) (j : ℕ) → (IsInSome j es → ⊥) → at j (fill_all roles v es table) ≡ at j table
  kept_all roles v none table j h = refl
  kept_all roles v (part slot e es) table j h =
      kept_all roles (after v (roles slot) e) es (fill v (roles slot) e table) j (λ k. h (inr k))
      ∙ kept v (roles slot) e table j (λ k. h (inl k))

pub both : (a : Result CType Fault) (b : Result (List CType) Fault) (ts : List CType) → (a >>= λ t. b >>= λ us. Ok (t ∷ us)) ≡ Ok ts → ((t : CType) × (a ≡ Ok t)) × ((us : List CType) × (b ≡ Ok us))
both (Ok t) (Ok us) ts h = ((t, refl), (us, refl))
both (Ok t) (Err e) ts h = cc
both (Err e) b ts h = cc

pub parts-fine : {A B : Type 0} (f : Option Fault) (a : Result A Fault) (k : A → Result B Fault) (y : B) → unless_fault f (a >>= k) ≡ Ok y → (x : A) × (a ≡ Ok x)
parts-fine None (Ok x) k y h = (x, refl)
parts-fine None (Err e) k y h = cc
parts-fine (Some f) a k y h = cc

-- A later table that agrees at the numbers of a node is right at all its places.
mutual
  pub filled : (v : Scopes) (r : Role) (e : Visit) (t : CType) (table final : Table) (xs : List Meeting) → Differ e → visited v r e ≡ Ok t → ((j : ℕ) → IsIn j e → at j final ≡ at j (fill v r e table)) → AreRight final xs → AreRight final (meetings_then v r e xs)
  filled v r (visit i p s es) t table final xs d h agrees rest =
      let us : (us : List CType) × (visited_all (given v r) (opened v r s) es ≡ Ok us) = parts-fine (entry_fault v s) (visited_all (given v r) (opened v r s) es) (λ ts. row v (behind_parts v r s es) r p s ts) t h in
      let below = fill_all (given v r) (opened v r s) es table in
      let b = keeps (behind_parts v r s es) r s in
      let var = var_of v (behind_parts v r s es) r s in
      let here : is_kept v r (visit i p s es) ≡ true → HasCell final v r (visit i p s es) = λ k.
      agrees i (inl refl) ∙ at-kept b i var (visited v r (visit i p s es)) t below k h
      ∙ ap (option_map (λ u. record { ty = u; var = var })) (sym (ap ok h) ∙ visited-ok v r (visit i p s es)) in
      let inside : (j : ℕ) → IsInSome j es → at j final ≡ at j below = λ j k.
      agrees j (inr k) ∙ at-kept_elsewhere b j i var (visited v r (visit i p s es)) below (λ e. d.0 (subst (λ (n : ℕ). IsInSome n es) e k)) in
      (tt, filled_all (given v r) (opened v r s) es us.0 table final (Out v r (visit i p s es) ∷ xs) d.1 us.1 inside (here, rest))

  pub filled_all : (roles : Slot → Role) (v : Scopes) (es : Parts) (ts : List CType) (table final : Table) (xs : List Meeting) → DifferAll es → visited_all roles v es ≡ Ok ts → ((j : ℕ) → IsInSome j es → at j final ≡ at j (fill_all roles v es table)) → AreRight final xs → AreRight final (meetings_all_then roles v es xs)
  filled_all roles v none ts table final xs d h agrees rest = rest
  filled_all roles v (part slot e es) ts table final xs d h agrees rest =
      let w = after v (roles slot) e in
      let split : ((t : CType) × (visited v (roles slot) e ≡ Ok t)) × ((us : List CType) × (visited_all roles w es ≡ Ok us)) = both (visited v (roles slot) e) (visited_all roles w es) ts h in
      let next = fill v (roles slot) e table in
      filled v (roles slot) e split.0.0 table final (meetings_all_then roles w es xs) d.0 split.0.1
      (λ j k. agrees j (inl k) ∙ kept_all roles w es next j (d.1 j k))
      (filled_all roles w es split.1.0 next final xs d.2 split.1.1 (λ j k. agrees j (inr k)) rest)
