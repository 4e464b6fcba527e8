-- Moves and followed calls are listed one after the other.
use Rattle.std.proofs.Common.{arith, ◌≡◌, inl, inr, ℕ, ◌+◌, ◌<◌, List, [], ◌∷◌, ◌++◌, map, length, take, get_or, Contains, true, false, true≢false, Bor, None, Some, slice_get, refl, sym, ap, ◌∙◌, subst}
use Rattle.std.specs.Prelude.{is_some}
use Rattle.std.proofs.lemmas.List.{map-append}
use Rattle.std.proofs.lemmas.List.Elements.{Contains-push, Contains-push_cases}
use Rattle.std.proofs.lemmas.Option.{none-some, same_Some, slice_get_within}
use Rattle.least_set.specs.Logs.{IsExactly, Adds, SomeGives}
use Rattle.least_set.proofs.Growing.{nothing, same_place, before_or_at, adds_none, adds_same, adds_next, either, kept}
use Rattle.flow_graph.specs.declared.event.Event.{Event}
use Rattle.flow_graph.specs.Values.{event_of}
use Rattle.known_objects.specs.Listed.{call_in, AreNumbered, IsMoveAt, IsCallFrom}
use Rattle.known_objects.specs.declared.changes.Move.{Move}
use Rattle.known_objects.specs.declared.changes.Numbered.{Numbered}
use Rattle.objects.specs.Units.{facts_in}
use Rattle.path_model.specs.CheckerModel.Moves.{move_of}
use Rattle.relevant.specs.declared.relevant_objects.rows.FollowedCall.{FollowedCall}
use Rattle.relevant.specs.declared.relevant_objects.rows.FunctionRow.{FunctionRow}
use Rattle.typed_unit.specs.declared.typed_unit.TypedUnit.{TypedUnit}

-- ---- one more

module _ {A : Type 0} where
  pub one-pushed : (P : A → Type 0) (x : A) (old new : List A) → new ≡ old ++ (x ∷ []) → P x → ((y : A) → P y → x ≡ y) → Adds P old new
  one-pushed P x old new e p only = record {
    more = x ∷ [];
    whole = e;
    added = λ y q. subst (λ l. Contains l y) (sym e) (subst (Contains (old ++ (x ∷ []))) (only y q) (Contains-push old x));
    only = λ y h. elim (Contains-push_cases [] x y h) [ inl o ↦ absurd (nothing y o) | inr q ↦ subst P q p ];
  }

  -- of the next of a list
  pub next-pushed : {T : Type 0} (G : T → A → Type 0) (xs : List T) (i : ℕ) (x : T) (old mid new : List A) → i < length xs → x ≡ get_or xs i x → Adds (SomeGives G (take i xs)) old mid → Adds (G x) mid new → Adds (SomeGives G (take (i + 1) xs)) old new
  next-pushed G xs i x old mid new h e v w = adds_next G xs i x h v (subst (λ z. Adds (G z) mid new) e w)

  -- ---- of the row with a number

  abbrev pub OfRow : (FunctionRow → A → Type 0) → List FunctionRow → ℕ → A → Type 0
  OfRow P rows n x = (row : FunctionRow) × (slice_get rows n ≡ Some row) × P row x

  pub of-row : (P : FunctionRow → A → Type 0) (rows : List FunctionRow) (n : ℕ) (row : FunctionRow) (old new : List A) → slice_get rows n ≡ Some row → Adds (P row) old new → Adds (OfRow P rows n) old new
  of-row P rows n row old new at v = adds_same v
      (λ x p. (row, at, p))
      (λ x h. subst (λ (r : FunctionRow). P r x) (same_Some h.0 row (sym h.1 ∙ at)) h.2)

  pub of-no-row : (P : FunctionRow → A → Type 0) (rows : List FunctionRow) (n : ℕ) (old : List A) → slice_get rows n ≡ None → Adds (OfRow P rows n) old old
  of-no-row P rows n old none = adds_none old (λ x h. none-some h.0 (sym none ∙ h.1))

  -- ---- of the first numbers, so many

  abbrev pub OfFirst : (ℕ → A → Type 0) → ℕ → A → Type 0
  OfFirst Q count x = (n : ℕ) × (n < count) × Q n x

  pub first-none : (Q : ℕ → A → Type 0) → IsExactly [] (OfFirst Q 0)
  first-none Q = (λ x h. absurd (nothing x h), λ x h. let below = h.1 in absurd (omega (arith, below)))

  pub first-next : (Q : ℕ → A → Type 0) (i : ℕ) (old new : List A) → Adds (Q i) old new → IsExactly old (OfFirst Q i) → IsExactly new (OfFirst Q (i + 1))
  first-next Q i old new v all = (
    λ x h. elim (either v x h) [ inl o ↦ let s = all.0 x o in let below = s.1 in (s.0, omega (arith, below), s.2) | inr p ↦ (i, omega arith, p) ],
    λ x h. elim (before_or_at i h.0 h.1) [ inl l ↦ kept v x (all.1 x (h.0, l, h.2)) | inr e ↦ v.added x (subst (λ n. Q n x) e h.2) ],
  )

-- a call with its number
pub call-pushed : (n : ℕ) (k : FollowedCall) (x : Numbered) (old new : List Numbered) → k.caller ≡ n → x.call ≡ k → new ≡ old ++ (x ∷ []) → Adds (IsCallFrom n k) (map call_in old) (map call_in new)
call-pushed n k x old new from same e =
    one-pushed (IsCallFrom n k) k (map call_in old) (map call_in new)
    (ap (map call_in) e ∙ map-append call_in old (x ∷ []) ∙ ap (λ (z : FollowedCall). map call_in old ++ (z ∷ [])) same)
    (from, refl)
    (λ y h. h.1)

pub call-elsewhere : (n : ℕ) (k : FollowedCall) (old : List FollowedCall) → (k.caller ≡ n → ⊥) → Adds (IsCallFrom n k) old old
call-elsewhere n k old away = adds_none old (λ y h. away h.0)

-- ---- numbers

last : (calls : List Numbered) (x : Numbered) → slice_get (calls ++ (x ∷ [])) (length calls) ≡ Some x
last [] x = refl
last (y ∷ calls) x = last calls x

pub none-numbered : AreNumbered []
none-numbered x h = absurd (nothing x h)

pub numbered-push : (old new : List Numbered) (x : Numbered) → AreNumbered old → x.number ≡ length old → new ≡ old ++ (x ∷ []) → AreNumbered new
numbered-push old new x all e pushed y h =
    subst (λ l. slice_get l y.number ≡ Some y) (sym pushed) (elim (Contains-push_cases old x y (subst (λ l. Contains l y) pushed h)) [
      | inl o ↦ same_place old (x ∷ []) y.number (slice_get_within old y.number y (all y o)) ∙ all y o
      | inr q ↦ subst (λ (z : Numbered). slice_get (old ++ (x ∷ [])) z.number ≡ Some z) q (ap (λ k. slice_get (old ++ (x ∷ [])) k) e ∙ last old x)
    ])

-- an event that writes over something, and one that doesn't
pub move-pushed : (depth n : ℕ) (unit : Bor TypedUnit) (e : Event) (old new : List Move) → is_some (move_of (facts_in unit.now) depth (event_of e)) ≡ true → new ≡ old ++ (record { function = n; event = e; unit = unit } ∷ []) → Adds (IsMoveAt depth n unit e) old new
move-pushed depth n unit e old new moves pushed = one-pushed (IsMoveAt depth n unit e) (record { function = n; event = e; unit = unit }) old new pushed (moves, refl) (λ y h. h.1)

pub nothing-moved : (depth n : ℕ) (unit : Bor TypedUnit) (e : Event) (old : List Move) → is_some (move_of (facts_in unit.now) depth (event_of e)) ≡ false → Adds (IsMoveAt depth n unit e) old old
nothing-moved depth n unit e old none = adds_none old (λ y h. true≢false (sym h.0 ∙ none))
