-- Sets that are made of lists: an object after the other, and a set after the other.
use Rattle.std.proofs.Common.{◌≡◌, inl, inr, ℕ, ◌+◌, ◌<◌, ◌≤◌, List, [], ◌∷◌, ◌++◌, map, length, take, get_or, Contains, sym, ap, subst, ◌∙◌}
use Rattle.std.proofs.lemmas.List.{map_more, map_push, take_all, take_more}
use Rattle.std.proofs.lemmas.List.Elements.{Contains-append_left, Contains-push, Contains-push_cases}
use Rattle.std.specs.List.{AllZip}
use Rattle.indexmap.specs.IndexSet.{insert_key}
use Rattle.c_objects.specs.Objects.{Object}
use Rattle.function_tables.proofs.OneByOne.{zip-push}
use Rattle.least_set.specs.Logs.{Adds, IsExactly}
use Rattle.least_set.proofs.Growing.{adds_one, either, kept}
use Rattle.objects.specs.Equality.{same_object, same_object-true}

-- the keys are exactly the objects of the list
abbrev pub HasExactly : List Object → List Object → Type 0
HasExactly keys objects = IsExactly keys (Contains objects)

-- ---- an object after the other

module _ (xs : List Object) where
  pub set_begun : (keys : List Object) → keys ≡ [] → HasExactly keys (take 0 xs)
  set_begun keys e = subst (λ (l : List Object). HasExactly l []) (sym e) ((λ o h. h), (λ o h. h))

  pub set_more : (i : ℕ) (x : Object) (old new : List Object) → i < length xs → x ≡ get_or xs i x → new ≡ insert_key same_object old x
      → HasExactly old (take i xs) → HasExactly new (take (i + 1) xs)
  set_more i x old new within is grew h =
      let more : take (i + 1) xs ≡ take i xs ++ (x ∷ []) = take_more xs i x within ∙ ap (λ (z : Object). take i xs ++ (z ∷ [])) (sym is) in
      let adds : Adds (λ o. x ≡ o) old new = subst (Adds (λ o. x ≡ o) old) (sym grew) (adds_one same_object same_object-true old x) in
      subst (HasExactly new) (sym more) (
        λ o k. elim (either adds o k) [
          | inl w ↦ Contains-append_left (take i xs) (x ∷ []) o (h.0 o w)
          | inr q ↦ subst (Contains (take i xs ++ (x ∷ []))) q (Contains-push (take i xs) x)
        ],
        λ o k. elim (Contains-push_cases (take i xs) x o k) [
          | inl w ↦ kept adds o (h.1 o w)
          | inr q ↦ adds.added o q
        ],
      )

  pub set_whole : (i : ℕ) (keys : List Object) → length xs ≤ i → HasExactly keys (take i xs) → HasExactly keys xs
  set_whole i keys past h = subst (HasExactly keys) (take_all i xs past) h

-- ---- a set after the other

module _ {V W : Type 0} (keys : V → List Object) (items : W → List Object) (lists : List W) where
  pub sets_begun : (sets : List V) → sets ≡ [] → AllZip HasExactly (map keys sets) (map items (take 0 lists))
  sets_begun sets e = subst (λ (l : List V). AllZip HasExactly (map keys l) []) (sym e) tt

  pub sets_more : (i : ℕ) (list : W) (set : V) (old new : List V) → i < length lists → list ≡ get_or lists i list → new ≡ old ++ (set ∷ [])
      → HasExactly (keys set) (items list) → AllZip HasExactly (map keys old) (map items (take i lists))
      → AllZip HasExactly (map keys new) (map items (take (i + 1) lists))
  sets_more i list set old new within is grew has before =
      let left : map keys new ≡ map keys old ++ (keys set ∷ []) = ap (map keys) grew ∙ map_push keys old set in
      let right : map items (take (i + 1) lists) ≡ map items (take i lists) ++ (items list ∷ []) =
      map_more items lists i list within ∙ ap (λ (z : W). map items (take i lists) ++ (items z ∷ [])) (sym is) in
      subst (λ (l : List (List Object)). AllZip HasExactly l (map items (take (i + 1) lists))) (sym left)
      (subst (AllZip HasExactly (map keys old ++ (keys set ∷ []))) (sym right) (zip-push HasExactly (map keys old) (map items (take i lists)) (keys set) (items list) before has))

  pub sets_whole : (i : ℕ) (sets : List V) → length lists ≤ i → AllZip HasExactly (map keys sets) (map items (take i lists)) → AllZip HasExactly (map keys sets) (map items lists)
  sets_whole i sets past h = subst (λ (l : List W). AllZip HasExactly (map keys sets) (map items l)) (take_all i lists past) h
