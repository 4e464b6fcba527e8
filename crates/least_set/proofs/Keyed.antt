-- Lists by key.
use Rattle.std.proofs.Common.{◌≡◌, Bool, true, false, cond, refl, sym, ap, ◌∙◌, subst, [], ◌∷◌, ◌++◌, List, Contains, Option, Some, inl, inr, ◌⊎◌}
use Rattle.std.specs.Prelude.{Vec}
use Rattle.std.proofs.lemmas.List.Elements.{Contains-append_left, Contains-push, Contains-push_cases}
use Rattle.least_set.specs.Indexes.{items_of, Extends}
use Rattle.least_set.proofs.Growing.{nothing}

module _ {K T A : Type 0} (eq : K → K → Bool) (same : (x y : K) → eq x y ≡ true → x ≡ y) (itself : (x : K) → eq x x ≡ true)
    (old new : K → Option (Vec T A)) (key : K) (x : T) (w : Vec T A) where
  -- one value more at the key
  pub extends_push : w.items ≡ items_of (old key) ++ x ∷ [] → ((q : K) → new q ≡ cond (eq key q) (Some w) (old q))
      → Extends (λ k y. (key ≡ k) × (x ≡ y)) (λ k. items_of (old k)) (λ k. items_of (new k))
  extends_push d u = record {
    kept = λ k y h. elim (cases k) [ inl e ↦ subst (λ l. Contains l y) (sym e.1) (Contains-append_left (items_of (old k)) (x ∷ []) y h) | inr e ↦ subst (λ l. Contains l y) (sym e) h ];
    added = λ k y h. elim (cases k) [
      | inl e ↦ subst (λ l. Contains l y) (sym e.1) (subst (Contains (items_of (old k) ++ x ∷ [])) h.1 (Contains-push (items_of (old k)) x))
      | inr e ↦ subst (λ q. Contains (items_of (new q)) y) h.0 (subst (λ l. Contains l y) (sym here) (subst (Contains (items_of (old key) ++ x ∷ [])) h.1 (Contains-push (items_of (old key)) x)))
    ];
    only = λ k y h. elim (cases k) [
      | inl e ↦ elim (Contains-push_cases (items_of (old k)) x y (subst (λ l. Contains l y) e.1 h)) [ inl p ↦ inl p | inr p ↦ inr (e.0, p) ]
      | inr e ↦ inl (subst (λ l. Contains l y) e h)
    ];
  }
    where
      here : items_of (new key) ≡ items_of (old key) ++ x ∷ []
      here = ap items_of (u key ∙ ap (λ b. cond b (Some w) (old key)) (itself key)) ∙ d

      cases : (k : K) → ((key ≡ k) × (items_of (new k) ≡ items_of (old k) ++ x ∷ [])) ⊎ (items_of (new k) ≡ items_of (old k))
      cases k = by (eq key k) refl
        where
          by : (b : Bool) → eq key k ≡ b → ((key ≡ k) × (items_of (new k) ≡ items_of (old k) ++ x ∷ [])) ⊎ (items_of (new k) ≡ items_of (old k))
          by true e = inl (same key k e, subst (λ q. items_of (new q) ≡ items_of (old q) ++ x ∷ []) (same key k e) here)
          by false e = inr (ap items_of (u k ∙ ap (λ b. cond b (Some w) (old k)) e))

-- one more value of a list is kept
module _ {K T X : Type 0} (P : X → K → T → Type 0) where
  abbrev pub Given : List X → K → T → Type 0
  Given xs k t = (x : X) × Contains xs x × P x k t

  pub extends_nothing : (old : K → List T) → Extends (Given []) old old
  extends_nothing old = record { kept = λ k t m. m; added = λ k t m. absurd (nothing m.0 m.1); only = λ k t m. inl m }

  pub extends_more : (xs : List X) (x : X) {old mid new : K → List T} → Extends (Given xs) old mid → Extends (P x) mid new → Extends (Given (xs ++ x ∷ [])) old new
  extends_more xs x v w = record {
    kept = λ k t m. w.kept k t (v.kept k t m);
    added = λ k t m. elim (Contains-push_cases xs x m.0 m.1) [ inl o ↦ w.kept k t (v.added k t (m.0, o, m.2)) | inr q ↦ w.added k t (subst (λ y. P y k t) (sym q) m.2) ];
    only = λ k t m. elim (w.only k t m) [
      | inl o ↦ elim (v.only k t o) [ inl p ↦ inl p | inr p ↦ inr (p.0, Contains-append_left xs (x ∷ []) p.0 p.1, p.2) ]
      | inr q ↦ inr (x, Contains-push xs x, q)
    ];
  }
