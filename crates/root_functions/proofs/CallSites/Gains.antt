-- What a list gains: the values that stand in it behind a step.
use Rattle.std.proofs.Common.{◌≡◌, ◌⊎◌, inl, inr, ⊎_elim, List, [], ◌∷◌, ◌++◌, Contains, sym, subst}
use Rattle.std.proofs.lemmas.List.Elements.{Contains-append_left, Contains-push, Contains-push_cases}

-- the value is in the list behind if it was in the one before, or if P holds, and only then
pub record Gains {A : Type 0} (a : A) (before behind : List A) (P : Type 0) : Type 0 where
  pub cases : Contains behind a → Contains before a ⊎ P
  pub kept : Contains before a → Contains behind a
  pub new : P → Contains behind a

module _ {A : Type 0} {a : A} where
  pub nothing : {xs : List A} {P : Type 0} → (P → ⊥) → Gains a xs xs P
  nothing never = record { cases = inl; kept = λ h. h; new = λ p. absurd (never p) }

  in_either : (xs ys : List A) {P Q : Type 0} → (Contains ys a → Contains xs a ⊎ P) → Contains ys a ⊎ Q → Contains xs a ⊎ (P ⊎ Q)
  in_either xs ys f (inl y) = ⊎_elim inl (λ p. inr (inl p)) (f y)
  in_either xs ys f (inr q) = inr (inr q)

  pub in_turn : {xs ys zs : List A} {P Q : Type 0} → Gains a xs ys P → Gains a ys zs Q → Gains a xs zs (P ⊎ Q)
  in_turn {xs} {ys} f g = record { cases = λ h. in_either xs ys f.cases (g.cases h); kept = λ h. g.kept (f.kept h); new = ⊎_elim (λ p. g.kept (f.new p)) g.new }

  pub by_same : {xs ys : List A} {P Q : Type 0} → Gains a xs ys P → (P → Q) → (Q → P) → Gains a xs ys Q
  by_same f to back = record { cases = λ h. ⊎_elim inl (λ p. inr (to p)) (f.cases h); kept = f.kept; new = λ q. f.new (back q) }

  pub pushed : (xs : List A) (b : A) → Gains a xs (xs ++ (b ∷ [])) (a ≡ b)
  pushed xs b = record {
    cases = λ h. ⊎_elim inl (λ e. inr (sym e)) (Contains-push_cases xs b a h);
    kept = Contains-append_left xs (b ∷ []) a;
    new = λ e. subst (λ x. Contains (xs ++ (b ∷ [])) x) (sym e) (Contains-push xs b);
  }
