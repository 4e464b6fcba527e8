-- One value is worked off.
use Rattle.std.proofs.Common.{◌≡◌, ◌↔◌, ℕ, Result, Ok, Err, IfOk, List, Contains, Some, length, refl, sym, ◌∙◌, subst, slice_get, ◌⊎◌, inl, inr}
use Rattle.std.proofs.lemmas.Option.{same_Some}
use Rattle.least_set.specs.Logs.{IsExactly, SomeGives, Adds}
use Rattle.least_set.specs.Indexes.{Extends, AllBelow}
use Rattle.least_set.specs.TwoPremises.{Answers, Enters, Kept, Met, Gives, GivesNext, GivesAnswer, GivesWoken, Processed}
use Rattle.least_set.specs.declared.two_premises.Entered.{Entered}
use Rattle.least_set.specs.declared.two_premises.Wait.{Wait}
use Rattle.least_set.proofs.Growing.{adds_both, stays}

-- what the value at a place of the log gives by itself
pub enters : {M K W E : Type 0} (Goes : M → M → Type 0) (Waits : M → K → W → Type 0) (Ends : M → K → Type 0) (r : Result (Entered M K W) E) (log : List M) (place : ℕ) (e : M) → slice_get log place ≡ Some e
    → IfOk r (λ v. IsExactly v.next.items (Goes e)) → IfOk r (λ v. IsExactly v.waits.items (λ w. Waits e w.on w.waiter)) → IfOk r (λ v. (k : K) → (v.end ≡ Some k) ↔ Ends e k)
    → IfOk r (λ v. (e : M) × (slice_get log place ≡ Some e) × Enters Goes Waits Ends e v)
enters Goes Waits Ends (Ok v) log place e is goes waits ends = (e, is, record { next = goes; waits = waits; end = ends })
enters Goes Waits Ends (Err x) log place e is goes waits ends = tt

module _ {M K W : Type 0} (Goes : M → M → Type 0) (Waits : M → K → W → Type 0) (Ends : M → K → Type 0) (Wakes : W → M → M → Type 0)
    (i : ℕ) (e : M) (next : List M) (waits : List (Wait K W)) (goes : IsExactly next (Goes e)) (all_wait : IsExactly waits (λ w. Waits e w.on w.waiter))
    (old l₁ l₂ new : List M) (W₀ W₁ : K → List W) (D₀ D₁ : K → List ℕ) (below : AllBelow (length old) D₀)
    (a₁ : Adds (Contains next) old l₁) (a₂ : Adds (Answers Wakes l₁ D₀ waits) l₁ l₂) (x : Extends (Kept waits) W₀ W₁) where
  waiters : Extends (Waits e) W₀ W₁
  waiters = record {
    kept = x.kept;
    added = λ k w p. x.added k w (record { on = k; waiter = w }, all_wait.1 (record { on = k; waiter = w }) p, (refl, refl));
    only = λ k w m. elim (x.only k w m) [
      | inl o ↦ inl o
      | inr q ↦ inr (subst (λ k. Waits e k w) q.2.0 (subst (Waits e q.0.on) q.2.1 (all_wait.0 q.0 q.1)))
    ];
  }

  -- what an end at a place of the log before gives
  to_first : (k : K) (w : W) (j : ℕ) (c : M) → Contains (D₀ k) j → Met Wakes old w j c → Met Wakes l₁ w j c
  to_first k w j c m s = (s.0, stays a₁ j (below k j m) ∙ s.1, s.2)

  of_first : (k : K) (w : W) (j : ℕ) (c : M) → Contains (D₀ k) j → Met Wakes l₁ w j c → Met Wakes old w j c
  of_first k w j c m s = (s.0, sym (stays a₁ j (below k j m)) ∙ s.1, s.2)

  answered : (k : K) (w : W) (j : ℕ) (c : M) → Waits e k w → Contains (D₀ k) j → Met Wakes old w j c → Answers Wakes l₁ D₀ waits c
  answered k w j c q m s = (record { on = k; waiter = w }, all_wait.1 (record { on = k; waiter = w }) q, (j, m, to_first k w j c m s))

  gives_next : (c : M) → Contains next c → Gives Goes Waits Ends Wakes old W₁ D₀ e c
  gives_next c m = GivesNext (goes.0 c m)

  gives_answer : (c : M) → Answers Wakes l₁ D₀ waits c → Gives Goes Waits Ends Wakes old W₁ D₀ e c
  gives_answer c s =
      let w = s.0 in
      let t = s.2 in
      GivesAnswer w.on w.waiter t.0 (all_wait.0 w s.1) t.1 (of_first w.on w.waiter t.0 c t.1 t.2)

  -- it is no end
  pub processed_inside : ((k : K) → Ends e k → ⊥) → Processed Goes Waits Ends Wakes i e old l₂ W₀ W₁ D₀ D₀
  processed_inside no_end = record {
    members = adds_both a₁ a₂
        (λ c g. elim g [ GivesNext s ↦ inl (goes.1 c s) | GivesAnswer k w j q m s ↦ inr (answered k w j c q m s) | GivesWoken k w l m s ↦ absurd (no_end k l) ])
        gives_next
        gives_answer;
    waiters = waiters;
    ends = record { kept = λ k j m. m; added = λ k j m. absurd (no_end k m.0); only = λ k j m. inl m };
  }

  -- it is an end of the context
  pub processed_end : (context : K) → Ends e context → ((k : K) → Ends e k → context ≡ k) → slice_get l₂ i ≡ Some e → (ws : List W) → ws ≡ W₁ context
      → Adds (SomeGives (λ w. Met Wakes l₂ w i) ws) l₂ new → Extends (λ k j. (context ≡ k) × (i ≡ j)) D₀ D₁ → Processed Goes Waits Ends Wakes i e old new W₀ W₁ D₀ D₁
  processed_end context is_end one is ws same a₃ y = record {
    members = adds_both a₁ (adds_both {R = λ c. Answers Wakes l₁ D₀ waits c ⊎ woken c} a₂ a₃ (λ c s. s) (λ c s. inl s) (λ c s. inr s))
        (λ c g. elim g [
          | GivesNext s ↦ inl (goes.1 c s)
          | GivesAnswer k w j q m s ↦ inr (inl (answered k w j c q m s))
          | GivesWoken k w l m s ↦ inr (inr (w, subst (λ l. Contains l w) (sym same) (subst (λ q. Contains (W₁ q) w) (sym (one k l)) m), (e, is, s)))
        ])
        gives_next
        (λ c s. elim s [
          | inl p ↦ gives_answer c p
          | inr p ↦ let t = p.2 in GivesWoken context p.0 is_end (subst (λ l. Contains l p.0) same p.1) (subst (λ b. Wakes p.0 b c) (same_Some _ _ (sym t.1 ∙ is)) t.2)
        ]);
    waiters = waiters;
    ends = record {
      kept = y.kept;
      added = λ k j m. y.added k j (one k m.0, m.1);
      only = λ k j m. elim (y.only k j m) [ inl o ↦ inl o | inr q ↦ inr (subst (Ends e) q.0 is_end, q.1) ];
    };
  }
    where
      woken : M → Type 0
      woken = SomeGives (λ w. Met Wakes l₂ w i) ws
