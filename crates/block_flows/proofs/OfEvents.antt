-- The rules of a list of events, where it is gone over.
use Rattle.std.proofs.Common.{◌≡◌, ℕ, zero, suc, ◌+◌, ◌<◌, ◌≤◌, List, [], ◌∷◌, length, get_or, drop, refl, sym, subst, arith}
use Rattle.state_tuples.specs.declared.applied_rules.rules.EventRules.{EventRules}
use Rattle.state_tuples.specs.AppliedRules.Events.{AreOfEvent}
use Rattle.block_flows.specs.Events.{AreOfEvents}
use Rattle.path_model.specs.CheckerModel.Happenings.{Function, Happening}
use Rattle.metal_tree.specs.MetalMachines.Machine.{Machine}

module _ (m : Machine) (depth : ℕ) (f : Function) where
  -- the next event, and the rules of it
  pub at-event : (hs : List Happening) (rs : List EventRules) (i : ℕ) (r : EventRules) → AreOfEvents m depth f hs rs → i < length rs → r ≡ get_or rs i r
      → (h : Happening) × (drop i hs ≡ h ∷ drop (i + 1) hs) × AreOfEvent m depth h f r
  at-event [] [] i r a l is = absurd (omega arith)
  at-event [] (x ∷ rs) i r a l is = absurd a
  at-event (h ∷ hs) [] i r a l is = absurd a
  at-event (h ∷ hs) (x ∷ rs) zero r a l is =
      let one : zero + 1 ≡ suc zero = omega arith in
      (h, subst (λ z. h ∷ hs ≡ h ∷ drop z (h ∷ hs)) (sym one) refl, subst (AreOfEvent m depth h f) (sym is) a.0)
  at-event (h ∷ hs) (x ∷ rs) (suc i) r a l is =
      let b = at-event hs rs i r a.1 (omega arith) is in
      let one : suc i + 1 ≡ suc (i + 1) = omega arith in
      (b.0, subst (λ z. drop i hs ≡ b.0 ∷ drop z (h ∷ hs)) (sym one) b.1, b.2)

  -- behind the last one
  pub none-left : (hs : List Happening) (rs : List EventRules) (i : ℕ) → AreOfEvents m depth f hs rs → length rs ≤ i → drop i hs ≡ []
  none-left [] [] zero a l = refl
  none-left [] [] (suc i) a l = refl
  none-left [] (x ∷ rs) i a l = absurd a
  none-left (h ∷ hs) [] i a l = absurd a
  none-left (h ∷ hs) (x ∷ rs) zero a l = absurd (omega arith)
  none-left (h ∷ hs) (x ∷ rs) (suc i) a l = none-left hs rs i a.1 (omega arith)
