-- Where files that hold the same bytes are read, they have at most one first fault, and none where all are without fault. Two ways are
-- compared of saying which bytes a file holds, `H` and `K`: they never differ on one file.
use Rattle.std.proofs.Common.{◌≡◌, ◌⊎◌, inl, inr, ℕ, zero, suc, ◌<◌, List, [], ◌∷◌, length, Some, slice_get, refl, sym, ap, ◌∙◌, subst, arith}
use Rattle.std.proofs.lemmas.Bool.{cases_order}
use Rattle.mx_base.specs.Names.{HasNoRepeats}
use Rattle.request_files.specs.Faults.{Located}
use Rattle.request_files.specs.Turns.{Turn}
use Rattle.request_files.specs.Faults.{Before, HasFault}
use Rattle.request_files.specs.Reading.{Agree, IsSound, IsTurn, AreSoundFrom, AreSound, FaultyAt, UnsoundAt, at_first}
use Rattle.request_files.proofs.Unique.NamesStay.{none_once}
use Rattle.request_files.proofs.Unique.OneFile.{one_next, next_once, sound_or_faulty, one_fault_of}

some_is : {A : Type 0} (x y : A) → Some x ≡ Some y → x ≡ y
some_is x y h = cc

once_behind : (us : List Turn) (xs : List (List ℕ)) (b e : Before) → HasNoRepeats b.names → AreSoundFrom b us xs e → HasNoRepeats e.names
once_behind [] [] b e once x = subst (λ (u : Before). HasNoRepeats u.names) (sym x) once
once_behind (u ∷ us) [] b e once x = subst (λ (u : Before). HasNoRepeats u.names) (sym x) once
once_behind [] (w ∷ xs) b e once x = absurd x
once_behind (u ∷ us) (w ∷ xs) b e once (m, x, xx) = once_behind us xs m e (next_once b u w once m x) xx

-- a position of a turn is one of them
within : (us : List Turn) (n : ℕ) (t : Turn) → slice_get us n ≡ Some t → n < length us
within [] n t e = cc
within (u ∷ us) zero t e = omega arith
within (u ∷ us) (suc n) t e = let h = within us n t e in omega (arith, h)

module _ (H K : List ℕ → List ℕ → Type 0) (meet : (w x y : List ℕ) → H w x → K w y → x ≡ y) where
  -- as many files hold the same bytes, and leave the same
  pub one_run : (ts : List Turn) (xs ys : List (List ℕ)) (b e f : Before) → HasNoRepeats b.names → Agree H ts xs → Agree K ts ys
      → AreSoundFrom b ts xs e → AreSoundFrom b ts ys f → length xs ≡ length ys → (xs ≡ ys) × (e ≡ f)
  one_run [] [] [] b e f once p q x y n = (refl, x ∙ sym y)
  one_run (t ∷ ts) [] [] b e f once p q x y n = (refl, x ∙ sym y)
  one_run [] [] (z ∷ ys) b e f once p q x y n = absurd q
  one_run [] (w ∷ xs) ys b e f once p q x y n = absurd p
  one_run (t ∷ ts) [] (z ∷ ys) b e f once p q x y n = absurd (omega (arith, n))
  one_run (t ∷ ts) (w ∷ xs) [] b e f once p q x y n = absurd (omega (arith, n))
  one_run (t ∷ ts) (w ∷ xs) (z ∷ ys) b e f once p q (m, x, xx) (o, y, yy) n =
      let s : w ≡ z = meet t.word w z p.0 q.0 in
      let x2 : IsSound b t z m = subst (λ u. IsSound b t u m) s x in
      let r : m ≡ o = one_next b t z once m o x2 y in
      let xx2 : AreSoundFrom o ts xs e = subst (λ (u : Before). AreSoundFrom u ts xs e) r xx in
      let i = one_run ts xs ys o e f (next_once b t z once o y) p.1 q.1 xx2 yy (omega (arith, n)) in
      (ap (λ u. u ∷ xs) s ∙ ap (λ us. z ∷ us) i.0, i.1)

  -- where more files are without fault, the next of the fewer is
  next_sound : (ts : List Turn) (xs ys : List (List ℕ)) (b e f : Before) (t : Turn) (bytes : List ℕ) → HasNoRepeats b.names → Agree H ts xs → Agree K ts ys
      → AreSoundFrom b ts xs e → AreSoundFrom b ts ys f → length xs < length ys → slice_get ts (length xs) ≡ Some t → H t.word bytes → (next : Before) × IsSound e t bytes next
  next_sound [] [] [] b e f t bytes once p q x y n at s = absurd (omega (arith, n))
  next_sound (u ∷ ts) [] [] b e f t bytes once p q x y n at s = absurd (omega (arith, n))
  next_sound [] [] (z ∷ ys) b e f t bytes once p q x y n at s = absurd q
  next_sound [] (w ∷ xs) ys b e f t bytes once p q x y n at s = absurd p
  next_sound (u ∷ ts) (w ∷ xs) [] b e f t bytes once p q x y n at s = absurd (omega (arith, n))
  next_sound (u ∷ ts) [] (z ∷ ys) b e f t bytes once p q x (o, y, yy) n at s =
      let v : u ≡ t = some_is u t at in
      let z1 : K t.word z = subst (λ (a : Turn). K a.word z) v q.0 in
      let r : bytes ≡ z = meet t.word bytes z s z1 in
      let y1 : IsSound b t z o = subst (λ (a : Turn). IsSound b a z o) v y in
      let y2 : IsSound e t z o = subst (λ (a : Before). IsSound a t z o) (sym x) y1 in
      (o, subst (λ a. IsSound e t a o) (sym r) y2)
  next_sound (u ∷ ts) (w ∷ xs) (z ∷ ys) b e f t bytes once p q (m, x, xx) (o, y, yy) n at s =
      let c : w ≡ z = meet u.word w z p.0 q.0 in
      let x2 : IsSound b u z m = subst (λ a. IsSound b u a m) c x in
      let r : m ≡ o = one_next b u z once m o x2 y in
      let xx2 : AreSoundFrom o ts xs e = subst (λ (a : Before). AreSoundFrom a ts xs e) r xx in
      next_sound ts xs ys o e f t bytes (next_once b u z once o y) p.1 q.1 xx2 yy (omega (arith, n)) at s

  sound_turn : (ts : List Turn) (p : ℕ) (contents : List (List ℕ)) (end : Before) (x : IsTurn H at_first ts p) (bytes : List ℕ) → H x.turn.word bytes → AreSound K at_first ts contents end → p < length contents
      → (next : Before) × IsSound x.here x.turn bytes next
  sound_turn ts p contents end x bytes h s n =
      next_sound ts x.contents contents at_first x.here end x.turn bytes none_once x.before.agree s.agree x.before.sound s.sound (let c = x.count in omega (arith, c, n)) (ap (slice_get ts) x.count ∙ x.is) h

  -- the first fault doesn't stand before files without fault
  not_before : (ts : List Turn) (p : ℕ) (l : Located) (contents : List (List ℕ)) (end : Before) → FaultyAt H at_first ts p l → AreSound K at_first ts contents end → p < length contents → ⊥
  not_before ts p l contents end a s h =
      let x = a.is_turn in
      let n = sound_turn ts p contents end x a.bytes a.holds s h in
      sound_or_faulty x.here x.turn a.bytes (once_behind ts x.contents at_first x.here none_once x.before.sound) n.0 l n.1 a.faulty

  -- NEVER BOTH: where all files of the turns are without fault, none has the first
  pub all_sound : (ts : List Turn) (contents : List (List ℕ)) (end : Before) (p : ℕ) (l : Located) → FaultyAt H at_first ts p l → AreSound K at_first ts contents end → length contents ≡ length ts → ⊥
  all_sound ts contents end p l a s n = let w = within ts p a.is_turn.turn a.is_turn.is in not_before ts p l contents end a s (omega (arith, w, n))

  -- and none isn't sound
  pub none_unsound : (ts : List Turn) (contents : List (List ℕ)) (end : Before) (p : ℕ) → UnsoundAt H at_first ts p → AreSound K at_first ts contents end → length contents ≡ length ts → ⊥
  none_unsound ts contents end p a s n =
      let w = within ts p a.is_turn.turn a.is_turn.is in
      let x = sound_turn ts p contents end a.is_turn a.bytes a.holds s (omega (arith, w, n)) in
      a.unsound x.0 x.1

module _ (H K : List ℕ → List ℕ → Type 0) (meet : (w x y : List ℕ) → H w x → K w y → x ≡ y) where
  same_turn : (ts : List Turn) (p q : ℕ) (l m : Located) → FaultyAt H at_first ts p l → FaultyAt K at_first ts q m → p ≡ q → l ≡ m
  same_turn ts p q l m a b e =
      let x = a.is_turn in
      let y = b.is_turn in
      let r = one_run H K meet ts x.contents y.contents at_first x.here y.here none_once x.before.agree y.before.agree x.before.sound y.before.sound (x.count ∙ e ∙ sym y.count) in
      let t : x.turn ≡ y.turn = some_is x.turn y.turn (sym x.is ∙ ap (slice_get ts) e ∙ y.is) in
      let s1 : H y.turn.word a.bytes = subst (λ (u : Turn). H u.word a.bytes) t a.holds in
      let c : a.bytes ≡ b.bytes = meet y.turn.word a.bytes b.bytes s1 b.holds in
      let h1 : HasFault y.here x.turn a.bytes l = subst (λ (u : Before). HasFault u x.turn a.bytes l) r.1 a.faulty in
      let h2 : HasFault y.here y.turn a.bytes l = subst (λ (u : Turn). HasFault y.here u a.bytes l) t h1 in
      let h3 : HasFault y.here y.turn b.bytes l = subst (λ u. HasFault y.here y.turn u l) c h2 in
      one_fault_of y.here y.turn b.bytes (once_behind ts y.contents at_first y.here none_once y.before.sound) l m h3 b.faulty

  -- ONE FIRST FAULT
  pub one_first : (ts : List Turn) (p q : ℕ) (l m : Located) → FaultyAt H at_first ts p l → FaultyAt K at_first ts q m → l ≡ m
  one_first ts p q l m a b = by (cases_order p q)
    where
      by : (p ≡ q) ⊎ ((p < q) ⊎ (q < p)) → l ≡ m
      by (inl e) = same_turn ts p q l m a b e
      by (inr (inl h)) =
          let y = b.is_turn in
          absurd (not_before H K meet ts p l y.contents y.here a y.before (let c = y.count in omega (arith, c, h)))
      by (inr (inr h)) =
          let x = a.is_turn in
          absurd (not_before K H (λ w x y k h. sym (meet w y x h k)) ts q m x.contents x.here b x.before (let c = x.count in omega (arith, c, h)))
