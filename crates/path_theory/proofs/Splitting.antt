-- A flat path is the run of its last frame, closed calls among its steps, on the frames below; and each run on open
-- frames is a path.
-- Both ways the state and the length stay. The case of a return closes the callee's run into one step of the caller's.
use Rattle.std.proofs.Common.{◌≡◌, ℕ, suc, ◌+◌, arith, Bool, false, refl, ◌∙◌, ap}
use Rattle.path_theory.specs.Model.{Model}
use Rattle.path_theory.specs.Supergraph.{Supergraph}
use Rattle.path_theory.specs.Callers.{Callers, Waiting}
use Rattle.path_theory.specs.Paths.{Path, Begin, Skip, Go, Call, Return, Now, after, after_go, after_call, after_return}
use Rattle.path_theory.specs.Runs.{Run, Here, Skipped, Gone, Closed}
use Rattle.path_theory.specs.OpenFrames.{OpenFrames, RootFrame, CalledFrame, now_after, at_entry}
use Rattle.path_theory.specs.PathLengths.{path_length, run_length, frames_length}

sums : (a b c : ℕ) → suc (suc (a + b) + c) ≡ a + suc (suc (b + c))
sums a b c = omega arith

more : {n : ℕ} (a b : ℕ) → n ≡ a + b → suc n ≡ a + suc b
more a b d = omega arith

at_zero : {n m : ℕ} → n ≡ m → suc n ≡ suc m + 0
at_zero d = omega arith

plus_zero : (n : ℕ) → n ≡ n + 0
plus_zero n = omega arith

plus_suc : (a b : ℕ) → suc (a + b) ≡ a + suc b
plus_suc a b = omega arith

closing : {d : ℕ} (a b c : ℕ) → d ≡ a + b → suc (suc d + c) ≡ a + suc (suc (b + c))
closing a b c d = omega arith

module _ (M : Model) (K : Supergraph M) where
  pub record Split {f : M.Fn} {k : Bool} {p : K.Place} {b : Callers M K} (P : Path M K f k p b) : Type 0 where
    pub opened : OpenFrames M K f k b
    pub run : Run M K f p
    pub state : after M K P ≡ now_after M K run k (at_entry M K opened)
    pub length : path_length M K P ≡ frames_length M K opened + run_length M K run

  -- the frame that a return comes to
  record Back {f h : M.Fn} {k l : Bool} {q r : K.Place} {b : Callers M K} {s : M.Site}
      (O : OpenFrames M K h l (Waiting f k s q b)) (C : Run M K h r) : Type 0 where
    opened : OpenFrames M K f k b
    run : Run M K f q
    state : after_return M K s (now_after M K C l (at_entry M K O)) ≡ now_after M K run k (at_entry M K opened)
    length : suc (frames_length M K O + run_length M K C) ≡ frames_length M K opened + run_length M K run

  back : {f h : M.Fn} {k l : Bool} {q r : K.Place} {b : Callers M K} {s : M.Site}
      (O : OpenFrames M K h l (Waiting f k s q b)) (C : Run M K h r)
      → K.Ends h r → Back O C
  back (CalledFrame O R s h t) C e = record { opened = O; run = Closed R s t C e; state = refl; length = sums (frames_length M K O) (run_length M K R) (run_length M K C) }

  -- each path splits
  pub split : {f : M.Fn} {k : Bool} {p : K.Place} {b : Callers M K} (P : Path M K f k p b) → Split P
  split (Begin r) = record { opened = RootFrame r; run = Here; state = refl; length = refl }
  split (Skip P t) = let w = split P in record { opened = w.opened; run = Skipped w.run t; state = w.state; length = w.length }
  split (Go {f = f} {k = k} P e t) = let w = split P in record { opened = w.opened; run = Gone w.run e t; state = ap (after_go M K e f k) w.state; length = more (frames_length M K w.opened) (run_length M K w.run) w.length }
  split (Call {f = f} {k = k} {q = q} P s h t) = let w = split P in record { opened = CalledFrame w.opened w.run s h t; run = Here; state = ap (after_call M K f k q s) w.state; length = at_zero w.length }
  split (Return s P e) =
      let w = split P in
      let v = back w.opened w.run e in
      record { opened = v.opened; run = v.run; state = ap (after_return M K s) w.state ∙ v.state; length = ap suc w.length ∙ v.length }

  -- a path with this state and length
  pub record Flat (f : M.Fn) (k : Bool) (p : K.Place) {b : Callers M K} (n : Now M K b) (l : ℕ) : Type 0 where
    pub path : Path M K f k p b
    pub state : after M K path ≡ n
    pub length : path_length M K path ≡ l

  -- a run behind a path
  run_on : {f : M.Fn} {k : Bool} {p : K.Place} {b : Callers M K} (P : Path M K f k (K.entry f) b) (R : Run M K f p)
      → Flat f k p (now_after M K R k (after M K P)) (path_length M K P + run_length M K R)
  run_on P Here = record { path = P; state = refl; length = plus_zero (path_length M K P) }
  run_on P (Skipped R t) = let w = run_on P R in record { path = Skip w.path t; state = w.state; length = w.length }
  run_on {f = f} {k = k} P (Gone R e t) = let w = run_on P R in record { path = Go w.path e t; state = ap (after_go M K e f k) w.state; length = ap suc w.length ∙ plus_suc (path_length M K P) (run_length M K R) }
  run_on {f = f} {k = k} P (Closed {h = h} {q = q} R s t C e) =
      let w = run_on P R in
      let v = run_on (Call w.path s h t) C in
      record {
        path = Return s v.path e;
        state = ap (after_return M K s) v.state ∙ ap (λ n. after_return M K s (now_after M K C false (after_call M K f k q s n))) w.state;
        length = ap suc v.length ∙ closing (path_length M K P) (run_length M K R) (run_length M K C) w.length;
      }

  to_entry : {f : M.Fn} {k : Bool} {b : Callers M K} (O : OpenFrames M K f k b)
      → Flat f k (K.entry f) (at_entry M K O) (frames_length M K O)
  to_entry (RootFrame r) = record { path = Begin r; state = refl; length = refl }
  to_entry (CalledFrame {f = f} {k = k} {q = q} O R s h t) =
      let w = to_entry O in
      let v = run_on w.path R in
      record { path = Call v.path s h t; state = ap (after_call M K f k q s) (v.state ∙ ap (now_after M K R k) w.state); length = ap suc (v.length ∙ ap (λ n. n + run_length M K R) w.length) }

  -- open frames and a run of the last one make a path
  pub flat : {f : M.Fn} {k : Bool} {p : K.Place} {b : Callers M K} (O : OpenFrames M K f k b) (R : Run M K f p)
      → Flat f k p (now_after M K R k (at_entry M K O)) (frames_length M K O + run_length M K R)
  flat {k = k} O R =
      let w = to_entry O in
      let v = run_on w.path R in
      record { path = v.path; state = v.state ∙ ap (now_after M K R k) w.state; length = v.length ∙ ap (λ n. n + run_length M K R) w.length }
