-- A mask changes no global state: whatever it follows, each path has one under it that comes to the same place with the same global
-- state, and each path under it has one without it. Nothing is asked of the mask, since no global state depends on an object.
use Rattle.std.proofs.Common.{◌≡◌, suc, ◌+◌, Bool, refl, sym, ◌∙◌, ap, ap₂}
use Rattle.path_theory.specs.Model.{Model}
use Rattle.path_theory.specs.Supergraph.{Supergraph}
use Rattle.path_theory.specs.Callers.{Callers, NoCaller}
use Rattle.path_theory.specs.Paths.{Path}
use Rattle.path_theory.specs.Origins.{Origins}
use Rattle.path_theory.specs.Runs.{Run, run_global}
use Rattle.path_theory.specs.OpenFrames.{OpenFrames, RootFrame, CalledFrame, at_entry}
use Rattle.path_theory.specs.PathLengths.{run_length, frames_length}
use Rattle.path_theory.proofs.Splitting.{split, flat}
use Rattle.masked_paths.specs.Masked.{Mask, masked, CallsAt, masked_supergraph}
use Rattle.masked_paths.specs.SameGlobals.{MaskedGlobal, UnmaskedGlobal}
use Rattle.masked_paths.proofs.MaskedRuns.{run_in, run_out, in_out, frames_in, same_global, same_length, same_frames_length}

module _ (M : Model) (L : Origins M) (a : Mask M) (K : Supergraph M) where
  abbrev N : Model
  N = masked M L a

  abbrev J : Supergraph N
  J = masked_supergraph M L a K

  -- the global state in which a frame is entered
  pub same_entry_global : {f : M.Fn} {k : Bool} {b : Callers M K} (O : OpenFrames M K f k b)
      → (at_entry N J (frames_in M L a K O)).global ≡ (at_entry M K O).global
  same_entry_global (RootFrame r) = refl
  same_entry_global (CalledFrame {k = k} O R s h t) =
      ap (run_global N J (run_in M L a K R) k) (same_entry_global O) ∙ same_global M L a K R k (at_entry M K O).global

  -- and behind a run of it
  pub same_global_behind : {f : M.Fn} {k : Bool} {p : K.Place} {b : Callers M K} (O : OpenFrames M K f k b) (R : Run M K f p)
      → run_global N J (run_in M L a K R) k (at_entry N J (frames_in M L a K O)).global ≡ run_global M K R k (at_entry M K O).global
  same_global_behind {k = k} O R = ap (run_global N J (run_in M L a K R) k) (same_entry_global O) ∙ same_global M L a K R k (at_entry M K O).global

  -- a path has one under the mask
  pub masked_global : {f : M.Fn} {k : Bool} {p : K.Place} {b : Callers M K} (P : Path M K f k p b) → MaskedGlobal M L a K P
  masked_global P =
      let s = split M K P in
      let v = flat N J (frames_in M L a K s.opened) (run_in M L a K s.run) in
      record {
        below = _;
        path = v.path;
        global = ap (λ n. n.global) v.state ∙ same_global_behind s.opened s.run ∙ ap (λ n. n.global) (sym s.state);
        length = v.length ∙ ap₂ (λ x y. x + y) (same_frames_length M L a K s.opened) (same_length M L a K s.run) ∙ sym s.length;
      }

  -- the open frames of a path under the mask
  record FramesOut {f : M.Fn} {k : Bool} {c : Callers N J} (O : OpenFrames N J f k c) : Type 0 where
    below : Callers M K
    opened : OpenFrames M K f k below
    global : (at_entry N J O).global ≡ (at_entry M K opened).global
    length : frames_length N J O ≡ frames_length M K opened

  global_out : {f : M.Fn} {p : K.Place} (R : Run N J f p) (k : Bool) (g : M.Global)
      → run_global N J R k g ≡ run_global M K (run_out M L a K R) k g
  global_out R k g = ap (λ Q. run_global N J Q k g) (sym (in_out M L a K R)) ∙ same_global M L a K (run_out M L a K R) k g

  length_out : {f : M.Fn} {p : K.Place} (R : Run N J f p) → run_length N J R ≡ run_length M K (run_out M L a K R)
  length_out R = ap (run_length N J) (sym (in_out M L a K R)) ∙ same_length M L a K (run_out M L a K R)

  frames_out : {f : M.Fn} {k : Bool} {c : Callers N J} (O : OpenFrames N J f k c) → FramesOut O
  frames_out (RootFrame r) = record { below = NoCaller; opened = RootFrame r; global = refl; length = refl }
  frames_out (CalledFrame {k = k} O R s h (CallsAt {s = d} t)) =
      let w = frames_out O in
      record {
        below = _;
        opened = CalledFrame w.opened (run_out M L a K R) d h t;
        global = ap (run_global N J R k) w.global ∙ global_out R k (at_entry M K w.opened).global;
        length = ap₂ (λ x y. suc (x + y)) w.length (length_out R);
      }

  -- a path under the mask has one without it
  pub unmasked_global : {f : M.Fn} {k : Bool} {p : K.Place} {c : Callers N J} (Q : Path N J f k p c) → UnmaskedGlobal M L a K Q
  unmasked_global {k = k} Q =
      let s = split N J Q in
      let w = frames_out s.opened in
      let v = flat M K w.opened (run_out M L a K s.run) in
      record {
        below = _;
        path = v.path;
        global =
            ap (λ n. n.global) s.state
            ∙ ap (run_global N J s.run k) w.global
            ∙ global_out s.run k (at_entry M K w.opened).global
            ∙ ap (λ n. n.global) (sym v.state);
        length = s.length ∙ ap₂ (λ x y. x + y) w.length (length_out s.run) ∙ sym v.length;
      }
