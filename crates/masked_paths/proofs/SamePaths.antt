-- Each path has one under the mask that ends in the same state, after as many steps, and the other way round.
use Rattle.std.proofs.Common.{◌≡◌, suc, ◌+◌, Bool, refl, sym, ◌∙◌, ap, ap₂, subst}
use Rattle.path_theory.specs.Model.{Model, Map}
use Rattle.path_theory.specs.Supergraph.{Supergraph}
use Rattle.path_theory.specs.Callers.{Callers, NoCaller}
use Rattle.path_theory.specs.Paths.{Now, Path}
use Rattle.path_theory.specs.Origins.{Origins, IsLocal}
use Rattle.path_theory.specs.Runs.{Run, run_global, run_map}
use Rattle.path_theory.specs.OpenFrames.{OpenFrames, RootFrame, CalledFrame, at_entry}
use Rattle.path_theory.specs.PathLengths.{run_length, frames_length}
use Rattle.path_theory.proofs.Splitting.{split, flat}
use Rattle.masked_paths.specs.Masked.{Mask, kept, masked, CallsAt, masked_supergraph}
use Rattle.masked_paths.specs.Enough.{IsEnough}
use Rattle.masked_paths.specs.States.{BelowAlike, Masked, Unmasked}
use Rattle.masked_paths.proofs.MaskedRuns.{run_in, run_out, in_out, frames_in, same_global, same_length, same_frames_length}
use Rattle.masked_paths.proofs.SameStates.{Agree, same_call, same_run, same_entry, same_behind}

module _ (M : Model) (L : Origins M) (I : IsLocal M L) (a : Mask M) (K : Supergraph M) (E : IsEnough M K L (kept M a)) where
  abbrev N : Model
  N = masked M L a

  abbrev J : Supergraph N
  J = masked_supergraph M L a K

  -- frames below that are alike, by states that are these
  below_of : (f : M.Fn) {b : Callers M K} {c : Callers N J} {m n : Now M K b} {x y : Now N J c} → m ≡ n → x ≡ y
      → BelowAlike M L a K f b n.below c y.below → BelowAlike M L a K f b m.below c x.below
  below_of f {b = b} {c = c} {m = m} {y = y} d e w =
      subst (λ z. BelowAlike M L a K f b m.below c z.below) (sym e) (subst (λ z. BelowAlike M L a K f b z.below c y.below) (sym d) w)

  -- a path has one under the mask
  pub masked_path : {f : M.Fn} {k : Bool} {p : K.Place} {b : Callers M K} (P : Path M K f k p b) → Masked M L a K P
  masked_path {f = f} P =
      let s = split M K P in
      let v = flat N J (frames_in M L a K s.opened) (run_in M L a K s.run) in
      let w = same_behind M L I a K E s.opened s.run in
      record {
        below = _;
        path = v.path;
        same = record {
          global = ap (λ n. n.global) v.state ∙ w.global ∙ ap (λ n. n.global) (sym s.state);
          here = λ o. ap (λ n. n.here o) v.state ∙ w.map o ∙ ap (λ n. n.here o) (sym s.state);
          below = below_of f s.state v.state (same_entry M L I a K E s.opened).below;
          length = v.length ∙ ap₂ (λ x y. x + y) (same_frames_length M L a K s.opened) (same_length M L a K s.run) ∙ sym s.length;
        };
      }

  -- a run under the mask, from maps that agree
  pub run_back : {f : M.Fn} {k : Bool} {p : K.Place} {b : Callers M K} (O : OpenFrames M K f k b) (R : Run N J f p)
      (i : M.Global) (n : Map M)
      → i ≡ (at_entry M K O).global → Agree M L I a K E n (at_entry M K O).here
      → Agree M L I a K E (run_map N J R k i n) (run_map M K (run_out M L a K R) k (at_entry M K O).global (at_entry M K O).here)
  run_back {k = k} O R i n d h o =
      ap (λ g. run_map N J R k g n o) d
      ∙ ap (λ Q. run_map N J Q k (at_entry M K O).global n o) (sym (in_out M L a K R))
      ∙ same_run M L I a K E O (run_out M L a K R) n h o

  pub global_back : {f : M.Fn} {k : Bool} {p : K.Place} {b : Callers M K} (O : OpenFrames M K f k b) (R : Run N J f p)
      (i : M.Global)
      → i ≡ (at_entry M K O).global
      → run_global N J R k i ≡ run_global M K (run_out M L a K R) k (at_entry M K O).global
  global_back {k = k} O R i d =
      ap (run_global N J R k) d
      ∙ ap (λ Q. run_global N J Q k (at_entry M K O).global) (sym (in_out M L a K R))
      ∙ same_global M L a K (run_out M L a K R) k (at_entry M K O).global

  length_back : {f : M.Fn} {p : K.Place} (R : Run N J f p) → run_length N J R ≡ run_length M K (run_out M L a K R)
  length_back R = ap (run_length N J) (sym (in_out M L a K R)) ∙ same_length M L a K (run_out M L a K R)

  -- the open frames of a path under the mask
  pub record FramesBack {f : M.Fn} {k : Bool} {c : Callers N J} (O : OpenFrames N J f k c) : Type 0 where
    pub below : Callers M K
    pub opened : OpenFrames M K f k below
    pub global : (at_entry N J O).global ≡ (at_entry M K opened).global
    pub here : Agree M L I a K E (at_entry N J O).here (at_entry M K opened).here
    pub alike : BelowAlike M L a K f below (at_entry M K opened).below c (at_entry N J O).below
    pub length : frames_length N J O ≡ frames_length M K opened

  pub frames_back : {f : M.Fn} {k : Bool} {c : Callers N J} (O : OpenFrames N J f k c) → FramesBack O
  frames_back (RootFrame r) = record { below = NoCaller; opened = RootFrame r; global = refl; here = λ o. refl; alike = tt; length = refl }
  frames_back (CalledFrame {k = k} O R s h (CallsAt {s = d} t)) =
      let w = frames_back O in
      record {
        below = _;
        opened = CalledFrame w.opened (run_out M L a K R) d h t;
        global = global_back w.opened R (at_entry N J O).global w.global;
        here = same_call M L I a K E w.opened (run_out M L a K R) d t (run_map N J R k (at_entry N J O).global (at_entry N J O).here) (run_back w.opened R (at_entry N J O).global (at_entry N J O).here w.global w.here);
        alike = (refl, refl, refl, refl, run_back w.opened R (at_entry N J O).global (at_entry N J O).here w.global w.here, w.alike);
        length = ap₂ (λ x y. suc (x + y)) w.length (length_back R);
      }

  -- a path under the mask has one without it
  pub unmasked_path : {f : M.Fn} {k : Bool} {p : K.Place} {c : Callers N J} (Q : Path N J f k p c) → Unmasked M L a K Q
  unmasked_path {f = f} Q =
      let s = split N J Q in
      let w = frames_back s.opened in
      let v = flat M K w.opened (run_out M L a K s.run) in
      record {
        below = _;
        path = v.path;
        same = record {
          global = ap (λ n. n.global) s.state ∙ global_back w.opened s.run (at_entry N J s.opened).global w.global ∙ ap (λ n. n.global) (sym v.state);
          here = λ o. ap (λ n. n.here o) s.state ∙ run_back w.opened s.run (at_entry N J s.opened).global (at_entry N J s.opened).here w.global w.here o ∙ ap (λ n. n.here o) (sym v.state);
          below = below_of f v.state s.state w.alike;
          length = s.length ∙ ap₂ (λ x y. x + y) w.length (length_back s.run) ∙ sym v.length;
        };
      }
