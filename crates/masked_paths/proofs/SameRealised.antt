-- Where a family is closed, the mask realises of it exactly what paths realise without one.
use Rattle.std.proofs.Common.{◌≡◌, ◌↔◌, Bool, sym, ◌∙◌, ap}
use Rattle.path_theory.specs.Model.{Model}
use Rattle.path_theory.specs.Supergraph.{Supergraph}
use Rattle.path_theory.specs.Callers.{Callers}
use Rattle.path_theory.specs.Origins.{Origins, IsLocal}
use Rattle.path_theory.specs.Runs.{Run, origin}
use Rattle.path_theory.specs.OpenFrames.{OpenFrames, at_entry}
use Rattle.path_theory.specs.Facts.{NoObject, HasObject, Fact, fact_of, IsFollowed}
use Rattle.path_theory.specs.Relevant.{IsClosed}
use Rattle.path_theory.specs.Realised.{IsTracked, Realised}
use Rattle.path_theory.proofs.SmallFacts.{fact_of_same}
use Rattle.masked_paths.specs.Masked.{Mask, kept, masked, masked_origins, masked_supergraph}
use Rattle.masked_paths.proofs.MaskedRuns.{run_in, run_out, in_out, frames_in}
use Rattle.masked_paths.proofs.SameStates.{same_behind, same_entry}
use Rattle.masked_paths.proofs.SamePaths.{run_back, global_back, frames_back}
use Rattle.masked_paths.proofs.ClosedFamilies.{enough_of_closed, same_origin}

module _ (M : Model) (K : Supergraph M) (L : Origins M) (I : IsLocal M L) (a : Mask M) (Q : IsClosed M K L (kept M a)) where
  abbrev N : Model
  N = masked M L a

  abbrev J : Supergraph N
  J = masked_supergraph M L a K

  tracked_in : {f : M.Fn} {k : Bool} {p : K.Place} {b : Callers M K} (O : OpenFrames M K f k b) (R : Run M K f p) (t₀ t : Fact M)
      → IsFollowed M (kept M a) f t
      → IsTracked M K L R k (at_entry M K O).global (at_entry M K O).here t₀ t
      → IsTracked N J (masked_origins M L a) (run_in M L a K R) k (at_entry N J (frames_in M L a K O)).global (at_entry N J (frames_in M L a K O)).here t₀ t
  tracked_in O R t₀ NoObject i w = w
  tracked_in O R t₀ (HasObject o x) i w =
      let E = enough_of_closed M K L I (kept M a) Q in (
        (same_behind M L I a K E O R).map o ∙ w.0,
        w.1
            ∙ sym (fact_of_same (origin M K L R o) _ _ (λ b d. (same_entry M L I a K E O).here b))
            ∙ ap (λ z. fact_of z (at_entry N J (frames_in M L a K O)).here) (sym (same_origin M K L I a Q R o i)),
      )

  tracked_out : {f : M.Fn} {k : Bool} {p : K.Place} {b : Callers M K} {c : Callers N J} (O : OpenFrames M K f k b) (U : OpenFrames N J f k c)
      (R : Run N J f p) (t₀ t : Fact M)
      → (at_entry N J U).global ≡ (at_entry M K O).global → ((o : M.Obj) → (at_entry N J U).here o ≡ (at_entry M K O).here o)
      → IsFollowed M (kept M a) f t
      → IsTracked N J (masked_origins M L a) R k (at_entry N J U).global (at_entry N J U).here t₀ t
      → IsTracked M K L (run_out M L a K R) k (at_entry M K O).global (at_entry M K O).here t₀ t
  tracked_out O U R t₀ NoObject d h i w = w
  tracked_out O U R t₀ (HasObject o x) d h i w =
      let E = enough_of_closed M K L I (kept M a) Q in
      let same : origin N J (masked_origins M L a) R o ≡ origin M K L (run_out M L a K R) o =
      ap (λ S. origin N J (masked_origins M L a) S o) (sym (in_out M L a K R)) ∙ same_origin M K L I a Q (run_out M L a K R) o i in (
        sym (run_back M L I a K E O R (at_entry N J U).global (at_entry N J U).here d h o) ∙ w.0,
        w.1 ∙ ap (λ z. fact_of z (at_entry N J U).here) same ∙ fact_of_same (origin M K L (run_out M L a K R) o) _ _ (λ b e. h b),
      )

  realised_in : {f : M.Fn} {k : Bool} {g₀ g : M.Global} {t₀ : Fact M} (t : Fact M) {p : K.Place} → IsFollowed M (kept M a) f t
      → Realised M K L f k g₀ t₀ p g t → Realised N J (masked_origins M L a) f k g₀ t₀ p g t
  realised_in {t₀ = t₀} t i w =
      let E = enough_of_closed M K L I (kept M a) Q in
      record {
        below = _;
        opened = frames_in M L a K w.opened;
        run = run_in M L a K w.run;
        entry = (same_entry M L I a K E w.opened).global ∙ w.entry;
        global = (same_behind M L I a K E w.opened w.run).global ∙ w.global;
        tracked = tracked_in w.opened w.run t₀ t i w.tracked;
      }

  realised_out : {f : M.Fn} {k : Bool} {g₀ g : M.Global} {t₀ : Fact M} (t : Fact M) {p : K.Place} → IsFollowed M (kept M a) f t
      → Realised N J (masked_origins M L a) f k g₀ t₀ p g t → Realised M K L f k g₀ t₀ p g t
  realised_out {t₀ = t₀} t i w =
      let E = enough_of_closed M K L I (kept M a) Q in
      let v = frames_back M L I a K E w.opened in
      record {
        below = _;
        opened = v.opened;
        run = run_out M L a K w.run;
        entry = sym v.global ∙ w.entry;
        global = sym (global_back M L I a K E v.opened w.run (at_entry N J w.opened).global v.global) ∙ w.global;
        tracked = tracked_out v.opened w.opened w.run t₀ t v.global v.here i w.tracked;
      }

  -- of what is followed the mask realises exactly what is realised without it
  pub same_realised : (f : M.Fn) (k : Bool) (g₀ : M.Global) (t₀ : Fact M) (p : K.Place) (g : M.Global) (t : Fact M)
      → IsFollowed M (kept M a) f t → Realised N J (masked_origins M L a) f k g₀ t₀ p g t ↔ Realised M K L f k g₀ t₀ p g t
  same_realised f k g₀ t₀ p g t i = (realised_out t i, realised_in t i)
