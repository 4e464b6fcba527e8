-- Where a family is enough, the reports with the mask are exactly those without it, and paths take them in the same numbers
-- of steps.
use Rattle.std.proofs.Common.{◌≡◌, ◌↔◌, ℕ, suc, Bool, IsTrue, sym, ◌∙◌, subst}
use Rattle.path_theory.specs.Model.{Model}
use Rattle.path_theory.specs.Supergraph.{Supergraph}
use Rattle.path_theory.specs.Callers.{Callers}
use Rattle.path_theory.specs.Paths.{Path, after, Reported, ReportOf, ReportOfGlobal}
use Rattle.path_theory.specs.Origins.{Origins, IsLocal}
use Rattle.path_theory.specs.PathLengths.{ReportedIn, ReportOfIn, ReportOfGlobalIn}
use Rattle.masked_paths.specs.Masked.{Mask, kept, masked, GoesAt, masked_supergraph}
use Rattle.masked_paths.specs.Enough.{IsEnough}
use Rattle.masked_paths.specs.States.{EndAlike}
use Rattle.masked_paths.proofs.Masks.{from_within}
use Rattle.masked_paths.proofs.SamePaths.{masked_path, unmasked_path}

module _ (M : Model) (L : Origins M) (I : IsLocal M L) (a : Mask M) (K : Supergraph M) (E : IsEnough M K L (kept M a)) where
  abbrev N : Model
  N = masked M L a

  abbrev J : Supergraph N
  J = masked_supergraph M L a K

  -- of an object that is followed the move of an event is the same
  same_move : {f : M.Fn} {k : Bool} {p : K.Place} {b : Callers M K} {c : Callers N J} (P : Path M K f k p b) (Q : Path N J f k p c)
      → EndAlike M L a K P Q → (e : M.Event) (o : M.Obj) → IsTrue (a.follows f o)
      → N.moved (record { fn = f; event = e }) (after N J Q).here o ≡ M.moved e (after M K P).here o
  same_move {f = f} P Q s e o i =
      from_within a.loose (a.follows f) (after M K P).here (after N J Q).here s.here (E.known P) (a.follows f o) (L.source e o) i ∙ sym (I.moved e (after M K P).here o)

  fires_in : {f : M.Fn} {k : Bool} {p : K.Place} {b : Callers M K} {c : Callers N J} (P : Path M K f k p b) (Q : Path N J f k p c)
      → EndAlike M L a K P Q → (e : M.Event) (o : M.Obj) (r : M.Report) → IsTrue (a.follows f o)
      → M.Fires e f k (after M K P).global o (M.moved e (after M K P).here o) r
      → N.Fires (record { fn = f; event = e }) f k (after N J Q).global o (N.moved (record { fn = f; event = e }) (after N J Q).here o) r
  fires_in {f = f} {k = k} P Q s e o r i d = (
    i,
    subst (λ g. M.Fires e f k g o (N.moved (record { fn = f; event = e }) (after N J Q).here o) r) (sym s.global)
        (subst (λ x. M.Fires e f k (after M K P).global o x r) (sym (same_move P Q s e o i)) d),
  )

  fires_out : {f : M.Fn} {k : Bool} {p : K.Place} {b : Callers M K} {c : Callers N J} (P : Path M K f k p b) (Q : Path N J f k p c)
      → EndAlike M L a K P Q → (e : M.Event) (o : M.Obj) (r : M.Report)
      → N.Fires (record { fn = f; event = e }) f k (after N J Q).global o (N.moved (record { fn = f; event = e }) (after N J Q).here o) r
      → M.Fires e f k (after M K P).global o (M.moved e (after M K P).here o) r
  fires_out {f = f} {k = k} P Q s e o r d =
      subst (λ x. M.Fires e f k (after M K P).global o x r) (same_move P Q s e o d.0)
      (subst (λ g. M.Fires e f k g o (N.moved (record { fn = f; event = e }) (after N J Q).here o) r) s.global d.1)

  -- in the same numbers of steps
  masked_in : (r : M.Report) (n : ℕ) → ReportedIn M K r n → ReportedIn N J r n
  masked_in r _ (ReportOfIn {f = f} P e t o i) =
      let w = masked_path M L I a K E P in
      subst (λ n. ReportedIn N J r (suc n)) w.same.length
      (ReportOfIn w.path (record { fn = f; event = e }) (GoesAt t) o (fires_in P w.path w.same e o r (E.fires P e t o r i) i))
  masked_in r _ (ReportOfGlobalIn {f = f} {k = k} P e t i) =
      let w = masked_path M L I a K E P in
      subst (λ n. ReportedIn N J r (suc n)) w.same.length
      (ReportOfGlobalIn w.path (record { fn = f; event = e }) (GoesAt t) (subst (λ g. M.FiresGlobal e f k g r) (sym w.same.global) i))

  unmasked_in : (r : M.Report) (n : ℕ) → ReportedIn N J r n → ReportedIn M K r n
  unmasked_in r _ (ReportOfIn Q e (GoesAt {e = d} t) o i) =
      let w = unmasked_path M L I a K E Q in
      subst (λ n. ReportedIn M K r (suc n)) (sym w.same.length)
      (ReportOfIn w.path d t o (fires_out w.path Q w.same d o r i))
  unmasked_in r _ (ReportOfGlobalIn {f = f} {k = k} Q e (GoesAt {e = d} t) i) =
      let w = unmasked_path M L I a K E Q in
      subst (λ n. ReportedIn M K r (suc n)) (sym w.same.length)
      (ReportOfGlobalIn w.path d t (subst (λ g. M.FiresGlobal d f k g r) w.same.global i))

  pub same_lengths : (r : M.Report) (n : ℕ) → ReportedIn N J r n ↔ ReportedIn M K r n
  same_lengths r n = (unmasked_in r n, masked_in r n)

  masked_report : (r : M.Report) → Reported M K r → Reported N J r
  masked_report r (ReportOf {f = f} P e t o i) =
      let w = masked_path M L I a K E P in
      ReportOf w.path (record { fn = f; event = e }) (GoesAt t) o (fires_in P w.path w.same e o r (E.fires P e t o r i) i)
  masked_report r (ReportOfGlobal {f = f} {k = k} P e t i) =
      let w = masked_path M L I a K E P in
      ReportOfGlobal w.path (record { fn = f; event = e }) (GoesAt t) (subst (λ g. M.FiresGlobal e f k g r) (sym w.same.global) i)

  unmasked_report : (r : M.Report) → Reported N J r → Reported M K r
  unmasked_report r (ReportOf Q e (GoesAt {e = d} t) o i) =
      let w = unmasked_path M L I a K E Q in
      ReportOf w.path d t o (fires_out w.path Q w.same d o r i)
  unmasked_report r (ReportOfGlobal {f = f} {k = k} Q e (GoesAt {e = d} t) i) =
      let w = unmasked_path M L I a K E Q in
      ReportOfGlobal w.path d t (subst (λ g. M.FiresGlobal d f k g r) w.same.global i)

  -- the reports with the mask are exactly those without it
  pub same_reports : (r : M.Report) → Reported N J r ↔ Reported M K r
  same_reports r = (unmasked_report r, masked_report r)
