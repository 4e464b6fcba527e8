-- A text that is appended piece by piece.
use Rattle.std.specs.Prelude.{flat_map, OnErr}
use Rattle.std.proofs.Common.{◌≡◌, ℕ, List, ◌++◌, take, drop, Result, Ok, Err, ap, sym, ◌∙◌}
use Rattle.std.proofs.lemmas.Grind.{flat_map-append}
use Rattle.std.proofs.lemmas.List.{take-append-drop}
use Rattle.report_model.specs.OfReporters.Beginnings.{HasBegun}

-- where so many pieces were appended, a beginning of all of them was
pub begun : {X : Type 0} (f : X → List ℕ) (pieces : List X) (i : ℕ) (old new : List ℕ) → new ≡ old ++ flat_map f (take i pieces) → HasBegun old (flat_map f pieces) new
begun f pieces i old new e = record {
  done = flat_map f (take i pieces);
  left = flat_map f (drop i pieces);
  written = e;
  whole = ap (flat_map f) (sym (take-append-drop i pieces)) ∙ flat_map-append f (take i pieces) (drop i pieces);
}

pub on_err : {A E : Type 0} (r : Result A E) (P : Type 0) → P → OnErr r P
on_err (Ok x) P h = tt
on_err (Err e) P h = h
