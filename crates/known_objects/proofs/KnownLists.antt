-- What was found over the moves and followed calls of right rows, by function, are the lists of what can be known.
use Rattle.std.proofs.Common.{◌≡◌, ℕ, List, Contains, length, map, sym, subst, Result, Ok, Err, IfOk}
use Rattle.c_objects.specs.Objects.{Object, IsObject}
use Rattle.flow_graph.specs.CPaths.Building.{Graph}
use Rattle.known_objects.proofs.Describing.{describes, found-object}
use Rattle.known_objects.proofs.MaskedLists.{are-known}
use Rattle.known_objects.specs.ByFunction.{AreSets, AreOnce}
use Rattle.known_objects.specs.Followed.{AreKnownLists}
use Rattle.known_objects.specs.Linked.{MovesIn, EntersIn, HandsIn, IsIn}
use Rattle.known_objects.specs.Listed.{call_in, AreNumbered, SomeIsMoveIn, SomeIsCallIn}
use Rattle.known_objects.specs.declared.changes.Move.{Move}
use Rattle.known_objects.specs.declared.changes.Numbered.{Numbered}
use Rattle.known_search.specs.Closed.{IsClosed}
use Rattle.known_search.specs.Steps.{IsFound}
use Rattle.known_search.specs.declared.members.Known.{Known}
use Rattle.least_set.specs.Logs.{IsExactly}
use Rattle.path_model.specs.CheckerGraphs.Graphs.{AreGraphs, AreApartPlaces}
use Rattle.path_model.specs.CheckerModel.Reports.{Checker}
use Rattle.path_model.specs.CheckerPrograms.Texts.{functions_in}
use Rattle.relevant.specs.RelevantRows.Rows.{AreRows}
use Rattle.path_model.specs.CheckerGraphs.Members.{Member}
use Rattle.relevant.specs.declared.relevant_objects.rows.FunctionRow.{FunctionRow}
use Rattle.typed_unit.specs.Texts.{Text}

-- what was found, over these moves and calls
pub record WasFound (depth : ℕ) (bound : List Member) (moves : List Move) (calls : List Numbered) (found : List (Known Object)) : Type 0 where
  pub closed : IsClosed (λ n o. Contains bound (n, o)) (MovesIn depth moves) (EntersIn depth calls) (HandsIn depth calls) (IsIn found)
  pub only : (y : Known Object) → Contains found y → IsFound (λ n o. Contains bound (n, o)) (MovesIn depth moves) (EntersIn depth calls) (HandsIn depth calls) y

-- at the checker's own depth
module _ (c : Checker) (ts : List Text) (gs : List Graph) (A : AreGraphs ts gs) (apart : AreApartPlaces (functions_in ts)) (rows : List FunctionRow) (R : AreRows c ts gs rows) (count : ℕ) (all : length (functions_in ts) ≡ count)
    (bound : List Member) (B : (n : ℕ) (o : Object) → Contains bound (n, o) → IsObject c.depth o) (moves : List Move) (calls : List Numbered) (Cs : IsExactly (map call_in calls) (SomeIsCallIn rows count)) (N : AreNumbered calls) (found : List (Known Object))
    (lists : List (List Object)) (many : length lists ≡ length (functions_in ts)) (S : AreSets found lists) (once : AreOnce lists) where
  at-own : IsExactly moves (SomeIsMoveIn c.depth rows count) → WasFound c.depth bound moves calls found → AreKnownLists c ts bound lists
  at-own Ms F =
      are-known c ts apart found lists many S bound (MovesIn c.depth moves) (EntersIn c.depth calls) (HandsIn c.depth calls)
      (describes c ts gs A apart rows R count all bound B moves Ms calls Cs N)
      F.closed
      (λ y h. found-object c ts gs A apart rows R count all bound B moves Ms calls Cs N y (F.only y h))
      once

  pub known-lists : (depth : ℕ) → c.depth ≡ depth → IsExactly moves (SomeIsMoveIn depth rows count) → WasFound depth bound moves calls found → AreKnownLists c ts bound lists
  known-lists depth deep Ms F = at-own (subst (λ d. IsExactly moves (SomeIsMoveIn d rows count)) (sym deep) Ms) (subst (λ d. WasFound d bound moves calls found) (sym deep) F)

pub if-three : {A E : Type 0} (P Q R S : A → Type 0) (r : Result A E) → ((a : A) → P a → Q a → R a → S a) → IfOk r P → IfOk r Q → IfOk r R → IfOk r S
if-three P Q R S (Ok a) f p q s = f a p q s
if-three P Q R S (Err e) f p q s = tt
