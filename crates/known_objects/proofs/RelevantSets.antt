-- THE RELEVANT OBJECTS, FOLLOWED BY LISTS of them, which sets have too: what lists of them follow is what is relevant, so it is closed, and it is enough to follow it.
use Rattle.std.proofs.Common.{◌≡◌, ◌∙◌, ℕ, List, Some, sym, subst}
use Rattle.std.proofs.Math.Logic.{∥∥₁_map}
use Rattle.std.proofs.lemmas.List.Elements.{length_all_zip}
use Rattle.std.specs.List.{AllZip}
use Rattle.block_flows.specs.Masks.{AreEnough, objects_under}
use Rattle.c_objects.specs.Objects.{Object}
use Rattle.flow_graph.specs.CPaths.Building.{Graph}
use Rattle.function_tables.proofs.EngineTables.Places.{there-too}
use Rattle.function_tables.proofs.OneByOne.{goes-with}
use Rattle.function_tables.specs.Tables.{AreTables}
use Rattle.function_tables.specs.declared.table.FunctionTable.{FunctionTable}
use Rattle.known_objects.proofs.FollowedMask.{followed-by-mask}
use Rattle.known_objects.proofs.SetSteps.{HasExactly}
use Rattle.known_objects.specs.RelevantSets.{AreRelevant}
use Rattle.masked_paths.proofs.ClosedFamilies.{enough_of_closed}
use Rattle.path_model.proofs.CheckerGraphs.GraphTraces.{closed_in_graphs}
use Rattle.path_model.proofs.CheckerGraphs.Numbers.{defined-at, defines-is, found-at, number-is}
use Rattle.path_model.proofs.CheckerModel.Laws.{local}
use Rattle.path_model.specs.CheckerGraphs.Graphs.{AreApartPlaces, AreGraphs, flow_graphs, function_at}
use Rattle.path_model.specs.CheckerModel.Checkers.{model, origins}
use Rattle.path_model.specs.CheckerModel.Happenings.{Function}
use Rattle.path_model.specs.CheckerModel.Reports.{Checker}
use Rattle.path_model.specs.CheckerPrograms.Relevant.{Relevant}
use Rattle.path_model.specs.CheckerPrograms.Texts.{functions_in}
use Rattle.path_theory.specs.Facts.{Fact, HasObject, IsFollowed, NoObject, Objects}
use Rattle.path_theory.specs.FlowGraphs.{supergraph}
use Rattle.path_theory.specs.Model.{Model}
use Rattle.path_theory.specs.Origins.{Origins}
use Rattle.path_theory.specs.Relevant.{IsClosed}
use Rattle.path_theory.specs.Supergraph.{Supergraph}
use Rattle.relevant.proofs.RelevantSteps.Found.{relevant-found}
use Rattle.relevant.specs.RelevantLists.Lists.{AreLists}
use Rattle.relevant.specs.RelevantSteps.Families.{any_state}
use Rattle.typed_unit.specs.Texts.{Text}

-- ---- lists, and sets of the same objects

pub sets-lists : (c : Checker) (ts : List Text) (F : Function → Object → Type 0) (lists sets : List (List Object))
    → AllZip HasExactly sets lists → AreLists c ts F lists → AreLists c ts F sets
sets-lists c ts F lists sets zip h = record {
  count = length_all_zip HasExactly sets lists zip ∙ h.count;
  followed = λ n d os e s.
      let x = goes-with HasExactly sets lists n os zip s in
      let y = h.followed n d x.0 e x.1 in
      (λ o m. y.0 o (x.2.0 o m), λ o r. x.2.1 o (y.1 o r));
  plain = λ n os s o m. let x = goes-with HasExactly sets lists n os zip s in h.plain n x.0 x.1 o (x.2.0 o m);
}

-- as whoever gathers them says it, for any checker of that depth over these tables
abbrev pub AreGathered : ℕ → List Text → List FunctionTable → List (List Object) → Type 0
AreGathered depth ts functions lists = (c : Checker) → c.depth ≡ depth → AreTables c.machine c.depth ts functions → ∥ AreRelevant c ts lists ∥₁

-- sets that are made of the lists have the relevant objects too
pub relevant-sets : (depth : ℕ) (ts : List Text) (functions : List FunctionTable) (lists given sets : List (List Object))
    → AreGathered depth ts functions lists → given ≡ lists → AllZip HasExactly sets given → AreGathered depth ts functions sets
relevant-sets depth ts functions lists given sets gathered listed zip =
    λ c d a. ∥∥₁_map (gathered c d a) (sets-lists c ts (Relevant c ts) lists sets (subst (AllZip HasExactly sets) listed zip))

-- ---- what is followed, and what is relevant

module _ (c : Checker) (ts : List Text) (lists : List (List Object)) (apart : AreApartPlaces (functions_in ts)) (h : AreLists c ts (Relevant c ts) lists) where
  -- what is followed is relevant
  pub relevant-followed : (f : Function) (o : Object) → objects_under c ts lists f o → Relevant c ts f o
  relevant-followed f o k =
      let w = (followed-by-mask ts lists f o).0 k in
      let x = found-at (functions_in ts) f w.number w.numbered in
      let exact = h.followed w.number x.found w.objects x.numbered w.listed in
      subst (λ (g : Function). Relevant c ts g o) (defines-is x.found f x.same) (exact.0 o w.among)

  -- and what is relevant in a function of the program is followed
  pub followed-relevant : (f : Function) (n : ℕ) → function_at ts n ≡ Some f → (o : Object) → Relevant c ts f o → objects_under c ts lists f o
  followed-relevant f n named o r =
      let d = defined-at ts n f named in
      let l = there-too (functions_in ts) lists n d.0 (sym h.count) d.1 in
      let exact = h.followed n d.0 l.0 d.1 l.1 in
      (followed-by-mask ts lists f o).1 (record {
        number = n;
        objects = l.0;
        numbered = number-is ts apart n f named;
        listed = l.1;
        among = exact.1 o (subst (λ (g : Function). Relevant c ts g o) (sym d.2) r);
      })

module _ (c : Checker) (ts : List Text) (gs : List Graph) (A : AreGraphs ts gs) (apart : AreApartPlaces (functions_in ts)) (lists : List (List Object)) (h : AreLists c ts (Relevant c ts) lists) where
  -- in what is none nothing is relevant
  pub followed-all : (f : Function) (o : Object) → Relevant c ts f o → objects_under c ts lists f o
  followed-all f o r = let x = relevant-found any_state c ts gs A apart f o r in followed-relevant c ts lists apart h f x.number x.named o r

-- ---- families that have the same objects

module _ (M : Model) (A B : Objects M) (to : (f : M.Fn) (o : M.Obj) → A f o → B f o) where
  pub also-followed : (f : M.Fn) (t : Fact M) → IsFollowed M A f t → IsFollowed M B f t
  also-followed f NoObject k = k
  also-followed f (HasObject o x) k = to f o k

same-closed : (M : Model) (K : Supergraph M) (L : Origins M) (A B : Objects M) → ((f : M.Fn) (o : M.Obj) → A f o → B f o) → ((f : M.Fn) (o : M.Obj) → B f o → A f o) → IsClosed M K L A → IsClosed M K L B
same-closed M K L A B to from Q = record {
  source = λ {f = f} o b e s k. to f b (Q.source o b e s (from f o k));
  source_on = λ {f = f} o b e s k. to f o (Q.source_on o b e s (from f b k));
  into = λ {f = f} {h = h} d o j s k. to f o (Q.into d o j s (from h d k));
  into_on = λ {f = f} {h = h} d o j s k. to h d (Q.into_on d o j s (from f o k));
  out = λ {f = f} {h = h} o d j s k. to h d (Q.out o d j s (from f o k));
  out_on = λ {f = f} {h = h} o d j s k. to f o (Q.out_on o d j s (from h d k));
  binds = λ {f = f} k g o x e b. to f o (Q.binds k g o x e b);
  fires = λ {f = f} k g o r e b. to f o (Q.fires k g o r e b);
}

-- ---- so what is followed is closed

module _ (c : Checker) (ts : List Text) (gs : List Graph) (A : AreGraphs ts gs) (apart : AreApartPlaces (functions_in ts)) (lists : List (List Object)) (h : AreLists c ts (Relevant c ts) lists) where
  pub relevant-closed : IsClosed (model c) (supergraph (model c) (flow_graphs c ts gs)) (origins c) (objects_under c ts lists)
  relevant-closed =
      same-closed (model c) (supergraph (model c) (flow_graphs c ts gs)) (origins c) (Relevant c ts) (objects_under c ts lists) (followed-all c ts gs A apart lists h) (relevant-followed c ts lists apart h)
      (closed_in_graphs ts gs A c)

  -- and it is enough to follow it
  pub relevant-enough : AreEnough c ts gs lists
  relevant-enough = enough_of_closed (model c) (supergraph (model c) (flow_graphs c ts gs)) (origins c) (local c) (objects_under c ts lists) relevant-closed
