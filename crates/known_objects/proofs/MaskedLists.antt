-- Lists that have exactly what was found may be followed alone: they have all that can be known.
use Rattle.std.proofs.Common.{◌≡◌, ℕ, ◌<◌, List, [], Contains, length, get_or, Option, None, Some, slice_get, refl, ◌∙◌, sym, ap, subst}
use Rattle.std.specs.Option.{option_map}
use Rattle.std.specs.Prelude.{◌↔◌, Bool, IsTrue}
use Rattle.std.proofs.lemmas.Option.{slice_get-get_or, slice_get_within}
use Rattle.c_objects.specs.Objects.{Object, IsObject}
use Rattle.flow_graph.specs.CPaths.Building.{Graph}
use Rattle.known_objects.specs.ByFunction.{AreSets, AreOnce}
use Rattle.known_objects.specs.Followed.{family_in, AreAhead, AreKnownLists, IsBoundHere, IsFollowed}
use Rattle.known_objects.specs.Linked.{IsIn}
use Rattle.known_search.proofs.KnownEnough.Enough.{closed, covers}
use Rattle.known_search.specs.Closed.{IsClosed}
use Rattle.known_search.specs.KnownEnough.Described.{Describes, Found, AreFollowed}
use Rattle.known_search.specs.declared.members.Known.{Known}
use Rattle.masked_paths.proofs.MetObjects.{enough_of_met}
use Rattle.masked_paths.specs.Enough.{IsEnough}
use Rattle.masked_paths.specs.Matched.{Matched, ClosedUnderMet, CoversWhereMet}
use Rattle.masked_paths.specs.Met.{MetStates, CoversMet}
use Rattle.path_model.proofs.CheckerGraphs.GraphTraces.{graphs_have_traces}
use Rattle.path_model.proofs.CheckerGraphs.Numbers.{defines-is, found-at, numbered-at}
use Rattle.path_model.proofs.CheckerGraphs.SameTraces.{event_on, call_on}
use Rattle.path_model.proofs.CheckerModel.Laws.{local}
use Rattle.path_model.specs.CheckerGraphs.Graphs.{AreApartPlaces, AreGraphs, flow_graphs, number_of, function_at}
use Rattle.path_model.specs.CheckerModel.Checkers.{model, origins}
use Rattle.path_model.specs.CheckerModel.Happenings.{Function}
use Rattle.path_model.specs.CheckerModel.Reports.{Checker}
use Rattle.path_model.specs.CheckerPrograms.Paths.{program}
use Rattle.path_model.specs.CheckerPrograms.Texts.{functions_in, function_of}
use Rattle.path_theory.specs.Facts.{Objects}
use Rattle.path_theory.specs.FlowGraphs.{supergraph}
use Rattle.path_theory.specs.Model.{Model}
use Rattle.path_theory.specs.Origins.{Origins}
use Rattle.path_theory.specs.Supergraph.{Supergraph}
use Rattle.path_theory.specs.Walks.{HasTraces}
use Rattle.path_model.specs.CheckerGraphs.Members.{Member}
use Rattle.type_rules.specs.Functions.{Defined}
use Rattle.typed_unit.specs.Texts.{Text}

-- the definition of the function with a number
of-number : (o : Option Defined) (f : Function) → option_map function_of o ≡ Some f → (d : Defined) × (o ≡ Some d) × (function_of d ≡ f)
of-number None f e = cc
of-number (Some d) f e = let s : function_of d ≡ f = cc in (d, refl, s)

module _ (c : Checker) (ts : List Text) (apart : AreApartPlaces (functions_in ts)) (found : List (Known Object)) (lists : List (List Object)) (count : length lists ≡ length (functions_in ts)) (S : AreSets found lists) where
  abbrev FoundOf : Function → Object → Type 0
  FoundOf f o = (w : Option Object) × Found (model c) (function_at ts) (IsIn found) f w o

  named : (f : Function) (n : ℕ) → number_of (functions_in ts) f ≡ Some n → function_at ts n ≡ Some f
  named f n e = let x = found-at (functions_in ts) f n e in ap (option_map function_of) x.numbered ∙ ap (λ (g : Function). Some g) (defines-is x.found f x.same)

  -- what is followed was found
  pub was-found : (f : Function) (o : Object) → IsFollowed ts lists f o → FoundOf f o
  was-found f o h = let p = (S h.number h.objects h.listed).0 o h.among in (p.0, (h.number, named f h.number h.numbered, p.1))

  -- and what was found is followed
  pub is-listed : (f : Function) (o : Object) → FoundOf f o → IsFollowed ts lists f o
  is-listed f o v =
      let n = v.1.0 in
      let d = of-number (slice_get (functions_in ts) n) f v.1.1 in
      let os = get_or lists n [] in
      let at : slice_get lists n ≡ Some os = slice_get-get_or lists n [] (subst (λ k. n < k) (sym count) (slice_get_within (functions_in ts) n d.0 d.1)) in
      record {
        number = n;
        objects = os;
        numbered = subst (λ (g : Function). number_of (functions_in ts) g ≡ Some n) d.2 (numbered-at (functions_in ts) n d.0 apart d.1).0;
        listed = at;
        among = (S n os at).1 o (v.0, v.1.2);
      }

module _ (c : Checker) (ts : List Text) (apart : AreApartPlaces (functions_in ts)) (found : List (Known Object)) (lists : List (List Object)) (count : length lists ≡ length (functions_in ts)) (S : AreSets found lists)
    (bound : List Member) (Moves : ℕ → Object → Object → Type 0) (Enters Hands : ℕ → ℕ → Object → ℕ → Object → Type 0)
    (D : Describes (model c) (program c ts) (origins c) (function_at ts) (λ n o. Contains bound (n, o)) Moves Enters Hands (IsBoundHere c ts bound)) (C : IsClosed (λ n o. Contains bound (n, o)) Moves Enters Hands (IsIn found)) where
  followed : AreFollowed (model c) (function_at ts) (IsIn found) (IsFollowed ts lists)
  followed f o = (was-found c ts apart found lists count S f o, is-listed c ts apart found lists count S f o)

  matched : ClosedUnderMet (model c) (program c ts) (origins c) (IsBoundHere c ts bound) (family_in c ts found)
  matched = closed (model c) (program c ts) (origins c) (function_at ts) (λ n o. Contains bound (n, o)) Moves Enters Hands (IsBoundHere c ts bound) D (IsIn found) C

  ahead-of : ClosedUnderMet (model c) (program c ts) (origins c) (IsBoundHere c ts bound) (family_in c ts found) → AreAhead c ts lists
  ahead-of m = record {
    moves = λ f h o b w s k. let x = (followed f b).0 k in (followed f o).1 (x.0, m.moves x.0 o b w s x.1);
    enters = λ f g s o b w i k. let x = (followed f b).0 k in (followed g o).1 (Some o, m.enters x.0 o b w i x.1);
  }

  -- THE LISTS of what was found over links that describe the program are those of what can be known
  pub are-known : ((y : Known Object) → Contains found y → IsObject c.depth y.object) → AreOnce lists → AreKnownLists c ts bound lists
  are-known plain once = record {
    count = count;
    members = found;
    closed = matched;
    covers = covers (model c) (program c ts) (origins c) (function_at ts) (λ n o. Contains bound (n, o)) Moves Enters Hands (IsBoundHere c ts bound) D (IsIn found) C (IsFollowed ts lists) followed;
    ahead = ahead-of matched;
    plain = λ n os e o h. let x = (S n os e).0 o h in plain (record { function = n; from = x.0; object = o }) x.1;
    once = once;
  }

-- ---- it is enough to follow them

-- what is closed and covers over a program does over one with the same traces
module _ (M : Model) (K J : Supergraph M) (H : HasTraces M K J) (L : Origins M) (R : MetStates M) (P : Matched M) where
  closed-on : ClosedUnderMet M J L R P → ClosedUnderMet M K L R P
  closed-on C = record {
    binds = λ k g o x i d. C.binds k g o x i d;
    moves = λ w o b i d p. C.moves w o b (event_on M K J H i) d p;
    enters = λ w a o i d p. C.enters w a o (call_on M K J H i) d p;
    comes_back = λ w o a d b i e p q j. C.comes_back w o a d b (call_on M K J H i) e p q j;
    hands_out = λ o d i p e. C.hands_out o d (call_on M K J H i) p e;
  }

  covers-on : (A : Objects M) → CoversWhereMet M J L R P A → CoversWhereMet M K L R P A
  covers-on A V = record {
    known = λ w o p. V.known w o p;
    fires = λ k g o r i d. V.fires k g o r i d;
    handed = λ o a i d p. V.handed o a (call_on M K J H i) d p;
  }

-- where it is enough to follow a family, it is enough to follow the same one said otherwise
same-enough : (M : Model) (K : Supergraph M) (L : Origins M) (A B : Objects M) → ((f : M.Fn) (o : M.Obj) → A f o → B f o) → ((f : M.Fn) (o : M.Obj) → B f o → A f o)
    → IsEnough M K L A → IsEnough M K L B
same-enough M K L A B to from e = record {
  known = λ {f = f} P o x d. to f o (e.known P o x d);
  fires = λ {f = f} P t v o r i. to f o (e.fires P t v o r i);
  handed = λ {f = f} {h = h} o d i s k. to h d (e.handed o d i s (from f o k));
}

module _ (c : Checker) (ts : List Text) (bound : List Member) (lists : List (List Object)) (k : AreKnownLists c ts bound lists) (gs : List Graph) (A : AreGraphs ts gs)
    (T : CoversMet (model c) (supergraph (model c) (flow_graphs c ts gs)) (IsBoundHere c ts bound)) where
  over-graphs : HasTraces (model c) (supergraph (model c) (flow_graphs c ts gs)) (program c ts)
  over-graphs = (graphs_have_traces ts gs A c).1

  followed-enough : IsEnough (model c) (supergraph (model c) (flow_graphs c ts gs)) (origins c) (IsFollowed ts lists)
  followed-enough =
      enough_of_met (model c) (supergraph (model c) (flow_graphs c ts gs)) (origins c) (local c) (IsBoundHere c ts bound) T (family_in c ts k.members)
      (closed-on (model c) (supergraph (model c) (flow_graphs c ts gs)) (program c ts) over-graphs (origins c) (IsBoundHere c ts bound) (family_in c ts k.members) k.closed)
      (IsFollowed ts lists)
      (covers-on (model c) (supergraph (model c) (flow_graphs c ts gs)) (program c ts) over-graphs (origins c) (IsBoundHere c ts bound) (family_in c ts k.members) (IsFollowed ts lists) k.covers)

  pub known-enough : (follows : Function → Object → Bool) → ((f : Function) (o : Object) → IsTrue (follows f o) ↔ IsFollowed ts lists f o)
      → IsEnough (model c) (supergraph (model c) (flow_graphs c ts gs)) (origins c) (λ f o. IsTrue (follows f o))
  known-enough follows says =
      same-enough (model c) (supergraph (model c) (flow_graphs c ts gs)) (origins c) (IsFollowed ts lists) (λ f o. IsTrue (follows f o)) (λ f o. (says f o).1) (λ f o. (says f o).0) followed-enough
