-- A set of path edges that lacks nothing that follows by the rules is saturated, seen with functions in place of their numbers.
-- At a return the callee's number is the one that its own edge has, so only roots and calls ask for numbers.
use Rattle.std.proofs.Common.{ℕ, Option, Some, None, List, Contains, refl}
use Rattle.path_theory.specs.Model.{Model}
use Rattle.path_theory.specs.Origins.{Origins}
use Rattle.path_theory.specs.Facts.{NoObject, HasObject, Objects}
use Rattle.path_theory.specs.FlowGraphs.{FlowGraphs}
use Rattle.path_theory.specs.Saturated.{IsSaturated}
use Rattle.least_set.specs.TwoPremises.{FollowsBase, FollowsOne, FollowsTwo}
use Rattle.path_theory.specs.TabulationRules.Rules.{EdgeIn, GoesOn, GoesInto, HandsBack, HandsSaved, Seen, WaitsForObject, WaitsWithSaved}
use Rattle.path_theory.specs.TabulationRules.LeastSets.{FollowsFrom, HasNumbers, IsClosedUnder, IsLeastLog, IsLeastSet}

module _ (M : Model) (L : Origins M) (A : Objects M) (G : FlowGraphs M) (function : ℕ → Option M.Fn) where
  -- a list that has what follows from its members
  pub closed_under : (log : List (EdgeIn M L A G function))
      → ((c : EdgeIn M L A G function) → FollowsFrom M L A G function log c → Contains log c)
      → IsClosedUnder M L A G function (Contains log)
  closed_under log closed = record {
    base = λ c h. closed c (FollowsBase h);
    goes = λ a c i h. closed c (FollowsOne a i h);
    wakes = λ a b c k w i h j e v. closed c (FollowsTwo a b k w i h j e v);
  }

  pub least_set : (log : List (EdgeIn M L A G function)) → IsLeastLog M L A G function log
      → IsLeastSet M L A G function (Contains log)
  least_set log h = record { closed = closed_under log h.closed; only = h.only }

  pub saturated : (X : EdgeIn M L A G function → Type 0) → HasNumbers M G function → IsClosedUnder M L A G function X
      → IsSaturated M L A G (Seen M L A G function X)
  saturated X N C = record {
    root = λ r a.
        let n = N.root _ r in
        record { number = n.0; named = n.1; among = C.base _ (record { fn = _; named = n.1; root = r; start = refl; starts = a; kind = refl; first = refl; same = refl }) };
    next = λ x c n.
        record { number = x.number; named = x.named; among = C.goes _ _ x.among (GoesOn (record { global = _; fact = _ }) _ _ (record { named = x.named; crosses = c }) n) };
    call = λ x c s j a.
        let n = N.callee _ _ _ _ _ _ x.named j in
        record { number = n.0; named = n.1; among = C.goes _ _ x.among (GoesInto (record { global = _; fact = _ }) _ _ s _ (record { function = n.0; entry = record { global = _; fact = _ } }) (record { named = x.named; crosses = c }) j n.1 refl a) };
    return = λ x c s j a y d l b.
        record {
          number = x.number;
          named = x.named;
          among =
              C.wakes _ _ _ (record { function = y.number; entry = record { global = _; fact = _ } }) (record { context = _; is_root = _; site = s; behind = _; saved = None }) x.among
              (WaitsForObject (record { global = _; fact = _ }) _ _ (record { named = x.named; crosses = c }) j y.named refl a refl refl refl) y.among
              (record { fn = _; named = y.named; ends = l; called = refl; context = refl })
              (record { caller = _; named = x.named; fn = _; end = record { global = _; fact = _ }; behind = record { named = y.named; crosses = d }; hands = HandsBack refl refl b; context = refl; kind = refl; block = refl });
        };
    saved = λ x c s j y d l q.
        record {
          number = x.number;
          named = x.named;
          among =
              C.wakes _ _ _ (record { function = y.number; entry = record { global = _; fact = NoObject } }) (record { context = _; is_root = _; site = s; behind = _; saved = Some (_, _) }) x.among
              (WaitsWithSaved (record { global = _; fact = HasObject _ _ }) _ _ _ _ (record { named = x.named; crosses = c }) j y.named refl refl q refl refl refl) y.among
              (record { fn = _; named = y.named; ends = l; called = refl; context = refl })
              (record { caller = _; named = x.named; fn = _; end = record { global = _; fact = NoObject }; behind = record { named = y.named; crosses = d }; hands = HandsSaved _ _ refl refl refl refl; context = refl; kind = refl; block = refl });
        };
  }
