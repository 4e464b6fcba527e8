-- What a tuple becomes over an event has no object, or one that is followed.
use Rattle.std.proofs.Common.{◌≡◌, inl, inr, ℕ, Bool, true, List, [], ◌∷◌, Contains, IsTrue, Option, None, Some, refl, sym, subst, ◌∙◌}
use Rattle.block_flows.specs.IdleEvents.{is_within, AreFollowed}
use Rattle.c_objects.specs.Objects.{Object}
use Rattle.type_rules.specs.Options.{if_there}
use Rattle.path_model.specs.CheckerModel.Checkers.{model}
use Rattle.path_model.specs.CheckerModel.Choices.{State}
use Rattle.path_model.specs.CheckerModel.Happenings.{Function, Happening}
use Rattle.path_model.specs.CheckerModel.Moves.{Move, move_of, source}
use Rattle.path_model.specs.CheckerModel.Reports.{Checker}
use Rattle.least_set.specs.Logs.{IsExactly, SomeGives}
use Rattle.least_set.proofs.Growing.{nothing}
use Rattle.path_theory.specs.Facts.{FactOf, NoObject, HasObject, Gives, GivesNone, GivesState, IfNoObject}
use Rattle.path_theory.specs.Flows.{EventFlow, EventNone, EventObject}
use Rattle.state_tuples.specs.declared.tuple.Tuple.{Tuple}
use Rattle.block_flows.specs.TupleFlows.Behind.{IsBehind}
use Rattle.block_flows.specs.TupleFlows.Facts.{fact_of, fact_in, is_in, listed, origins_in}
use Rattle.block_flows.specs.TupleFlows.Moved.{source_in}
use Rattle.block_flows.proofs.TupleFlows.Followed.{some-from}
use Rattle.block_flows.proofs.TupleFlows.Lists.{contains-cases}

module _ (followed : List Object) where
  -- the same of facts
  abbrev is_inside : FactOf Object State → Bool
  is_inside NoObject = true
  is_inside (HasObject o x) = is_in followed o

  inside-within : (q : Option Object) (x : Option State) → is_inside (fact_of q x) ≡ if_there q true (is_in followed)
  inside-within None x = refl
  inside-within (Some o) x = refl

  -- one tuple by itself
  pub alone-within : (t : Tuple) → is_within followed t ≡ true → AreFollowed followed (t ∷ [])
  alone-within t e u m = elim (contains-cases t u [] m) [ inl s ↦ subst (λ z. is_within followed z ≡ true) s e | inr n ↦ absurd (nothing u n) ]

  module _ (c : Checker) (h : Happening) (f : Function) (k : Bool) where
    abbrev M : Option Move
    M = move_of h.facts c.depth h.event

    gives-inside : (o : Object) (z : Option Object) {t : FactOf Object State} {x : Option State} → source_in c.depth M followed o ≡ z → Gives z t x
        → IfNoObject t (IsTrue (is_in followed o)) → is_in followed o ≡ true
    gives-inside o _ d GivesNone i = i
    gives-inside o _ d (GivesState {o = b}) i = (some-from followed followed o (source c.depth M o) b d).0

    flow-inside : (g : ℕ) (t u : FactOf Object State) → EventFlow (model c) (origins_in c followed followed) (listed c followed) f k h g t u → is_inside u ≡ true
    flow-inside g _ _ EventNone = refl
    flow-inside g t _ (EventObject o x i s) = gives-inside o (source_in c.depth M followed o) refl s i

    behind-within : (t u : Tuple) → IsBehind c h f k followed t u → is_within followed u ≡ true
    behind-within t u w = sym (inside-within u.object u.state) ∙ flow-inside t.global (fact_in t) (fact_in u) w.fact

    pub all-within : (now new : List Tuple) → IsExactly new (SomeGives (IsBehind c h f k followed) now) → AreFollowed followed new
    all-within now new e u m = let s = e.0 u m in behind-within s.0 u s.2
