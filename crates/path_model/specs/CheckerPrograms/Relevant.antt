-- THE RELEVANT OBJECTS of a program's functions: the least sets that have what a base has at their events, and with an object each from which
-- it takes its state, or that takes its state from it.
use Rattle.std.specs.Prelude.{◌≡◌, List, Some}
use Rattle.c_objects.specs.Objects.{Object}
use Rattle.path_model.specs.CheckerModel.Calls.{into, out}
use Rattle.path_model.specs.CheckerModel.Checkers.{model, source_at}
use Rattle.path_model.specs.CheckerModel.Choices.{Binds, Gives}
use Rattle.path_model.specs.CheckerModel.Happenings.{Function, Happening, Site}
use Rattle.path_model.specs.CheckerModel.Reports.{Checker}
use Rattle.path_model.specs.CheckerPrograms.Paths.{program}
use Rattle.typed_unit.specs.Texts.{Text}
use Rattle.path_theory.specs.Relevant.{EventOf, CallOf}

module _ (c : Checker) (ts : List Text) where
  module _ (Base : Function → Happening → Object → Type 0) where
    pub data RelevantFrom : Function → Object → Type 0 where
      Bound : (f : Function) (h : Happening) (o : Object) → EventOf (model c) (program c ts) f h → Base f h o → RelevantFrom f o
      Taken : (f : Function) (h : Happening) (o b : Object) → EventOf (model c) (program c ts) f h → source_at c.depth h o ≡ Some b
          → RelevantFrom f o → RelevantFrom f b
      Given : (f : Function) (h : Happening) (o b : Object) → EventOf (model c) (program c ts) f h → source_at c.depth h o ≡ Some b
          → RelevantFrom f b → RelevantFrom f o
      PassedBy : (f g : Function) (s : Site) (o b : Object) → CallOf (model c) (program c ts) f s g → into c.depth s o ≡ Some b
          → RelevantFrom g o → RelevantFrom f b
      PassedOn : (f g : Function) (s : Site) (o b : Object) → CallOf (model c) (program c ts) f s g → into c.depth s o ≡ Some b
          → RelevantFrom f b → RelevantFrom g o
      HandedBy : (f g : Function) (s : Site) (o b : Object) → CallOf (model c) (program c ts) f s g → out c.depth s o ≡ Some b
          → RelevantFrom f o → RelevantFrom g b
      HandedBack : (f g : Function) (s : Site) (o b : Object) → CallOf (model c) (program c ts) f s g → out c.depth s o ≡ Some b
          → RelevantFrom g b → RelevantFrom f o

  -- from all that rules bind
  abbrev pub Relevant : Function → Object → Type 0
  Relevant = RelevantFrom (Binds c.machine c.depth)

  -- from what rules may give a state while it is unknown: fewer, and as good for reports
  abbrev pub Followed : Function → Object → Type 0
  Followed = RelevantFrom (Gives c.machine c.depth)
