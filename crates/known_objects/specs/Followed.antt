-- THE OBJECTS THAT CAN BE KNOWN, as lists: what an engine that follows them alone may rely on.
use Rattle.std.specs.Prelude.{◌≡◌, ℕ, Bool, List, length, Contains, None, Some, slice_get}
use Rattle.c_objects.specs.Objects.{Object, IsObject}
use Rattle.known_objects.specs.ByFunction.{AreOnce}
use Rattle.known_objects.specs.Linked.{IsIn}
use Rattle.known_search.specs.KnownEnough.Described.{Found}
use Rattle.known_search.specs.declared.members.Known.{Known}
use Rattle.masked_paths.specs.Matched.{Matched, ClosedUnderMet, CoversWhereMet}
use Rattle.path_model.specs.CheckerGraphs.Graphs.{function_at, number_of}
use Rattle.path_model.specs.CheckerModel.Calls.{into}
use Rattle.path_model.specs.CheckerModel.Checkers.{model, origins, source_at}
use Rattle.path_model.specs.CheckerModel.Choices.{State}
use Rattle.path_model.specs.CheckerModel.Happenings.{Function, Happening, Site}
use Rattle.path_model.specs.CheckerModel.Reports.{Checker}
use Rattle.path_model.specs.CheckerPrograms.Paths.{program}
use Rattle.path_model.specs.CheckerPrograms.Texts.{functions_in}
use Rattle.path_theory.specs.Relevant.{EventOf, CallOf}
use Rattle.path_model.specs.CheckerGraphs.Members.{Member}
use Rattle.report_model.specs.declared.report.Report.{Report}
use Rattle.typed_unit.specs.Texts.{Text}

-- THE OBJECT IS FOLLOWED in a function: it is one of the list at the function's number
pub record IsFollowed (ts : List Text) (lists : List (List Object)) (f : Function) (o : Object) : Type 0 where
  pub number : ℕ
  pub objects : List Object
  pub numbered : number_of (functions_in ts) f ≡ Some number
  pub listed : slice_get lists number ≡ Some objects
  pub among : Contains objects o

-- AN EVENT BINDS ONLY WHAT IS LISTED, in this kind of frame and global state: each object to which a rule gives a state while it is unknown, and
-- each that a rule takes with a report, with the number of its function
pub record IsBoundHere (c : Checker) (ts : List Text) (bound : List Member) (f : Function) (h : Happening) (k : Bool) (g : ℕ) : Type 0 where
  pub binds : (o : Object) (x : State) → (model c).choose h f k g o None ≡ Some x → (n : ℕ) × (function_at ts n ≡ Some f) × Contains bound (n, o)
  pub fires : (o : Object) (r : Report) → (model c).Fires h f k g o None r → (n : ℕ) × (function_at ts n ≡ Some f) × Contains bound (n, o)

-- what was found, as a family of objects by function, from what is known at the entry
abbrev pub family_in : (c : Checker) → List Text → List (Known Object) → Matched (model c)
family_in c ts members = Found (model c) (function_at ts) (IsIn members)

-- what has its state from an object that is followed is followed: behind an event, and at an entry
pub record AreAhead (c : Checker) (ts : List Text) (lists : List (List Object)) : Type 0 where
  pub moves : (f : Function) (h : Happening) (o b : Object) → EventOf (model c) (program c ts) f h → source_at c.depth h o ≡ Some b
      → IsFollowed ts lists f b → IsFollowed ts lists f o
  pub enters : (f g : Function) (s : Site) (o b : Object) → CallOf (model c) (program c ts) f s g → into c.depth s o ≡ Some b
      → IsFollowed ts lists f b → IsFollowed ts lists g o

-- THE LISTS of what can be known in a program under a checker: of each function one, by its number. Behind them stands a family of objects that is
-- closed under matched calls and returns, where rules act in global states in which they bind only what is listed as bound; the lists have all of
-- it, and each is an object at the checker's depth, in its list once.
pub record AreKnownLists (c : Checker) (ts : List Text) (bound : List Member) (lists : List (List Object)) : Type 0 where
  pub count : length lists ≡ length (functions_in ts)
  pub members : List (Known Object)
  pub closed : ClosedUnderMet (model c) (program c ts) (origins c) (IsBoundHere c ts bound) (family_in c ts members)
  pub covers : CoversWhereMet (model c) (program c ts) (origins c) (IsBoundHere c ts bound) (family_in c ts members) (IsFollowed ts lists)
  pub ahead : AreAhead c ts lists
  pub plain : (n : ℕ) (os : List Object) → slice_get lists n ≡ Some os → (o : Object) → Contains os o → IsObject c.depth o
  pub once : AreOnce lists
