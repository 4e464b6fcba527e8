-- Each tree that a hole takes at an event of a path stands over tokens of the event's unit, so a message spells it by these.
use Rattle.std.proofs.Common.{◌≡◌, ℕ, List, [], ◌∷◌, ◌++◌, Bool, Some, sym, ap, subst, ◌∙◌}
use Rattle.c_grammar.specs.CPlaces.Lines.{line_of}
use Rattle.c_tree.specs.Node.{Node}
use Rattle.c_tree.specs.PathSubjects.Subjects.{Subject, Tree, DerefOf}
use Rattle.c_tree.specs.TokenPlaces.{StandInFile}
use Rattle.c_tree.specs.declared.token.Token.{Token}
use Rattle.hole_matching.specs.Matching.{Taken, One, Many, Binding, slot}
use Rattle.hole_matching.specs.Message.{Source}
use Rattle.metal_tree.specs.MetalMachines.Machine.{Dest, Item}
use Rattle.path_model.specs.CheckerModel.Checkers.{model}
use Rattle.path_model.specs.CheckerModel.Choices.{applied, scene}
use Rattle.path_model.specs.CheckerModel.Happenings.{Function, Happening}
use Rattle.path_model.specs.CheckerModel.Reports.{Checker, source_of}
use Rattle.path_model.specs.CheckerPrograms.Paths.{program}
use Rattle.path_model.specs.CheckerPrograms.Texts.{happening, objects_in}
use Rattle.path_theory.specs.Callers.{Callers}
use Rattle.path_theory.specs.Paths.{Path}
use Rattle.typed_unit.specs.Texts.{Text}
use Rattle.event_places.specs.Spelling.{IsSpelled, IsSubjectSpelled, AreAllSpelled, AreSpelled}
use Rattle.event_places.specs.Standing.{StandInFiles}
use Rattle.event_places.proofs.EachNode.{OfSubject, own}
use Rattle.event_places.proofs.Events.{text-event}
use Rattle.event_places.proofs.Holes.{OfSubjects, OfTaken, taken-has}
use Rattle.event_places.proofs.OwnTokens.{IsOver, body-stands}
use Rattle.event_places.proofs.Spelling.{tree-spelled}
use Rattle.event_places.proofs.Walks.{defined-frames, path-event}

module _ (w : Source) (file : ℕ) (placed : StandInFile file w.tokens) where
  -- the nodes stand over tokens of the unit
  abbrev Over : Node → Type 0
  Over n = IsOver w.tokens (line_of n)

  over-spelled : (n : Node) → Over n → IsSpelled w n
  over-spelled n h =
      let x = tree-spelled w file n h.before h.from h.rest h.low h.high placed h.whole h.stands in
      record { before = h.before; behind = h.rest; whole = h.whole ∙ ap (λ (us : List Token). h.before ++ us) x.0; own = x.1 }

  subject-spelled : (s : Subject) → OfSubject Over s → IsSubjectSpelled w s
  subject-spelled (Tree e) h = over-spelled e (own Over e h)
  subject-spelled (DerefOf x) h = over-spelled x (own Over x h)

  all-spelled : (ss : List Subject) → OfSubjects Over ss → AreAllSpelled w ss
  all-spelled [] h = tt
  all-spelled (s ∷ ss) h = (subject-spelled s h.0, all-spelled ss h.1)

  pub taken-spelled : (x : Taken) → OfTaken Over x → AreSpelled w x
  taken-spelled (One s) h = subject-spelled s h
  taken-spelled (Many ss) h = all-spelled ss h

-- WHAT A HOLE TAKES at an event of a path
pub path-spelled : (c : Checker) (ts : List Text) → StandInFiles ts
    → {f : Function} {k : Bool} {p q : (program c ts).Place} {b : Callers (model c) (program c ts)} (P : Path (model c) (program c ts) f k p b) (h : Happening) → (program c ts).Goes f p h q
    → (d : Dest) (items : List Item) (binding : Binding) → applied (scene c.machine c.depth h f) h.event d items ≡ Some binding
    → (hole : ℕ) (x : Taken) → slot hole binding ≡ Some x → AreSpelled (source_of c h) x
path-spelled c ts stand {f = f} P h goes d items binding e hole x s =
    let body = body-stands ts stand f (defined-frames c ts P).0 in
    let w = path-event c ts P h goes in
    let Q : Node → Type 0 = λ n. IsOver body.text.tokens (line_of n) in
    let here = happening ts f w.event in
    let there = stand body.position body.text body.there in
    let taken = taken-has Q (scene c.machine c.depth here f) w.event d items binding hole x (text-event c ts f Q body.over (objects_in ts f.place.file) h w)
    (subst (λ (z : Happening). applied (scene c.machine c.depth z f) z.event d items ≡ Some binding) w.is e) s in
    let spelled : AreSpelled (record { names = c.names; tokens = body.text.tokens }) x = taken-spelled (record { names = c.names; tokens = body.text.tokens }) body.position there.placed x taken in
    subst (λ (z : Happening). AreSpelled (source_of c z) x) (sym w.is)
    (subst (λ (us : List Token). AreSpelled (record { names = c.names; tokens = us }) x) (sym body.tokens) spelled)
