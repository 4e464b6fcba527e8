-- THE THEOREMS as statements, which contracts can name: events stand at tokens, so rules with an action are reported; bodies end at their last
-- tokens; a tree is spelled by its own tokens; and no frame knows another function's local. First of texts that are as they are asked to be, if
-- anything is asked of them, and behind that of the texts of files.
use Rattle.std.specs.Prelude.{◌≡◌, ℕ, List, ◌++◌, Bool, true, false, Option, None, Some, slice_get}
use Rattle.c_grammar.specs.CPlaces.Stands.{StandsOver}
use Rattle.c_objects.specs.Objects.{Object}
use Rattle.c_tree.specs.Forget.{syntax_of}
use Rattle.c_tree.specs.Node.{Node}
use Rattle.c_tree.specs.Symbol.{symbols_of}
use Rattle.c_tree.specs.TokenPlaces.{StandInFile}
use Rattle.c_tree.specs.Tokens.{tokens_of}
use Rattle.c_tree.specs.declared.token.Token.{Token}
use Rattle.flow_graph.specs.CPaths.EventPlaces.{event_place}
use Rattle.flow_graph.specs.CPaths.Events.{Event, Declared}
use Rattle.hole_matching.specs.Callouts.{is_local}
use Rattle.hole_matching.specs.Matching as matching
use Rattle.hole_matching.specs.Matching.{Binding, slot}
use Rattle.hole_matching.specs.Message.{Source, tree_tokens}
use Rattle.metal_tree.specs.MetalMachines.Machine.{Dest, Item, Piece}
use Rattle.path_model.specs.CheckerModel.Checkers.{model, source_at}
use Rattle.path_model.specs.CheckerModel.Choices.{Taken, State as ObjectState, applied, is_exit, scene, taken, taken_global}
use Rattle.path_model.specs.CheckerModel.Happenings.{Function, Happening}
use Rattle.path_model.specs.CheckerModel.Reports.{Checker, token_at, report_at, source_of}
use Rattle.path_model.specs.CheckerPrograms.Paths.{program}
use Rattle.path_model.specs.CheckerPrograms.Texts.{functions_in, tokens_of as tokens_in, with_close}
use Rattle.path_theory.specs.Actions.{Actions, Did, State, fold}
use Rattle.path_theory.specs.FlatPaths.{IsPath, InErrors}
use Rattle.path_theory.specs.Callers.{Callers}
use Rattle.path_theory.specs.Paths.{Path, after, Reported}
use Rattle.path_theory.specs.Trails.{More}
use Rattle.type_rules.specs.Functions.{Defined}
use Rattle.type_rules.specs.Options.{◌>?◌}
use Rattle.typed_unit.specs.Texts.{Text}
use Rattle.request_files.specs.Meanings.{HaveTexts}
use Rattle.event_places.specs.Bodies.{AreOfGrammar, EndsAt}
use Rattle.event_places.specs.Naming.{IsNamedIn, IsDeclaredIn}
use Rattle.event_places.specs.Spelling.{AreSpelled}
use Rattle.event_places.specs.Standing.{StandInFiles, HaveTheirTables, AreTyped}

-- the report that a rule has at the event of a path, at the token that stands there
pub record IsReportedThere (c : Checker) (ts : List Text) (f : Function) (h : Happening) (o : Option Object) (t : Taken) (pieces : List Piece) : Type 0 where
  pub token : Token
  pub there : token_at (event_place h.event) h.tokens ≡ Some token
  pub reported : Reported (model c) (program c ts) (report_at c h f o t token pieces)

abbrev pub is_declaration : Event → Bool
is_declaration (Declared x) = true
is_declaration _ = false

-- each event of a path stands at a token of its unit; the declaration of a variable, at which no rule is taken, where tables are those of the trees
abbrev pub EventsStandAtTokens : Type 0
EventsStandAtTokens = (c : Checker) (ts : List Text) → StandInFiles ts
    → (f : Function) (k : Bool) (p q : (program c ts).Place) (b : Callers (model c) (program c ts)) (P : Path (model c) (program c ts) f k p b) (h : Happening) → (program c ts).Goes f p h q
    → (is_declaration h.event ≡ true → HaveTheirTables ts)
    → (token : Token) × (token_at (event_place h.event) h.tokens ≡ Some token)

-- NO ERROR TRANSITION WITHOUT A REPORT: where an object takes a rule with an action at the event of a path, its report is one of the program
abbrev pub ErrorsAreReported : Type 0
ErrorsAreReported = (c : Checker) (ts : List Text) → StandInFiles ts
    → (f : Function) (k : Bool) (p q : (program c ts).Place) (b : Callers (model c) (program c ts)) (P : Path (model c) (program c ts) f k p b) (h : Happening) → (program c ts).Goes f p h q
    → (o : Object) (t : Taken) (pieces : List Piece)
    → taken c.machine c.depth h f k (after (model c) (program c ts) P).global o (source_at c.depth h o >? (after (model c) (program c ts) P).here) ≡ Some t → t.rule.action ≡ Some pieces
    → IsReportedThere c ts f h (Some o) t pieces

-- so is that of the global state
abbrev pub GlobalErrorsAreReported : Type 0
GlobalErrorsAreReported = (c : Checker) (ts : List Text) → StandInFiles ts
    → (f : Function) (k : Bool) (p q : (program c ts).Place) (b : Callers (model c) (program c ts)) (P : Path (model c) (program c ts) f k p b) (h : Happening) → (program c ts).Goes f p h q
    → (t : Taken) (pieces : List Piece)
    → taken_global c.machine c.depth h f k (after (model c) (program c ts) P).global ≡ Some t → t.rule.action ≡ Some pieces
    → IsReportedThere c ts f h None t pieces

-- THE CLOSING BRACE of each function of a program of the grammar is the last token of its body
abbrev pub BodiesEndAtTheirLastTokens : Type 0
BodiesEndAtTheirLastTokens = (ts : List Text) → StandInFiles ts → AreOfGrammar ts
    → (n : ℕ) (d : Defined) → slice_get (functions_in ts) n ≡ Some d → EndsAt (tokens_in ts d.file) d.body (with_close ts d).close

-- THE TOKENS OF A TREE that stands over some tokens of a file are those, and they are the tokens of its line of the grammar
abbrev pub TreesAreSpelledByTheirTokens : Type 0
TreesAreSpelledByTheirTokens = (w : Source) (file : ℕ) (n : Node) (before ts rest : List Token) (low high : ℕ)
    → StandInFile file w.tokens → w.tokens ≡ before ++ ts → StandsOver n low high ts rest
    → (ts ≡ tree_tokens w n ++ rest) × (symbols_of (tree_tokens w n) ≡ tokens_of (syntax_of n))

-- SO IS EACH TREE THAT A HOLE TAKES at an event of a path, by its own tokens, which stand in the unit of the event
abbrev pub TakenTreesAreSpelled : Type 0
TakenTreesAreSpelled = (c : Checker) (ts : List Text) → StandInFiles ts
    → (f : Function) (k : Bool) (p q : (program c ts).Place) (b : Callers (model c) (program c ts)) (P : Path (model c) (program c ts) f k p b) (h : Happening) → (program c ts).Goes f p h q
    → (d : Dest) (items : List Item) (binding : Binding) → applied (scene c.machine c.depth h f) h.event d items ≡ Some binding
    → (hole : ℕ) (x : matching.Taken) → slot hole binding ≡ Some x → AreSpelled (source_of c h) x

-- NO FRAME KNOWS ANOTHER FUNCTION'S LOCAL: where an object has a known state on a path, and its variable is one of a block, the function of the path's
-- last frame names that variable
abbrev pub KnownLocalsAreOwn : Type 0
KnownLocalsAreOwn = (c : Checker) (ts : List Text)
    → (f : Function) (k : Bool) (p : (program c ts).Place) (b : Callers (model c) (program c ts)) (P : Path (model c) (program c ts) f k p b)
    → (o : Object) (x : ObjectState) → (after (model c) (program c ts) P).here o ≡ Some x → is_local o.base ≡ true → IsNamedIn ts f o.base

-- SO AT THE END OF A CALLED FUNCTION an object that takes a rule is one of a local that the function names
abbrev pub EndsAskOwnLocals : Type 0
EndsAskOwnLocals = (c : Checker) (ts : List Text)
    → (f : Function) (p q : (program c ts).Place) (b : Callers (model c) (program c ts)) (P : Path (model c) (program c ts) f false p b) (h : Happening) → (program c ts).Goes f p h q
    → is_exit h.event ≡ true → (o : Object) (t : Taken)
    → taken c.machine c.depth h f false (after (model c) (program c ts) P).global o (source_at c.depth h o >? (after (model c) (program c ts) P).here) ≡ Some t
    → (is_local o.base ≡ true) × IsNamedIn ts f o.base

-- THE TEXTS OF FILES stand in them, are of the grammar, have the tables of their trees, and types: so all of this holds of them
abbrev pub TextsOfFilesStand : Type 0
TextsOfFilesStand = (before names words contents : List (List ℕ)) (ts : List Text) → HaveTexts 0 before names words contents ts
    → StandInFiles ts × AreOfGrammar ts × HaveTheirTables ts × AreTyped ts

-- OF FILES each event of a path stands at a token
abbrev pub EventsOfFilesStandAtTokens : Type 0
EventsOfFilesStandAtTokens = (before names words contents : List (List ℕ)) (c : Checker) (ts : List Text) → HaveTexts 0 before names words contents ts
    → (f : Function) (k : Bool) (p q : (program c ts).Place) (b : Callers (model c) (program c ts)) (P : Path (model c) (program c ts) f k p b) (h : Happening) → (program c ts).Goes f p h q
    → (token : Token) × (token_at (event_place h.event) h.tokens ≡ Some token)

-- OF FILES the function declares each such variable in its body
abbrev pub KnownLocalsOfFilesAreDeclared : Type 0
KnownLocalsOfFilesAreDeclared = (before names words contents : List (List ℕ)) (c : Checker) (ts : List Text) → HaveTexts 0 before names words contents ts
    → (f : Function) (k : Bool) (p : (program c ts).Place) (b : Callers (model c) (program c ts)) (P : Path (model c) (program c ts) f k p b)
    → (o : Object) (x : ObjectState) → (after (model c) (program c ts) P).here o ≡ Some x → is_local o.base ≡ true → IsDeclaredIn ts f o.base

-- the rule that an object, or the global state, takes at an event in this state
abbrev pub takes : (c : Checker) → Happening → State (model c) → Option Object → Option Taken
takes c h s (Some o) = taken c.machine c.depth h s.top.fn s.top.is_root s.global o (source_at c.depth h o >? s.top.map)
takes c h s None = taken_global c.machine c.depth h s.top.fn s.top.is_root s.global

-- the error of a rule that is taken at an event, at the token that stands there, is one of the errors of the program
pub record IsErrorThere (c : Checker) (ts : List Text) (f : Function) (h : Happening) (o : Option Object) (t : Taken) (pieces : List Piece) : Type 0 where
  pub token : Token
  pub there : token_at (event_place h.event) h.tokens ≡ Some token
  pub error : InErrors (model c) (program c ts) (report_at c h f o t token pieces)

-- OF FILES NO ERROR TRANSITION IS LEFT OUT: where a flat list of events, calls and returns is a path of their texts, and at its last event a rule with
-- an action is taken, in the state to which the list before it folds, a token stands there, and the report at this token is an error of the program
abbrev pub ErrorsOfFilesAreReported : Type 0
ErrorsOfFilesAreReported = (before names words contents : List (List ℕ)) (c : Checker) (ts : List Text) → HaveTexts 0 before names words contents ts
    → (root : Function) (l : Actions (model c)) (h : Happening) → IsPath (model c) (program c ts) root (More l (Did h))
    → (o : Option Object) (t : Taken) (pieces : List Piece) → takes c h (fold (model c) root l) o ≡ Some t → t.rule.action ≡ Some pieces
    → IsErrorThere c ts (fold (model c) root l).top.fn h o t pieces
