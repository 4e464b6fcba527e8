-- The tables of blocks.
use Rattle.std.proofs.Common.{◌≡◌, ℕ, ◌+◌, ◌<◌, ◌≤◌, List, [], ◌∷◌, ◌++◌, map, length, take, get_or, Option, Some, slice_get, Bor, refl, sym, ap, ◌∙◌, subst}
use Rattle.state_tuples.specs.declared.applied_rules.rules.EventRules.{EventRules}
use Rattle.state_tuples.specs.AppliedRules.Events.{AreOfEvent}
use Rattle.flow_graph.specs.CPaths.Graphs as graphs
use Rattle.c_tree.specs.Node.{Node}
use Rattle.type_rules.specs.Definition.{Table}
use Rattle.type_rules.specs.Functions.{Defined}
use Rattle.type_rules.specs.Options.{◌>?◌}
use Rattle.call_graph.specs.Followed.{followed}
use Rattle.path_model.proofs.CheckerGraphs.Units.{functions-are, table-is, happening-is}
use Rattle.path_model.specs.CheckerModel.Happenings.{Function, Happening}
use Rattle.path_model.specs.CheckerPrograms.Texts.{functions_in, function_of as named, happening, type_table}
use Rattle.typed_unit.specs.Texts.{Text, texts_of}
use Rattle.flow_graph.specs.declared.event.Event.{Event}
use Rattle.flow_graph.specs.declared.graph.Block.{Block}
use Rattle.flow_graph.specs.Values.{event_of, block_of, ending_of}
use Rattle.function_tables.specs.declared.table.BlockTable.{BlockTable}
use Rattle.path_model.specs.CheckerGraphs.Ends.{call_in}
use Rattle.function_tables.specs.Rules.{AreOfEvents}
use Rattle.function_tables.specs.Tables.{IsBlockTable, AreBlockTables}
use Rattle.function_tables.proofs.OneByOne.{zip-next, zip-all, map-at}
use Rattle.metal_tree.specs.MetalMachines.Machine.{Machine}
use Rattle.call_graph.specs.OfPrograms.Calls.{table_in}
use Rattle.call_graph.specs.OfPrograms.Definitions.{definitions, trees_in}
use Rattle.state_tuples.specs.declared.frame.Frame.{Frame}
use Rattle.state_tuples.specs.Values.{happening_in, function_of as framed}
use Rattle.typed_unit.specs.declared.functions.TypedFunction.{TypedFunction}
use Rattle.typed_unit.specs.declared.typed_unit.TypedUnit.{TypedUnit}
use Rattle.typed_unit.specs.Functions.{function_of}

-- one event more
pub rules-next : (m : Machine) (depth : ℕ) (f : Function) (u : TypedUnit) (es : List Event) (i : ℕ) (e : Event) (r : EventRules) (old new : List EventRules)
    → i < length es → e ≡ get_or es i e → AreOfEvent m depth (happening_in u e) f r → new ≡ old ++ (r ∷ [])
    → AreOfEvents m depth f (take i (map (happening_in u) es)) old → AreOfEvents m depth f (take (i + 1) (map (happening_in u) es)) new
rules-next m depth f u es i e r old new l is k n h = zip-next (λ x y. AreOfEvent m depth x f y) (map (happening_in u) es) old new i (happening_in u e) r (map-at (happening_in u) es i e l is) n h k

-- those of all events
pub rules-all : (m : Machine) (depth : ℕ) (f : Function) (hs : List Happening) (n : ℕ) (rules : List EventRules) → length hs ≤ n → AreOfEvents m depth f (take n hs) rules → AreOfEvents m depth f hs rules
rules-all m depth f hs n rules l h = zip-all (λ x y. AreOfEvent m depth x f y) hs rules n l h

-- what happens in a function of a unit, in the program of all units
happenings-are : (units : List (Bor TypedUnit)) (u : Bor TypedUnit) (f : Function) (es : List Event) → slice_get units f.place.file ≡ Some u → map (happening_in u.now) es ≡ map (happening (texts_of units) f) (map event_of es)
happenings-are units u f [] at = refl
happenings-are units u f (e ∷ es) at =
    ap (λ (h : Happening). h ∷ map (happening_in u.now) es) (sym (happening-is units u f (event_of e) at))
    ∙ ap (λ (hs : List Happening). happening (texts_of units) f (event_of e) ∷ hs) (happenings-are units u f es at)

-- the function into which a call is followed, in the program of all units
followed-is : (m : Machine) (units : List (Bor TypedUnit)) (file : ℕ) (n : Node) → followed m (table_in units file) file (definitions (trees_in units)) n ≡ followed m (type_table (texts_of units) file) file (functions_in (texts_of units)) n
followed-is m units file n =
    ap (λ (t : Table). followed m t file (definitions (trees_in units)) n) (sym (table-is units file))
    ∙ ap (λ (fs : List Defined). followed m (type_table (texts_of units) file) file fs n) (sym (functions-are units))

-- the table of a block of a function, which was made in a frame of it
pub block-table : (m : Machine) (depth : ℕ) (units : List (Bor TypedUnit)) (u : Bor TypedUnit) (f : TypedFunction) (frame : Frame) (b : Block) (es : List Event) (t : BlockTable)
    → slice_get units f.file ≡ Some u → f.place.file ≡ f.file → framed frame ≡ named (function_of f) → es ≡ b.events.items
    → AreOfEvents m depth (framed frame) (map (happening_in u.now) es) t.rules.items
    → t.callee ≡ (call_in (ending_of b.end) >? followed m (table_in units f.file) f.file (definitions (trees_in units)))
    → IsBlockTable m depth (texts_of units) (function_of f) (block_of b) t
block-table m depth units u f frame b es t at filed same events rules callee =
    let seen : map (happening_in u.now) es ≡ map (happening (texts_of units) (named (function_of f))) (map event_of b.events.items) =
    ap (map (happening_in u.now)) events ∙ happenings-are units u (named (function_of f)) b.events.items (ap (slice_get units) filed ∙ at) in
    let leads = followed m (table_in units f.file) f.file (definitions (trees_in units)) in record {
      rules = subst (λ (g : Function). AreOfEvents m depth g (map (happening (texts_of units) (named (function_of f))) (map event_of b.events.items)) t.rules.items) same
          (subst (λ (hs : List Happening). AreOfEvents m depth (framed frame) hs t.rules.items) seen rules);
      callee = λ n e. callee ∙ ap (λ (o : Option Node). o >? leads) e ∙ followed-is m units f.file n;
      no_callee = λ e. callee ∙ ap (λ (o : Option Node). o >? leads) e;
    }

-- one block more
pub blocks-next : (m : Machine) (depth : ℕ) (ts : List Text) (d : Defined) (bs : List graphs.Block) (n : ℕ) (b : graphs.Block) (t : BlockTable) (old new : List BlockTable)
    → slice_get bs n ≡ Some b → IsBlockTable m depth ts d b t → new ≡ old ++ (t ∷ []) → AreBlockTables m depth ts d (take n bs) old → AreBlockTables m depth ts d (take (n + 1) bs) new
blocks-next m depth ts d bs n b t old new at k e h = zip-next (IsBlockTable m depth ts d) bs old new n b t at e h k

-- those of all blocks
pub blocks-all : (m : Machine) (depth : ℕ) (ts : List Text) (d : Defined) (bs : List graphs.Block) (n : ℕ) (tables : List BlockTable) → length bs ≤ n → AreBlockTables m depth ts d (take n bs) tables → AreBlockTables m depth ts d bs tables
blocks-all m depth ts d bs n tables l h = zip-all (IsBlockTable m depth ts d) bs tables n l h
