-- What is known of a function by its number, and of a block in it.
use Rattle.std.proofs.Common.{◌≡◌, ℕ, zero, suc, List, [], ◌∷◌, map, length, slice_get, Option, None, Some, refl, sym, ap, subst, ◌∙◌, arith, Result, Ok, Err, IfOk, false}
use Rattle.std.specs.Prelude.{IfSome}
use Rattle.std.proofs.lemmas.Option.{slice_get-map}
use Rattle.std.specs.Option.{option_map}
use Rattle.state_tuples.specs.declared.applied_rules.rules.EventRules.{EventRules}
use Rattle.block_flows.specs.Events.{AreOfEvents}
use Rattle.block_flows.specs.FollowedLists.{is_followed}
use Rattle.block_flows.specs.TupleFlows.Facts.{is_in}
use Rattle.c_objects.specs.Objects.{Object}
use Rattle.flow_graph.specs.CPaths.BlockGraphs.{events_at}
use Rattle.flow_graph.specs.CPaths.Events.{Event}
use Rattle.flow_graph.specs.CPaths.Fragments.{Has}
use Rattle.flow_graph.specs.CPaths.Graphs.{Block, Ending, Calls}
use Rattle.c_tree.specs.Node.{Node}
use Rattle.type_rules.specs.Functions.{Defined}
use Rattle.type_rules.specs.Options.{if_there, ◌>?◌}
use Rattle.path_model.specs.CheckerGraphs.Graphs.{AreApartPlaces, function_at, graph_at}
use Rattle.path_model.proofs.CheckerGraphs.Numbers.{graph-at, numbered-at}
use Rattle.path_model.proofs.CheckerGraphs.Calls.{followed-number}
use Rattle.path_model.proofs.CheckerGraphs.Units.{apart-texts, place-filed}
use Rattle.call_graph.specs.Followed.{followed}
use Rattle.path_model.specs.CheckerModel.Happenings.{Function, Happening}
use Rattle.path_model.specs.CheckerPrograms.Roots.{followed_into}
use Rattle.path_model.specs.CheckerPrograms.Texts.{functions_in, function_of, happening, site, type_table}
use Rattle.typed_unit.specs.Texts.{Text}
use Rattle.flow_graph.specs.Seen.{graph_in}
use Rattle.function_tables.specs.declared.table.BlockTable.{BlockTable}
use Rattle.function_tables.specs.declared.table.FunctionTable.{FunctionTable}
use Rattle.path_model.specs.CheckerGraphs.Ends.{call_in}
use Rattle.function_tables.specs.Rules as tables_rules
use Rattle.function_tables.specs.Tables.{AreBlockTables}
use Rattle.metal_tree.specs.MetalMachines.Machine.{Machine}
use Rattle.function_tables.specs.declared.engine_tables.frames.Frame.{Frame}
use Rattle.function_tables.specs.declared.engine_tables.tables.Tables.{Tables}
use Rattle.function_tables.specs.EngineTables.Known.{AreKnown, IsFrame, checker_in, texts_in, graphs_in, objects_in}
use Rattle.block_flows.specs.TupleFlows.Moved.{AreObjects}

pub if-ok : {A E : Type 0} (P Q : A → Type 0) (r : Result A E) → ((a : A) → P a → Q a) → IfOk r P → IfOk r Q
if-ok P Q (Ok a) f h = f a h
if-ok P Q (Err e) f h = tt

pub if-some : {A : Type 0} (P : A → Type 0) (o : Option A) (a : A) → o ≡ Some a → IfSome o P → P a
if-some P o a e h = subst (λ x. IfSome x P) e h

-- an item that is there in one list is there in another of the same length
pub there-too : {A B : Type 0} (xs : List A) (ys : List B) (n : ℕ) (x : A) → length xs ≡ length ys → slice_get xs n ≡ Some x → (y : B) × (slice_get ys n ≡ Some y)
there-too [] ys n x l e = cc
there-too (a ∷ xs) [] n x l e = absurd (omega (arith, l))
there-too (a ∷ xs) (b ∷ ys) zero x l e = (b, refl)
there-too (a ∷ xs) (b ∷ ys) (suc n) x l e = there-too xs ys n x (omega (arith, l)) e

pub missing-too : {A B : Type 0} (xs : List A) (ys : List B) (n : ℕ) → length xs ≡ length ys → slice_get xs n ≡ None → slice_get ys n ≡ None
missing-too [] [] n l e = refl
missing-too [] (b ∷ ys) n l e = absurd (omega (arith, l))
missing-too (a ∷ xs) [] n l e = absurd (omega (arith, l))
missing-too (a ∷ xs) (b ∷ ys) zero l e = cc
missing-too (a ∷ xs) (b ∷ ys) (suc n) l e = missing-too xs ys n (omega (arith, l)) e

pub apart-in : (t : Tables) → AreApartPlaces (functions_in (texts_in t))
apart-in t = apart-texts t.program.now.units.items t.program.now.numbered

-- the function of a frame
pub record IsPlace (t : Tables) (n : ℕ) (f : Frame) : Type 0 where
  pub defined : Defined
  pub is : slice_get (functions_in (texts_in t)) n ≡ Some defined
  pub graph : graph_at (texts_in t) (graphs_in t) (function_of defined) ≡ graph_in f.table.now.graph.now
  pub blocks : AreBlockTables (checker_in t).machine t.depth (texts_in t) defined (graph_in f.table.now.graph.now).blocks f.table.now.blocks.items
  pub follows : (o : Object) → is_followed (texts_in t) (objects_in t) (function_of defined) o ≡ is_in f.objects.now.keys o
  pub plain : AreObjects t.depth f.objects.now.keys

pub named : (t : Tables) (n : ℕ) (d : Defined) → slice_get (functions_in (texts_in t)) n ≡ Some d → function_at (texts_in t) n ≡ Some (function_of d)
named t n d e = ap (option_map function_of) e

-- which objects are followed in the function with a number, by the list with this number
followed-at : (t : Tables) (n : ℕ) (d : Defined) (os : List Object) → slice_get (functions_in (texts_in t)) n ≡ Some d → slice_get (objects_in t) n ≡ Some os
    → (o : Object) → is_followed (texts_in t) (objects_in t) (function_of d) o ≡ is_in os o
followed-at t n d os e h o =
    ap (λ m. if_there (m >? slice_get (objects_in t)) false (λ objects. is_in objects o)) (numbered-at (functions_in (texts_in t)) n d (apart-in t) e).0
    ∙ ap (λ q. if_there q false (λ objects. is_in objects o)) h

pub place : (t : Tables) (n : ℕ) (f : Frame) → AreKnown t → IsFrame t n f → IsPlace t n f
place t n f k h =
    let d = there-too (objects_in t) (functions_in (texts_in t)) n f.objects.now.keys k.count h.objects in
    let g : slice_get (graphs_in t) n ≡ Some (graph_in f.table.now.graph.now) = slice_get-map (λ (x : FunctionTable). graph_in x.graph.now) t.functions.now n ∙ ap (option_map (λ (x : FunctionTable). graph_in x.graph.now)) h.table in
    record {
      defined = d.0;
      is = d.1;
      graph = graph-at (texts_in t) (apart-in t) (graphs_in t) n d.0 (graph_in f.table.now.graph.now) d.1 g;
      blocks = k.tables.blocks n d.0 f.table.now d.1 h.table;
      follows = λ o. followed-at t n d.0 f.objects.now.keys d.1 h.objects o;
      plain = k.plain n f.objects.now.keys h.objects;
    }

-- where there is no table, or no list of objects, there is no function
pub no-table : (t : Tables) (n : ℕ) → AreKnown t → slice_get t.functions.now n ≡ None → function_at (texts_in t) n ≡ None
no-table t n k e =
    ap (option_map function_of)
    (missing-too (graphs_in t) (functions_in (texts_in t)) n k.tables.graphs.count (slice_get-map (λ (x : FunctionTable). graph_in x.graph.now) t.functions.now n ∙ ap (option_map (λ (x : FunctionTable). graph_in x.graph.now)) e))

pub no-objects : (t : Tables) (n : ℕ) → AreKnown t → slice_get (objects_in t) n ≡ None → function_at (texts_in t) n ≡ None
no-objects t n k e = ap (option_map function_of) (missing-too (objects_in t) (functions_in (texts_in t)) n k.count e)

-- the call at a block's end is followed into the function with the number that was found of it
pub leads-into : (t : Tables) (n : ℕ) (d : Defined) (call : Node) (o : Option ℕ) → slice_get (functions_in (texts_in t)) n ≡ Some d
    → o ≡ followed (checker_in t).machine (type_table (texts_in t) d.file) d.file (functions_in (texts_in t)) call
    → followed_into (checker_in t).machine (site t.depth (texts_in t) (function_of d) call) ≡ option_map function_of (o >? slice_get (functions_in (texts_in t)))
leads-into t n d call o at e =
    let m = (checker_in t).machine in
    let ts = texts_in t in
    followed-number m t.depth ts (function_of d) call
    ∙ ap (λ (file : ℕ). option_map function_of (followed m (type_table ts file) file (functions_in ts) call >? slice_get (functions_in ts))) (place-filed (map (λ (x : Text). x.trees) ts) n d at)
    ∙ ap (λ (k : Option ℕ). option_map function_of (k >? slice_get (functions_in ts))) (sym e)

-- the rules of events, one by one, are those that flows ask for
pub of-events : (m : Machine) (depth : ℕ) (f : Function) (hs : List Happening) (rs : List EventRules) → tables_rules.AreOfEvents m depth f hs rs → AreOfEvents m depth f hs rs
of-events m depth f [] [] h = tt
of-events m depth f [] (r ∷ rs) h = absurd h
of-events m depth f (e ∷ hs) [] h = absurd h
of-events m depth f (e ∷ hs) (r ∷ rs) h = (h.0, of-events m depth f hs rs h.1)

-- the rules of a block
pub rules-there : (m : Machine) (depth : ℕ) (ts : List Text) (d : Defined) (bs : List Block) (tables : List BlockTable) (n : ℕ) (x : BlockTable)
    → AreBlockTables m depth ts d bs tables → slice_get tables n ≡ Some x → AreOfEvents m depth (function_of d) (map (happening ts (function_of d)) (events_at (slice_get bs n))) x.rules.items
rules-there m depth ts d [] [] n x h e = cc
rules-there m depth ts d [] (t ∷ tables) n x h e = absurd h
rules-there m depth ts d (b ∷ bs) [] n x h e = cc
rules-there m depth ts d (b ∷ bs) (t ∷ tables) zero x h e =
    let s : t ≡ x = cc in subst (λ (z : BlockTable). AreOfEvents m depth (function_of d) (map (happening ts (function_of d)) b.events) z.rules.items) s
    (of-events m depth (function_of d) (map (happening ts (function_of d)) b.events) t.rules.items h.0.rules)
rules-there m depth ts d (b ∷ bs) (t ∷ tables) (suc n) x h e = rules-there m depth ts d bs tables n x h.1 e

pub rules-none : (m : Machine) (depth : ℕ) (ts : List Text) (d : Defined) (bs : List Block) (tables : List BlockTable) (n : ℕ)
    → AreBlockTables m depth ts d bs tables → slice_get tables n ≡ None → AreOfEvents m depth (function_of d) (map (happening ts (function_of d)) (events_at (slice_get bs n))) []
rules-none m depth ts d [] [] n h e = tt
rules-none m depth ts d [] (t ∷ tables) n h e = absurd h
rules-none m depth ts d (b ∷ bs) [] n h e = absurd h
rules-none m depth ts d (b ∷ bs) (t ∷ tables) zero h e = cc
rules-none m depth ts d (b ∷ bs) (t ∷ tables) (suc n) h e = rules-none m depth ts d bs tables n h.1 e

-- a block by its ending
pub ending-there : (bs : List Block) (n : ℕ) (end : Ending) → option_map (λ (b : Block). b.ending) (slice_get bs n) ≡ Some end → (es : List Event) × Has bs n es end
ending-there bs n end e = by (slice_get bs n) e
  where
    by : (o : Option Block) → option_map (λ (b : Block). b.ending) o ≡ Some end → (es : List Event) × (o ≡ Some (record { events = es; ending = end }))
    by None e = cc
    by (Some b) e = let s : b.ending ≡ end = cc in (b.events, ap (λ (z : Ending). Some (record { events = b.events; ending = z })) s)

-- the function into which the call at a block's end is followed
pub callee-there : (m : Machine) (depth : ℕ) (ts : List Text) (d : Defined) (bs : List Block) (tables : List BlockTable) (n : ℕ) (x : BlockTable) (es : List Event) (call : Node) (next : ℕ)
    → AreBlockTables m depth ts d bs tables → Has bs n es (Calls call next) → slice_get tables n ≡ Some x → x.callee ≡ followed m (type_table ts d.file) d.file (functions_in ts) call
callee-there m depth ts d [] tables n x es call next h b e = cc
callee-there m depth ts d (c ∷ bs) [] n x es call next h b e = cc
callee-there m depth ts d (c ∷ bs) (t ∷ tables) zero x es call next h b e =
    let s : t ≡ x = cc in
    let k : c.ending ≡ Calls call next = cc in
    subst (λ (z : BlockTable). z.callee ≡ followed m (type_table ts d.file) d.file (functions_in ts) call) s (h.0.callee call (ap call_in k))
callee-there m depth ts d (c ∷ bs) (t ∷ tables) (suc n) x es call next h b e = callee-there m depth ts d bs tables n x es call next h.1 b e

pub callee-missing : (m : Machine) (depth : ℕ) (ts : List Text) (d : Defined) (bs : List Block) (tables : List BlockTable) (n : ℕ) (es : List Event) (end : Ending)
    → AreBlockTables m depth ts d bs tables → Has bs n es end → slice_get tables n ≡ None → ⊥
callee-missing m depth ts d [] tables n es end h b e = cc
callee-missing m depth ts d (c ∷ bs) [] n es end h b e = absurd h
callee-missing m depth ts d (c ∷ bs) (t ∷ tables) zero es end h b e = cc
callee-missing m depth ts d (c ∷ bs) (t ∷ tables) (suc n) es end h b e = callee-missing m depth ts d bs tables n es end h.1 b e
