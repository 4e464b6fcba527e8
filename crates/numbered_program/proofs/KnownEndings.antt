-- How the blocks of a function end, by what is known of it.
use Rattle.std.proofs.Common.{◌≡◌, ℕ, List, Option, Some, slice_get, sym, ap, subst, ◌∙◌}
use Rattle.std.specs.Option.{option_map}
use Rattle.block_flows.specs.TupleFlows.Passed.{IsSite}
use Rattle.c_objects.specs.Objects.{Object}
use Rattle.c_tree.specs.Node.{Node}
use Rattle.call_graph.specs.Followed.{followed}
use Rattle.flow_graph.specs.CPaths.Building.{Graph}
use Rattle.flow_graph.specs.CPaths.Events.{Event}
use Rattle.flow_graph.specs.CPaths.Fragments.{Has}
use Rattle.flow_graph.specs.CPaths.Graphs as graphs
use Rattle.flow_graph.specs.Seen.{graph_in}
use Rattle.function_tables.proofs.EngineTables.Places.{ending-there, leads-into, there-too}
use Rattle.function_tables.specs.EngineTables.Known.{checker_in, objects_in, texts_in}
use Rattle.function_tables.specs.Tables.{AreBlockTables}
use Rattle.function_tables.specs.declared.engine_tables.tables.Tables.{Tables}
use Rattle.metal_tree.specs.MetalMachines.Machine.{Machine}
use Rattle.numbered_program.specs.NumberedCalls.FollowedCall.{IsFollowedCall}
use Rattle.numbered_program.specs.NumberedCalls.Stands.{StandsForSites}
use Rattle.numbered_engine.specs.declared.program.Call.{Call}
use Rattle.numbered_engine.specs.declared.program.Ending.{Ending}
use Rattle.numbered_engine.specs.declared.program.Ending.TheVariants as ending
use Rattle.numbered_program.proofs.KnownSources.{here, listed, own_function, own_listed}
use Rattle.function_tables.proofs.OneByOne.{partner}
use Rattle.numbered_program.specs.Made.{IsEndingIn}
use Rattle.numbered_program.specs.Numbered.{AreNumbersOf, EndsIn, IsSourceOf, followed_from}
use Rattle.numbered_program.specs.Rows.{FollowsCall}
use Rattle.numbered_program.specs.Views.{listed_at, swapped}
use Rattle.numbered_program.specs.declared.numbers.FunctionSource.{FunctionSource}
use Rattle.numbered_program.specs.declared.numbers.Numbers.{Numbers}
use Rattle.path_model.specs.CheckerGraphs.Graphs.{function_at}
use Rattle.path_model.specs.CheckerModel.Choices.{State}
use Rattle.path_model.specs.CheckerModel.Happenings.{Function}
use Rattle.path_model.specs.CheckerPrograms.Texts.{function_of, functions_in, site, type_table}
use Rattle.refine_restore.specs.Sites.{site_of}
use Rattle.refine_restore.specs.declared.site.Site as code
use Rattle.type_rules.specs.Definition.{Table}
use Rattle.type_rules.specs.Functions.{Defined}
use Rattle.type_rules.specs.Options.{◌>?◌}
use Rattle.typed_unit.specs.Texts.{Text}

-- an end that is the same as another one
pub same_end : (states : List State) (s : FunctionSource) (f : Function) (b : ℕ) (x y : graphs.Ending) (e : Ending) → x ≡ y → (EndsIn s b y → IsEndingIn states s f y e)
    → EndsIn s b x → IsEndingIn states s f x e
same_end states s f b x y e same h ends = subst (λ (z : graphs.Ending). IsEndingIn states s f z e) (sym same) (h (ends ∙ ap (λ (z : graphs.Ending). Some z) same))

module _ (states : List State) (s : FunctionSource) (f : Function) (i : IsSourceOf states s f) where
  abbrev t : Tables
  t = s.tables.now

  abbrev graph : Graph
  graph = graph_in s.table.now.graph.now

  abbrev own : List Object
  own = s.own.now.numbering.objects.now.keys

  -- the function into which the call at the end of a block is followed, by what the table of the block says
  pub leads : (b : ℕ) (call : Node) (next : ℕ) (o : Option ℕ) → EndsIn s b (graphs.Calls call next)
      → ((m : Machine) (depth : ℕ) (ts : List Text) (d : Defined) (es : List Event) (n : Node) (k : ℕ) → AreBlockTables m depth ts d graph.blocks s.table.now.blocks.items → Has graph.blocks b es (graphs.Calls n k)
      → o ≡ followed m (type_table ts d.file) d.file (functions_in ts) n)
      → followed_from s f call ≡ option_map function_of (o >? slice_get (functions_in (texts_in t)))
  leads b call next o ends says =
      let at = here states s f i in
      let has = ending-there graph.blocks b (graphs.Calls call next) ends in
      ap (λ (z : Function). followed_from s z call) (own_function states s f i)
      ∙ leads-into t s.function at.defined call o at.is (says (checker_in t).machine t.depth (texts_in t) at.defined has.0 call next at.blocks has.1)

  -- the end of a block in a call that is followed into the function with this number
  pub call_stands : (call : Node) (next k behind : ℕ) (callee : Numbers) (passed : code.Site) (by : Call) → slice_get s.numbers.now k ≡ Some callee → followed_from s f call ≡ function_at (texts_in t) k
      → ((d : Defined) → slice_get (functions_in (texts_in t)) s.function ≡ Some d → IsSite t.depth passed (site t.depth (texts_in t) (function_of d) call))
      → behind ≡ swapped graph.entry next → IsFollowedCall t.depth (site_of t.depth passed) own callee.numbering.objects.now.keys k behind by
      → StandsForSites t.depth passed own callee.numbering.objects.now.keys by → IsEndingIn states s f (graphs.Calls call next) (ending.Calls by)
  call_stands call next k behind callee passed by numbers into passes to made stands =
      let lists = objects_in t in
      let them = partner (AreNumbersOf states) lists s.numbers.now k callee i.numbered numbers in
      let there = there-too lists (functions_in (texts_in t)) k them.0 i.known.count them.1 in
      let named : function_at (texts_in t) k ≡ Some (function_of there.0) = ap (option_map function_of) there.1 in
      let list : listed_at lists by.callee ≡ them.0 = ap (listed_at lists) made.callee ∙ listed lists k them.0 them.1 in
      let at = here states s f i in
      let one = subst (λ (os : List Object). StandsForSites t.depth passed own os by) (them.2.follows ∙ sym list) stands in
      FollowsCall call next (function_of there.0) by passed (into ∙ named) (ap (function_at (texts_in t)) made.callee ∙ named) (made.behind ∙ to)
      (subst (λ (z : Function). IsSite t.depth passed (site t.depth (texts_in t) z call)) (sym (own_function states s f i)) (passes at.defined at.is))
      (subst (λ (os : List Object). StandsForSites t.depth passed os (listed_at lists by.callee) by) (own_listed states s f i) one)
