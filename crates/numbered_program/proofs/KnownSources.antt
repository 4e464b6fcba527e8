-- What is known of a function whose rows are made.
use Rattle.std.proofs.Common.{◌≡◌, ℕ, ◌<◌, List, [], length, Option, None, Some, slice_get, sym, ap, ◌∙◌}
use Rattle.std.proofs.lemmas.Option.{same_Some, slice_get-map}
use Rattle.std.specs.Option.{option_map}
use Rattle.c_objects.specs.Objects.{Object}
use Rattle.flow_graph.specs.CPaths.Building.{Graph}
use Rattle.flow_graph.specs.Seen.{graph_in}
use Rattle.function_tables.proofs.EngineTables.Places.{IsPlace, named, no-objects, place}
use Rattle.function_tables.specs.EngineTables.Known.{AreKnown, graphs_in, objects_in, texts_in}
use Rattle.function_tables.specs.declared.engine_tables.frames.Frame.{Frame}
use Rattle.function_tables.specs.declared.engine_tables.tables.Tables.{Tables}
use Rattle.function_tables.specs.declared.table.FunctionTable.{FunctionTable}
use Rattle.function_tables.proofs.OneByOne.{no-partner, partner}
use Rattle.numbered_program.specs.Numbered.{AreNumbered, AreNumbersOf, IsSourceOf}
use Rattle.numbered_program.specs.Views.{listed_at}
use Rattle.numbered_program.specs.declared.numbers.FunctionSource.{FunctionSource}
use Rattle.numbered_program.specs.declared.numbers.Numbers.{Numbers}
use Rattle.path_model.specs.CheckerGraphs.Graphs.{function_at}
use Rattle.path_model.specs.CheckerModel.Choices.{State}
use Rattle.path_model.specs.CheckerModel.Happenings.{Function}
use Rattle.path_model.specs.CheckerPrograms.Texts.{function_of}
use Rattle.type_rules.specs.Options.{if_there}

pub nowhere : (f : Function) → None ≡ Some f → ⊥
nowhere f e = cc

-- the list with a number
pub listed : (lists : List (List Object)) (n : ℕ) (os : List Object) → slice_get lists n ≡ Some os → listed_at lists n ≡ os
listed lists n os e = ap (λ (q : Option (List Object)). if_there q [] (λ l. l)) e

-- where there are no numbers there is no function
pub nobody : (t : Tables) (states : List State) (numbers : List Numbers) → AreKnown t → AreNumbered states (objects_in t) numbers → (n : ℕ) → slice_get numbers n ≡ None
    → function_at (texts_in t) n ≡ None
nobody t states numbers k h n e = no-objects t n k (no-partner (AreNumbersOf states) (objects_in t) numbers n h e)

module _ (states : List State) (s : FunctionSource) (f : Function) (i : IsSourceOf states s f) where
  abbrev t : Tables
  t = s.tables.now

  abbrev graph : Graph
  graph = graph_in s.table.now.graph.now

  abbrev keys : List Object
  keys = s.own.now.numbering.objects.now.keys

  -- the objects that are followed in it
  pub own_list : (os : List Object) × (slice_get (objects_in t) s.function ≡ Some os) × AreNumbersOf states os s.own.now
  own_list = partner (AreNumbersOf states) (objects_in t) s.numbers.now s.function s.own.now i.numbered i.own

  pub own_listed : keys ≡ listed_at (objects_in t) s.function
  own_listed = own_list.2.follows ∙ sym (listed (objects_in t) s.function own_list.0 own_list.1)

  abbrev pub frame : Frame
  frame = record { table = s.table; objects = s.own.now.numbering.objects }

  pub here : IsPlace t s.function frame
  here = place t s.function frame i.known (record { table = i.table; objects = own_list.1 ∙ ap (λ (os : List Object). Some os) (sym own_list.2.follows) })

  pub own_function : f ≡ function_of here.defined
  own_function = same_Some f (function_of here.defined) (sym i.named ∙ named t s.function here.defined here.is)

  pub own_graph : slice_get (graphs_in t) s.function ≡ Some graph
  own_graph = slice_get-map (λ (x : FunctionTable). graph_in x.graph.now) t.functions.now s.function ∙ ap (option_map (λ (x : FunctionTable). graph_in x.graph.now)) i.table

  -- its first block is one of its blocks
  pub first_within : graph.entry < length graph.blocks
  first_within = (i.known.tables.graphs.each s.function here.defined graph here.is own_graph).sound.1
