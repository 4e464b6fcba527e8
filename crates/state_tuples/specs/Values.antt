-- What the types of the program stand for.
use Rattle.path_model.specs.CheckerModel.Happenings.{Function, Happening}
use Rattle.flow_graph.specs.declared.event.Event.{Event}
use Rattle.flow_graph.specs.Values.{event_of}
use Rattle.objects.specs.Units.{facts_in}
use Rattle.state_tuples.specs.declared.frame.Frame.{Frame}
use Rattle.typed_unit.specs.declared.typed_unit.TypedUnit.{TypedUnit}

abbrev pub happening_in : TypedUnit → Event → Happening
happening_in u e = record { facts = facts_in u; tokens = u.unit.tokens.now; event = event_of e }

abbrev pub function_of : Frame → Function
function_of f = record { place = f.function; name = f.name }
