-- Where events stand in the text of their file.
use Rattle.c_tree.specs.declared.place.Place.{Place}
use Rattle.c_tree.specs.PathSubjects.Subjects.{tree_place, subject_place}
use Rattle.flow_graph.specs.CPaths.Events.{Event, Evaluated, Declared, Branched, Exited}

abbrev pub event_place : Event → Place
event_place (Evaluated s) = subject_place s
event_place (Declared x) = x.place
event_place (Branched n t) = tree_place n
event_place (Exited function place) = place
