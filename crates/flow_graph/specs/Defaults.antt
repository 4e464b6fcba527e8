-- Whether a statement has a `default` is seen from its shape alone: it doesn't matter what is known, nor where its function is.
use Rattle.std.specs.Prelude.{false, None}
use Rattle.c_tree.specs.declared.place.Place.{Place}
use Rattle.flow_graph.specs.CPaths.Facts.{Facts}

-- nothing is known
abbrev pub silent : Facts
silent = record { has_body = λ n. false; variable_of = λ n. None }

abbrev pub nowhere : Place
nowhere = record { file = 0; token = 0 }
