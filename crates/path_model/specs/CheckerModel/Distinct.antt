-- LISTS THAT HAVE EACH OBJECT ONCE.
use Rattle.std.specs.Prelude.{List, [], ◌∷◌}
use Rattle.c_objects.specs.Objects.{Object}
use Rattle.flow_graph.specs.CPaths.Membership.{Among}

abbrev pub AreDistinct : List Object → Type 0
AreDistinct [] = Unit {0}
AreDistinct (q ∷ qs) = (Among q qs → ⊥) × AreDistinct qs
