-- The object whose state another one has.
use Rattle.std.specs.Prelude.{Option, None, Some}
use Rattle.c_objects.specs.Objects.{Object}
use Rattle.objects.specs.declared.origin.Origin.{Origin}
use Rattle.objects.specs.declared.origin.Origin.TheVariants as origin

-- by how it is named for this object
abbrev pub origin_of : Object → Origin → Option Object
origin_of o origin.Same = Some o
origin_of o (origin.From q) = Some q
origin_of o origin.Nothing = None
