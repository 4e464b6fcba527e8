-- What is asked of the one subject in a slot.
use Rattle.std.proofs.Common.{◌≡◌, Bool, false, Option, None, Some, refl}
use Rattle.std.specs.Option.{option_map}
use Rattle.c_objects.specs.Objects.{Object}
use Rattle.type_rules.specs.Options.{if_there}
use Rattle.type_rules.specs.Vars.{CVar}
use Rattle.hole_matcher.specs.HoleBindings.Sorts.{one_in}
use Rattle.hole_matching.specs.Callouts.{of_one}
use Rattle.hole_matching.specs.Matching.{Taken, One, Many}
use Rattle.c_tree.specs.PathSubjects.Subjects.{Subject}

pub of_one_is : (holds : Subject → Bool) (x : Option Taken) → if_there (one_in x) false holds ≡ of_one holds x
of_one_is holds None = refl
of_one_is holds (Some (One s)) = refl
of_one_is holds (Some (Many ss)) = refl

pub has_base_is : (sort : CVar → Bool) (o : Option Object) → if_there (option_map (λ (x : Object). x.base) o) false sort ≡ if_there o false (λ x. sort x.base)
has_base_is sort None = refl
has_base_is sort (Some o) = refl
