-- A path with its last step first.
use Rattle.std.proofs.Common.{◌≡◌, List, [], ◌∷◌, ◌++◌, map, reverse, ap, arith}
use Rattle.std.proofs.lemmas.Grind.{common_steps}
use Rattle.c_objects.specs.Objects.{Selector}
use Rattle.objects.specs.Selectors.{selector_of, selectors_of}
use Rattle.objects.specs.declared.selector.Selector as code

pub reversed : (xs rest : List code.Selector) (x : code.Selector) → xs ≡ rest ++ (x ∷ []) → reverse (selectors_of xs) ≡ selector_of x ∷ reverse (selectors_of rest)
reversed xs rest x e = grind (arith, common_steps, e)
