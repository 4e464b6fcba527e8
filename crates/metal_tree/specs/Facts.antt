-- That a machine keeps to its rules is one fact: it has one proof at most.
use Rattle.std.specs.Prelude.{ℕ, List, [], ◌∷◌, ◌+◌}
use Rattle.std.specs.Coded.{×_prop, Unit-prop}
use Rattle.std.proofs.Props.{props}
use Rattle.metal_tree.specs.MetalMachines.Machine.{Rule, Machine}
use Rattle.metal_tree.specs.MetalMachines.Limits.{AreNumbered, IsLimited}
use Rattle.metal_tree.specs.MetalMachines.Kept.{IsKeptBy, AreKept, IsKept}

pub AreNumbered-prop : (number : ℕ) (rs : List Rule) → IsProp (AreNumbered number rs)
AreNumbered-prop number [] = Unit-prop
AreNumbered-prop number (r ∷ rs) = ×_prop (Prim.hlevel props) (AreNumbered-prop (number + 1) rs)

pub IsLimited-prop : (m : Machine) → IsProp (IsLimited m)
IsLimited-prop m = Prim.hlevel (AreNumbered-prop, props)

pub IsKeptBy-prop : (m : Machine) (r : Rule) → IsProp (IsKeptBy m r)
IsKeptBy-prop m r = Prim.hlevel props

pub AreKept-prop : (m : Machine) (rs : List Rule) → IsProp (AreKept m rs)
AreKept-prop m [] = Unit-prop
AreKept-prop m (r ∷ rs) = ×_prop (IsKeptBy-prop m r) (AreKept-prop m rs)

pub IsKept-prop : (m : Machine) → IsProp (IsKept m)
IsKept-prop m = Prim.hlevel (IsLimited-prop, AreKept-prop, props)
