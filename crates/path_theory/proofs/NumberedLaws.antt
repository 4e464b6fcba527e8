-- Numbered checkers are local, since their moves are given by origins.
use Rattle.std.proofs.Common.{refl}
use Rattle.path_theory.specs.Origins.{IsLocal}
use Rattle.path_theory.specs.Numbered.{Checker, model, origins_of}

pub numbered_local : (c : Checker) → IsLocal (model c) (origins_of c)
numbered_local c = record { moved = λ e m o. refl; entered = λ s m o. refl; returned = λ s n m o. refl }
