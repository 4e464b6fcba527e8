use Rattle.least_set.proofs.Growing.{adds_exactly}
use Rattle.least_set.proofs.driver.combine.Goals as goal

pub returns : goal.returns
returns g c = adds_exactly c.in_ok-found.found.items c.in_ok-add_all.ensures c.in_ok-found.ensures
