use Rattle.event_places.proofs.TakenTrees.{path-spelled}
use Rattle.event_places.proofs.theorems.taken_trees_are_spelled.Goals as goal

pub returns : goal.returns
returns c checker ts stand f k p q b P h goes d items binding e hole x s = path-spelled checker ts stand P h goes d items binding e hole x s
