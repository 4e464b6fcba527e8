use Rattle.known_search.proofs.KeyedIndex.Positions.{appended}
use Rattle.known_search.proofs.keyed_index.asking.add_of.Goals as goal

pub returns : goal.returns
returns g c = appended c.args.found.now.items c.in_ok-more.more.items c.append.new.self.items c.in_ok-append.ensures.items c.in_ok-more.ensures
