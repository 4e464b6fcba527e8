use Rattle.std.proofs.Common.{◌<◌, length, refl, arith}
use Rattle.std.proofs.lemmas.Grind.{common_steps}
use Rattle.root_functions.proofs.GraphRoots.Found.{others_none, others_next}
use Rattle.root_functions.proofs.graph_roots.search.Search.add_others.Goals as goal

pub loop-i-init : goal.loop-i-init
loop-i-init c = record {
  reached = c.requires.reached;
  others = others_none c.args.callees.now.items c.args.self.now.roots.items c.args.self.now.roots.items refl;
}

pub loop-i-preserved : goal.loop-i-preserved
loop-i-preserved c =
    let rows = c.args.callees.now.items in
    let i = c.loop-i.i in
    let within : i < length rows = grind (arith, common_steps) in
    record {
      reached = c.in_ok-add_unless.ensures.reached;
      others = others_next rows c.args.self.now.roots.items c.requires.uncalled i within c.contains-known.result c.loop-i.self.roots.items c.loop-i.self.reached.keys c.add_unless.new.self.roots.items
          c.contains-known.ensures c.in_ok-add_unless.ensures.roots c.loop-i.invariant.reached c.loop-i.invariant.others;
    }
