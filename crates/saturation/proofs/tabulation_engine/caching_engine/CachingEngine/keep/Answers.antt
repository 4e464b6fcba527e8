use Rattle.std.proofs.Common.{Some, subst}
use Rattle.std.specs.Prelude.{OnOk}
use Rattle.indexmap.specs.IndexMap.{Updates}
use Rattle.saturation.proofs.TabulationEngine.Keeping.{kept-after}
use Rattle.path_edges.specs.Ways.Equality.{edges_agree}
use Rattle.saturation.proofs.tabulation_engine.caching_engine.CachingEngine.keep.Goals as goal

pub invariant_of-self : goal.invariant_of-self
invariant_of-self c =
    let s = c.args.self.now in
    let updated = subst (λ key. OnOk c.insert.result (Updates edges_agree s.ended c.insert.new.self key (Some c.args.tuples))) c.copy_edge.ensures c.insert.ensures.updates in
    record { exact = kept-after s.engine.now.tables c.args.edge.now c.args.tuples c.insert.result s.ended c.insert.new.self updated c.insert.ensures.err c.requires s.exact }
