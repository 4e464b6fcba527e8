use Rattle.c_tree.specs.Views.{node_of}
use Rattle.flow_graph.specs.CPaths.Fragments.{ToEither}
use Rattle.flow_graph.specs.CPaths.TreeForms.{form_of}
use Rattle.flow_graph.proofs.Loops.{still_within}
use Rattle.flow_graph.proofs.builder.Builder.test.Goals as goal

pub fill-requires-in-Some : goal.fill-requires-in-Some
fill-requires-in-Some g c =
    still_within (form_of (g.F.Facts.known c.args.facts.now) (node_of c.in-Some.condition.now)) (ToEither c.args.turn.inside c.args.next) c.args.turn.head c.in_ok-first-in-Some.first c.args.self.now.drafts.items c.expression.new.self.drafts.items c.requires c.in_ok-first-in-Some.ensures
