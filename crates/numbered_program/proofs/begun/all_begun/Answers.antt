use Rattle.call_graph.specs.declared.programs.functions.FnId.{FnId}
use Rattle.least_set.specs.Logs.{IsExactly, SomeGives}
use Rattle.least_set.proofs.Growing.{all_of}
use Rattle.numbered_program.proofs.KnownBeginnings.{given_at}
use Rattle.numbered_program.specs.Begun.{BeginsIn}
use Rattle.numbered_program.proofs.begun.all_begun.Goals as goal

pub loop-root-preserved : goal.loop-root-preserved
loop-root-preserved c =
    given_at (λ (f : FnId). BeginsIn c.args.numbers.now f.number) c.args.roots.now c.loop-root.root-index _ c.loop-root.edges.items c.in_ok-found.found.items c.append.new.self.items c.loop-root-test.true
    c.loop-root.invariant c.in_ok-found.ensures c.in_ok-append.ensures.items

pub returns : goal.returns
returns c =
    all_of (λ l. IsExactly c.loop-root.edges.items (SomeGives (λ (f : FnId). BeginsIn c.args.numbers.now f.number) l)) c.args.roots.now c.loop-root.root-index c.loop-root-test.false c.loop-root.auto.root-index-end
    c.loop-root.invariant
