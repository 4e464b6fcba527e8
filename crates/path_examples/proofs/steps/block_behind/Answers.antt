use Rattle.std.proofs.Common.{sym, subst}
use Rattle.path_examples.specs.declared.program.CallSite.TheVariants.{WalkAgain, FirstHelp, SecondHelp}
use Rattle.path_examples.specs.declared.program.Block.TheVariants.{Between, After}
use Rattle.path_examples.specs.Steps.{ReturnsTo}
use Rattle.path_examples.proofs.EngineSteps.{returns_to}
use Rattle.path_examples.proofs.steps.block_behind.Goals as goal

pub returns-in-WalkAgain : goal.returns-in-WalkAgain
returns-in-WalkAgain c = subst (λ s. ReturnsTo s After) (sym c.in-WalkAgain.is) (returns_to WalkAgain)

pub returns-in-FirstHelp : goal.returns-in-FirstHelp
returns-in-FirstHelp c = subst (λ s. ReturnsTo s Between) (sym c.in-FirstHelp.is) (returns_to FirstHelp)

pub returns-in-SecondHelp : goal.returns-in-SecondHelp
returns-in-SecondHelp c = subst (λ s. ReturnsTo s After) (sym c.in-SecondHelp.is) (returns_to SecondHelp)
