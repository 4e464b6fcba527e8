use Rattle.std.proofs.Common.{refl}
use Rattle.path_examples.specs.declared.checker.Variable.TheVariants.{WalkFormal, StartFormal, HelpFormal}
use Rattle.path_examples.specs.declared.program.CallSite.TheVariants.{WalkAgain, FirstHelp, SecondHelp}
use Rattle.path_examples.proofs.EngineSteps.{goes_over_at}
use Rattle.path_examples.proofs.steps.handed_back.Goals as goal

pub returns-in-WalkAgain-WalkFormal-clause-behind : goal.returns-in-WalkAgain-WalkFormal-clause-behind
returns-in-WalkAgain-WalkFormal-clause-behind c = goes_over_at c.args.site WalkAgain c.args.end.interrupts WalkFormal c.args.end.variable WalkFormal c.args.end.state c.in-WalkAgain-WalkFormal.is-0 c.in-WalkAgain-WalkFormal.is-1 refl

pub returns-in-FirstHelp-HelpFormal-clause-behind : goal.returns-in-FirstHelp-HelpFormal-clause-behind
returns-in-FirstHelp-HelpFormal-clause-behind c = goes_over_at c.args.site FirstHelp c.args.end.interrupts StartFormal c.args.end.variable HelpFormal c.args.end.state c.in-FirstHelp-HelpFormal.is-0 c.in-FirstHelp-HelpFormal.is-1 refl

pub returns-in-SecondHelp-HelpFormal-clause-behind : goal.returns-in-SecondHelp-HelpFormal-clause-behind
returns-in-SecondHelp-HelpFormal-clause-behind c = goes_over_at c.args.site SecondHelp c.args.end.interrupts StartFormal c.args.end.variable HelpFormal c.args.end.state c.in-SecondHelp-HelpFormal.is-0 c.in-SecondHelp-HelpFormal.is-1 refl
