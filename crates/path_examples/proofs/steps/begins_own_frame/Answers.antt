use Rattle.std.proofs.Common.{◌≡◌, false, IsTrue, sym, subst}
use Rattle.path_examples.specs.declared.checker.Interrupts.TheVariants.{Enabled, Disabled}
use Rattle.path_theory.specs.Facts.{HasObject}
use Rattle.path_theory.specs.Merged.{IsUnknown}
use Rattle.path_examples.specs.declared.checker.Interrupts.{Interrupts}
use Rattle.path_examples.specs.Checker.{locks}
use Rattle.path_examples.specs.Steps.{BeginsOwnFrame}
use Rattle.path_examples.proofs.EngineSteps.{begins_unknown, own_begins}
use Rattle.path_examples.proofs.steps.begins_own_frame.Goals as goal

not_true : {B : Type 0} → IsTrue false → B
not_true w = cc

not_both : {B : Type 0} (g : Interrupts) → g ≡ Enabled → g ≡ Disabled → B
not_both g a b = cc

pub returns-in-Enabled-None : goal.returns-in-Enabled-None
returns-in-Enabled-None c =
    let f = c.args.function in
    let o = c.args.entry.variable in (
      (λ w.
          subst (λ g. BeginsOwnFrame f g o c.args.entry.state) (sym c.in-Enabled-None.is-0)
          (subst (λ x. BeginsOwnFrame f Enabled o x) (sym c.in-Enabled-None.is-1) (begins_unknown f o c.requires.own (c.is_root.ensures.0 w)))),
      (λ e. c.is_root.ensures.1 (own_begins f c.args.entry.interrupts o c.args.entry.state e).0),
    )

pub returns-in-Enabled-Some : goal.returns-in-Enabled-Some
returns-in-Enabled-Some c = (
  (λ w. not_true w),
  (λ e. absurd (subst (λ x. IsUnknown locks (HasObject c.args.entry.variable x)) c.in-Enabled-Some.is-1 (own_begins c.args.function c.args.entry.interrupts c.args.entry.variable c.args.entry.state e).2)),
)

pub returns-in-Disabled-default : goal.returns-in-Disabled-default
returns-in-Disabled-default c = (
  (λ w. not_true w),
  (λ e. not_both c.args.entry.interrupts (own_begins c.args.function c.args.entry.interrupts c.args.entry.variable c.args.entry.state e).1 c.in-Disabled-default.is-0),
)
