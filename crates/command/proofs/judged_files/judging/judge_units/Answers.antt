use Rattle.std.proofs.Common.{length, ap, ◌∙◌, subst, arith}
use Rattle.path_model.specs.CheckerPrograms.Reported.{AreReports}
use Rattle.path_model.specs.CheckerPrograms.Texts.{functions_in}
use Rattle.typed_unit.specs.Texts as units
use Rattle.command.specs.CheckerReports.Checkers.{checkers_in}
use Rattle.command.specs.JudgedFiles.Linking.{HaveToken}
use Rattle.command.specs.Ways.Counts.{IsCountFor}
use Rattle.call_graph.specs.OfPrograms.Repeats.{link_fault}
use Rattle.request_files.specs.Views.{machines_of, texts_of}
use Rattle.command.proofs.JudgedFiles.Linked.{functions_are, lent_numbered, of_repeated, texts_are}
use Rattle.command.proofs.judged_files.judging.judge_units.Goals as goal

pub link-requires-clause-numbered : goal.link-requires-clause-numbered
link-requires-clause-numbered c = lent_numbered c.in-Ok.lent.items c.args.units.now c.in-Ok.ensures c.requires.numbered

pub link-requires-clause-few_functions : goal.link-requires-clause-few_functions
link-requires-clause-few_functions c = omega (arith, c.requires.few_functions, ap length (functions_are c.in-Ok.lent.items c.args.units.now c.in-Ok.ensures))

pub returns-in-Ok-all_found-clause-linked : goal.returns-in-Ok-all_found-clause-linked
returns-in-Ok-all_found-clause-linked c = ap link_fault (functions_are c.in-Ok.lent.items c.args.units.now c.in-Ok.ensures) ∙ c.in-Ok-link.ensures.linked

pub returns-in-Ok-all_found-clause-reports : goal.returns-in-Ok-all_found-clause-reports
returns-in-Ok-all_found-clause-reports c =
    subst (λ ts. ∥ AreReports (checkers_in (machines_of c.args.machines.now) c.args.depth c.args.names.now) ts c.in-Ok-all_found.found.reports.items ∥₁)
    (ap (λ us. units.texts_of us.items) c.in-Ok-link.ensures.units ∙ texts_are c.in-Ok.lent.items c.args.units.now c.in-Ok.ensures) c.in-Ok-all_found.ensures.reports

pub returns-in-Ok-all_found-clause-counted : goal.returns-in-Ok-all_found-clause-counted
returns-in-Ok-all_found-clause-counted c =
    subst (λ ts. IsCountFor c.args.stats (checkers_in (machines_of c.args.machines.now) c.args.depth c.args.names.now) ts c.in-Ok-all_found.found.entries)
    (ap (λ us. units.texts_of us.items) c.in-Ok-link.ensures.units ∙ texts_are c.in-Ok.lent.items c.args.units.now c.in-Ok.ensures) c.in-Ok-all_found.ensures.counted

pub defined_again-requires : goal.defined_again-requires
defined_again-requires c =
    of_repeated (λ place. HaveToken c.args.names.now (texts_of c.args.units.now) place) (functions_in (texts_of c.args.units.now)) c.in-Err-DuplicateFunction.field-0-0 c.in-Err-DuplicateFunction.place
    (ap link_fault (functions_are c.in-Ok.lent.items c.args.units.now c.in-Ok.ensures) ∙ (rw c.in-Err-DuplicateFunction.field-0-is at c.in-Err-DuplicateFunction.ensures.fault)) c.requires.placed

pub returns-in-Ok-defined_again-clause-unlinked : goal.returns-in-Ok-defined_again-clause-unlinked
returns-in-Ok-defined_again-clause-unlinked c = record {
  name = c.in-Err-DuplicateFunction.field-0-0;
  place = c.in-Err-DuplicateFunction.place;
  again = ap link_fault (functions_are c.in-Ok.lent.items c.args.units.now c.in-Ok.ensures) ∙ (rw c.in-Err-DuplicateFunction.field-0-is at c.in-Err-DuplicateFunction.ensures.fault);
  fault_is = c.in-Ok-defined_again.ensures.fault;
  there = c.in-Ok-defined_again.ensures.there;
}
