use Rattle.std.proofs.Common.{◌≡◌, ◌∙◌, None, Some, Option, sym, ap}
use Rattle.function_tables.specs.EngineTables.Known.{texts_in}
use Rattle.numbered_program.proofs.KnownEndings.{leads}
use Rattle.numbered_program.proofs.KnownSources.{nobody}
use Rattle.numbered_program.specs.declared.endings.Callee.{Callee}
use Rattle.path_model.specs.CheckerGraphs.Graphs.{function_at}
use Rattle.path_model.specs.CheckerModel.Happenings.{Function}
use Rattle.type_rules.specs.Options.{◌>?◌}
use Rattle.numbered_program.proofs.endings.callee_of.Goals as goal

none_into : {A : Type 0} (g : A → Option Function) (o : Option A) → o ≡ None → None ≡ (o >? g)
none_into g o e = sym (ap (λ x. x >? g) e)

pub returns-in_err-function-clause-followed : goal.returns-in_err-function-clause-followed
returns-in_err-function-clause-followed c = λ states f call next i ends.
    let s = c.args.source.now in
    leads states s f i c.args.block call next None ends c.in_err-function.ensures
    ∙ none_into (λ (k : Callee). function_at (texts_in s.tables.now) k.function) c.from_residual.result c.from_residual.ensures

pub returns-in_err-numbers-clause-followed : goal.returns-in_err-numbers-clause-followed
returns-in_err-numbers-clause-followed c = λ states f call next i ends.
    let s = c.args.source.now in
    leads states s f i c.args.block call next (Some c.in_ok-function.function) ends c.in_ok-function.ensures
    ∙ nobody s.tables.now states s.numbers.now i.known i.numbered c.in_ok-function.function (sym c.in_err-numbers.ensures)
    ∙ none_into (λ (k : Callee). function_at (texts_in s.tables.now) k.function) c.from_residual-in_err-numbers.result c.from_residual-in_err-numbers.ensures

pub returns-clause-followed : goal.returns-clause-followed
returns-clause-followed c = λ states f call next i ends.
    leads states c.args.source.now f i c.args.block call next (Some c.in_ok-function.function) ends c.in_ok-function.ensures
