use Rattle.std.specs.Prelude.{IsTrue}
use Rattle.path_theory.specs.Marks.{under}
use Rattle.path_theory.specs.Numbered.{model, bodies_of}
use Rattle.path_theory.proofs.FlatPaths.{in_errors}
use Rattle.path_theory.proofs.Traces.{reported_on}
use Rattle.path_theory.proofs.Erasure.{traces_under}
use Rattle.path_theory.proofs.theorems.same_marks_are_one_program.Goals as goal

pub returns : goal.returns
returns k c is_root followed b d to back r =
    let on_b = in_errors (model c) (under (model c) (λ f. IsTrue (is_root f)) followed (bodies_of c b)) r in
    let on_d = in_errors (model c) (under (model c) (λ f. IsTrue (is_root f)) followed (bodies_of c d)) r in (
      (λ w. on_d.1 (reported_on (model c) _ _ (traces_under (model c) (λ f. IsTrue (is_root f)) followed (bodies_of c b) (bodies_of c d) to) r (on_b.0 w))),
      (λ w. on_b.1 (reported_on (model c) _ _ (traces_under (model c) (λ f. IsTrue (is_root f)) followed (bodies_of c d) (bodies_of c b) back) r (on_d.0 w))),
    )
