use Rattle.path_theory.specs.Numbered.{model, origins_of, supergraph_of}
use Rattle.path_theory.proofs.FlatPaths.{in_errors}
use Rattle.path_theory.proofs.Traces.{reported_on, by_traces, to_traces}
use Rattle.path_theory.proofs.theorems.same_traces_are_one_program.Goals as goal

pub returns-clause-reports : goal.returns-clause-reports
returns-clause-reports k c p q same r =
    let on_p = in_errors (model c) (supergraph_of c p) r in
    let on_q = in_errors (model c) (supergraph_of c q) r in (
      (λ w. on_q.1 (reported_on (model c) (supergraph_of c p) (supergraph_of c q) same.0 r (on_p.0 w))),
      (λ w. on_p.1 (reported_on (model c) (supergraph_of c q) (supergraph_of c p) same.1 r (on_q.0 w))),
    )

pub returns-clause-realised : goal.returns-clause-realised
returns-clause-realised k c p q same f is_root g₀ t₀ place g t = (
  by_traces (model c) (supergraph_of c p) (supergraph_of c q) same.0 (origins_of c),
  to_traces (model c) (supergraph_of c p) (supergraph_of c q) same.0 same.1 (origins_of c),
)
