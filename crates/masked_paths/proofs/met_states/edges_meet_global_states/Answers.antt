use Rattle.path_theory.specs.Numbered.{model, graphs_of, supergraph_of}
use Rattle.masked_paths.specs.MetTheorems.{met_of, stands_of, following_none}
use Rattle.masked_paths.proofs.MetBlocks.{blocks_cover_met}
use Rattle.masked_paths.proofs.MetTraces.{traces_cover_met}
use Rattle.masked_paths.proofs.MetLogs.{log_stands, log_covers_met}
use Rattle.masked_paths.proofs.met_states.edges_meet_global_states.Goals as goal

pub returns-clause-blocks : goal.returns-clause-blocks
returns-clause-blocks k c p s covers = blocks_cover_met (model c) (graphs_of c p) (stands_of c p s) covers

pub returns-clause-stand : goal.returns-clause-stand
returns-clause-stand k s log least = log_stands s log least

pub returns-clause-events : goal.returns-clause-events
returns-clause-events k c p function numbers log least = log_covers_met (following_none c p function numbers) log least

pub returns-clause-traces : goal.returns-clause-traces
returns-clause-traces k c p q r traces covers = traces_cover_met (model c) (supergraph_of c p) (supergraph_of c q) traces (met_of c r) covers
