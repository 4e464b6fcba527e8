use Rattle.metal_grammar.specs.FirstFault.{fault_of_rules}
use Rattle.metal_grammar.specs.Rules.{holes_of, rules_of}
use Rattle.metal_written.specs.Written.{clause_views}
use Rattle.metal_reader.specs.MetalFaults.FirstFaults.{faults_before_rules}
use Rattle.metal_reader.proofs.Few.{in_turn}
use Rattle.metal_reader.proofs.Refusing.{says_later, says_first}
use Rattle.metal_reader.proofs.reading.machine_of.Goals as goal

pub returns-in-Ok-clause-faults : goal.returns-in-Ok-clause-faults
returns-in-Ok-clause-faults c =
    let cs = clause_views c.args.clauses.now in
    let names = c.args.names.now in
    says_later c.machine_behind.result c.args.file (faults_before_rules cs) (fault_of_rules names (holes_of names cs) (rules_of cs)) _ (in_turn names cs) c.in-Ok.ensures c.machine_behind.ensures.faults

pub returns-in-Err-clause-faults : goal.returns-in-Err-clause-faults
returns-in-Err-clause-faults c =
    let cs = clause_views c.args.clauses.now in
    let names = c.args.names.now in
    says_first c.in-Err.fault c.args.file (faults_before_rules cs) (fault_of_rules names (holes_of names cs) (rules_of cs)) _ (in_turn names cs) c.in-Err.ensures
