use Rattle.std.proofs.Common.{sym}
use Rattle.type_rules.proofs.BridgeScopes.{scoped-flat}
use Rattle.type_rules.proofs.BridgeTables.{filled-flat}
use Rattle.type_rules.proofs.BridgeTypes.{typed-flat}
use Rattle.type_rules.proofs.theorems.by_case.Goals as goal

pub returns : goal.returns
returns c v r e table = (sym (scoped-flat v r e), typed-flat v r e, sym (filled-flat v r e table))
