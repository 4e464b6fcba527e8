use Rattle.std.proofs.Common.{◌≡◌, ◌≤◌, drop}
use Rattle.call_graph.specs.FunctionGraphs.Closing.{closing}
use Rattle.call_graph.proofs.function_graphs.closing.closing.Given as goal

-- the tokens that are left decide; no more braces are open than tokens were gone over
abbrev pub invariant-loop-token : goal.invariant-loop-token
invariant-loop-token l = record {
  open_braces : l.open_braces ≤ l.token-index;
  rest : closing l.open_braces (drop l.token-index l.tokens) ≡ closing 0 l.tokens;
}
