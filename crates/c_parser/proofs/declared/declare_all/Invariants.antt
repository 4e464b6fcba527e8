use Rattle.std.proofs.Common.{◌≡◌, drop}
use Rattle.c_tree.specs.Forget.{view_all}
use Rattle.c_grammar.specs.Names.{with_params}
use Rattle.c_parser.proofs.declared.declare_all.Given as goal

abbrev pub invariant-loop-param : goal.invariant-loop-param
invariant-loop-param l = record {
  now : with_params (view_all (drop l.param-index l.params)) l.names.now ≡ with_params (view_all l.params) l.fn.names.now;
  saved : l.names.saved ≡ l.fn.names.saved;
}
