use Rattle.std.proofs.Common.{rules, ltb}
use Rattle.std.proofs.lemmas.List.Sorted.{IsPartitionPoint-from_clause, IsPartitionedBy-ltb}
use Rattle.c_tree.specs.declared.token.Token.{Token}
use Rattle.typed_unit.proofs.TokenSearch.Tokens.{all_behind, behind, in_file}
use Rattle.typed_unit.proofs.token_search.search.from_number.Goals as goal

pub returns : goal.returns
returns c =
    let tokens = c.args.unit.now.unit.tokens.now in
    let number = c.args.number in
    let parted = IsPartitionedBy-ltb (λ (t : Token). t.place.token) tokens number (in_file c.args.unit.now.unit.file tokens c.args.unit.now.placed) in
    let point = IsPartitionPoint-from_clause (λ (t : Token). ltb t.place.token number) _ _ c.partition_point-index.ensures.partitioned parted (λ a r q k. search rules) in
    let rest = behind number tokens _ c.partition_point-index.ensures.bound point.0 point.1 in
    rw (all_behind tokens c.partition_point-index.result) rest
