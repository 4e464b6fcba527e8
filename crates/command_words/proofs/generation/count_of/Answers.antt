use Rattle.std.proofs.Common.{sym, ap, ◌∙◌, arith}
use Rattle.command_words.specs.Generation.{begins_with_count}
use Rattle.command_words.proofs.Generations.{begins_so, count_found, is_parsed, same_ok}
use Rattle.command_words.proofs.generation.count_of.Goals as goal

pub returns-then-not-begins_with_count-clause-none : goal.returns-then-not-begins_with_count-clause-none
returns-then-not-begins_with_count-clause-none c e n is = begins_so c.args.word.now n is (sym (ap begins_with_count c.as_bytes.ensures.value) ∙ sym c.begins_with_count.ensures ∙ c.if-not-begins_with_count.true)

pub returns-in_default-clause-none : goal.returns-in_default-clause-none
returns-in_default-clause-none c e n is = c.in_default.not-Ok n (is_parsed c.args.word.now n is _ c.parse.ensures.value.0)

pub returns-then-count-gt9999-clause-none : goal.returns-then-count-gt9999-clause-none
returns-then-count-gt9999-clause-none c e n is =
    let same = same_ok c.parse.result c.in-Ok.count n c.in-Ok.is (is_parsed c.args.word.now n is _ c.parse.ensures.value.0) in
    omega (arith, same, is.most, c.if-count-gt9999.true)

pub returns-clause-spelled : goal.returns-clause-spelled
returns-clause-spelled c =
    count_found c.args.word.now c.in-Ok.count c.parse.result (sym (ap begins_with_count c.as_bytes.ensures.value) ∙ sym c.begins_with_count.ensures ∙ c.if-not-begins_with_count.false) c.parse.ensures.value.0 c.in-Ok.is c.if-count-gt9999.false
