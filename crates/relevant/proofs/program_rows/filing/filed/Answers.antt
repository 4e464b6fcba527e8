use Rattle.std.proofs.Common.{◌<◌, ◌≤◌, length, ◌∙◌, arith}
use Rattle.std.proofs.lemmas.Grind.{common_steps}
use Rattle.relevant.proofs.ProgramRows.FiledCalls.{filed-next, none-filed, all-filed}
use Rattle.relevant.proofs.program_rows.filing.filed.Goals as goal

pub loop-position-init : goal.loop-position-init
loop-position-init c = record {
  count = c.in_ok-lists.ensures.count;
  filed = none-filed c.args.count c.in_ok-lists.lists.items c.in_ok-lists.ensures.empty;
}

pub loop-position-preserved : goal.loop-position-preserved
loop-position-preserved c =
    let at = c.loop-position in
    let item = c.index-calls-position in
    let within : at.position < length c.args.calls.now = grind (arith, common_steps) in
    record {
      count = c.in_ok-file_call.ensures.count ∙ at.invariant.count;
      filed = filed-next c.args.calls.now c.args.count at.position item.result at.lists.items c.file_call.new.lists.items within item.is at.invariant.count c.in_ok-file_call.ensures.filed at.invariant.filed;
    }

pub returns : goal.returns
returns c =
    let all : length c.args.calls.now ≤ c.loop-position.position = grind (arith, common_steps) in
    all-filed c.args.calls.now c.args.count c.loop-position.position c.loop-position.lists.items all c.loop-position.invariant.filed
