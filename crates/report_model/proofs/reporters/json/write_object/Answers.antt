use Rattle.report_model.proofs.OfReporters.Objects.{whole_object}
use Rattle.report_model.proofs.reporters.json.write_object.Goals as goal

pub returns : goal.returns
returns c =
    whole_object c.push_all.result c.args.report.now c.as_bytes.result.now c.as_bytes-2.result.now c.as_bytes-3.result.now c.args.into.now c.write_members.new.into c.push_all.new.self
    c.as_bytes.ensures c.as_bytes-2.ensures c.as_bytes-3.ensures c.in_ok-write_members.ensures c.push_all.ensures.ok
