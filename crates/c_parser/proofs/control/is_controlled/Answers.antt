use Rattle.std.proofs.Common.{◌∙◌}
use Rattle.c_tree.specs.Forget.{view}
use Rattle.c_parser.proofs.Gathering.{uncontrolled, controlled}
use Rattle.c_parser.proofs.control.is_controlled.Goals as goal

pub returns-then-not-branch : goal.returns-then-not-branch
returns-then-not-branch c = uncontrolled (view c.args.body.now) c.new-labels.result c.in_ok-add_labels.field-0 _ c.in_ok-add_labels.ensures c.new-labels.ensures c.if-not-branch.true

pub returns : goal.returns
returns c = c.may_stand.ensures ∙ controlled (view c.args.body.now) c.new-labels.result c.in_ok-add_labels.field-0 _ c.in_ok-add_labels.ensures c.new-labels.ensures c.if-not-branch.false
