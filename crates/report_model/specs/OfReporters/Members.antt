-- The members of an object of JSON, as they are written.
use Rattle.std.specs.Prelude.{ℕ, List, ◌++◌}
use Rattle.std.specs.Fmt.{decimal}
use Rattle.report_model.specs.OfReporters.Styles.{quoted, quoted_or_null}
use Rattle.report_model.specs.declared.reporters.json.Value.{Value}
use Rattle.report_model.specs.declared.reporters.json.Value.TheVariants as value
use Rattle.report_model.specs.declared.reporters.json.Member.{Member}

abbrev pub value_text : Value → List ℕ
value_text (value.Number n) = decimal n
value_text (value.Text text) = quoted text.now
value_text (value.TextOrNull text) = quoted_or_null text.now

abbrev pub member_text : Member → List ℕ
member_text m = m.before.now ++ value_text m.value
