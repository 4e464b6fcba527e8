-- The order of reports: by file, then by token, checker, rule, object and message. Texts go by their bytes.
use Rattle.std.specs.Prelude.{ℕ, List, Option, Some, None}
use Rattle.std.specs.declared.cmp.Ordering.{Ordering}
use Rattle.std.specs.declared.cmp.Ordering.TheVariants.{Less, Equal, Greater}
use Rattle.std.specs.Ordering.{ordering_then, nat_cmp}
use Rattle.std.specs.Cmp.Lexicographic.{slice_cmp}
use Rattle.report_model.specs.declared.report.Report.{Report}

abbrev pub text_cmp : List ℕ → List ℕ → Ordering
text_cmp a b = slice_cmp nat_cmp a b

-- a report without object comes before one with an object
abbrev pub object_cmp : Option (List ℕ) → Option (List ℕ) → Ordering
object_cmp None None = Equal
object_cmp None (Some b) = Less
object_cmp (Some a) None = Greater
object_cmp (Some a) (Some b) = text_cmp a b

abbrev pub report_cmp : Report → Report → Ordering
report_cmp a b =
    ordering_then (nat_cmp a.place.file b.place.file)
    (ordering_then (nat_cmp a.place.token b.place.token)
    (ordering_then (nat_cmp a.checker b.checker)
    (ordering_then (nat_cmp a.rule b.rule)
    (ordering_then (object_cmp a.object b.object)
    (text_cmp a.message b.message)))))
