-- The styles over some reports.
use Rattle.std.specs.Prelude.{◌≡◌, ℕ, List, [], ◌∷◌, Option, Some, None, codes}
use Rattle.std.proofs.Common.{refl}
use Rattle.std.specs.Fmt.{digits}
use Rattle.report_model.specs.declared.report.Report.{Report}
use Rattle.report_model.specs.OfReporters.Styles.{quoted, json_of, report_table}

-- `p` is used behind its free, in line 1
abbrev after_free : Option (List ℕ) → Report
after_free object = record {
  place = record { file = 0; token = 9 };
  file = codes "a.c";
  line = 1;
  col = 28;
  checker = 0;
  checker_name = codes "free_checker";
  rule = 2;
  object = object;
  message = codes "using p after free!";
}

-- line, column and name are longer than their places
abbrev far_away : Report
far_away = record {
  place = record { file = 1; token = 9 };
  file = codes "b.c";
  line = 123456789;
  col = 654321;
  checker = 1;
  checker_name = codes "checker_of_all_the_locks";
  rule = 1;
  object = None;
  message = codes "left";
}

table_of_one : report_table (after_free (Some (codes "p")) ∷ []) ≡ codes "       1:28    free_checker         a.c: using p after free!\n1 reports\n"
unfolding digits
table_of_one = refl

table_of_none : report_table [] ≡ codes "0 reports\n"
unfolding digits
table_of_none = refl

longer_stands_whole : report_table (far_away ∷ after_free None ∷ []) ≡ codes "123456789:654321 checker_of_all_the_locks b.c: left\n       1:28    free_checker         a.c: using p after free!\n2 reports\n"
unfolding digits
longer_stands_whole = refl

json_of_one : json_of (after_free (Some (codes "p")) ∷ []) ≡ codes "{\"file\":\"a.c\",\"line\":1,\"col\":28,\"checker\":\"free_checker\",\"rule\":2,\"object\":\"p\",\"message\":\"using p after free!\"}\n"
unfolding digits
json_of_one = refl

no_object_is_null : json_of (after_free None ∷ []) ≡ codes "{\"file\":\"a.c\",\"line\":1,\"col\":28,\"checker\":\"free_checker\",\"rule\":2,\"object\":null,\"message\":\"using p after free!\"}\n"
unfolding digits
no_object_is_null = refl

json_of_none : json_of [] ≡ []
json_of_none = refl

-- a quote, a backslash, a line feed, 31, and the bytes round 126
escapes : quoted (97 ∷ 34 ∷ 92 ∷ 10 ∷ 31 ∷ 32 ∷ 126 ∷ 127 ∷ 128 ∷ 255 ∷ []) ≡ codes "\"a\\\"\\\\\\u000a\\u001f ~\\u007f\\u0080\\u00ff\""
escapes = refl
