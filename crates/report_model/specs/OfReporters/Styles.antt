-- The styles of reporters: the bytes that each of them makes of a list of reports.
use Rattle.std.specs.Prelude.{ℕ, ◌+◌, ◌-◌, ◌/◌, ◌%◌, ◌||◌, ◌==◌, nat_lt, if◌then◌else◌, List, [], ◌∷◌, ◌++◌, length, replicate, flat_map, Option, Some, None, codes}
use Rattle.std.specs.Fmt.{decimal}
use Rattle.report_model.specs.declared.report.Report.{Report}

-- The table.

-- a text right in so many places, with blanks before it; one that is longer stands whole
abbrev pub right_in : ℕ → List ℕ → List ℕ
right_in places text = replicate (places - length text) 32 ++ text

-- a text left in so many places, with blanks behind it; one that is longer stands whole
abbrev pub left_in : ℕ → List ℕ → List ℕ
left_in places text = text ++ replicate (places - length text) 32

-- the line, right in 8 places, `:`, the column, left in 5, the checker's name, left in 20, the file, `: ` and the message
abbrev pub table_row : Report → List ℕ
table_row r = right_in 8 (decimal r.line) ++ codes ":" ++ left_in 5 (decimal r.col) ++ codes " " ++ left_in 20 r.checker_name ++ codes " " ++ r.file ++ codes ": " ++ r.message ++ codes "\n"

-- a row for each report, and how many they are
abbrev pub report_table : List Report → List ℕ
report_table reports = flat_map table_row reports ++ decimal (length reports) ++ codes " reports\n"

-- The lines of JSON.

-- `0` to `9`, and then `a` to `f`
abbrev pub hexadecimal_digit : ℕ → ℕ
hexadecimal_digit d = if nat_lt d 10 then 48 + d else 87 + d

-- `\u00` and the two digits of a byte
abbrev pub by_number : ℕ → List ℕ
by_number b = codes "\\u00" ++ hexadecimal_digit (b / 16) ∷ hexadecimal_digit (b % 16) ∷ []

-- `"` and `\` have a backslash before them; a byte that is no ASCII character, or one that isn't printed, stands by its number
abbrev pub escaped : ℕ → List ℕ
escaped b = if (b == 34) || (b == 92) then 92 ∷ b ∷ [] else (if nat_lt b 32 || nat_lt 126 b then by_number b else b ∷ [])

abbrev pub quoted : List ℕ → List ℕ
quoted text = codes "\"" ++ flat_map escaped text ++ codes "\""

abbrev pub quoted_or_null : Option (List ℕ) → List ℕ
quoted_or_null None = codes "null"
quoted_or_null (Some text) = quoted text

abbrev pub json_line : Report → List ℕ
json_line r =
    codes "{\"file\":" ++ quoted r.file
    ++ codes ",\"line\":" ++ decimal r.line
    ++ codes ",\"col\":" ++ decimal r.col
    ++ codes ",\"checker\":" ++ quoted r.checker_name
    ++ codes ",\"rule\":" ++ decimal r.rule
    ++ codes ",\"object\":" ++ quoted_or_null r.object
    ++ codes ",\"message\":" ++ quoted r.message
    ++ codes "}\n"

-- a line for each report
abbrev pub json_of : List Report → List ℕ
json_of reports = flat_map json_line reports
