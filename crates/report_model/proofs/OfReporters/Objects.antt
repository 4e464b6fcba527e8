-- The members of an object, one behind the other, are its line.
use Rattle.std.specs.Prelude.{OnOk}
use Rattle.std.specs.Fmt.{decimal}
use Rattle.std.proofs.Common.{◌≡◌, ℕ, List, [], ◌++◌, codes, Result, Ok, Err, ap, ◌∙◌}
use Rattle.std.proofs.lemmas.List.{append_assoc, append-nil}
use Rattle.report_model.specs.declared.report.Report.{Report}
use Rattle.report_model.specs.OfReporters.Styles.{quoted, quoted_or_null, json_line}

-- seven texts, each with what stands before it, and an end
in_turn : (old b1 t1 b2 t2 b3 t3 b4 t4 b5 t5 b6 t6 b7 t7 end : List ℕ)
    → (old ++ ((b1 ++ t1) ++ ((b2 ++ t2) ++ ((b3 ++ t3) ++ ((b4 ++ t4) ++ ((b5 ++ t5) ++ ((b6 ++ t6) ++ ((b7 ++ t7) ++ [])))))))) ++ end
    ≡ old ++ (b1 ++ t1 ++ b2 ++ t2 ++ b3 ++ t3 ++ b4 ++ t4 ++ b5 ++ t5 ++ b6 ++ t6 ++ b7 ++ t7 ++ end)
in_turn old b1 t1 b2 t2 b3 t3 b4 t4 b5 t5 b6 t6 b7 t7 end = simp (append_assoc, append-nil)

-- the members of a report, with these texts of it
abbrev members_of : Report → List ℕ → List ℕ → List ℕ → List ℕ
members_of r file checker message =
    (codes "{\"file\":" ++ quoted file)
    ++ ((codes ",\"line\":" ++ decimal r.line)
    ++ ((codes ",\"col\":" ++ decimal r.col)
    ++ ((codes ",\"checker\":" ++ quoted checker)
    ++ ((codes ",\"rule\":" ++ decimal r.rule)
    ++ ((codes ",\"object\":" ++ quoted_or_null r.object)
    ++ ((codes ",\"message\":" ++ quoted message)
    ++ []))))))

pub whole_object : {A E : Type 0} (result : Result A E) (r : Report) (file checker message old members new : List ℕ) → file ≡ r.file → checker ≡ r.checker_name → message ≡ r.message
    → members ≡ old ++ members_of r file checker message → OnOk result (new ≡ members ++ codes "}\n") → OnOk result (new ≡ old ++ json_line r)
whole_object (Err e) r file checker message old members new f c m is n = tt
whole_object (Ok x) r file checker message old members new f c m is n =
    n ∙ ap (λ t. t ++ codes "}\n") is
    ∙ ap (λ t. (old ++ members_of r t checker message) ++ codes "}\n") f ∙ ap (λ t. (old ++ members_of r r.file t message) ++ codes "}\n") c
    ∙ ap (λ t. (old ++ members_of r r.file r.checker_name t) ++ codes "}\n") m
    ∙ in_turn old (codes "{\"file\":") (quoted r.file) (codes ",\"line\":") (decimal r.line) (codes ",\"col\":") (decimal r.col) (codes ",\"checker\":") (quoted r.checker_name)
    (codes ",\"rule\":") (decimal r.rule) (codes ",\"object\":") (quoted_or_null r.object) (codes ",\"message\":") (quoted r.message) (codes "}\n")
