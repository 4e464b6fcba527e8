-- What is printed by the format that words name.
use Rattle.std.proofs.Common.{◌≡◌, ◌≢◌, ◌⊎◌, inl, inr, ℕ, zero, suc, Bool, List, [], Option, None, Some, filter, slice_get, ap, ◌∙◌, subst, codes}
use Rattle.std.proofs.lemmas.List.Quantifiers.{position-Some}
use Rattle.std.proofs.lemmas.Slice.Eq.{bytes_eq-Decides}
use Rattle.std.specs.List.{position}
use Rattle.std.specs.Str.{bytes_eq}
use Rattle.command.proofs.Promised.{left_alone, run_of}
use Rattle.mx_io.specs.Bytes.{Bytes, Readable, Told, Words}
use Rattle.command.specs.CheckerReports.Checkers.{checkers_in}
use Rattle.command.specs.Commands.{IsPlace}
use Rattle.command.specs.Counted.{IsLineFor}
use Rattle.command.specs.Handed.{AreAccepted, may_hold}
use Rattle.command.specs.Rendered.{IsText}
use Rattle.command.specs.Run.{Answers, Promise, Run}
use Rattle.command.specs.declared.status.Status.TheVariants.{Clean, NoMemory, Reports}
use Rattle.command_words.proofs.Generations.{no_request}
use Rattle.command_words.proofs.Sound.{one_request}
use Rattle.command_words.specs.Words.{Request, IsRequest, is_checker_word, is_source_word}
use Rattle.report_model.specs.declared.report.Report.{Report}
use Rattle.metalcheck.specs.Styles.{AreOfBothStyles, both_styles, IsTextIn, PrintsAsAsked, PromiseInStyles}
use Rattle.metalcheck.proofs.BothStyles.{promise_gone, stopped, style_names, styled, styles}

-- what the style of a name renders
rendered-in : (name : Bytes) (k : ℕ) (reports : List Report) (text : Bytes) → position (bytes_eq name) style_names ≡ Some k → slice_get (styles reports) k ≡ Some text → IsTextIn (Some name) reports text
rendered-in name zero reports text e h = inl ((bytes_eq-Decides name (codes "table")).0 (position-Some (bytes_eq name) style_names zero [] e).1, cc)
rendered-in name (suc zero) reports text e h = inr ((bytes_eq-Decides name (codes "json")).0 (position-Some (bytes_eq name) style_names 1 [] e).1, cc)
rendered-in name (suc (suc k)) reports text e h = cc

text-in : (format : Option Bytes) (place : Option ℕ) (reports : List Report) (text : Bytes) → IsPlace style_names format place → IsText place (styles reports) reports text → IsTextIn format reports text
text-in None place reports text p h = subst (λ (o : Option ℕ). IsText o (styles reports) reports text) p h
text-in (Some name) place reports text p h = rendered-in name p.0 reports text p.2 (subst (λ (o : Option ℕ). IsText o (styles reports) reports text) p.1 h)

-- files of which these are the reports, and the line beside them
abbrev AreFilesWith : Told → List Report → Bytes → Words → ℕ → Bool → Type 0
AreFilesWith told reports line files depth stats =
    (a : AreAccepted (may_hold told) (filter is_checker_word files) (filter is_source_word files) depth reports) × IsLineFor stats (checkers_in a.judged.machines depth a.judged.names) a.judged.texts line

module _ (run : Run) (request : Request) (is : IsRequest run.words request) where
  printed-as-asked : (IsAsked : List Report → Type 0) → Answers (styled run) IsAsked → PrintsAsAsked (styled run) request
  printed-as-asked IsAsked (inr m) = absurd (no_request run.words m.count m.is_generation request is)
  printed-as-asked IsAsked (inl p) =
      let same : p.given.request ≡ request = one_request run.words p.given.request request p.given.is_request is in
      let files : p.command.files ≡ request.files = p.given.files ∙ ap (λ (r : Request). r.files) same in
      let depth : p.command.depth ≡ request.depth = p.given.depth ∙ ap (λ (r : Request). r.depth) same in
      let stats : p.command.stats ≡ request.stats = p.given.stats ∙ ap (λ (r : Request). r.stats) same in
      let format : p.given.request.format ≡ request.format = ap (λ (r : Request). r.format) same in
      let reports = p.cause.reports in
      let with-line : AreFilesWith run.told reports p.line request.files request.depth request.stats =
      subst (λ (s : Bool). AreFilesWith run.told reports p.line request.files request.depth s) stats
      (subst (λ (d : ℕ). AreFilesWith run.told reports p.line request.files d p.command.stats) depth
      (subst (λ (fs : Words). AreFilesWith run.told reports p.line fs p.command.depth p.command.stats) files (p.cause.accepted, p.cause.line_is))) in
      record {
        reports = reports;
        accepted = with-line.0;
        status = p.cause.status_is;
        text = p.text;
        text_is = subst (λ (f : Option Bytes). IsTextIn f reports p.text) format (text-in p.given.request.format p.command.place reports p.text p.given.place p.cause.text_is);
        printed = p.writes.text_taken;
        line = p.line;
        line_is = with-line.1;
        noted = p.writes.line_taken;
      }

  -- of a run that ends in one of the two
  in-format : (run.status ≡ Clean → Answers (styled run) (λ reports. reports ≡ [])) → (run.status ≡ Reports → Answers (styled run) (λ reports. reports ≢ [])) → (run.status ≡ Clean) ⊎ (run.status ≡ Reports)
      → PrintsAsAsked (styled run) request
  in-format clean some (inl e) = printed-as-asked (λ reports. reports ≡ []) (clean e)
  in-format clean some (inr e) = printed-as-asked (λ reports. reports ≢ []) (some e)

-- what every run with two such reporters promises, in their styles
pub in_styles : {Files : Type 0} (before after : Files) (Hands : Bytes → Bytes → Type 0) (run : Run) → Promise before after Hands run → AreOfBothStyles run.reporters_before → PromiseInStyles before after Hands (styled run)
in_styles before after Hands run p are =
    let q : Promise before after Hands (styled run) = promise_gone run are before after Hands p in
    record { promise = q; in_format = λ request is either. in-format run request is q.clean q.reports either }

-- there was no memory for the reporters, and nothing was printed
pub stopped_in_styles : {Files : Type 0} (files : Files) (Hands : Bytes → Bytes → Type 0) (words : Words) (told : Told) (readable : Readable) (failed : Words) (out : Option Bytes) (out-faults out-sure : ℕ) (errs : Option Bytes) (errs-faults errs-sure : ℕ)
    → PromiseInStyles files files Hands (run_of words told readable failed failed both_styles both_styles (left_alone out out-faults out-sure) (left_alone errs errs-faults errs-sure) NoMemory)
stopped_in_styles files Hands words told readable failed out out-faults out-sure errs errs-faults errs-sure = record {
  promise = stopped files Hands words told readable failed out out-faults out-sure errs errs-faults errs-sure;
  in_format = λ request is either. absurd (neither either);
}
  where
    neither : (NoMemory ≡ Clean) ⊎ (NoMemory ≡ Reports) → ⊥
    neither (inl e) = cc
    neither (inr e) = cc
