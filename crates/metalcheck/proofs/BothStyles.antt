-- What is promised of a run with two reporters of these styles, said without what they held and hold.
use Rattle.std.proofs.Common.{◌≡◌, inl, inr, ℕ, zero, suc, ◌<◌, List, [], ◌∷◌, ◌++◌, Option, None, Some, map, slice_get, codes, ap, refl, sym, ◌∙◌, subst, arith}
use Rattle.std.proofs.lemmas.List.Quantifiers.{position-Some}
use Rattle.std.specs.Str.{bytes_eq}
use Rattle.command.proofs.Promised.{called_is, left_alone, promised, rendered_is, run_of}
use Rattle.mx_io.specs.Bytes.{Bytes, Readable, Told, Words}
use Rattle.command.specs.Commands.{GiveNone, IsCommand, IsPlace}
use Rattle.command.specs.Handed.{may_hold}
use Rattle.command.specs.Ran.{IsEmptied, Leaves, RanHanding, ReporterStep, reporter_step}
use Rattle.command.specs.Run.{HandsAsDue, Promise, Run, reporter_state, reporters_in}
use Rattle.command.specs.Tasks.{IsEmptiedAt}
use Rattle.command.specs.declared.status.Status.{Status}
use Rattle.command.specs.declared.status.Status.TheVariants.{Clean, Reports, ReadFault, NoMemory}
use Rattle.report_model.specs.declared.report.Report.{Report}
use Rattle.report_model.specs.OfReporters.Styles.{json_of, report_table}
use Rattle.metalcheck.specs.Styles.{AreOfBothStyles, both_styles}

-- their names, and what each renders
abbrev pub style_names : Words
style_names = codes "table" ∷ codes "json" ∷ []

abbrev pub styles : List Report → List Bytes
styles reports = report_table reports ∷ json_of reports ∷ []

-- both of two are empty
empty-at : (k : ℕ) → k < 2 → slice_get {X = List Report} ([] ∷ [] ∷ []) k ≡ Some []
empty-at zero h = refl
empty-at (suc zero) h = refl
empty-at (suc (suc k)) h = absurd (omega (arith, h))

abbrev both_step : ReporterStep
both_step = reporter_step style_names styles ([] ∷ [] ∷ []) ([] ∷ [] ∷ [])

-- the one that is chosen is empty
emptied : (words : Words) → IsEmptied words both_step
emptied words command given = by command.place given.request.format given.place
  where
    by : (place : Option ℕ) (format : Option Bytes) → IsPlace style_names format place → IsEmptiedAt place ([] ∷ [] ∷ [])
    by None format p = tt
    by (Some k) None p = cc
    by (Some k) (Some name) p = subst (λ (o : Option ℕ). IsEmptiedAt o ([] ∷ [] ∷ [])) (sym p.1) (empty-at p.0 (position-Some (bytes_eq name) style_names p.0 [] p.2).0)

leaves : (words : Words) (s : Status) → Leaves words both_step s
leaves words Clean = emptied words
leaves words Reports = emptied words
leaves words _ = refl

-- a run with reporters of these styles that are gone behind it
abbrev pub styled : Run → Run
styled run = record run { reporters_before = both_styles; reporters_after = both_styles }

module _ (run : Run) (are : AreOfBothStyles run.reporters_before) where
  same : reporters_in run ≡ reporter_step style_names styles (reporters_in run).before (reporters_in run).after
  same = λ i. record { called = are.names i; rendered = λ reports. are.styles reports i; before = (reporters_in run).before; after = (reporters_in run).after }

  handed-gone : (Hands : Bytes → Bytes → Type 0) → HandsAsDue Hands run → HandsAsDue Hands (styled run)
  handed-gone Hands handed = by (subst (λ (r : ReporterStep). RanHanding Hands (may_hold run.told) run.words r run.failed_before run.failed_after run.status run.out run.errs) same handed)
    where
      by : RanHanding Hands (may_hold run.told) run.words (reporter_step style_names styles (reporters_in run).before (reporters_in run).after) run.failed_before run.failed_after run.status run.out run.errs → HandsAsDue Hands (styled run)
      by (inl s) = inl (record { status = s.status; turn = s.turn; out_same = s.out_same; errs_same = s.errs_same })
      by (inr (c, hands)) = inr (record { status = c.status; text = c.text; line = c.line; due = c.due; leaves = leaves run.words c.status; spares = λ count is. refl; written = c.written; fitting = c.fitting }, hands)

  pub promise_gone : {Files : Type 0} (before after : Files) (Hands : Bytes → Bytes → Type 0) → Promise before after Hands run → Promise before after Hands (styled run)
  promise_gone before after Hands p =
      promised before after Hands (styled run) (handed-gone Hands p.handed) (λ command given are-readable. p.readable command (subst (λ (c : Words). IsCommand run.words c command) (sym are.names) given) are-readable) p.untouched (λ none. p.unread (subst (λ (c : Words). GiveNone run.words c) (sym are.names) none)) refl refl (λ k other. refl)

-- there was no memory for the reporters
pub stopped : {Files : Type 0} (files : Files) (Hands : Bytes → Bytes → Type 0) (words : Words) (told : Told) (readable : Readable) (failed : Words) (out : Option Bytes) (out-faults out-sure : ℕ) (errs : Option Bytes) (errs-faults errs-sure : ℕ)
    → Promise files files Hands (run_of words told readable failed failed both_styles both_styles (left_alone out out-faults out-sure) (left_alone errs errs-faults errs-sure) NoMemory)
stopped files Hands words told readable failed out out-faults out-sure errs errs-faults errs-sure =
    promised files files Hands (run_of words told readable failed failed both_styles both_styles (left_alone out out-faults out-sure) (left_alone errs errs-faults errs-sure) NoMemory)
    (inl (record { status = refl; turn = inl refl; out_same = (refl, refl); errs_same = (refl, refl) })) (λ command given are-readable. (refl, λ e. apart e)) (λ count is. refl) (λ none. refl) refl refl (λ k other. refl)
  where
    apart : NoMemory ≡ ReadFault → ⊥
    apart e = cc

-- a list to which two were put
pub two_pushed : {B : Type 0} (none one two : List B) (first second : B) → none ≡ [] → one ≡ none ++ first ∷ [] → two ≡ one ++ second ∷ [] → two ≡ first ∷ second ∷ []
two_pushed none one two first second a b c = c ∙ ap (λ z. z ++ second ∷ []) (b ∙ ap (λ z. z ++ first ∷ []) a)

-- two boxes of these styles
module _ {B : Type 0} (called : B → Bytes) (style : B → List Report → Bytes) (taken : B → List Report) (items : List B) (first second : B) (two : items ≡ first ∷ second ∷ []) where
  names-of : called first ≡ codes "table" → called second ≡ codes "json" → map called items ≡ style_names
  names-of a b =
      let both : map called (first ∷ second ∷ []) ≡ style_names = λ i. a i ∷ b i ∷ [] in
      ap (map called) two ∙ both

  styles-of : style first ≡ report_table → style second ≡ json_of → (reports : List Report) → map (λ b. style b reports) items ≡ styles reports
  styles-of a b reports =
      let both : map (λ (x : B). style x reports) (first ∷ second ∷ []) ≡ styles reports = λ i. a i reports ∷ b i reports ∷ [] in
      ap (map (λ (x : B). style x reports)) two ∙ both

  pub are_of_both : (called first ≡ codes "table") × (called second ≡ codes "json") → (style first ≡ report_table) × (style second ≡ json_of) → AreOfBothStyles (map (λ b. reporter_state (called b) (style b) (taken b)) items)
  are_of_both names renders = record {
    names = called_is called style taken items ∙ names-of names.0 names.1;
    styles = λ reports. rendered_is called style taken reports items ∙ styles-of renders.0 renders.1 reports;
  }
