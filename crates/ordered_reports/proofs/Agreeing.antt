-- Reports of checkers of which each has a number of its own are the same where they compare `Equal`.
use Rattle.std.proofs.Common.{◌≡◌, inl, inr, List, [], ◌∷◌, Some, sym, ap, subst, ◌∙◌}
use Rattle.c_objects.specs.Text.{text_of}
use Rattle.flow_graph.specs.CPaths.Membership.{Among}
use Rattle.c_tree.specs.declared.token.Token.{Token}
use Rattle.path_model.specs.CheckerModel.Reports.{Checker, token_at}
use Rattle.path_model.specs.CheckerPrograms.Reported.{IsReported}
use Rattle.path_model.specs.CheckerPrograms.Texts.{tokens_of}
use Rattle.typed_unit.specs.Texts.{Text}
use Rattle.ordered_reports.proofs.Compared.{AreAlike, alike}
use Rattle.ordered_reports.proofs.OwnFiles.{StandInOwnFiles}
use Rattle.ordered_reports.proofs.Written.{IsWritten, written}
use Rattle.report_model.specs.ReportLists.Repeats.{AgreeWhereEqual}
use Rattle.report_model.specs.Order.{report_cmp}
use Rattle.report_model.specs.declared.report.Report.{Report}
use Rattle.std.specs.Prelude.{Contains}
use Rattle.std.specs.declared.cmp.Ordering.TheVariants.{Equal}

-- no two of the checkers have one number
abbrev pub HaveOwnNumbers : List Checker → Type 0
HaveOwnNumbers cs = (c d : Checker) → Among c cs → Among d cs → c.number ≡ d.number → c ≡ d

-- one checker by itself has its own
pub alone : (c : Checker) → HaveOwnNumbers (c ∷ [])
alone c x y (inl a) (inl b) e = a ∙ sym b
alone c x y (inl a) (inr none) e = absurd none
alone c x y (inr none) b e = absurd none

some-token : (t u : Token) → Some t ≡ Some u → t ≡ u
some-token t u e = cc

-- two reports of one checker that are alike
same-written : (ts : List Text) (c : Checker) (a b : Report) → IsWritten ts c a → IsWritten ts c b → AreAlike a b → a ≡ b
same-written ts c a b x y h =
    let token : x.token ≡ y.token = some-token x.token y.token (sym x.there ∙ ap (λ p. token_at p (tokens_of ts p.file)) h.place ∙ y.there) in
    let file : a.file ≡ b.file = x.file ∙ ap (λ (t : Token). text_of c.names t.source) token ∙ sym y.file in
    let line : a.line ≡ b.line = x.line ∙ ap (λ (t : Token). t.line) token ∙ sym y.line in
    let col : a.col ≡ b.col = x.col ∙ ap (λ (t : Token). t.col) token ∙ sym y.col in
    let name : a.checker_name ≡ b.checker_name = x.checker_name ∙ sym y.checker_name in
    λ i. record {
      place = h.place i;
      file = file i;
      line = line i;
      col = col i;
      checker = h.checker i;
      checker_name = name i;
      rule = h.rule i;
      object = h.object i;
      message = h.message i;
    }

module _ (ts : List Text) (own : StandInOwnFiles ts) (cs : List Checker) (numbers : HaveOwnNumbers cs) where
  one-report : (a b : Report) → IsReported cs ts a → IsReported cs ts b → report_cmp a b ≡ Equal → a ≡ b
  one-report a b x y e =
      let h = alike a b e in
      let v = written ts own x.checker a x.taken in
      let w = written ts own y.checker b y.taken in
      let number : x.checker.number ≡ y.checker.number = sym v.checker ∙ h.checker ∙ w.checker in
      let same = numbers x.checker y.checker x.among y.among number in
      same-written ts x.checker a b v (subst (λ c. IsWritten ts c b) (sym same) w) h

  pub agree : (all : List Report) → ((r : Report) → Contains all r → IsReported cs ts r) → AgreeWhereEqual report_cmp all
  agree all real a b h k e = one-report a b (real a h) (real b k) e
