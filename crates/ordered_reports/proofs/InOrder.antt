-- Reports in order are the list of reports.
use Rattle.std.proofs.Common.{◌≡◌, inl, inr, ◌↔◌, List, [], ◌∷◌, Result, Ok, Err, IfOk, Contains, refl, subst}
use Rattle.std.proofs.Math.Logic.{∥∥₁_map, ∥∥₁_map₂}
use Rattle.std.specs.Prelude.{AllPairs}
use Rattle.std.specs.declared.cmp.Ordering.TheVariants.{Less}
use Rattle.flow_graph.specs.CPaths.Membership.{Among}
use Rattle.path_model.specs.CheckerModel.Checkers.{model}
use Rattle.path_model.specs.CheckerModel.Reports.{Checker}
use Rattle.path_model.specs.CheckerPrograms.Paths.{program}
use Rattle.path_model.specs.CheckerPrograms.Reported.{AreReports, IsReported}
use Rattle.typed_unit.specs.Texts.{Text}
use Rattle.path_theory.specs.Paths.{Reported}
use Rattle.report_model.specs.ReportLists.Repeats.{AgreeWhereEqual}
use Rattle.report_model.specs.Order.{report_cmp}
use Rattle.report_model.specs.declared.report.Report.{Report}
use Rattle.ordered_reports.proofs.Agreeing.{HaveOwnNumbers, agree}
use Rattle.ordered_reports.proofs.OwnFiles.{StandInOwnFiles}

-- a list has the reports of these checkers, in some order
abbrev pub HasReports : List Checker → List Text → List Report → Type 0
HasReports cs ts all = (r : Report) → Contains all r ↔ IsReported cs ts r

-- those of one checker
abbrev pub HasReportsOf : Checker → List Text → List Report → Type 0
HasReportsOf c ts all = (r : Report) → Contains all r ↔ Reported (model c) (program c ts) r

module _ (ts : List Text) (c : Checker) where
  by-itself : (r : Report) → (x : IsReported (c ∷ []) ts r) → Among x.checker (c ∷ []) → Reported (model c) (program c ts) r
  by-itself r x (inl e) = subst (λ d. Reported (model d) (program d ts) r) e x.taken
  by-itself r x (inr none) = absurd none

  -- ONE CHECKER by itself
  pub of-one : (all : List Report) → ∥ HasReportsOf c ts all ∥₁ → ∥ HasReports (c ∷ []) ts all ∥₁
  of-one all has =
      ∥∥₁_map has (λ h r. (
        λ k. record { checker = c; among = inl refl; taken = (h r).0 k },
        λ x. (h r).1 (by-itself r x x.among),
      ))

module _ (ts : List Text) (cs : List Checker) (numbers : HaveOwnNumbers cs) where
  -- ALL of them in order
  pub in-order : {V E : Type 0} (made : Result V E) (items : V → List Report) (all : List Report)
      → ∥ HasReports cs ts all ∥₁ → ∥ StandInOwnFiles ts ∥₁
      → IfOk made (λ list. AllPairs (λ a b. report_cmp a b ≡ Less) (items list)) → IfOk made (λ list. (r : Report) → Contains (items list) r → Contains all r)
      → (AgreeWhereEqual report_cmp all → IfOk made (λ list. (r : Report) → Contains all r → Contains (items list) r))
      → IfOk made (λ list. ∥ AreReports cs ts (items list) ∥₁)
  in-order (Err fault) items all has own ascending real same = tt
  in-order (Ok list) items all has own ascending real same =
      ∥∥₁_map₂ has own (λ h o. record {
        ascending = ascending;
        real = λ r k. (h r).0 (real r k);
        whole = λ r k. same (agree ts o cs numbers all (λ s. (h s).0)) r ((h r).1 k);
      })
