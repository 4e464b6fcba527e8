-- Reports of one checker after the other.
use Rattle.std.proofs.Common.{◌≡◌, inl, inr, ◌+◌, ◌<◌, ◌≤◌, ℕ, suc, List, [], ◌∷◌, ◌++◌, length, get_or, take, map, Contains, sym, ap, subst, ◌∙◌, arith}
use Rattle.std.proofs.Math.Logic.{∥∥₁_map₂}
use Rattle.std.proofs.lemmas.List.{length-map, length-take-le, map_more}
use Rattle.std.proofs.lemmas.List.Elements.{Contains-append_left, Contains-append_right, Contains-append_cases}
use Rattle.flow_graph.proofs.CPaths.Listed.{among_front, among_back, among_either}
use Rattle.path_model.specs.CheckerModel.Reports.{Checker}
use Rattle.path_model.specs.CheckerPrograms.Reported.{AreReports, IsReported}
use Rattle.typed_unit.specs.Texts.{Text}
use Rattle.command.specs.CheckerReports.Checkers.{numbered_from, checkers_in}
use Rattle.metal_tree.specs.MetalMachines.Machine.{Machine}
use Rattle.metal_tree.specs.Whole.{machine_view}
use Rattle.metal_tree.specs.declared.machine.Machine as code
use Rattle.report_model.specs.declared.report.Report.{Report}
use Rattle.ordered_reports.proofs.InOrder.{HasReports}

module _ (ts : List Text) where
  nothing-has : (all : List Report) → all ≡ [] → HasReports [] ts all
  nothing-has all e r = (
    λ h. let k : Contains [] r = subst (λ l. Contains l r) e h in absurd (omega (arith, k.1)),
    λ h. absurd h.among,
  )

  -- the reports of these checkers behind those of others
  together : (cs ds : List Checker) (all more : List Report) → HasReports cs ts all → HasReports ds ts more → HasReports (cs ++ ds) ts (all ++ more)
  together cs ds all more old new r = (there, back)
    where
      there : Contains (all ++ more) r → IsReported (cs ++ ds) ts r
      there h = elim (Contains-append_cases all more r h) [
        | inl a ↦ let x = (old r).0 a in record { checker = x.checker; among = among_front x.checker cs ds x.among; taken = x.taken }
        | inr b ↦ let x = (new r).0 b in record { checker = x.checker; among = among_back x.checker cs ds x.among; taken = x.taken }
      ]

      back : IsReported (cs ++ ds) ts r → Contains (all ++ more) r
      back x = elim (among_either x.checker cs ds x.among) [
        | inl a ↦ Contains-append_left all more r ((old r).1 (record { checker = x.checker; among = a; taken = x.taken }))
        | inr b ↦ Contains-append_right all more r ((new r).1 (record { checker = x.checker; among = b; taken = x.taken }))
      ]

module _ (ts : List Text) (depth : ℕ) (names : List (List ℕ)) where
  abbrev checker_at : ℕ → Machine → Checker
  checker_at n m = record { number = n; machine = m; depth = depth; names = names }

  pub numbered-push : (n : ℕ) (ms : List Machine) (m : Machine) → numbered_from n (ms ++ m ∷ []) depth names ≡ numbered_from n ms depth names ++ checker_at (n + length ms) m ∷ []
  numbered-push n [] m = let e : n ≡ n + 0 = omega arith in ap (λ k. checker_at k m ∷ []) e
  numbered-push n (x ∷ xs) m =
      let e : suc n + length xs ≡ n + suc (length xs) = omega arith in
      ap (λ cs. checker_at n x ∷ cs) (numbered-push (suc n) xs m ∙ ap (λ k. numbered_from (suc n) xs depth names ++ checker_at k m ∷ []) e)

  machine-more : (ms : List Machine) (m : Machine) (all more : List Report) → HasReports (checkers_in ms depth names) ts all → HasReports (checker_at (length ms) m ∷ []) ts more
      → HasReports (checkers_in (ms ++ m ∷ []) depth names) ts (all ++ more)
  machine-more ms m all more old new =
      let e : length ms ≡ 0 + length ms = omega arith in
      subst (λ cs. HasReports cs ts (all ++ more)) (sym (numbered-push 0 ms m))
      (together ts (checkers_in ms depth names) (checker_at (0 + length ms) m ∷ []) all more old (subst (λ k. HasReports (checker_at k m ∷ []) ts more) e new))

  -- NO MACHINE YET
  pub gathered-none : (all : List Report) → all ≡ [] → ∥ HasReports (checkers_in [] depth names) ts all ∥₁
  gathered-none all e = ∣ nothing-has ts all e ∣₁

  -- THE NEXT MACHINE of a list of which the first i were gone through
  pub gathered-next : (xs : List code.Machine) (i : ℕ) (x : code.Machine) (all more joined : List Report) → i < length xs → x ≡ get_or xs i x → joined ≡ all ++ more
      → ∥ HasReports (checkers_in (map machine_view (take i xs)) depth names) ts all ∥₁ → ∥ AreReports (checker_at i (machine_view x) ∷ []) ts more ∥₁
      → ∥ HasReports (checkers_in (map machine_view (take (i + 1) xs)) depth names) ts joined ∥₁
  gathered-next xs i x all more joined within is e old new = ∥∥₁_map₂ old new by
    where
      short : i ≤ length xs
      short = omega (arith, within)

      size : length (map machine_view (take i xs)) ≡ i
      size = length-map (take i xs) machine_view ∙ length-take-le i xs short

      longer : map machine_view (take (i + 1) xs) ≡ map machine_view (take i xs) ++ machine_view x ∷ []
      longer = map_more machine_view xs i x within ∙ ap (λ z. map machine_view (take i xs) ++ machine_view z ∷ []) (sym is)

      by : HasReports (checkers_in (map machine_view (take i xs)) depth names) ts all → AreReports (checker_at i (machine_view x) ∷ []) ts more → HasReports (checkers_in (map machine_view (take (i + 1) xs)) depth names) ts joined
      by o n =
          subst (λ l. HasReports (checkers_in (map machine_view (take (i + 1) xs)) depth names) ts l) (sym e)
          (subst (λ l. HasReports (checkers_in l depth names) ts (all ++ more)) (sym longer)
          (machine-more (map machine_view (take i xs)) (machine_view x) all more o
          (subst (λ k. HasReports (checker_at k (machine_view x) ∷ []) ts more) (sym size) (λ r. (n.real r, n.whole r)))))
