-- How many entries the logs of one checker after the other have.
use Rattle.std.proofs.Common.{◌≡◌, ◌+◌, ◌-◌, ◌^◌, ◌<◌, ◌≤◌, ℕ, List, [], ◌∷◌, ◌++◌, length, get_or, min, take, map, OnOk, Result, Ok, Err, refl, sym, ap, subst, ◌∙◌, arith}
use Rattle.std.proofs.Math.Logic.{∥∥₁_map, ∥∥₁_map₂}
use Rattle.std.proofs.lemmas.List.{length-map, length-take-le, map_more}
use Rattle.flow_graph.specs.CPaths.Building.{Graph}
use Rattle.metal_tree.specs.MetalMachines.Machine.{Machine}
use Rattle.metal_tree.specs.Whole.{machine_view}
use Rattle.metal_tree.specs.declared.machine.Machine as code
use Rattle.path_model.specs.CheckerGraphs.Graphs.{AreGraphs}
use Rattle.path_model.specs.CheckerModel.Reports.{Checker}
use Rattle.suffix_summary.specs.Entries.{EntryIn, IsLog}
use Rattle.typed_unit.specs.Texts.{Text}
use Rattle.command.specs.CheckerReports.Checkers.{checkers_in}
use Rattle.command.specs.Counted.{CountLogs, CountsLog}
use Rattle.command.proofs.CheckerReports.Gathering.{numbered-push}

-- what holds holds where all went well
pub on-ok : {A E : Type 0} (r : Result A E) (P : Type 0) → P → OnOk r P
on-ok (Ok x) P h = h
on-ok (Err e) P h = tt

-- a log, and as many numbers as it has entries
pub counts-log : (c : Checker) (ts : List Text) (gs : List Graph) (log : List (EntryIn c ts gs)) (many first before after : ℕ) → AreGraphs ts gs → IsLog c ts gs log → length log ≡ many → before ≡ first
    → after ≡ min (before + many) (2 ^ 64 - 1) → CountsLog c ts first after
counts-log c ts gs log many first before after are is e f counted = record {
  graphs = gs;
  are_graphs = are;
  log = log;
  is_log = is;
  counted = counted ∙ ap (λ (b : ℕ). min (b + many) (2 ^ 64 - 1)) f ∙ ap (λ (n : ℕ). min (first + n) (2 ^ 64 - 1)) (sym e);
}

-- the count that began with none, as it is shown
pub from-none : (cs : List Checker) (ts : List Text) (first last shown : ℕ) → first ≡ 0 → shown ≡ last → ∥ CountLogs cs ts first last ∥₁ → ∥ CountLogs cs ts 0 shown ∥₁
from-none cs ts first last shown f s h = subst (λ (k : ℕ). ∥ CountLogs cs ts 0 k ∥₁) (sym s) (subst (λ (k : ℕ). ∥ CountLogs cs ts k last ∥₁) f h)

module _ (ts : List Text) where
  -- one checker behind others
  one-behind : (cs : List Checker) (c : Checker) (first before after : ℕ) → CountLogs cs ts first before → CountsLog c ts before after → CountLogs (cs ++ c ∷ []) ts first after
  one-behind [] c first before after old new = (after, subst (λ (k : ℕ). CountsLog c ts k after) old new, refl)
  one-behind (d ∷ cs) c first before after (between, one, rest) new = (between, one, one-behind cs c between before after rest new)

module _ (ts : List Text) (depth : ℕ) (names : List (List ℕ)) where
  abbrev checker_at : ℕ → Machine → Checker
  checker_at n m = record { number = n; machine = m; depth = depth; names = names }

  machine-behind : (ms : List Machine) (m : Machine) (first before after : ℕ) → CountLogs (checkers_in ms depth names) ts first before → CountsLog (checker_at (length ms) m) ts before after
      → CountLogs (checkers_in (ms ++ m ∷ []) depth names) ts first after
  machine-behind ms m first before after old new =
      let e : length ms ≡ 0 + length ms = omega arith in
      subst (λ (cs : List Checker). CountLogs cs ts first after) (sym (numbered-push ts depth names 0 ms m))
      (one-behind ts (checkers_in ms depth names) (checker_at (0 + length ms) m) first before after old (subst (λ (k : ℕ). CountsLog (checker_at k m) ts before after) e new))

  -- NO MACHINE YET
  pub counted-none : (first : ℕ) → ∥ CountLogs (checkers_in [] depth names) ts first first ∥₁
  counted-none first = ∣ refl ∣₁

  -- THE NEXT MACHINE of a list of which the logs of the first i were counted
  pub counted-next : (xs : List code.Machine) (i : ℕ) (x : code.Machine) (first before after : ℕ) → i < length xs → x ≡ get_or xs i x
      → ∥ CountLogs (checkers_in (map machine_view (take i xs)) depth names) ts first before ∥₁ → ∥ CountsLog (checker_at i (machine_view x)) ts before after ∥₁
      → ∥ CountLogs (checkers_in (map machine_view (take (i + 1) xs)) depth names) ts first after ∥₁
  counted-next xs i x first before after within is old new = ∥∥₁_map₂ old new by
    where
      short : i ≤ length xs
      short = omega (arith, within)

      size : length (map machine_view (take i xs)) ≡ i
      size = length-map (take i xs) machine_view ∙ length-take-le i xs short

      longer : map machine_view (take (i + 1) xs) ≡ map machine_view (take i xs) ++ machine_view x ∷ []
      longer = map_more machine_view xs i x within ∙ ap (λ z. map machine_view (take i xs) ++ machine_view z ∷ []) (sym is)

      by : CountLogs (checkers_in (map machine_view (take i xs)) depth names) ts first before → CountsLog (checker_at i (machine_view x)) ts before after → CountLogs (checkers_in (map machine_view (take (i + 1) xs)) depth names) ts first after
      by o n =
          subst (λ (ms : List Machine). CountLogs (checkers_in ms depth names) ts first after) (sym longer)
          (machine-behind (map machine_view (take i xs)) (machine_view x) first before after o (subst (λ (k : ℕ). CountsLog (checker_at k (machine_view x)) ts before after) (sym size) n))
