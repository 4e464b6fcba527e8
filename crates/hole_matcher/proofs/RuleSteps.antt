-- An alternative of a rule that is found, and its matches.
use Rattle.std.proofs.Common.{◌≡◌, ℕ, List, Option, Some, ◌∙◌, sym, subst}
use Rattle.std.specs.Prelude.{◌↔◌}
use Rattle.c_objects.specs.Facts.{Facts}
use Rattle.hole_matching.specs.Alternatives.{Matches, matched_alternative}
use Rattle.hole_matching.specs.MachineMatches.{RuleMatches, setting_of}
use Rattle.hole_matching.specs.Matching.{Binding}
use Rattle.hole_matching.specs.Theorems.{AlternativesAreMatched}
use Rattle.metal_tree.specs.MetalMachines.Machine.{Item, Machine}
use Rattle.metal_tree.specs.MetalMachines.Rules.{alternative_numbered}
use Rattle.c_tree.specs.PathSubjects.Subjects.{Subject}

pub found-matches : (m : Machine) (n k : ℕ) (u : Facts) (depth function : ℕ) (s : Subject) (items : List Item) (o : Option Binding)
    → alternative_numbered m.rules n k ≡ Some items → o ≡ matched_alternative (setting_of m u depth function) items s → AlternativesAreMatched
    → (b : Binding) → (o ≡ Some b) ↔ RuleMatches m n k u depth function s b
found-matches m n k u depth function s items o alt e law b = (
  λ h. (items, alt, (law (setting_of m u depth function) items s b).0 (sym e ∙ h)),
  λ w. e ∙ (law (setting_of m u depth function) items s b).1
      (let q : Some w.0 ≡ Some items = sym w.1 ∙ alt in
      let same : w.0 ≡ items = cc in
      subst (λ y. Matches (setting_of m u depth function) y s b) same w.2),
)
