-- Roots by a table are roots by the calls that it is of.
use Rattle.std.proofs.Common.{arith, Result, Ok, Err, IfOk, ◌≡◌, inl, inr, ⊎_elim, ℕ, zero, suc, ◌<◌, List, length, sym, subst}
use Rattle.std.proofs.Math.Logic.{∥∥₁_map}
use Rattle.std.proofs.lemmas.Option.{slice_get_within, slice_get_cases}
use Rattle.path_model.specs.CheckerPrograms.Roots.{Reaches, Itself, Onward, IsUncalled, IsRootBelow, IsRoot, Leads}
use Rattle.path_model.specs.CheckerPrograms.Texts.{functions_in}
use Rattle.typed_unit.specs.Texts.{Text}
use Rattle.root_functions.specs.declared.graph_roots.callees.Callees.{Callees}
use Rattle.root_functions.specs.GraphRoots.Graphs.{LeadsIn}
use Rattle.root_functions.specs.GraphRoots.Listed.{AreListed}
use Rattle.metal_tree.specs.MetalMachines.Machine.{Machine}
use Rattle.root_functions.specs.Callees.{HaveCallees}
use Rattle.root_functions.specs.Roots.{AreRoots}

-- what is reached over some steps is reached over more
reach_over : (L K : ℕ → ℕ → Type 0) → ((f g : ℕ) → L f g → K f g) → {f g : ℕ} → Reaches L f g → Reaches K f g
reach_over L K to (Itself f) = Itself f
reach_over L K to (Onward {g = g} {h = h} r s) = Onward (reach_over L K to r) (to g h s)

-- and what no step of more leads to, none of some does
uncalled_over : (L K : ℕ → ℕ → Type 0) → ((f g : ℕ) → K f g → L f g) → (g : ℕ) → IsUncalled L g → IsUncalled K g
uncalled_over L K back g none f s = none f (back f g s)

-- the same steps, the same roots
below_over : (L K : ℕ → ℕ → Type 0) → ((f g : ℕ) → L f g → K f g) → ((f g : ℕ) → K f g → L f g) → (n f : ℕ) → IsRootBelow L n f → IsRootBelow K n f
below_over L K to back zero f r = r
below_over L K to back (suc n) f (inl r) = inl (below_over L K to back n f r)
below_over L K to back (suc n) f (inr (e, inl none)) = inr (e, inl (uncalled_over L K back n none))
below_over L K to back (suc n) f (inr (e, inr free)) = inr (e, inr (λ g h r. free g (⊎_elim (λ u. inl (uncalled_over K L to g u)) (λ b. inr (below_over K L back to n g b)) h) (reach_over K L back r)))

listed_over : (L K : ℕ → ℕ → Type 0) → ((f g : ℕ) → L f g → K f g) → ((f g : ℕ) → K f g → L f g) → (count : ℕ) (roots : List ℕ)
    → AreListed (IsUncalled L) (IsRoot L) count roots → AreListed (IsUncalled K) (IsRoot K) count roots
listed_over L K to back count roots a = record {
  exact = λ f h. (λ c. below_over L K to back (suc f) f ((a.exact f h).0 c), λ r. (a.exact f h).1 (below_over K L back to (suc f) f r));
  within = a.within;
  uncalled = a.uncalled;
  others = a.others;
  in_order = a.in_order;
  first = λ f c. uncalled_over L K back f (a.first f c);
  last = λ f c none. a.last f c (uncalled_over K L to f none);
  first_rise = a.first_rise;
  last_rise = a.last_rise;
}

-- the rows of all functions say where their calls lead
rows_to : (m : Machine) (ts : List Text) (rows : List Callees) → HaveCallees m ts rows → (f g : ℕ) → LeadsIn rows f g → Leads m ts f g
rows_to m ts rows all f g s = (all f s.0 s.1).0 g s.2

rows_back : (m : Machine) (ts : List Text) (rows : List Callees) → length rows ≡ length (functions_in ts) → HaveCallees m ts rows → (f g : ℕ) → Leads m ts f g → LeadsIn rows f g
rows_back m ts rows count all f g l =
    let within : f < length rows = subst (λ n. f < n) (sym count) (slice_get_within (functions_in ts) f l.defined l.is) in
    elim (slice_get_cases rows f).1 [ inl p ↦ (p.0, p.2, (all f p.0 p.2).1 g l) | inr q ↦ absurd (omega (arith, within, q.0)) ]

pub roots_listed : (m : Machine) (ts : List Text) (rows : List Callees) (numbers : List ℕ)
    → length rows ≡ length (functions_in ts) → ∥ HaveCallees m ts rows ∥₁
    → AreListed (IsUncalled (LeadsIn rows)) (IsRoot (LeadsIn rows)) (length rows) numbers → ∥ AreRoots m ts numbers ∥₁
roots_listed m ts rows numbers each known a =
    ∥∥₁_map known (λ all. subst (λ (k : ℕ). AreListed (IsUncalled (Leads m ts)) (IsRoot (Leads m ts)) k numbers) each
    (listed_over (LeadsIn rows) (Leads m ts) (rows_to m ts rows all) (rows_back m ts rows each all) (length rows) numbers a))

-- what holds of numbers holds of a result that has them
pub seen : {A E : Type 0} (view : A → List ℕ) (r : Result A E) (P : List ℕ → Type 0) (numbers : List ℕ) → P numbers → IfOk r (λ a. view a ≡ numbers) → IfOk r (λ a. P (view a))
seen view (Ok a) P numbers p e = subst P (sym e) p
seen view (Err x) P numbers p e = e
