-- WHICH CALLS ARE FOLLOWED, and THE ROOTS. A checker that matches calls of a name itself doesn't follow them. A root is a function that no
-- followed call leads to; and, as long as functions remain that no root reaches, the first of them in source order.
use Rattle.std.specs.Prelude.{◌≡◌, ◌⊎◌, ℕ, zero, suc, List, slice_get, cond, Option, None, Some}
use Rattle.flow_graph.specs.CPaths.Events.{called}
use Rattle.flow_graph.specs.CPaths.Occurrences.{InFlow}
use Rattle.flow_graph.specs.CPaths.TreeFlow.{flow_of}
use Rattle.c_tree.specs.Node.{Node}
use Rattle.type_rules.specs.Functions.{Defined}
use Rattle.type_rules.specs.Options.{◌>?◌}
use Rattle.call_graph.specs.Followed.{machine_calls, followed}
use Rattle.path_model.specs.CheckerModel.Happenings.{Function, Site}
use Rattle.path_model.specs.CheckerPrograms.Texts.{functions_in, function_of, flow_facts, type_table}
use Rattle.typed_unit.specs.Texts.{Text}
use Rattle.metal_tree.specs.MetalMachines.Machine.{Machine}

-- the function into which a call is followed
abbrev pub followed_into : Machine → Site → Option Function
followed_into m s = s.callee >? λ h. cond (machine_calls h.name m) None (Some h)

-- ROOTS of functions that lead to each other, which are known by their numbers
module _ (LeadsTo : ℕ → ℕ → Type 0) where
  -- over some calls, or none
  pub data Reaches : ℕ → ℕ → Type 0 where
    Itself : (f : ℕ) → Reaches f f
    Onward : {f g h : ℕ} → Reaches f g → LeadsTo g h → Reaches f h

  -- no call leads to it
  abbrev pub IsUncalled : ℕ → Type 0
  IsUncalled g = (f : ℕ) → LeadsTo f g → ⊥

  -- none of these functions reaches it
  abbrev pub Remains : (ℕ → Type 0) → ℕ → Type 0
  Remains These f = (g : ℕ) → These g → Reaches g f → ⊥

  -- It is a root among the first n functions: no call leads to the last of these, or it remains behind those that no call leads to and the
  -- roots before it.
  abbrev pub IsRootBelow : ℕ → ℕ → Type 0
  IsRootBelow zero f = ⊥
  IsRootBelow (suc n) f = IsRootBelow n f ⊎ ((f ≡ n) × (IsUncalled n ⊎ Remains (λ g. IsUncalled g ⊎ IsRootBelow n g) n))

  -- A ROOT
  abbrev pub IsRoot : ℕ → Type 0
  IsRoot f = IsRootBelow (suc f) f

-- THE ROOTS OF A PROGRAM
module _ (m : Machine) (ts : List Text) where
  -- a followed call stands in the one function, evaluated or in dead code, and leads to the other
  pub record Leads (f g : ℕ) : Type 0 where
    pub defined : Defined
    pub is : slice_get (functions_in ts) f ≡ Some defined
    pub call : Node
    pub stands : InFlow (called call) (flow_of (flow_facts ts (function_of defined)) defined.place defined.body)
    pub follows : followed m (type_table ts defined.file) defined.file (functions_in ts) call ≡ Some g

  -- a root, by its name
  pub record IsRootFunction (f : Function) : Type 0 where
    pub number : ℕ
    pub defined : Defined
    pub is : slice_get (functions_in ts) number ≡ Some defined
    pub named : f ≡ function_of defined
    pub root : IsRoot Leads number
