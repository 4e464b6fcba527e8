-- THE KINDS OF FRAMES: a frame is a root's own where its function is a root, and it begins in `start` with no known state.
use Rattle.std.proofs.Common.{◌≡◌, ◌∙◌, refl, sym, ap, ap₂, true≢false, eq-eqb, eqb-true, ℕ, nat_eq, Bool, true, false, ◌&&◌, is_none, List, Option, None, Some}
use Rattle.block_flows.specs.Masks.{graphs_under, model_under, objects_under}
use Rattle.c_objects.specs.Objects.{Object}
use Rattle.flow_graph.specs.CPaths.Building.{Graph}
use Rattle.metal_tree.specs.MetalMachines.Machine.{start}
use Rattle.numbered_engine.specs.Program as engine
use Rattle.numbered_engine.specs.declared.program.FunctionRows.{FunctionRows}
use Rattle.numbered_engine.specs.declared.program.ProgramRows.{ProgramRows}
use Rattle.numbered_program.proofs.NumberedEvents.ItemNumbers.{is_number}
use Rattle.numbered_paths.proofs.SameNumbers.{bare_fact, fact_with}
use Rattle.numbered_paths.specs.Views.{IsBare, IsKnown, IsNumbered, IsOf, IsState, IsUnknown, fact_at}
use Rattle.numbered_program.proofs.FunctionNumbers.{found_number}
use Rattle.path_model.proofs.CheckerGraphs.Numbers.{number-is}
use Rattle.numbered_program.proofs.ProgramParts.{AreGiven, has_parts}
use Rattle.numbered_program.proofs.ViewNumbers.{numbers}
use Rattle.numbered_program.specs.Rows.{IsFunctionOf}
use Rattle.numbered_program.specs.Views.{views}
use Rattle.path_edges.proofs.Numbers.{have-numbers}
use Rattle.path_model.proofs.CheckerGraphs.Calls.{root-number}
use Rattle.path_model.specs.CheckerGraphs.Graphs.{function_at, number_of}
use Rattle.path_model.specs.CheckerModel.Choices.{State}
use Rattle.path_model.specs.CheckerModel.Happenings.{Function}
use Rattle.path_model.specs.CheckerModel.Reports.{Checker}
use Rattle.path_model.specs.CheckerPrograms.Roots.{IsRootFunction}
use Rattle.path_model.specs.CheckerPrograms.Texts.{functions_in}
use Rattle.path_theory.specs.Facts.{FactOf, HasObject, NoObject}
use Rattle.path_theory.specs.Merged as merged
use Rattle.row_flows.specs.Numbers.{item_numbered}
use Rattle.row_flows.specs.declared.tuples.NumberedTuple.{NumberedTuple}
use Rattle.type_rules.specs.Options.{if_there, ◌>?◌}
use Rattle.typed_unit.specs.Texts.{Text}

-- ---- three tests

all_true : (a b d : Bool) → a ≡ true → b ≡ true → d ≡ true → a && (b && d) ≡ true
all_true true true true e h k = refl
all_true true true false e h k = k
all_true true false d e h k = h
all_true false b d e h k = e

each_true : (a b d : Bool) → a && (b && d) ≡ true → (a ≡ true) × (b ≡ true) × (d ≡ true)
each_true true true true h = (refl, refl, refl)
each_true true true false h = absurd (true≢false (sym h))
each_true true false d h = absurd (true≢false (sym h))
each_true false b d h = absurd (true≢false (sym h))

-- whether nothing is known of an object
abbrev is_unknown : FactOf Object State → Bool
is_unknown NoObject = true
is_unknown (HasObject o x) = is_none x

-- whether the function with a number is a root, by its rows
abbrev flag_of : Option FunctionRows → Bool
flag_of q = if_there q false (λ r. r.is_root)

abbrev root_flag : ProgramRows → Option ℕ → Bool
root_flag p n = flag_of (n >? engine.function_at p)

abbrev pub kind_of : List Text → ProgramRows → Function → ℕ → FactOf Object State → Bool
kind_of ts p f g t = root_flag p (number_of (functions_in ts) f) && (nat_eq g 0 && is_unknown t)

module _ (c : Checker) (ts : List Text) (gs : List Graph) (lists : List (List Object)) (states : List State) (p : ProgramRows) (H : AreGiven c ts gs lists states p) where
  flag_is : (n : ℕ) (f : Function) (r : FunctionRows) → function_at ts n ≡ Some f → engine.function_at p n ≡ Some r → root_flag p (number_of (functions_in ts) f) ≡ r.is_root
  flag_is n f r named there = ap (root_flag p) (number-is ts H.apart n f named) ∙ ap flag_of there

  root_flagged : (f : Function) → IsRootFunction c.machine ts f → root_flag p (number_of (functions_in ts) f) ≡ true
  root_flagged f w =
      let n = (have-numbers c ts gs).root f w in
      let k = has_parts c ts gs lists states p H n.0 f n.1 in
      flag_is n.0 f k.rows n.1 k.there ∙ k.is.root.1 ((root-number c.machine ts H.apart n.0 f n.1).0 w)

  flagged_root : (f : Function) → root_flag p (number_of (functions_in ts) f) ≡ true → IsRootFunction c.machine ts f
  flagged_root f h = by (number_of (functions_in ts) f) refl h
    where
      by_rows : (n : ℕ) → function_at ts n ≡ Some f → (q : Option FunctionRows) → engine.function_at p n ≡ q → flag_of q ≡ true → IsRootFunction c.machine ts f
      by_rows n named None there h = absurd (true≢false (sym h))
      by_rows n named (Some r) there h =
          let k = has_parts c ts gs lists states p H n f named in
          let is : IsFunctionOf c ts gs lists states n f k.graph r = H.rows_of.functions n f k.graph r named k.here there in
          (root-number c.machine ts H.apart n f named).1 (is.root.0 h)

      by : (q : Option ℕ) → number_of (functions_in ts) f ≡ q → root_flag p q ≡ true → IsRootFunction c.machine ts f
      by None e h = absurd (true≢false (sym h))
      by (Some n) e h = by_rows n (found_number ts n f e) (engine.function_at p n) refl h

  unknown_tested : (t : FactOf Object State) → merged.IsUnknown (model_under c ts lists) t → is_unknown t ≡ true
  unknown_tested NoObject u = refl
  unknown_tested (HasObject o None) u = refl
  unknown_tested (HasObject o (Some x)) u = absurd u

  tested_unknown : (t : FactOf Object State) → is_unknown t ≡ true → merged.IsUnknown (model_under c ts lists) t
  tested_unknown NoObject u = tt
  tested_unknown (HasObject o None) u = tt
  tested_unknown (HasObject o (Some x)) u = absurd (true≢false (sym u))

  pub own_frame : (f : Function) (t : FactOf Object State) → IsRootFunction c.machine ts f → merged.IsUnknown (model_under c ts lists) t → kind_of ts p f start t ≡ true
  own_frame f t w u = all_true (root_flag p (number_of (functions_in ts) f)) (nat_eq start 0) (is_unknown t) (root_flagged f w) (eq-eqb start 0 refl) (unknown_tested t u)

  pub of_own_frame : (f : Function) (g : ℕ) (t : FactOf Object State) → kind_of ts p f g t ≡ true → IsRootFunction c.machine ts f × (g ≡ start) × merged.IsUnknown (model_under c ts lists) t
  of_own_frame f g t h =
      let k = each_true (root_flag p (number_of (functions_in ts) f)) (nat_eq g 0) (is_unknown t) h in
      (flagged_root f k.0, eqb-true g 0 k.1, tested_unknown t k.2)

  abbrev pub kinds : merged.Kinds (model_under c ts lists) (graphs_under c ts gs lists)
  kinds = record {
    kind = kind_of ts p;
    of_root = λ {f = f} t w u. own_frame f t w u;
    is_root = λ {f = f} {g = g} {t = t} h. of_own_frame f g t h;
  }

  -- ---- the rows of a function test the same of a tuple

  abbrev pub FactAt : ℕ → NumberedTuple → FactOf Object State
  FactAt n t = fact_at (model_under c ts lists) (objects_under c ts lists) (graphs_under c ts gs lists) (views c ts gs lists states) n t

  abbrev StateAt : ℕ → Type 0
  StateAt x = IsState (model_under c ts lists) (objects_under c ts lists) (graphs_under c ts gs lists) (views c ts gs lists states) x

  unknown_state : (x : ℕ) → StateAt x → nat_eq x 0 ≡ is_none (item_numbered states x)
  unknown_state x (IsUnknown e) = eq-eqb x 0 e ∙ sym (ap (λ i. is_none (item_numbered states i)) e)
  unknown_state x (IsKnown s e) = is_number states x s e ∙ sym (ap is_none e)

  unknown_fact : (n : ℕ) (t : NumberedTuple) → IsNumbered (model_under c ts lists) (objects_under c ts lists) (graphs_under c ts gs lists) (views c ts gs lists states) n t
      → nat_eq t.state 0 ≡ is_unknown (FactAt n t)
  unknown_fact n t (IsBare o x) =
      eq-eqb t.state 0 x
      ∙ sym (ap is_unknown (bare_fact (model_under c ts lists) (objects_under c ts lists) (graphs_under c ts gs lists) (views c ts gs lists states) (numbers c ts gs lists states p H) n t o))
  unknown_fact n t (IsOf o e x) =
      unknown_state t.state x
      ∙ sym (ap is_unknown (fact_with (model_under c ts lists) (objects_under c ts lists) (graphs_under c ts gs lists) (views c ts gs lists states) n t o e))

  pub kind_is : (n : ℕ) (f : Function) (r : FunctionRows) → function_at ts n ≡ Some f → engine.function_at p n ≡ Some r → (t : NumberedTuple)
      → IsNumbered (model_under c ts lists) (objects_under c ts lists) (graphs_under c ts gs lists) (views c ts gs lists states) n t → engine.is_own_frame r t ≡ kind_of ts p f t.global (FactAt n t)
  kind_is n f r named there t i = ap₂ (λ a d. a && (nat_eq t.global 0 && d)) (sym (flag_is n f r named there)) (unknown_fact n t i)
