-- What stands at a position: actuals, candidates, and those that are left to be gathered.
use Rattle.std.proofs.Common.{arith, ◌≡◌, ℕ, zero, suc, ◌+◌, ◌<◌, ◌≤◌, List, [], ◌∷◌, length, get_or, drop, map, Bool, Option, None, Some, refl, ◌∙◌, sym, ap}
use Rattle.std.proofs.lemmas.List.{at_drop_all}
use Rattle.std.specs.Option.{option_map}
use Rattle.c_objects.specs.Facts.{Facts}
use Rattle.c_objects.specs.Objects.{Object}
use Rattle.c_objects.specs.ObjectOf.{object_of}
use Rattle.c_tree.specs.declared.tree.Tree.{Tree}
use Rattle.c_tree.specs.Views.{node_of, nodes_in}
use Rattle.type_values.specs.declared.vars.Var.{Var}
use Rattle.type_values.specs.Vars.{cvar_of}
use Rattle.path_model.specs.CheckerModel.Calls.{objects_of, behind_first, first_actual}
use Rattle.refine_restore.specs.Ways.Takers.{candidate, candidates, gathered}
use Rattle.refine_restore.specs.declared.handed_objects.ends.End.{End}

-- ---- actuals

pub actual-at : (u : Facts) (depth : ℕ) (ts : List Tree) (i : ℕ) (d : Tree) → i < length ts → first_actual (drop i (objects_of u depth (nodes_in ts))) ≡ object_of u depth (node_of (get_or ts i d))
actual-at u depth [] i d h = absurd (omega arith)
actual-at u depth (t ∷ ts) zero d h = refl
actual-at u depth (t ∷ ts) (suc i) d h = actual-at u depth ts i d (omega arith)

pub actual-past : (u : Facts) (depth : ℕ) (ts : List Tree) (i : ℕ) → length ts ≤ i → first_actual (drop i (objects_of u depth (nodes_in ts))) ≡ None
actual-past u depth [] zero h = refl
actual-past u depth [] (suc i) h = refl
actual-past u depth (t ∷ ts) zero h = absurd (omega arith)
actual-past u depth (t ∷ ts) (suc i) h = actual-past u depth ts i (omega arith)

-- ---- candidates

behind-next : (actuals : List (Option Object)) (i : ℕ) → first_actual (drop i (behind_first actuals)) ≡ first_actual (drop (suc i) actuals)
behind-next [] zero = refl
behind-next [] (suc i) = refl
behind-next (a ∷ actuals) i = refl

formal-at : (e : End) (depth : ℕ) (o : Object) (formals : List (Option Var)) (actuals : List (Option Object)) (i : ℕ) (d : Option Var) → i < length formals
    → get_or (candidates e depth o (map (option_map cvar_of) formals) actuals) i None ≡ candidate e depth o (option_map cvar_of (get_or formals i d)) (first_actual (drop i actuals))
formal-at e depth o [] actuals i d h = absurd (omega arith)
formal-at e depth o (x ∷ xs) [] zero d h = refl
formal-at e depth o (x ∷ xs) (a ∷ actuals) zero d h = refl
formal-at e depth o (x ∷ xs) actuals (suc i) d h =
    formal-at e depth o xs (behind_first actuals) i d (omega arith)
    ∙ ap (candidate e depth o (option_map cvar_of (get_or xs i d))) (behind-next actuals i)

pub candidate-found : (e : End) (depth : ℕ) (o : Object) (formals : List (Option Var)) (actuals : List (Option Object)) (i : ℕ) (d : Option Var) (a r : Option Object) → i < length formals
    → a ≡ first_actual (drop i actuals) → r ≡ candidate e depth o (option_map cvar_of (get_or formals i d)) a → r ≡ get_or (candidates e depth o (map (option_map cvar_of) formals) actuals) i None
candidate-found e depth o formals actuals i d a r h f g = g ∙ ap (candidate e depth o (option_map cvar_of (get_or formals i d))) f ∙ sym (formal-at e depth o formals actuals i d h)

candidates-length : (e : End) (depth : ℕ) (o : Object) (formals : List (Option Var)) (actuals : List (Option Object)) → length (candidates e depth o (map (option_map cvar_of) formals) actuals) ≡ length formals
candidates-length e depth o [] actuals = refl
candidates-length e depth o (x ∷ xs) actuals = ap (λ n. suc n) (candidates-length e depth o xs (behind_first actuals))

-- ---- at the end none is left to be gathered

pub gathered-all : (test : Object → Bool) (qs all : List Object) (e : End) (depth : ℕ) (o : Object) (formals : List (Option Var)) (actuals : List (Option Object)) (i : ℕ) → length formals ≤ i
    → gathered test qs (drop i (candidates e depth o (map (option_map cvar_of) formals) actuals)) ≡ all → qs ≡ all
gathered-all test qs all e depth o formals actuals i h k =
    let n = candidates-length e depth o formals actuals in
    sym (at_drop_all (gathered test qs) (candidates e depth o (map (option_map cvar_of) formals) actuals) i (omega (arith, n, h))) ∙ k
