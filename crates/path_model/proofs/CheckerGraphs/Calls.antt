-- Followed calls and roots by the numbers of functions.
use Rattle.std.proofs.Common.{◌≡◌, ◌↔◌, ℕ, suc, List, [], ◌∷◌, Option, None, Some, slice_get, Bool, true, false, ◌&&◌, not, nat_eq, cond, refl, ◌∙◌, sym, ap, subst}
use Rattle.std.proofs.lemmas.Bool.{eqb-true}
use Rattle.std.specs.Option.{option_map}
use Rattle.c_tree.specs.Node.{Node}
use Rattle.type_rules.specs.Functions.{Defined}
use Rattle.type_rules.specs.Options.{or_else, ◌>?◌}
use Rattle.call_graph.specs.Followed.{machine_calls, followed, body_followed}
use Rattle.path_model.specs.CheckerGraphs.Graphs.{function_at, AreApartPlaces}
use Rattle.path_model.proofs.CheckerGraphs.Numbers.{one-number}
use Rattle.path_model.specs.CheckerModel.Happenings.{Function}
use Rattle.path_model.specs.CheckerPrograms.Roots.{followed_into, IsRoot, IsRootFunction, Leads}
use Rattle.path_model.specs.CheckerPrograms.Texts.{functions_in, function_of, site, type_table}
use Rattle.typed_unit.specs.Texts.{Text}
use Rattle.metal_tree.specs.MetalMachines.Machine.{Machine}
use Rattle.call_graph.specs.OfPrograms.Bodies.{is_in_file, is_external, first_position, body_of}
use Rattle.call_graph.specs.OfPrograms.Calls.{called_name}

second-true : (a b : Bool) → a && b ≡ true → b ≡ true
second-true true b h = h
second-true false b h = cc

-- the definition at a position that was found
record IsNamed (fs : List Defined) (i name : ℕ) : Type 0 where
  found : Defined
  at : slice_get fs i ≡ Some found
  named : found.name ≡ name

later : (f : Defined) (fs : List Defined) (i k name : ℕ) → suc i ≡ k → IsNamed fs i name → IsNamed (f ∷ fs) k name
later f fs i k name e x = record { found = x.found; at = subst (λ n. slice_get (f ∷ fs) n ≡ Some x.found) e x.at; named = x.named }

first-named : (test : Defined → Bool) (name : ℕ) → ((f : Defined) → test f ≡ true → f.name ≡ name) → (fs : List Defined) (i : ℕ) → first_position test fs ≡ Some i → IsNamed fs i name
first-named test name t [] i e = cc
first-named test name t (f ∷ fs) i e = by (test f) refl (first_position test fs) refl e (first-named test name t fs)
  where
    by : (b : Bool) → test f ≡ b → (o : Option ℕ) → first_position test fs ≡ o → cond b (Some 0) (option_map suc o) ≡ Some i
        → ((k : ℕ) → first_position test fs ≡ Some k → IsNamed fs k name) → IsNamed (f ∷ fs) i name
    by true h o m e g = let z : 0 ≡ i = cc in record { found = f; at = subst (λ n. slice_get (f ∷ fs) n ≡ Some f) z refl; named = t f h }
    by false h None m e g = cc
    by false h (Some k) m e g = let z : suc k ≡ i = cc in later f fs k i name z (g k m)

-- a body has the name by which it was found
body-named : (file name : ℕ) (fs : List Defined) (i : ℕ) → body_of file name fs ≡ Some i → IsNamed fs i name
body-named file name fs i e = by (first_position (is_in_file file name) fs) refl e
  where
    by : (o : Option ℕ) → first_position (is_in_file file name) fs ≡ o → or_else o (first_position (is_external name) fs) ≡ Some i → IsNamed fs i name
    by None h e = first-named (is_external name) name (λ f t. eqb-true f.name name (second-true (not f.own) (nat_eq f.name name) t)) fs i e
    by (Some k) h e = first-named (is_in_file file name) name (λ f t. eqb-true f.name name (second-true (nat_eq f.file file) (nat_eq f.name name) t)) fs i (h ∙ e)

module _ (m : Machine) where
  abbrev unless_called : Function → Option Function
  unless_called h = cond (machine_calls h.name m) None (Some h)

  abbrev into : List Defined → Option ℕ → Option Function
  into fs o = option_map function_of (o >? slice_get fs) >? unless_called

  none-followed : (b : Bool) (fs : List Defined) → None ≡ option_map function_of (cond b None None >? slice_get fs)
  none-followed true fs = refl
  none-followed false fs = refl

  one-followed : (fs : List Defined) (i : ℕ) (d : Defined) (b : Bool) → slice_get fs i ≡ Some d → cond b None (Some (function_of d)) ≡ option_map function_of (cond b None (Some i) >? slice_get fs)
  one-followed fs i d true e = refl
  one-followed fs i d false e = ap (option_map function_of) (sym e)

  body-is : (file : ℕ) (fs : List Defined) (name : ℕ) → into fs (body_of file name fs) ≡ option_map function_of (body_followed m file fs name >? slice_get fs)
  body-is file fs name = by (body_of file name fs) refl
    where
      by : (o : Option ℕ) → body_of file name fs ≡ o → into fs o ≡ option_map function_of (cond (machine_calls name m) None o >? slice_get fs)
      by None e = none-followed (machine_calls name m) fs
      by (Some i) e =
          let x = body-named file name fs i e in
          let d = x.found in
          ap (λ o. option_map function_of o >? unless_called) x.at
          ∙ ap (λ (n : ℕ). cond (machine_calls n m) None (Some (function_of d))) x.named
          ∙ one-followed fs i d (machine_calls name m) x.at

  -- a call is followed into the function with the number to which it is followed
  pub followed-number : (depth : ℕ) (ts : List Text) (f : Function) (call : Node)
      → followed_into m (site depth ts f call) ≡ option_map function_of (followed m (type_table ts f.place.file) f.place.file (functions_in ts) call >? slice_get (functions_in ts))
  followed-number depth ts f call = by (called_name (type_table ts f.place.file) call)
    where
      by : (o : Option ℕ) → into (functions_in ts) (o >? λ name. body_of f.place.file name (functions_in ts))
          ≡ option_map function_of (o >? body_followed m f.place.file (functions_in ts) >? slice_get (functions_in ts))
      by None = refl
      by (Some name) = body-is f.place.file (functions_in ts) name

  of-number : (o : Option Defined) (f : Function) → option_map function_of o ≡ Some f → (d : Defined) × (o ≡ Some d) × (f ≡ function_of d)
  of-number None f e = cc
  of-number (Some d) f e = let s : function_of d ≡ f = cc in (d, refl, sym s)

  -- a function is a root where its number is one
  pub root-number : (ts : List Text) → AreApartPlaces (functions_in ts) → (n : ℕ) (f : Function) → function_at ts n ≡ Some f → IsRootFunction m ts f ↔ IsRoot (Leads m ts) n
  root-number ts apart n f e =
      let x = of-number (slice_get (functions_in ts) n) f e in (
        (λ r. subst (IsRoot (Leads m ts)) (one-number ts apart r.number n f (ap (option_map function_of) r.is ∙ ap (λ (g : Function). Some g) (sym r.named)) e) r.root),
        (λ r. record { number = n; defined = x.0; is = x.1; named = x.2; root = r }),
      )
