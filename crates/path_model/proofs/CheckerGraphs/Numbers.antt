-- The number of a function, and its definition, by its name and the place of that.
use Rattle.std.proofs.Common.{◌≡◌, ℕ, zero, suc, List, [], ◌∷◌, Option, None, Some, slice_get, Bool, true, false, ◌&&◌, nat_eq, cond, refl, ◌∙◌, sym, ap, subst, arith}
use Rattle.std.proofs.lemmas.Bool.{eqb-true, eq-eqb}
use Rattle.std.proofs.lemmas.Option.{get_or_from_slice_get, slice_get_within}
use Rattle.std.specs.Option.{option_map}
use Rattle.flow_graph.specs.CPaths.Building.{Graph, graph_of}
use Rattle.c_tree.specs.declared.place.Place.{Place}
use Rattle.type_rules.specs.Functions.{Defined}
use Rattle.type_rules.specs.Options.{if_there, ◌>?◌}
use Rattle.path_model.specs.CheckerGraphs.Graphs.{number_of, function_at, graph_at, AreApartPlaces}
use Rattle.path_model.specs.CheckerModel.Happenings.{Function}
use Rattle.path_model.specs.CheckerPrograms.Texts.{functions_in, function_of, same_place, defines, defined_as, empty, with_close, definition_of, flow_facts}
use Rattle.typed_unit.specs.Texts.{Text}

both-true : (a b : Bool) → a && b ≡ true → (a ≡ true) × (b ≡ true)
both-true true true h = (refl, refl)
both-true true false h = cc
both-true false b h = cc

pub same-file : (p q : Place) → same_place p q ≡ true → p.file ≡ q.file
same-file p q h = eqb-true p.file q.file (both-true (nat_eq p.file q.file) (nat_eq p.token q.token) h).0

one-place : (p q : Place) → same_place p q ≡ true → p ≡ q
one-place p q h =
    let k = both-true (nat_eq p.file q.file) (nat_eq p.token q.token) h in
    λ i. record { file = eqb-true p.file q.file k.0 i; token = eqb-true p.token q.token k.1 i }

place-itself : (p : Place) → same_place p p ≡ true
place-itself p = rw (eq-eqb p.file p.file refl) (eq-eqb p.token p.token refl)

pub defines-file : (d : Defined) (f : Function) → defines d f ≡ true → d.place.file ≡ f.place.file
defines-file d f h = same-file d.place f.place (both-true (same_place d.place f.place) (nat_eq d.name f.name) h).0

-- what defines it is no other function
pub defines-is : (d : Defined) (f : Function) → defines d f ≡ true → function_of d ≡ f
defines-is d f h =
    let k = both-true (same_place d.place f.place) (nat_eq d.name f.name) h in
    λ i. record { place = one-place d.place f.place k.0 i; name = eqb-true d.name f.name k.1 i }

defines-itself : (d : Defined) → defines d (function_of d) ≡ true
defines-itself d = rw (place-itself d.place) (eq-eqb d.name d.name refl)

-- what is found by its number is found as the function
pub record IsFoundAt (ds : List Defined) (f : Function) (n : ℕ) : Type 0 where
  pub found : Defined
  pub numbered : slice_get ds n ≡ Some found
  pub placed : defined_as ds f ≡ Some found
  pub same : defines found f ≡ true

pub found-at : (ds : List Defined) (f : Function) (n : ℕ) → number_of ds f ≡ Some n → IsFoundAt ds f n
found-at [] f n e = cc
found-at (d ∷ ds) f n e = by (defines d f) refl (number_of ds f) refl e (found-at ds f)
  where
    first : (m : ℕ) → defines d f ≡ true → 0 ≡ m → IsFoundAt (d ∷ ds) f m
    first m s z = record { found = d; numbered = subst (λ k. slice_get (d ∷ ds) k ≡ Some d) z refl; placed = ap (λ b. cond b (Some d) (defined_as ds f)) s; same = s }

    later : (k m : ℕ) → defines d f ≡ false → IsFoundAt ds f k → suc k ≡ m → IsFoundAt (d ∷ ds) f m
    later k m s x z = record {
      found = x.found;
      numbered = subst (λ i. slice_get (d ∷ ds) i ≡ Some x.found) z x.numbered;
      placed = ap (λ b. cond b (Some d) (defined_as ds f)) s ∙ x.placed;
      same = x.same;
    }

    by : (b : Bool) → defines d f ≡ b → (o : Option ℕ) → number_of ds f ≡ o → cond b (Some 0) (option_map suc o) ≡ Some n
        → ((k : ℕ) → number_of ds f ≡ Some k → IsFoundAt ds f k) → IsFoundAt (d ∷ ds) f n
    by true s o m e g = let z : 0 ≡ n = cc in first n s z
    by false s None m e g = cc
    by false s (Some k) m e g = let z : suc k ≡ n = cc in later k n s (g k m) z

-- where no two stand at one place, each function is found
pub numbered-at : (ds : List Defined) (n : ℕ) (d : Defined) → AreApartPlaces ds → slice_get ds n ≡ Some d → (number_of ds (function_of d) ≡ Some n) × (defined_as ds (function_of d) ≡ Some d)
numbered-at [] n d h e = cc
numbered-at (f ∷ ds) zero d h e =
    let s : f ≡ d = cc in
    subst (λ (x : Defined). (number_of (f ∷ ds) (function_of x) ≡ Some 0) × (defined_as (f ∷ ds) (function_of x) ≡ Some x)) s
    (ap (λ b. cond b (Some 0) (option_map suc (number_of ds (function_of f)))) (defines-itself f), ap (λ b. cond b (Some f) (defined_as ds (function_of f))) (defines-itself f))
numbered-at (f ∷ ds) (suc n) d h e =
    let l = slice_get_within ds n d e in
    let x = numbered-at ds n d (λ i j k a b. h (suc i) (suc j) k (omega (arith, a)) (omega (arith, b))) e in
    let away : same_place f.place d.place ≡ false = subst (λ (x : Defined). same_place f.place x.place ≡ false) (get_or_from_slice_get ds n d d e) (h 0 (suc n) d (omega arith) (omega (arith, l))) in
    let other : defines f (function_of d) ≡ false = ap (λ b. b && nat_eq f.name d.name) away in (
      ap (λ b. cond b (Some 0) (option_map suc (number_of ds (function_of d)))) other ∙ ap (option_map suc) x.0,
      ap (λ b. cond b (Some f) (defined_as ds (function_of d))) other ∙ x.1,
    )

of-option : (o : Option Defined) (f : Function) → option_map function_of o ≡ Some f → (d : Defined) × (o ≡ Some d) × (function_of d ≡ f)
of-option None f e = cc
of-option (Some d) f e = let s : function_of d ≡ f = cc in (d, refl, s)

one-option : (m n : ℕ) → Some m ≡ Some n → m ≡ n
one-option m n e = cc

-- the definition of the function with a number
pub defined-at : (ts : List Text) (n : ℕ) (f : Function) → function_at ts n ≡ Some f → (d : Defined) × (slice_get (functions_in ts) n ≡ Some d) × (function_of d ≡ f)
defined-at ts n f e = of-option (slice_get (functions_in ts) n) f e

module _ (ts : List Text) (apart : AreApartPlaces (functions_in ts)) where
  -- and its number is found
  pub number-is : (n : ℕ) (f : Function) → function_at ts n ≡ Some f → number_of (functions_in ts) f ≡ Some n
  number-is n f named =
      let d = defined-at ts n f named in
      subst (λ (g : Function). number_of (functions_in ts) g ≡ Some n) d.2 (numbered-at (functions_in ts) n d.0 apart d.1).0

  -- the graph of the function with a number is the graph with this number
  pub graph-at : (gs : List Graph) (n : ℕ) (d : Defined) (g : Graph) → slice_get (functions_in ts) n ≡ Some d → slice_get gs n ≡ Some g → graph_at ts gs (function_of d) ≡ g
  graph-at gs n d g e k =
      let plain = graph_of (flow_facts ts (function_of d)) (definition_of ts (function_of d)) in
      ap (λ o. if_there (o >? slice_get gs) plain (λ x. x)) (numbered-at (functions_in ts) n d apart e).0 ∙ ap (λ o. if_there o plain (λ x. x)) k

  pub definition-at : (n : ℕ) (d : Defined) → slice_get (functions_in ts) n ≡ Some d → definition_of ts (function_of d) ≡ with_close ts d
  definition-at n d e = ap (λ o. if_there o (empty d.place) (with_close ts)) (numbered-at (functions_in ts) n d apart e).1

  -- functions with different numbers differ
  pub one-number : (m n : ℕ) (f : Function) → function_at ts m ≡ Some f → function_at ts n ≡ Some f → m ≡ n
  one-number m n f a b =
      let x = defined-at ts m f a in
      let y = defined-at ts n f b in
      let same : function_of x.0 ≡ function_of y.0 = x.2 ∙ sym y.2 in
      one-option m n (sym (numbered-at (functions_in ts) m x.0 apart x.1).0 ∙ ap (number_of (functions_in ts)) same ∙ (numbered-at (functions_in ts) n y.0 apart y.1).0)
