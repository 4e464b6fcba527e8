-- Units that are lent one by one are the units, and so are their functions.
use Rattle.std.proofs.Common.{◌≡◌, ℕ, zero, suc, List, [], ◌∷◌, ◌++◌, length, map, Contains, Option, None, Some, slice_get, Bool, true, false, cond, Bor, refl, sym, ap, ◌∙◌, subst, arith}
use Rattle.std.proofs.lemmas.List.{length-map}
use Rattle.std.proofs.lemmas.List.Elements.{Contains-append_right}
use Rattle.std.specs.Option.{option_map}
use Rattle.c_tree.specs.Views.{nodes_of}
use Rattle.c_tree.specs.declared.place.Place.{Place}
use Rattle.type_rules.specs.Functions.{Defined}
use Rattle.path_model.specs.CheckerPrograms.Texts.{functions_in}
use Rattle.typed_unit.specs.Texts.{Text, text_of, texts_of}
use Rattle.call_graph.specs.OfPrograms.Definitions.{AreNumbered, definitions, trees_in}
use Rattle.call_graph.specs.OfPrograms.Repeats.{first_repeat, link_fault, name_and_place, repeats}
use Rattle.typed_unit.specs.declared.typed_unit.TypedUnit.{TypedUnit}

-- the units behind references
abbrev pub lent_by : List (Bor TypedUnit) → List TypedUnit
lent_by lent = map (λ u. u.now) lent

same-functions : (lent : List (Bor TypedUnit)) → functions_in (map text_of (lent_by lent)) ≡ definitions (trees_in lent)
same-functions lent = ap definitions (same lent)
  where
    same : (us : List (Bor TypedUnit)) → map (λ (t : Text). t.trees) (map text_of (lent_by us)) ≡ trees_in us
    same [] = refl
    same (u ∷ us) = ap (λ ns. nodes_of u.now.unit.chunks ∷ ns) (same us)

same-texts : (lent : List (Bor TypedUnit)) → texts_of lent ≡ map text_of (lent_by lent)
same-texts [] = refl
same-texts (u ∷ us) = ap (λ ts. text_of u.now ∷ ts) (same-texts us)

pub functions_are : (lent : List (Bor TypedUnit)) (units : List TypedUnit) → lent_by lent ≡ units → functions_in (map text_of units) ≡ definitions (trees_in lent)
functions_are lent units e = ap (λ us. functions_in (map text_of us)) (sym e) ∙ same-functions lent

pub texts_are : (lent : List (Bor TypedUnit)) (units : List TypedUnit) → lent_by lent ≡ units → texts_of lent ≡ map text_of units
texts_are lent units e = same-texts lent ∙ ap (map text_of) e

pub as_many : (lent : List (Bor TypedUnit)) (units : List TypedUnit) → lent_by lent ≡ units → length lent ≡ length units
as_many lent units e = sym (length-map lent (λ (u : Bor TypedUnit). u.now)) ∙ ap length e

lent-at : (lent : List (Bor TypedUnit)) (i : ℕ) (u : Bor TypedUnit) → slice_get lent i ≡ Some u → slice_get (lent_by lent) i ≡ Some u.now
lent-at [] i u e = cc
lent-at (v ∷ lent) zero u e = let s : v ≡ u = cc in ap (λ (w : Bor TypedUnit). Some w.now) s
lent-at (v ∷ lent) (suc i) u e = lent-at lent i u e

pub lent_numbered : (lent : List (Bor TypedUnit)) (units : List TypedUnit) → lent_by lent ≡ units → ((i : ℕ) (u : TypedUnit) → slice_get units i ≡ Some u → u.unit.file ≡ i) → AreNumbered lent
lent_numbered lent units e h i u s = h i u.now (subst (λ us. slice_get us i ≡ Some u.now) e (lent-at lent i u s))

-- ---- the function that repeats an earlier one

repeat-among : (earlier fs : List Defined) (f : Defined) → first_repeat earlier fs ≡ Some f → Contains fs f
repeat-among earlier [] f e = cc
repeat-among earlier (g ∷ fs) f e = by (repeats earlier g) (λ h. repeat-among (earlier ++ (g ∷ [])) fs f h) e
  where
    by : (b : Bool) → (first_repeat (earlier ++ (g ∷ [])) fs ≡ Some f → Contains fs f) → cond b (Some g) (first_repeat (earlier ++ (g ∷ [])) fs) ≡ Some f → Contains (g ∷ fs) f
    by true further e = let s : g ≡ f = cc in (0, omega arith, s)
    by false further e = Contains-append_right (g ∷ []) fs f (further e)

-- a function among these whose name stands there
pub record IsOne (fs : List Defined) (place : Place) : Type 0 where
  pub function : Defined
  pub among : Contains fs function
  pub place_is : function.place ≡ place

repeated : (fs : List Defined) (name : ℕ) (place : Place) → link_fault fs ≡ Some (name, place) → IsOne fs place
repeated fs name place e = by (first_repeat [] fs) refl e
  where
    by : (o : Option Defined) → first_repeat [] fs ≡ o → option_map name_and_place o ≡ Some (name, place) → IsOne fs place
    by None h e = cc
    by (Some f) h e = record { function = f; among = repeat-among [] fs f h; place_is = let s : (f.name, f.place) ≡ (name, place) = cc in ap (λ (p : ℕ × Place). p.1) s }

-- what holds where each function's name stands holds where one is defined again
pub of_repeated : (P : Place → Type 0) (fs : List Defined) (name : ℕ) (place : Place) → link_fault fs ≡ Some (name, place) → ((f : Defined) → Contains fs f → P f.place) → P place
of_repeated P fs name place e h = let one = repeated fs name place e in subst P one.place_is (h one.function one.among)
