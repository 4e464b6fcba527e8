-- What units keep is what their trees define.
use Rattle.std.proofs.Common.{◌≡◌, ℕ, suc, List, [], ◌∷◌, ◌++◌, length, Option, Some, slice_get, ap, refl, ◌∙◌, sym, Bor}
use Rattle.std.proofs.Math.Logic.{∥∥₁_elim, ∥∥₁_map}
use Rattle.std.proofs.lemmas.Option.{slice_get-map}
use Rattle.std.proofs.lemmas.List.{map-append}
use Rattle.std.specs.Option.{option_map}
use Rattle.std.specs.Coded.{Coded-set, codes}
use Rattle.type_rules.specs.Functions.{Defined}
use Rattle.call_graph.specs.OfPrograms.Definitions.{defined_by}
use Rattle.call_graph.specs.OfPrograms.Theorems.{UnitsAreListed}
use Rattle.typed_unit.specs.declared.functions.TypedFunction.{TypedFunction}
use Rattle.typed_unit.specs.Functions.{function_of}

joined : {a b c d : List Defined} → a ≡ b → c ≡ d → a ++ c ≡ b ++ d
joined e f = λ i. e i ++ f i

pub listed : UnitsAreListed
listed [] = ∣ refl ∣₁
listed (u ∷ us) = ∥∥₁_elim u.now.defined squash₁ (λ d. ∥∥₁_map (listed us) (λ e. joined d e))

pub maybe-number-set : (x y : Option ℕ) → IsProp (x ≡ y)
maybe-number-set = Coded-set (hlevel codes)

pub number-set : (x y : ℕ) → IsProp (x ≡ y)
number-set = Coded-set (hlevel codes)

pub map-length : (fs : List (Bor TypedFunction)) → length fs ≡ length (defined_by fs)
map-length [] = refl
map-length (f ∷ fs) = ap suc (map-length fs)

-- as many functions are kept as are defined
pub counted : (fs : List (Bor TypedFunction)) (ds : List Defined) → ∥ defined_by fs ≡ ds ∥₁ → length fs ≡ length ds
counted fs ds h = map-length fs ∙ ∥∥₁_elim h (number-set _ _) (λ e. ap length e)

-- one function more
pub defined-push : (fs longer : List (Bor TypedFunction)) (f : Bor TypedFunction) → longer ≡ fs ++ (f ∷ []) → defined_by longer ≡ defined_by fs ++ (function_of f.now ∷ [])
defined-push fs longer f e = ap defined_by e ∙ map-append (λ (g : Bor TypedFunction). function_of g.now) fs (f ∷ [])

-- the function at a position is the definition there
pub kept-at : (fs : List (Bor TypedFunction)) (ds : List Defined) (k : ℕ) (f : Bor TypedFunction) → ∥ defined_by fs ≡ ds ∥₁ → slice_get fs k ≡ Some f → ∥ slice_get ds k ≡ Some (function_of f.now) ∥₁
kept-at fs ds k f h e =
    ∥∥₁_map h (λ l. ap (λ (xs : List Defined). slice_get xs k) (sym l) ∙ slice_get-map (λ (g : Bor TypedFunction). function_of g.now) fs k ∙ ap (option_map (λ (g : Bor TypedFunction). function_of g.now)) e)
