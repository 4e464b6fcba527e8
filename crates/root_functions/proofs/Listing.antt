-- Lists of functions, made of calls one after the other.
use Rattle.std.proofs.Common.{◌≡◌, ◌⊎◌, inl, inr, ℕ, zero, suc, ◌+◌, ◌<◌, List, [], ◌∷◌, ◌++◌, map, Option, None, Some, IfSome, Contains, length, slice_get, get_or, take, Bor, append-nil, refl, sym, ap, ◌∙◌, subst}
use Rattle.std.specs.Option.{option_map}
use Rattle.std.proofs.Math.Logic.{∥∥₁_map₂}
use Rattle.std.proofs.lemmas.List.{take_more, map-append}
use Rattle.std.proofs.lemmas.List.Elements.{Contains-push_cases}
use Rattle.std.proofs.lemmas.Option.{same_Some}
use Rattle.c_tree.specs.declared.tree.Tree.{Tree}
use Rattle.c_tree.specs.Node.{Node}
use Rattle.c_tree.specs.Views.{node_of}
use Rattle.call_graph.specs.Followed.{followed}
use Rattle.root_functions.specs.CallSites.Calls.{nodes_at}
use Rattle.typed_unit.specs.Texts.{Text}
use Rattle.root_functions.specs.declared.graph_roots.callees.Callees.{Callees}
use Rattle.least_set.specs.Logs.{IsExactly, SomeGives}
use Rattle.least_set.proofs.Enumerating.{exactly_more, exactly_skip}
use Rattle.metal_tree.specs.MetalMachines.Machine.{Machine}
use Rattle.call_graph.specs.declared.programs.functions.FnId.{FnId}
use Rattle.call_graph.specs.OfPrograms.Calls.{table_in}
use Rattle.call_graph.specs.OfPrograms.Definitions.{definitions, trees_in}
use Rattle.path_model.specs.CheckerPrograms.Roots.{Leads}
use Rattle.root_functions.specs.Callees.{listed, FollowedBy, AreBelow, HaveCallees, LeadBelow}
use Rattle.typed_unit.specs.declared.typed_unit.TypedUnit.{TypedUnit}

-- the list has what each value gives, if it gives something
module _ {T : Type 0} (step : T → Option ℕ) where
  abbrev Gives : T → ℕ → Type 0
  Gives x h = step x ≡ Some h

  given_none : {P : Type 0} (x : T) (h : ℕ) → step x ≡ None → Gives x h → P
  given_none x h e g = let z : None ≡ Some h = sym e ∙ g in cc

  listed_next : (xs : List T) (x : T) (out : List ℕ) (o : Option ℕ) → o ≡ step x → IsExactly out (SomeGives Gives xs) → IsExactly (out ++ listed o) (SomeGives Gives (xs ++ (x ∷ [])))
  listed_next xs x out None e s = subst (λ l. IsExactly l (SomeGives Gives (xs ++ (x ∷ [])))) (sym (append-nil out)) (exactly_skip Gives xs x out s (λ h g. given_none x h (sym e) g))
  listed_next xs x out (Some d) e s = exactly_more Gives xs x out d s (sym e) (λ h g. same_Some d h (e ∙ g))

-- one more call
one_more : (calls : List (Bor Tree)) (i : ℕ) (x : Bor Tree) → i < length calls → x ≡ get_or calls i x → nodes_at (take (i + 1) calls) ≡ nodes_at (take i calls) ++ (node_of x.now ∷ [])
one_more calls i x h e =
    ap nodes_at (take_more calls i x h)
    ∙ map-append (λ (t : Bor Tree). node_of t.now) (take i calls) (get_or calls i x ∷ [])
    ∙ ap (λ (t : Bor Tree). nodes_at (take i calls) ++ (node_of t.now ∷ [])) (sym e)

pub followed_next : (m : Machine) (units : List (Bor TypedUnit)) (file : ℕ) (calls : List (Bor Tree)) (i : ℕ) (x : Bor Tree) (callee : Option FnId) (old new : List ℕ)
    → i < length calls → x ≡ get_or calls i x
    → option_map (λ f. f.number) callee ≡ followed m (table_in units file) file (definitions (trees_in units)) (node_of x.now)
    → new ≡ old ++ listed (option_map (λ f. f.number) callee)
    → IsExactly old (FollowedBy m units file (nodes_at (take i calls))) → IsExactly new (FollowedBy m units file (nodes_at (take (i + 1) calls)))
followed_next m units file calls i x callee old new h is leads e s =
    let step = λ (call : Node). followed m (table_in units file) file (definitions (trees_in units)) call in
    let next = listed_next step (nodes_at (take i calls)) (node_of x.now) old (option_map (λ (f : FnId). f.number) callee) leads s in
    subst (λ (ns : List Node). IsExactly new (FollowedBy m units file ns)) (sym (one_more calls i x h is))
    (subst (λ (out : List ℕ). IsExactly out (FollowedBy m units file (nodes_at (take i calls) ++ (node_of x.now ∷ [])))) (sym e) next)

-- of numbers below a bound
listed_below : (count : ℕ) (callee : Option FnId) (old : List ℕ) → IfSome callee (λ f. f.number < count) → AreBelow count old → AreBelow count (old ++ listed (option_map (λ f. f.number) callee))
listed_below count None old low below f c = below f (subst (λ l. Contains l f) (append-nil old) c)
listed_below count (Some g) old low below f c = elim (Contains-push_cases old g.number f c) [ inl o ↦ below f o | inr e ↦ subst (λ n. n < count) e low ]

pub below_next : (count : ℕ) (callee : Option FnId) (old new : List ℕ) → IfSome callee (λ f. f.number < count) → new ≡ old ++ listed (option_map (λ f. f.number) callee) → AreBelow count old → AreBelow count new
below_next count callee old new low e below = subst (AreBelow count) (sym e) (listed_below count callee old low below)

-- what stands in a list with one more
placed : (rows : List Callees) (x : Callees) (k : ℕ) (y : Callees) → slice_get (rows ++ (x ∷ [])) k ≡ Some y → (slice_get rows k ≡ Some y) ⊎ ((length rows ≡ k) × (x ≡ y))
placed [] x zero y e = inr (refl, same_Some x y e)
placed [] x (suc k) y e = cc
placed (r ∷ rs) x zero y e = inl e
placed (r ∷ rs) x (suc k) y e = elim (placed rs x k y e) [ inl l ↦ inl l | inr p ↦ inr (ap suc p.0, p.1) ]

row_next : (m : Machine) (ts : List Text) (n : ℕ) (row : Callees) (old new : List Callees) → length old ≡ n → new ≡ old ++ (row ∷ []) → IsExactly row.numbers.items (Leads m ts n) → HaveCallees m ts old → HaveCallees m ts new
row_next m ts n row old new count e exact all f r is = elim (placed old row f r (sym (ap (λ l. slice_get l f) e) ∙ is)) [
  | inl o ↦ all f r o
  | inr p ↦ subst (λ (x : Callees). IsExactly x.numbers.items (Leads m ts f)) p.1 (subst (λ k. IsExactly row.numbers.items (Leads m ts k)) (sym count ∙ p.0) exact)
]

pub callees_next : (m : Machine) (ts : List Text) (n : ℕ) (row : Callees) (old new : List Callees) → length old ≡ n → new ≡ old ++ (row ∷ []) → ∥ IsExactly row.numbers.items (Leads m ts n) ∥₁ → ∥ HaveCallees m ts old ∥₁ → ∥ HaveCallees m ts new ∥₁
callees_next m ts n row old new count e exact all = ∥∥₁_map₂ exact all (λ x h. row_next m ts n row old new count e x h)

pub lead_next : (count : ℕ) (row : Callees) (old new : List Callees) → new ≡ old ++ (row ∷ []) → AreBelow count row.numbers.items → LeadBelow count old → LeadBelow count new
lead_next count row old new e below all f g s = elim (placed old row f s.0 (sym (ap (λ l. slice_get l f) e) ∙ s.1)) [
  | inl o ↦ all f g (s.0, o, s.2)
  | inr p ↦ below g (subst (λ (x : Callees). Contains x.numbers.items g) (sym p.1) s.2)
]

-- one more function, and its number
pub number_next : (xs : List ℕ) (i d : ℕ) (f : FnId) (old new : List FnId) → i < length xs → f.number ≡ get_or xs i d → new ≡ old ++ (f ∷ [])
    → map (λ f. f.number) old ≡ take i xs → map (λ f. f.number) new ≡ take (i + 1) xs
number_next xs i d f old new h is e k =
    ap (λ (fs : List FnId). map (λ f. f.number) fs) e
    ∙ map-append (λ (g : FnId). g.number) old (f ∷ [])
    ∙ ap (λ (l : List ℕ). l ++ (f.number ∷ [])) k
    ∙ ap (λ (n : ℕ). take i xs ++ (n ∷ [])) is
    ∙ sym (take_more xs i d h)
