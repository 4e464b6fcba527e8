-- The functions that a unit defines, and where their bodies stand.
use Rattle.std.proofs.Common.{◌≡◌, ℕ, List, ◌∷◌, refl, sym, subst, Option, None, Some, All, [], map}
use Rattle.std.proofs.lemmas.List.Elements.{All-nil, All-cons, All-head, All-tail}
use Rattle.std.specs.Option.{option_map}
use Rattle.c_tree.specs.declared.place.Place.{Place}
use Rattle.c_tree.specs.declared.token.Token.{Token}
use Rattle.c_tree.specs.Node.{Node, node, Primary, Operation, Initializer, Specifier, Declarator, Part, Outer, Statement, Iteration, Jump, Declaration, Function, Empty, Nodes, no_more, more}
use Rattle.type_rules.specs.Declarators.{name_of}
use Rattle.type_rules.specs.Definition.{after}
use Rattle.type_rules.specs.Functions.{Defined, defined, defined_in, functions_in, functions_of}
use Rattle.type_rules.specs.Options.{if_there}
use Rattle.type_rules.specs.Parts.{flat}
use Rattle.type_rules.specs.Roles.{Plain, Defines, Body}
use Rattle.type_rules.specs.Scopes.{Scopes, at_start}
use Rattle.type_rules.specs.Ways.ScopesByCase.{scoped}
use Rattle.type_rules.specs.Specified.{specified_type, storage_of}
use Rattle.type_rules.proofs.BridgeScopes.{scoped-flat}
use Rattle.typed_unit.specs.declared.functions.TypedFunction.{TypedFunction}
use Rattle.typed_unit.specs.Functions.{function_of}
use Rattle.typed_unit.specs.Places.{StandsAt}
use Rattle.typed_unit.specs.UnitPlaces.Functions.{IsDefinedIn, AreDefinedIn}
use Rattle.typed_unit.specs.UnitPlaces.Standing.{EachStands}
use Rattle.typed_unit.proofs.UnitPlaces.ByCase.{by-case}
use Rattle.typed_unit.proofs.UnitPlaces.Steps.{trees-stand}

-- a definition whose declarator has a name
named : (unit : Nodes) (v : Scopes) (i : ℕ) (p : Place) (specs declarator block : Node) (o : Option Token) (f : Defined) → StandsAt unit v Plain (node i p (Outer (Function specs declarator block)))
    → name_of declarator ≡ o → option_map (defined v specs declarator block) o ≡ Some f → IsDefinedIn unit f
named unit v i p specs declarator block None f h n e = cc
named unit v i p specs declarator block (Some name) f h n e =
    let is : defined v specs declarator block name ≡ f = cc in
    subst (λ (g : Defined). IsDefinedIn unit g) is
    (record { scopes = v; number = i; first = p; specs = specs; declarator = declarator; name = name; stands = h; named = n; made = refl })

nothing : (unit : Nodes) (f : Defined) (o : Option Defined) → o ≡ None → o ≡ Some f → IsDefinedIn unit f
nothing unit f None h e = cc
nothing unit f (Some g) h e = cc

is-defined : (unit : Nodes) (v : Scopes) (e : Node) (f : Defined) → StandsAt unit v Plain e → defined_in v e ≡ Some f → IsDefinedIn unit f
is-defined unit v (node i p (Outer (Function specs declarator block))) f h e = named unit v i p specs declarator block (name_of declarator) f h refl e
is-defined unit v (node i p (Outer (Declaration specs declarators))) f h e = nothing unit f None refl e
is-defined unit v (node i p (Outer Empty)) f h e = nothing unit f None refl e
is-defined unit v (node i p (Primary k)) f h e = nothing unit f None refl e
is-defined unit v (node i p (Operation k)) f h e = nothing unit f None refl e
is-defined unit v (node i p (Initializer k)) f h e = nothing unit f None refl e
is-defined unit v (node i p (Specifier k)) f h e = nothing unit f None refl e
is-defined unit v (node i p (Declarator k)) f h e = nothing unit f None refl e
is-defined unit v (node i p (Part k)) f h e = nothing unit f None refl e
is-defined unit v (node i p (Statement k)) f h e = nothing unit f None refl e
is-defined unit v (node i p (Iteration k)) f h e = nothing unit f None refl e
is-defined unit v (node i p (Jump k)) f h e = nothing unit f None refl e

-- one function more, where there is one
one-more : (unit : Nodes) (o : Option Defined) (fs : List Defined) → ((f : Defined) → o ≡ Some f → IsDefinedIn unit f) → All (IsDefinedIn unit) fs → All (IsDefinedIn unit) (if_there o fs (λ f. f ∷ fs))
one-more unit None fs h rest = rest
one-more unit (Some f) fs h rest = All-cons (IsDefinedIn unit) f fs (h f refl) rest

pub all-defined : (unit : Nodes) (v : Scopes) (es : Nodes) → EachStands unit v Plain es → All (IsDefinedIn unit) (functions_in v es)
all-defined unit v no_more h = All-nil (IsDefinedIn unit)
all-defined unit v (more e es) h =
    one-more unit (defined_in v e) (functions_in (after v Plain (flat e)) es) (λ f k. is-defined unit v e f h.0 k)
    (all-defined unit (after v Plain (flat e)) es (subst (λ (w : Scopes). EachStands unit w Plain es) (sym (scoped-flat v Plain e)) h.1))

pub body-stands : (unit : Nodes) (f : Defined) → IsDefinedIn unit f → (v : Scopes) × StandsAt unit v Body f.body
body-stands unit f d =
    let parts = by-case unit d.scopes Plain d.number d.first (Outer (Function d.specs d.declarator f.body)) d.stands in
    (scoped (scoped d.scopes Plain d.specs) (Defines (storage_of d.specs) (specified_type d.scopes d.specs)) d.declarator, parts.2)

each-defined : (unit : Nodes) (fs : List TypedFunction) → All (IsDefinedIn unit) (map function_of fs) → AreDefinedIn unit fs
each-defined unit [] h = All-nil (λ (f : TypedFunction). IsDefinedIn unit (function_of f))
each-defined unit (f ∷ fs) h =
    All-cons (λ (f : TypedFunction). IsDefinedIn unit (function_of f)) f fs (All-head (IsDefinedIn unit) (function_of f) (map function_of fs) h)
    (each-defined unit fs (All-tail (IsDefinedIn unit) (function_of f) (map function_of fs) h))

-- the functions that the program keeps
pub typed-defined : (unit : Nodes) (fs : List TypedFunction) → map function_of fs ≡ functions_of unit → AreDefinedIn unit fs
typed-defined unit fs e = each-defined unit fs (subst (λ (gs : List Defined). All (IsDefinedIn unit) gs) (sym e) (all-defined unit at_start unit (trees-stand unit)))
