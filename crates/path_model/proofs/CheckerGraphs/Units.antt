-- What the texts of units say is what the units keep.
use Rattle.std.proofs.Common.{◌≡◌, ℕ, zero, suc, List, [], ◌∷◌, ◌++◌, map, Option, None, Some, slice_get, Bor, refl, ◌∙◌, sym, ap, subst}
use Rattle.std.proofs.lemmas.Option.{slice_get-map}
use Rattle.std.specs.Prelude.{⊤}
use Rattle.std.specs.Option.{option_map}
use Rattle.c_objects.specs.Facts as objects
use Rattle.flow_graph.specs.CPaths.Events.{Event}
use Rattle.c_tree.specs.declared.token.Token.{Token}
use Rattle.c_tree.specs.Node.{Node, node, Primary, Operation, Initializer, Specifier, Declarator, Part, Outer, Statement, Iteration, Jump, Declaration, Function, Empty, Nodes, no_more, more}
use Rattle.type_rules.specs.Declarators.{name_of}
use Rattle.type_rules.specs.Definition.{Table, after}
use Rattle.type_rules.specs.Functions.{Defined, defined, defined_in, functions_in as functions_under, functions_of}
use Rattle.type_rules.specs.Options.{if_there, ◌>?◌}
use Rattle.type_rules.specs.Parts.{flat}
use Rattle.type_rules.specs.Roles.{Plain}
use Rattle.type_rules.specs.Scopes.{Scopes, at_start}
use Rattle.path_model.specs.CheckerGraphs.Graphs.{AreApartPlaces}
use Rattle.path_model.proofs.CheckerGraphs.Rising.{apart-places}
use Rattle.path_model.specs.CheckerModel.Happenings as happenings
use Rattle.path_model.specs.CheckerPrograms.Texts.{functions_in, function_of, tokens_of, objects_in, with_close, flow_facts, happening, callee_of, type_table}
use Rattle.typed_unit.specs.Texts.{Text, text_of, texts_of}
use Rattle.call_graph.specs.FunctionGraphs.Bodies.{tokens_in, definition_in}
use Rattle.call_graph.specs.FunctionGraphs.Closing.{closing_brace}
use Rattle.call_graph.specs.FunctionGraphs.Known.{facts_of, facts_in}
use Rattle.objects.specs.Units as units_objects
use Rattle.c_tree.specs.PathSubjects.Subjects.{first_of}
use Rattle.call_graph.specs.OfPrograms.Calls.{body_called, table_in}
use Rattle.call_graph.specs.OfPrograms.Definitions.{AreNumbered, definitions, trees_in}
use Rattle.typed_unit.specs.declared.typed_unit.TypedUnit.{TypedUnit}

pub text-at : (units : List (Bor TypedUnit)) (file : ℕ) → slice_get (texts_of units) file ≡ option_map (λ (u : Bor TypedUnit). text_of u.now) (slice_get units file)
text-at units file = slice_get-map (λ (u : Bor TypedUnit). text_of u.now) units file

pub table-is : (units : List (Bor TypedUnit)) (file : ℕ) → type_table (texts_of units) file ≡ table_in units file
table-is units file = ap (λ o. if_there o [] (λ (t : Text). t.table)) (text-at units file) ∙ by (slice_get units file)
  where
    by : (o : Option (Bor TypedUnit)) → if_there (option_map (λ (u : Bor TypedUnit). text_of u.now) o) [] (λ (t : Text). t.table) ≡ if_there o [] (λ u. (text_of u.now).table)
    by None = refl
    by (Some u) = refl

pub tokens-are : (units : List (Bor TypedUnit)) (file : ℕ) → tokens_of (texts_of units) file ≡ tokens_in units file
tokens-are units file = ap (λ o. if_there o [] (λ (t : Text). t.tokens)) (text-at units file) ∙ by (slice_get units file)
  where
    by : (o : Option (Bor TypedUnit)) → if_there (option_map (λ (u : Bor TypedUnit). text_of u.now) o) [] (λ (t : Text). t.tokens) ≡ if_there o [] (λ u. u.now.unit.tokens.now)
    by None = refl
    by (Some u) = refl

-- what is known of the objects of a unit
pub objects-are : (units : List (Bor TypedUnit)) (file : ℕ) (u : Bor TypedUnit) → slice_get units file ≡ Some u → objects_in (texts_of units) file ≡ units_objects.facts_in u.now
objects-are units file u e =
    ap (λ o. objects.facts_of (if_there o no_more (λ (t : Text). t.trees)) (if_there o [] (λ (t : Text). t.table))) (text-at units file ∙ ap (option_map (λ (u : Bor TypedUnit). text_of u.now)) e)

trees-are : (units : List (Bor TypedUnit)) → map (λ (t : Text). t.trees) (texts_of units) ≡ trees_in units
trees-are [] = refl
trees-are (u ∷ us) = ap (λ (xs : List Nodes). (text_of u.now).trees ∷ xs) (trees-are us)

pub functions-are : (units : List (Bor TypedUnit)) → functions_in (texts_of units) ≡ definitions (trees_in units)
functions-are units = ap definitions (trees-are units)

-- a function's file is that of its name
function-filed : (v : Scopes) (e : Node) (f : Defined) → defined_in v e ≡ Some f → f.place.file ≡ f.file
function-filed v (node i p (Outer (Function specs declarator block))) f e = by (name_of declarator) e
  where
    by : (o : Option Token) → option_map (defined v specs declarator block) o ≡ Some f → f.place.file ≡ f.file
    by None e = cc
    by (Some name) e =
        let s : defined v specs declarator block name ≡ f = cc in
        subst (λ (g : Defined). g.place.file ≡ g.file) s refl
function-filed v (node i p (Outer (Declaration specs declarators))) f e = cc
function-filed v (node i p (Outer Empty)) f e = cc
function-filed v (node i p (Primary k)) f e = cc
function-filed v (node i p (Operation k)) f e = cc
function-filed v (node i p (Initializer k)) f e = cc
function-filed v (node i p (Specifier k)) f e = cc
function-filed v (node i p (Declarator k)) f e = cc
function-filed v (node i p (Part k)) f e = cc
function-filed v (node i p (Statement k)) f e = cc
function-filed v (node i p (Iteration k)) f e = cc
function-filed v (node i p (Jump k)) f e = cc

abbrev AreFiled : List Defined → Type 0
AreFiled [] = ⊤
AreFiled (f ∷ fs) = (f.place.file ≡ f.file) × AreFiled fs

functions-filed : (v : Scopes) (es : Nodes) → AreFiled (functions_under v es)
functions-filed v no_more = tt
functions-filed v (more e es) = by (defined_in v e) refl (functions-filed (after v Plain (flat e)) es)
  where
    by : (o : Option Defined) → defined_in v e ≡ o → AreFiled (functions_under (after v Plain (flat e)) es)
        → AreFiled (if_there o (functions_under (after v Plain (flat e)) es) (λ f. f ∷ functions_under (after v Plain (flat e)) es))
    by None n a = a
    by (Some f) n a = (function-filed v e f n, a)

both-filed : (fs gs : List Defined) → AreFiled fs → AreFiled gs → AreFiled (fs ++ gs)
both-filed [] gs h g = g
both-filed (f ∷ fs) gs h g = (h.0, both-filed fs gs h.1 g)

all-filed : (units : List Nodes) → AreFiled (definitions units)
all-filed [] = tt
all-filed (u ∷ us) = both-filed (functions_of u) (definitions us) (functions-filed at_start u) (all-filed us)

filed-at : (fs : List Defined) (n : ℕ) (f : Defined) → AreFiled fs → slice_get fs n ≡ Some f → f.place.file ≡ f.file
filed-at [] n f h e = cc
filed-at (g ∷ fs) zero f h e = let s : g ≡ f = cc in subst (λ (x : Defined). x.place.file ≡ x.file) s h.0
filed-at (g ∷ fs) (suc n) f h e = filed-at fs n f h.1 e

pub place-filed : (units : List Nodes) (n : ℕ) (d : Defined) → slice_get (definitions units) n ≡ Some d → d.place.file ≡ d.file
place-filed units n d e = filed-at (definitions units) n d (all-filed units) e

-- what is known of a function of the units, and its definition
pub facts-are : (units : List (Bor TypedUnit)) (n : ℕ) (d : Defined) → slice_get (definitions (trees_in units)) n ≡ Some d → flow_facts (texts_of units) (function_of d) ≡ facts_in units d.file
facts-are units n d e =
    ap (λ (i : ℕ). facts_of (type_table (texts_of units) i) i (functions_in (texts_of units))) (place-filed (trees_in units) n d e)
    ∙ ap (λ (t : Table). facts_of t d.file (functions_in (texts_of units))) (table-is units d.file)
    ∙ ap (λ (fs : List Defined). facts_of (table_in units d.file) d.file fs) (functions-are units)

pub definition-is : (units : List (Bor TypedUnit)) (d : Defined) → with_close (texts_of units) d ≡ definition_in units d
definition-is units d = ap (λ (ts : List Token). record { place = d.place; body = d.body; close = closing_brace ts (first_of d.body) }) (tokens-are units d.file)

-- what happens in a function of a unit, as a checker is told of it
pub happening-is : (units : List (Bor TypedUnit)) (u : Bor TypedUnit) (f : happenings.Function) (e : Event) → slice_get units f.place.file ≡ Some u
    → happening (texts_of units) f e ≡ record { facts = units_objects.facts_in u.now; tokens = u.now.unit.tokens.now; event = e }
happening-is units u f e h =
    ap (λ (x : objects.Facts). record { facts = x; tokens = tokens_of (texts_of units) f.place.file; event = e }) (objects-are units f.place.file u h)
    ∙ ap (λ (ts : List Token). record { facts = units_objects.facts_in u.now; tokens = ts; event = e }) (tokens-are units f.place.file ∙ ap (λ o. if_there o [] (λ (u : Bor TypedUnit). u.now.unit.tokens.now)) h)

-- the function that a call calls, by the units
pub callee-is : (units : List (Bor TypedUnit)) (file : ℕ) (call : Node) → callee_of (texts_of units) file call ≡ (body_called (table_in units file) file (definitions (trees_in units)) call >? slice_get (definitions (trees_in units)))
callee-is units file call =
    ap (λ (t : Table). body_called t file (functions_in (texts_of units)) call >? slice_get (functions_in (texts_of units))) (table-is units file)
    ∙ ap (λ (fs : List Defined). body_called (table_in units file) file fs call >? slice_get fs) (functions-are units)

-- no two functions of numbered units stand at one place
pub apart-texts : (units : List (Bor TypedUnit)) → AreNumbered units → AreApartPlaces (functions_in (texts_of units))
apart-texts units h = subst AreApartPlaces (sym (functions-are units)) (apart-places units h)
