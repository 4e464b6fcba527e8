-- The texts of a program's units say what the units do.
use Rattle.std.proofs.Common.{◌≡◌, ℕ, zero, suc, List, [], ◌∷◌, ◌++◌, map, Option, None, Some, slice_get, Bor, refl, ap, ◌∙◌, subst}
use Rattle.std.specs.Prelude.{⊤}
use Rattle.std.specs.Option.{option_map}
use Rattle.c_tree.specs.declared.token.Token.{Token}
use Rattle.c_tree.specs.Node.{Node, node, Primary, Operation, Initializer, Specifier, Declarator, Part, Outer, Statement, Iteration, Jump, Declaration, Function, Empty, Nodes, no_more, more}
use Rattle.c_tree.specs.Views.{nodes_of}
use Rattle.type_rules.specs.Declarators.{name_of}
use Rattle.type_rules.specs.Definition.{after}
use Rattle.type_rules.specs.Functions as typing
use Rattle.type_rules.specs.Functions.{Defined, defined, defined_in, functions_of}
use Rattle.type_rules.specs.Options.{if_there}
use Rattle.type_rules.specs.Parts.{flat}
use Rattle.type_rules.specs.Roles.{Plain}
use Rattle.type_rules.specs.Scopes.{Scopes, at_start}
use Rattle.flow_graph.specs.CPaths.Facts.{Facts}
use Rattle.path_model.specs.CheckerPrograms.Texts.{functions_in, flow_facts, function_of, type_table}
use Rattle.typed_unit.specs.Texts.{texts_of}
use Rattle.call_graph.specs.FunctionGraphs.Known.{facts_of, facts_in}
use Rattle.call_graph.specs.OfPrograms.Calls.{table_in}
use Rattle.call_graph.specs.OfPrograms.Definitions.{definitions, trees_in}
use Rattle.typed_unit.specs.declared.typed_unit.TypedUnit.{TypedUnit}

same_trees : (units : List (Bor TypedUnit)) → map (λ t. t.trees) (texts_of units) ≡ trees_in units
same_trees [] = refl
same_trees (u ∷ us) = ap (λ (ns : List Nodes). nodes_of u.now.unit.chunks ∷ ns) (same_trees us)

pub same_functions : (units : List (Bor TypedUnit)) → functions_in (texts_of units) ≡ definitions (trees_in units)
same_functions units = ap definitions (same_trees units)

pub same_table : (units : List (Bor TypedUnit)) (file : ℕ) → type_table (texts_of units) file ≡ table_in units file
same_table [] file = refl
same_table (u ∷ us) zero = refl
same_table (u ∷ us) (suc file) = same_table us file

-- a function is named in its own file
abbrev ArePlaced : List Defined → Type 0
ArePlaced [] = ⊤
ArePlaced (d ∷ ds) = (d.place.file ≡ d.file) × ArePlaced ds

placed-in : (v : Scopes) (e : Node) (f : Defined) → defined_in v e ≡ Some f → f.place.file ≡ f.file
placed-in v (node i p (Outer (Function specs declarator block))) f e = by (name_of declarator) e
  where
    by : (o : Option Token) → option_map (defined v specs declarator block) o ≡ Some f → f.place.file ≡ f.file
    by None e = cc
    by (Some name) e = let s : defined v specs declarator block name ≡ f = cc in subst (λ (g : Defined). g.place.file ≡ g.file) s refl
placed-in v (node i p (Outer (Declaration specs declarators))) f e = cc
placed-in v (node i p (Outer Empty)) f e = cc
placed-in v (node i p (Primary k)) f e = cc
placed-in v (node i p (Operation k)) f e = cc
placed-in v (node i p (Initializer k)) f e = cc
placed-in v (node i p (Specifier k)) f e = cc
placed-in v (node i p (Declarator k)) f e = cc
placed-in v (node i p (Part k)) f e = cc
placed-in v (node i p (Statement k)) f e = cc
placed-in v (node i p (Iteration k)) f e = cc
placed-in v (node i p (Jump k)) f e = cc

placed-all : (v : Scopes) (es : Nodes) → ArePlaced (typing.functions_in v es)
placed-all v no_more = tt
placed-all v (more e es) = by (defined_in v e) refl (placed-all (after v Plain (flat e)) es)
  where
    by : (o : Option Defined) → defined_in v e ≡ o → ArePlaced (typing.functions_in (after v Plain (flat e)) es)
        → ArePlaced (if_there o (typing.functions_in (after v Plain (flat e)) es) (λ f. f ∷ typing.functions_in (after v Plain (flat e)) es))
    by None n a = a
    by (Some f) n a = (placed-in v e f n, a)

placed-both : (ds es : List Defined) → ArePlaced ds → ArePlaced es → ArePlaced (ds ++ es)
placed-both [] es p q = q
placed-both (d ∷ ds) es p q = (p.0, placed-both ds es p.1 q)

placed-units : (units : List Nodes) → ArePlaced (definitions units)
placed-units [] = tt
placed-units (unit ∷ units) = placed-both (functions_of unit) (definitions units) (placed-all at_start unit) (placed-units units)

placed-at : (ds : List Defined) (k : ℕ) (d : Defined) → ArePlaced ds → slice_get ds k ≡ Some d → d.place.file ≡ d.file
placed-at [] k d p e = cc
placed-at (x ∷ xs) zero d p e = let s : x ≡ d = cc in subst (λ (g : Defined). g.place.file ≡ g.file) s p.0
placed-at (x ∷ xs) (suc k) d p e = placed-at xs k d p.1 e

pub named_in_file : (units : List Nodes) (k : ℕ) (d : Defined) → slice_get (definitions units) k ≡ Some d → d.place.file ≡ d.file
named_in_file units k d e = placed-at (definitions units) k d (placed-units units) e

pub same_facts : (units : List (Bor TypedUnit)) (k : ℕ) (d : Defined) → slice_get (definitions (trees_in units)) k ≡ Some d → flow_facts (texts_of units) (function_of d) ≡ facts_in units d.file
same_facts units k d e =
    ap (λ file. flow_facts_at file) (named_in_file (trees_in units) k d e)
    ∙ ap (λ table. facts_of table d.file (functions_in (texts_of units))) (same_table units d.file)
    ∙ ap (λ fs. facts_of (table_in units d.file) d.file fs) (same_functions units)
  where
    flow_facts_at : ℕ → Facts
    flow_facts_at file = facts_of (type_table (texts_of units) file) file (functions_in (texts_of units))
