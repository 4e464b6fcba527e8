-- The formals of functions that a program defines are parameters, and so no variables of blocks.
use Rattle.std.proofs.Common.{◌≡◌, ℕ, zero, suc, List, [], ◌∷◌, ◌++◌, map, slice_get, Bool, true, false, cond, Option, None, Some, refl, subst}
use Rattle.std.specs.Option.{option_map}
use Rattle.c_tree.specs.declared.token.Token.{Token}
use Rattle.c_tree.specs.Node.{Node, node, Specifier, Declarator, Part, Outer, DeclaratorShape, Param, Named, Nested, Unnamed, Params, Function, Nodes, no_more, more}
use Rattle.call_graph.specs.OfPrograms.Calls.{body_called}
use Rattle.call_graph.specs.OfPrograms.Definitions.{definitions}
use Rattle.hole_matching.specs.Callouts.{is_local}
use Rattle.path_model.specs.CheckerModel.Happenings as happenings
use Rattle.path_model.specs.CheckerPrograms.Texts as texts
use Rattle.path_model.specs.CheckerPrograms.Texts.{site, type_table}
use Rattle.type_rules.specs.Declarators.{name_of, is_bare}
use Rattle.type_rules.specs.Definition.{after}
use Rattle.type_rules.specs.Functions.{Defined, formal_var, name_in, formal_in, formals_in, first_formals, formals_of, formals_of_shape, defined, defined_in, functions_in}
use Rattle.type_rules.specs.Options.{if_there, ◌>?◌}
use Rattle.type_rules.specs.Parts.{flat}
use Rattle.type_rules.specs.Roles.{Plain}
use Rattle.type_rules.specs.Scopes.{Scopes, at_start}
use Rattle.type_rules.specs.Vars.{CVar}
use Rattle.typed_unit.specs.Texts.{Text}

-- it is no variable of a block, if it is one
abbrev pub IsOther : Option CVar → Type 0
IsOther None = Unit {0}
IsOther (Some x) = is_local x ≡ false

-- none of these is
abbrev pub AreOther : List (Option CVar) → Type 0
AreOther [] = Unit {0}
AreOther (x ∷ xs) = IsOther x × AreOther xs

name-other : (o : Option Token) → IsOther (option_map formal_var o)
name-other None = tt
name-other (Some t) = refl

formal-other : (e : Node) → IsOther (formal_in e)
formal-other (node i p (Specifier (Param specs declarator))) = name-other (name_in declarator)
formal-other e = tt

formals-other : (es : Nodes) → AreOther (formals_in es)
formals-other no_more = tt
formals-other (more e es) = (formal-other e, formals-other es)

first-other : (es : Nodes) → AreOther (first_formals es)
first-other (more (node i p (Part (Params params variadic))) suffixes) = formals-other params
first-other es = tt

either-other : (b : Bool) (xs ys : List (Option CVar)) → AreOther xs → AreOther ys → AreOther (cond b xs ys)
either-other true xs ys h k = h
either-other false xs ys h k = k

mutual
  declarator-other : (d : Node) → AreOther (formals_of d)
  declarator-other (node i p (Declarator k)) = shape-other k
  declarator-other d = tt

  shape-other : (k : DeclaratorShape) → AreOther (formals_of_shape k)
  shape-other (Named pointers name suffixes) = first-other suffixes
  shape-other (Nested pointers inner suffixes) = either-other (is_bare inner) (first_formals suffixes) (formals_of inner) (first-other suffixes) (declarator-other inner)
  shape-other (Unnamed pointers suffixes) = tt

defined-other : (v : Scopes) (e : Node) (f : Defined) → defined_in v e ≡ Some f → AreOther f.formals
defined-other v (node i p (Outer (Function specs declarator block))) f e = by (name_of declarator) e
  where
    by : (o : Option Token) → option_map (defined v specs declarator block) o ≡ Some f → AreOther f.formals
    by None e = cc
    by (Some name) e = let s : defined v specs declarator block name ≡ f = cc in subst (λ (d : Defined). AreOther d.formals) s (declarator-other declarator)
defined-other v n f e = cc

-- no formal of these functions is
abbrev HaveOther : List Defined → Type 0
HaveOther [] = Unit {0}
HaveOther (f ∷ fs) = AreOther f.formals × HaveOther fs

both-have : (fs gs : List Defined) → HaveOther fs → HaveOther gs → HaveOther (fs ++ gs)
both-have [] gs h k = k
both-have (f ∷ fs) gs h k = (h.0, both-have fs gs h.1 k)

one-has : (fs : List Defined) (n : ℕ) (f : Defined) → HaveOther fs → slice_get fs n ≡ Some f → AreOther f.formals
one-has [] n f h e = cc
one-has (g ∷ fs) zero f h e = let s : g ≡ f = cc in subst (λ (d : Defined). AreOther d.formals) s h.0
one-has (g ∷ fs) (suc n) f h e = one-has fs n f h.1 e

more-have : (o : Option Defined) (fs : List Defined) → ((f : Defined) → o ≡ Some f → AreOther f.formals) → HaveOther fs → HaveOther (if_there o fs (λ f. f ∷ fs))
more-have None fs h k = k
more-have (Some f) fs h k = (h f refl, k)

functions-other : (v : Scopes) (es : Nodes) → HaveOther (functions_in v es)
functions-other v no_more = tt
functions-other v (more e es) = more-have (defined_in v e) (functions_in (after v Plain (flat e)) es) (defined-other v e) (functions-other (after v Plain (flat e)) es)

definitions-other : (units : List Nodes) → HaveOther (definitions units)
definitions-other [] = tt
definitions-other (unit ∷ units) = both-have (functions_in at_start unit) (definitions units) (functions-other at_start unit) (definitions-other units)

-- THE FORMALS OF A CALL
pub site-other : (depth : ℕ) (ts : List Text) (f : happenings.Function) (call : Node) → AreOther (site depth ts f call).formals
site-other depth ts f call = by (body_called (type_table ts f.place.file) f.place.file (texts.functions_in ts) call)
  where
    there : (o : Option Defined) (n : ℕ) → slice_get (texts.functions_in ts) n ≡ o → AreOther (if_there o [] (λ d. d.formals))
    there None n e = tt
    there (Some d) n e = one-has (texts.functions_in ts) n d (definitions-other (map (λ (t : Text). t.trees) ts)) e

    by : (o : Option ℕ) → AreOther (if_there (o >? slice_get (texts.functions_in ts)) [] (λ d. d.formals))
    by None = tt
    by (Some n) = there (slice_get (texts.functions_in ts) n) n refl
