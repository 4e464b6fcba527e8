-- How a unit is gone over: one external definition more.
use Rattle.std.proofs.Common.{◌≡◌, ℕ, ◌+◌, ◌<◌, ◌≤◌, List, [], ◌∷◌, ◌++◌, length, drop, get_or, Option, None, Some, Result, Ok, Err, ap, refl, ◌∙◌, subst, sym, append_assoc}
use Rattle.std.specs.Result.{IsErrAnd}
use Rattle.std.proofs.lemmas.List.{append-nil, drop_all}
use Rattle.c_tree.proofs.Rows.{nodes_drop}
use Rattle.c_tree.specs.declared.token.Token.{Token}
use Rattle.c_tree.specs.declared.tree.Tree.{Tree}
use Rattle.c_tree.specs.Node.{Node, Nodes, no_more, more}
use Rattle.c_tree.specs.Views.{node_of, nodes_in}
use Rattle.type_rules.specs.Definition.{Table, first_fault}
use Rattle.type_rules.specs.Faults.{Fault}
use Rattle.type_rules.specs.Functions.{Defined, defined_each, defined_in}
use Rattle.type_rules.specs.Options.{if_there, ◌>>=◌}
use Rattle.type_rules.specs.Roles.{Plain}
use Rattle.type_rules.specs.Scopes.{Scopes, at_start}
use Rattle.type_rules.specs.Ways.ScopesByCase.{scoped, scoped_each}
use Rattle.type_rules.specs.Ways.TablesByCase.{filled, filled_each}
use Rattle.type_rules.specs.Theorems.{NumbersDiffer, UnitsByCase}
use Rattle.type_rules.specs.Types.{CType}
use Rattle.type_rules.specs.Ways.TypesByCase.{typed, typed_each}
use Rattle.type_rules.specs.Unit.{IsTyping, places_of}
use Rattle.type_values.specs.declared.types.Ty.{Ty}
use Rattle.typed_unit.specs.Places.{StandOver}
use Rattle.unit_typing.specs.declared.faults.TypeFault.{TypeFault}
use Rattle.unit_typing.specs.Faults.{Gives, fault_of}

-- the functions so far, with the one that is defined here
pub one-more : (fs gs : List Defined) (d : Option Defined) (rest : List Defined) → gs ≡ fs ++ if_there d [] (λ f. f ∷ []) → gs ++ rest ≡ fs ++ if_there d rest (λ f. f ∷ rest)
one-more fs gs None rest h = ap (λ (xs : List Defined). xs ++ rest) h ∙ append_assoc fs [] rest
one-more fs gs (Some f) rest h = ap (λ (xs : List Defined). xs ++ rest) h ∙ append_assoc fs (f ∷ []) rest

pub then-fine : (a : Result CType Fault) (t : CType) (k : Result CType Fault) → a ≡ Ok t → (a >>= λ _. k) ≡ k
then-fine (Ok u) t k h = refl
then-fine (Err e) t k h = cc

pub then-faulty : (a : Result CType Fault) (f : Fault) (k : Result CType Fault) → a ≡ Err f → (a >>= λ _. k) ≡ Err f
then-faulty (Ok u) f k h = cc
then-faulty (Err e) f k h = h

-- What is left from here on makes of what is known here what all makes of what was known before.
pub record GoesOn (v : Scopes) (unit : Nodes) (table : Table) (fs : List Defined) (w : Scopes) (left : Nodes) (here : Table) (gs : List Defined) : Type 0 where
  pub gives : typed_each w Plain left ≡ typed_each v Plain unit
  pub scopes : scoped_each w Plain left ≡ scoped_each v Plain unit
  pub cells : filled_each w Plain left here ≡ filled_each v Plain unit table
  pub functions : gs ++ defined_each w left ≡ fs ++ defined_each v unit

pub begins : (v : Scopes) (unit left : Nodes) (table : Table) (fs : List Defined) → unit ≡ left → GoesOn v unit table fs v left table fs
begins v unit left table fs h = record {
  gives = sym (ap (typed_each v Plain) h);
  scopes = sym (ap (scoped_each v Plain) h);
  cells = sym (ap (λ (es : Nodes). filled_each v Plain es table) h);
  functions = sym (ap (λ (es : Nodes). fs ++ defined_each v es) h);
}

goes-on : (v : Scopes) (unit : Nodes) (table : Table) (fs : List Defined) (w : Scopes) (e : Node) (es : Nodes) (here : Table) (gs : List Defined) (t : CType) (x : Scopes) (next : Table) (hs : List Defined)
    → GoesOn v unit table fs w (more e es) here gs → typed w Plain e ≡ Ok t → x ≡ scoped w Plain e → next ≡ filled w Plain e here → hs ≡ gs ++ if_there (defined_in w e) [] (λ f. f ∷ [])
    → GoesOn v unit table fs x es next hs
goes-on v unit table fs w e es here gs t x next hs g a b c d = record {
  gives = ap (λ (y : Scopes). typed_each y Plain es) b ∙ sym (then-fine (typed w Plain e) t (typed_each (scoped w Plain e) Plain es) a) ∙ g.gives;
  scopes = ap (λ (y : Scopes). scoped_each y Plain es) b ∙ g.scopes;
  cells = ap (λ (y : Scopes). filled_each y Plain es next) b ∙ ap (filled_each (scoped w Plain e) Plain es) c ∙ g.cells;
  functions = ap (λ (y : Scopes). hs ++ defined_each y es) b ∙ one-more gs hs (defined_in w e) (defined_each (scoped w Plain e) es) d ∙ g.functions;
}

pub one-further : (v : Scopes) (unit : Nodes) (table : Table) (fs : List Defined) (w : Scopes) (all : List Tree) (i : ℕ) (tree : Tree) (here : Table) (gs : List Defined) (t : CType) (x : Scopes) (next : Table) (hs : List Defined)
    → i < length all → GoesOn v unit table fs w (nodes_in (drop i all)) here gs → typed w Plain (node_of (get_or all i tree)) ≡ Ok t → x ≡ scoped w Plain (node_of (get_or all i tree))
    → next ≡ filled w Plain (node_of (get_or all i tree)) here → hs ≡ gs ++ if_there (defined_in w (node_of (get_or all i tree))) [] (λ f. f ∷ [])
    → GoesOn v unit table fs x (nodes_in (drop (i + 1) all)) next hs
one-further v unit table fs w all i tree here gs t x next hs k g a b c d =
    goes-on v unit table fs w (node_of (get_or all i tree)) (nodes_in (drop (i + 1) all)) here gs t x next hs
    (subst (λ (es : Nodes). GoesOn v unit table fs w es here gs) (nodes_drop all i tree k) g) a b c d

-- the fault of one is that of all
pub fails-there : (v : Scopes) (unit : Nodes) (table : Table) (fs : List Defined) (w : Scopes) (all : List Tree) (i : ℕ) (tree : Tree) (here : Table) (gs : List Defined) (f : Fault)
    → i < length all → GoesOn v unit table fs w (nodes_in (drop i all)) here gs → typed w Plain (node_of (get_or all i tree)) ≡ Err f → typed_each v Plain unit ≡ Err f
fails-there v unit table fs w all i tree here gs f k g a =
    sym g.gives ∙ ap (typed_each w Plain) (nodes_drop all i tree k)
    ∙ then-faulty (typed w Plain (node_of (get_or all i tree))) f (typed_each (scoped w Plain (node_of (get_or all i tree))) Plain (nodes_in (drop (i + 1) all))) a

-- nothing is left
pub ends : (v : Scopes) (unit : Nodes) (table : Table) (fs : List Defined) (w : Scopes) (all : List Tree) (i : ℕ) (here : Table) (gs : List Defined)
    → length all ≤ i → GoesOn v unit table fs w (nodes_in (drop i all)) here gs → GoesOn v unit table fs w no_more here gs
ends v unit table fs w all i here gs k g = subst (λ (es : Nodes). GoesOn v unit table fs w es here gs) (ap nodes_in (drop_all i all k)) g

pub still-faulty : (r : Result Ty TypeFault) (e : TypeFault) (found all : Result CType Fault) → IsErrAnd r (λ x. x ≡ e) → Gives (Err e) found → ((f : Fault) → found ≡ Err f → all ≡ Err f) → Gives r all
still-faulty (Ok t) e found all h g k = absurd h
still-faulty (Err x) e found all h g k = λ f l. k f (g f (ap fault_of (sym h) ∙ l))

-- a unit without a fault
pub unit-typed : (unit : Nodes) (tokens : List Token) (table : Table) (t : CType) → UnitsByCase → NumbersDiffer → StandOver unit tokens → typed_each at_start Plain unit ≡ Ok t → table ≡ filled_each at_start Plain unit [] → IsTyping unit table
unit-typed unit tokens table t by apart s g k = subst (λ (x : Table). IsTyping unit x) (sym k) (by unit (Ok t) g (apart unit 0 s.0 tokens [] s.1))

pub all-defined : (v : Scopes) (unit : Nodes) (table : Table) (fs : List Defined) (w : Scopes) (here : Table) (gs : List Defined) → GoesOn v unit table fs w no_more here gs → gs ≡ fs ++ defined_each v unit
all-defined v unit table fs w here gs g = sym (append-nil gs) ∙ g.functions

pub unit-fine : (unit : Nodes) (tokens : List Token) (t : CType) → UnitsByCase → NumbersDiffer → StandOver unit tokens → typed_each at_start Plain unit ≡ Ok t → first_fault (places_of unit) ≡ None
unit-fine unit tokens t by apart s g = (unit-typed unit tokens (filled_each at_start Plain unit []) t by apart s g refl).no_fault
