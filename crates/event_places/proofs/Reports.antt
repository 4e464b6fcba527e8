-- Each event of a path stands at a token, so each rule with an action that is taken there has its report.
use Rattle.std.proofs.Common.{◌≡◌, ◌⊎◌, ℕ, suc, leb, ◌-◌, List, [], ◌∷◌, Bool, true, false, cond, not, nat_eq, ◌&&◌, ◌||◌, Option, None, Some, inl, inr, refl, sym, ap, subst, ◌∙◌, arith}
use Rattle.std.proofs.lemmas.Bool.{true≢false}
use Rattle.std.specs.Option.{option_map}
use Rattle.c_objects.specs.Objects.{Object}
use Rattle.c_tree.specs.Node.{Node}
use Rattle.c_tree.specs.PathSubjects.Subjects.{Tree, DerefOf, first_of}
use Rattle.c_tree.specs.declared.place.Place.{Place}
use Rattle.c_tree.specs.declared.token.Token.{Token}
use Rattle.c_grammar.specs.CPlaces.Lines.{line_of}
use Rattle.type_rules.specs.Definition.{Table}
use Rattle.type_rules.specs.Functions.{Defined}
use Rattle.type_rules.specs.Options.{if_there, or_else, ◌>?◌}
use Rattle.flow_graph.specs.CPaths.EventPlaces.{event_place}
use Rattle.flow_graph.specs.CPaths.Events.{Event, Evaluated, Declared, Branched, Exited, Item, Variable}
use Rattle.flow_graph.specs.CPaths.Facts.{Facts}
use Rattle.flow_graph.specs.CPaths.Membership.{Among}
use Rattle.flow_graph.specs.CPaths.Traces.{Definition}
use Rattle.flow_graph.specs.CPaths.Occurrences.{InFlow}
use Rattle.flow_graph.specs.CPaths.TreeFlow.{flow_of}
use Rattle.call_graph.specs.FunctionGraphs.Closing.{opens, closes, closing, closing_brace}
use Rattle.call_graph.specs.FunctionGraphs.Variables.{variable_of as declared_variable}
use Rattle.hole_matching.specs.Holes.{Setting}
use Rattle.hole_matching.specs.Matching.{Binding}
use Rattle.metal_tree.specs.MetalMachines.Machine.{stop, Rule, Machine, Piece}
use Rattle.path_theory.specs.Marks.{EventMark}
use Rattle.path_theory.specs.Callers.{Callers}
use Rattle.path_theory.specs.Paths.{Path, after, ReportOf, ReportOfGlobal}
use Rattle.path_theory.specs.Supergraph.{Supergraph}
use Rattle.path_model.specs.CheckerModel.Checkers.{model, source_at}
use Rattle.path_model.specs.CheckerModel.Choices.{State, Taken, first_some, applied, by_alternative, target_at, variable_of, leads_to_global, from_global, from_object, always, binds, is_exit, is_asked, is_global_asked, global_rule, unknown_rule, known_rule, object_rule, scene, taken, taken_global}
use Rattle.path_model.specs.CheckerModel.Happenings.{Function, Happening}
use Rattle.path_model.specs.CheckerModel.Reports.{Checker, token_at, report_at, report_of}
use Rattle.path_model.specs.CheckerPrograms.Paths.{program}
use Rattle.path_model.specs.CheckerPrograms.Texts.{functions_in, definition_of, empty, with_close, flow_facts, tokens_of, type_table}
use Rattle.typed_unit.specs.Texts.{Text}
use Rattle.typed_unit.specs.TokenSearch.Numbers.{from}
use Rattle.event_places.specs.Standing.{StandInFiles, HaveTheirTables}
use Rattle.event_places.specs.Theorems.{IsReportedThere, is_declaration}
use Rattle.event_places.proofs.EachNode.{own, of-node}
use Rattle.event_places.proofs.Functions.{function-stands}
use Rattle.event_places.proofs.Items.{of-flow}
use Rattle.event_places.proofs.Lines.{Places, places-down, first-at, tree-at}
use Rattle.event_places.proofs.Tokens.{HaveTokenAt, further, found}
use Rattle.event_places.proofs.Trees.{Stood, flow-all}
use Rattle.event_places.proofs.Variables.{text-variables}
use Rattle.event_places.proofs.Walks.{IsDefined, IsInText, path-event, defined-frames}

-- the brace that closes stands among the tokens
closing-among : (n : ℕ) (ts : List Token) (p : Place) → closing n ts ≡ Some p → HaveTokenAt ts p
closing-among n [] p e = cc
closing-among n (t ∷ ts) p e = by (λ m k. further t ts p (closing-among m ts p k)) (opens t.kind) (closes t.kind) (leb n 1) e
  where
    by : ((m : ℕ) → closing m ts ≡ Some p → HaveTokenAt (t ∷ ts) p) → (a b d : Bool)
        → cond a (closing (suc n) ts) (cond b (cond d (Some t.place) (closing (n - 1) ts)) (closing n ts)) ≡ Some p → HaveTokenAt (t ∷ ts) p
    by later true b d k = later (suc n) k
    by later false true true k = let s : t.place ≡ p = cc in record { token = t; among = inl refl; place = s }
    by later false true false k = later (n - 1) k
    by later false false d k = later n k

-- tokens from a number on are some of all
from-among : (n : ℕ) (ts : List Token) (u : Token) → Among u (from n ts) → Among u ts
from-among n [] u h = h
from-among n (t ∷ ts) u h = by (from-among n ts u) (leb n t.place.token) h
  where
    by : (Among u (from n ts) → Among u ts) → (b : Bool) → Among u (cond b (t ∷ from n ts) (from n ts)) → Among u (t ∷ ts)
    by later true (inl s) = inl s
    by later true (inr k) = inr (later k)
    by later false k = inr (later k)

close-among : (ts : List Token) (first : Place) → HaveTokenAt ts first → HaveTokenAt ts (closing_brace ts first)
close-among ts first h = by (closing 0 (from first.token ts)) refl
  where
    by : (o : Option Place) → closing 0 (from first.token ts) ≡ o → HaveTokenAt ts (if_there o first (λ p. p))
    by None e = h
    by (Some p) e = let x = closing-among 0 (from first.token ts) p e in record { token = x.token; among = from-among first.token ts x.token x.among; place = x.place }

-- the nodes of a tree have places at which tokens stand
abbrev AtTokens : List Token → Node → Type 0
AtTokens tokens n = Places (HaveTokenAt tokens) (line_of n)

-- so has an item; a declared variable does where this event is a declaration
abbrev StoodAt : List Token → Event → Item → Type 0
StoodAt tokens e = Stood (AtTokens tokens) (λ x. is_declaration e ≡ true → HaveTokenAt tokens x.place)

stood-at : (tokens : List Token) (e : Event) → StoodAt tokens e (EventMark e) → HaveTokenAt tokens (event_place e)
stood-at tokens (Evaluated (Tree n)) h = tree-at (HaveTokenAt tokens) n (own (AtTokens tokens) n h)
stood-at tokens (Evaluated (DerefOf x)) h = first-at (HaveTokenAt tokens) x (own (AtTokens tokens) x h)
stood-at tokens (Declared x) h = h refl
stood-at tokens (Branched n t) h = tree-at (HaveTokenAt tokens) n (own (AtTokens tokens) n h)
stood-at tokens (Exited function place) h = subst (HaveTokenAt tokens) h.1 (first-at (HaveTokenAt tokens) h.0 h.2)

pub same-event : (a b : Event) → ◌≡◌ {A = Item} (EventMark a) (EventMark b) → a ≡ b
same-event a b e = cc

-- AT A DECLARATION no rule is taken
first-none : {A B : Type 0} (f : A → Option B) → ((x : A) → f x ≡ None) → (xs : List A) → first_some f xs ≡ None
first-none f g [] = refl
first-none f g (x ∷ xs) = ap (λ o. or_else o (first_some f xs)) (g x) ∙ first-none f g xs

cond-none : {A : Type 0} (b : Bool) (o : Option A) → o ≡ None → cond b o None ≡ None
cond-none true o e = e
cond-none false o e = refl

bind-none : {A B : Type 0} (o : Option A) (f : A → Option B) → ((x : A) → f x ≡ None) → (o >? f) ≡ None
bind-none None f g = refl
bind-none (Some x) f g = g x

not-some : {A : Type 0} (b : Bool) (o : Option A) (x : A) → o ≡ None → cond b None o ≡ Some x → ⊥
not-some true o x e k = cc
not-some false o x e k = let s : ◌≡◌ {A = Option _} None (Some x) = sym e ∙ k in cc

none-by : (g : Setting) (e : Event) (r : Rule) (fits : Binding → Bool) → is_declaration e ≡ true → by_alternative g e r fits ≡ None
none-by g (Evaluated s) r fits d = cc
none-by g (Branched n t) r fits d = cc
none-by g (Exited function place) r fits d = cc
none-by g (Declared x) r fits d = first-none (λ items. applied g (Declared x) r.dest items >? λ b. cond (fits b) (Some (record { rule = r; binding = b })) None) (λ items. refl) r.alternatives

none-global : (g : Setting) (e : Event) (state : ℕ) (rs : List Rule) → is_declaration e ≡ true → first_some (global_rule g e state) rs ≡ None
none-global g e state rs d = first-none (global_rule g e state) (λ r. cond-none (from_global state r.source && leads_to_global (target_at e r.dest)) (by_alternative g e r always) (none-by g e r always d)) rs

none-object : (g : Setting) (e : Event) (state : ℕ) (o : Object) (x : Option State) (rs : List Rule) → is_declaration e ≡ true → first_some (object_rule g e state o x) rs ≡ None
none-object g e state o None rs d =
    first-none (unknown_rule g e state o)
    (λ r. cond-none (from_global state r.source) (variable_of (target_at e r.dest) >? λ v. by_alternative g e r (binds g v o)) (bind-none (variable_of (target_at e r.dest)) (λ v. by_alternative g e r (binds g v o)) (λ v. none-by g e r (binds g v o) d))) rs
none-object g e state o (Some x) rs d =
    first-none (known_rule g e x o)
    (λ r. cond-none (from_object x r.source) (by_alternative g e r (λ b. is_exit e || binds g x.0 o b)) (none-by g e r (λ b. is_exit e || binds g x.0 o b) d)) rs

no-declaration : (e : Event) → (is_declaration e ≡ true → ⊥) → is_declaration e ≡ false
no-declaration (Evaluated s) h = refl
no-declaration (Declared x) h = absurd (h refl)
no-declaration (Branched n t) h = refl
no-declaration (Exited function place) h = refl

pub taken-elsewhere : (m : Machine) (depth : ℕ) (h : Happening) (f : Function) (k : Bool) (state : ℕ) (o : Object) (x : Option State) (t : Taken) → taken m depth h f k state o x ≡ Some t → is_declaration h.event ≡ false
taken-elsewhere m depth h f k state o x t e =
    no-declaration h.event
    (λ d. not-some (nat_eq state stop || not (is_asked h.event k o)) (first_some (object_rule (scene m depth h f) h.event state o x) m.rules) t (none-object (scene m depth h f) h.event state o x m.rules d) e)

pub global-elsewhere : (m : Machine) (depth : ℕ) (h : Happening) (f : Function) (k : Bool) (state : ℕ) (t : Taken) → taken_global m depth h f k state ≡ Some t → is_declaration h.event ≡ false
global-elsewhere m depth h f k state t e =
    no-declaration h.event
    (λ d. not-some (nat_eq state stop || not (is_global_asked h.event k)) (first_some (global_rule (scene m depth h f) h.event state) m.rules) t (none-global (scene m depth h f) h.event state m.rules d) e)

-- a rule with an action has a report at a token
pub has-report : (c : Checker) (h : Happening) (f : Function) (o : Option Object) (t : Taken) (pieces : List Piece) (token : Token) → t.rule.action ≡ Some pieces → token_at (event_place h.event) h.tokens ≡ Some token
    → report_of c h f o t ≡ Some (report_at c h f o t token pieces)
has-report c h f o t pieces token a k =
    ap (λ (x : Option (List Piece)). x >? λ ps. option_map (λ u. report_at c h f o t u ps) (token_at (event_place h.event) h.tokens)) a
    ∙ ap (option_map (λ u. report_at c h f o t u pieces)) k

module _ (c : Checker) (ts : List Text) (stand : StandInFiles ts) where
  abbrev K : Supergraph (model c)
  K = program c ts

  -- an event in the text of a definition, over the tokens of its file
  in-definition : (F : Facts) (d : Defined) (tokens : List Token) (e : Event) → Places (HaveTokenAt tokens) (line_of d.body)
      → (is_declaration e ≡ true → (n : Node) (x : Variable) → F.variable_of n ≡ Some x → HaveTokenAt tokens x.place)
      → InFlow (EventMark e) (flow_of F d.place d.body) ⊎ (◌≡◌ {A = Item} (EventMark e) (EventMark (Exited d.place (closing_brace tokens (first_of d.body))))) → HaveTokenAt tokens (event_place e)
  in-definition F d tokens e places variables (inl i) =
      stood-at tokens e (of-flow (StoodAt tokens e) (EventMark e) (flow_of F d.place d.body)
      (flow-all (AtTokens tokens) (λ x. is_declaration e ≡ true → HaveTokenAt tokens x.place) F (λ n x k declares. variables declares n x k) d.place d.body
      (of-node (Places (HaveTokenAt tokens)) (places-down (HaveTokenAt tokens)) d.body places)) i)
  in-definition F d tokens e places variables (inr i) =
      subst (λ (x : Event). HaveTokenAt tokens (event_place x)) (sym (same-event e (Exited d.place (closing_brace tokens (first_of d.body))) i))
      (close-among tokens (first_of d.body) (first-at (HaveTokenAt tokens) d.body places))

  of-function : (f : Function) → IsDefined (functions_in ts) f → (h : Happening) → IsInText c ts f h → (is_declaration h.event ≡ true → HaveTheirTables ts) → HaveTokenAt h.tokens (event_place h.event)
  of-function f w h x tables =
      let k = function-stands ts stand w.number w.defined w.numbered in
      let own : f.place.file ≡ k.position = let a = k.is_of.place_is in let b : w.defined.place.file ≡ f.place.file = ap (λ (g : Function). g.place.file) w.same in omega (arith, a, b) in
      let file : w.defined.file ≡ k.position = let a = k.is_of.file_is in omega (arith, a) in
      let at : (i : ℕ) → i ≡ k.position → tokens_of ts i ≡ k.text.tokens = λ i e. ap (tokens_of ts) e ∙ ap (λ (o : Option Text). if_there o [] (λ t. t.tokens)) k.here in
      let table : type_table ts f.place.file ≡ k.text.table = ap (type_table ts) own ∙ ap (λ (o : Option Text). if_there o [] (λ t. t.table)) k.here in
      let variables : is_declaration x.event ≡ true → (n : Node) (y : Variable) → declared_variable (type_table ts f.place.file) n ≡ Some y → HaveTokenAt k.text.tokens y.place =
      λ declares n y e. text-variables k.position k.text (stand k.position k.text k.here)
      (tables (ap (λ (z : Happening). is_declaration z.event) x.is ∙ declares) k.position k.text k.here) n y
      (ap (λ (u : Table). declared_variable u n) (sym table) ∙ e) in
      let is : definition_of ts f ≡ record { place = w.defined.place; body = w.defined.body; close = closing_brace k.text.tokens (first_of w.defined.body) } =
      ap (λ (o : Option Defined). if_there o (empty f.place) (with_close ts)) w.first ∙ ap (λ (us : List Token). record { place = w.defined.place; body = w.defined.body; close = closing_brace us (first_of w.defined.body) }) (at w.defined.file file) in
      let there : HaveTokenAt k.text.tokens (event_place x.event) =
      in-definition (flow_facts ts f) w.defined k.text.tokens x.event k.is_of.body variables
      (subst (λ (D : Definition). InFlow (EventMark x.event) (flow_of (flow_facts ts f) D.place D.body) ⊎ (◌≡◌ {A = Item} (EventMark x.event) (EventMark (Exited D.place D.close)))) is x.stands) in
      subst (λ (y : Happening). HaveTokenAt y.tokens (event_place y.event)) (sym x.is) (subst (λ (us : List Token). HaveTokenAt us (event_place x.event)) (sym (at f.place.file own)) there)

  module _ {f : Function} {k : Bool} {p q : K.Place} {b : Callers (model c) (program c ts)} (P : Path (model c) (program c ts) f k p b) (h : Happening) (goes : K.Goes f p h q) where
    -- THE EVENT STANDS AT A TOKEN
    pub event-token : (is_declaration h.event ≡ true → HaveTheirTables ts) → (token : Token) × (token_at (event_place h.event) h.tokens ≡ Some token)
    event-token tables =
        let t = of-function f (defined-frames c ts P).0 h (path-event c ts P h goes) tables in
        found (event_place h.event) h.tokens t.token t.among t.place

    -- where the event is no declaration, nothing is asked of tables
    pub elsewhere : is_declaration h.event ≡ false → (token : Token) × (token_at (event_place h.event) h.tokens ≡ Some token)
    elsewhere n = event-token (λ y. absurd (true≢false (sym y ∙ n)))

    -- A RULE OF AN OBJECT that is taken there is reported, if it has an action
    pub object-reported : (o : Object) (t : Taken) (pieces : List Piece)
        → taken c.machine c.depth h f k (after (model c) (program c ts) P).global o (source_at c.depth h o >? (after (model c) (program c ts) P).here) ≡ Some t → t.rule.action ≡ Some pieces
        → IsReportedThere c ts f h (Some o) t pieces
    object-reported o t pieces e a =
        let now = after (model c) (program c ts) P in
        let w = elsewhere (taken-elsewhere c.machine c.depth h f k now.global o (source_at c.depth h o >? now.here) t e) in
        record { token = w.0; there = w.1; reported = ReportOf P h goes o (ap (λ (x : Option Taken). x >? report_of c h f (Some o)) e ∙ has-report c h f (Some o) t pieces w.0 a w.1) }

    -- and so is that of the global state
    pub global-reported : (t : Taken) (pieces : List Piece)
        → taken_global c.machine c.depth h f k (after (model c) (program c ts) P).global ≡ Some t → t.rule.action ≡ Some pieces
        → IsReportedThere c ts f h None t pieces
    global-reported t pieces e a =
        let now = after (model c) (program c ts) P in
        let w = elsewhere (global-elsewhere c.machine c.depth h f k now.global t e) in
        record { token = w.0; there = w.1; reported = ReportOfGlobal P h goes (ap (λ (x : Option Taken). x >? report_of c h f None) e ∙ has-report c h f None t pieces w.0 a w.1) }
