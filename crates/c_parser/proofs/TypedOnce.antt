-- Specifiers that are read one after the other, none of them a structure, union or enumeration behind a type.
use Rattle.std.proofs.Common.{◌≡◌, ℕ, zero, suc, ◌+◌, ◌-◌, ◌<◌, Bool, true, false, cond, ◌&&◌, ◌||◌, not, List, [], ◌∷◌, ◌++◌, length, Option, None, Some, ◌⊎◌, inl, inr, ap, refl, ◌∙◌, sym, subst, arith}
use Rattle.c_tree.specs.declared.keyword.Keyword.{Keyword}
use Rattle.c_tree.specs.declared.tree.Tree.{Tree}
use Rattle.c_tree.specs.Symbol.{Symbol, Word, Reserved}
use Rattle.c_tree.specs.Syntax.{Syntax, SpecifierSyntax, Specifier, Part, Specs, SpecWord, Syntaxes, no_more, more}
use Rattle.c_tree.specs.Forget.{view}
use Rattle.c_grammar.specs.Symbols.{take_symbol}
use Rattle.c_grammar.specs.Names.{Names}
use Rattle.c_grammar.specs.Specifiers.{Place, begins_tag, goes_on, types, type_words, other_types, storages, inlines, is_one_type, has_one_type, are_allowed, may_inline, fit}
use Rattle.c_grammar.specs.Found.{◌>>=◌, if_there, Found, made}
use Rattle.c_grammar.specs.Ways.SpecifierSteps.{read_item, read_items}
use Rattle.c_grammar.proofs.Options.{both, parts}
use Rattle.c_grammar.specs.UnitGrammar.Construct.{SpecifiersIn, TaggedType}
use Rattle.c_grammar.specs.UnitGrammar.Grammar.{IsTaggedTree}
use Rattle.c_grammar.specs.UnitGrammar.Names.{declared}
use Rattle.c_grammar.specs.UnitGrammar.Reading.{read}
use Rattle.c_grammar.proofs.UnitGrammar.Sound.{read-sound}
use Rattle.c_expr.specs.Gives.{ending_with}
use Rattle.c_expr.proofs.Items.{before-none, height_in-push, count_in-push, ending-longer, list_out}
use Rattle.c_parser.specs.Ways.TypedOnce.{read_typed_once, specs_made}
use Rattle.c_parser.proofs.Equations.{read-zero, read-some}

abbrev Items : Type 0
Items = Option (Syntaxes × List Symbol)

less : (n : ℕ) → suc n - 1 ≡ n
less n = omega arith

pub once-zero : (tagged : List Symbol → Option Found) (names : Names) (typed : Bool) (ts : List Symbol) → read_typed_once tagged names 0 typed ts ≡ if_there (take_symbol (goes_on names typed) ts) (Some (no_more, ts)) (λ _. None)
unfolding read_typed_once
once-zero tagged names typed ts = refl

pub once-some : (tagged : List Symbol → Option Found) (names : Names) (f : ℕ) (typed : Bool) (ts : List Symbol) → 0 < f → read_typed_once tagged names f typed ts
    ≡ if_there (take_symbol (goes_on names typed) ts) (Some (no_more, ts))
    (λ t. cond (typed && begins_tag t.0) None (read_item tagged t.0 t.1 >>= λ e. read_typed_once tagged names (f - 1) (typed || types e.0) e.1 >>= λ es. Some (more e.0 es.0, es.1)))
unfolding read_typed_once
once-some tagged names zero typed ts h = absurd (omega arith)
once-some tagged names (suc f) typed ts h = rw (less f) refl

pub once-end : (tagged : List Symbol → Option Found) (names : Names) (f : ℕ) (typed : Bool) (ts : List Symbol) → take_symbol (goes_on names typed) ts ≡ None → read_typed_once tagged names f typed ts ≡ Some (no_more, ts)
unfolding read_typed_once
once-end tagged names zero typed ts h = rw h refl
once-end tagged names (suc f) typed ts h = rw h refl

-- Behind a type the names make no difference.
same-goes : (names a : Names) (typed : Bool) (t : Symbol) → (typed ≡ false → a ≡ names) → goes_on names typed t ≡ goes_on a typed t
same-goes names a false t k = ap (λ x. goes_on x false t) (sym (k refl))
same-goes names a true (Word name) k = refl
same-goes names a true (Reserved word) k = refl
same-goes names a true _ k = refl

pub same-front : (names a : Names) (typed : Bool) (ts : List Symbol) → (typed ≡ false → a ≡ names) → take_symbol (goes_on names typed) ts ≡ take_symbol (goes_on a typed) ts
same-front names a typed [] k = refl
same-front names a typed (t ∷ ts) k = let F : Bool → Option (Symbol × List Symbol) = λ b. cond b (Some (t, ts)) None in ap F (same-goes names a typed t k)

pub same-item : (tagged : Names → List Symbol → Option Found) (names a : Names) (typed : Bool) (t : Symbol) (r : List Symbol) → (typed ≡ false → a ≡ names) → (typed && begins_tag t) ≡ false → read_item (tagged names) t r ≡ read_item (tagged a) t r
same-item tagged names a false t r k b = ap (λ x. read_item (tagged x) t r) (sym (k refl))
same-item tagged names a true t r k b =
    let F : Option Found → Bool → Option Found = λ o b. cond b o (Some (Part (SpecWord t), r)) in
    ap (F (tagged names (t ∷ r))) b ∙ sym (ap (F (tagged a (t ∷ r))) b)

-- one more joins those before
pub once-next : (tagged : Names → List Symbol → Option Found) (names a : Names) (f : ℕ) (typed adds : Bool) (ts : List Symbol) (t : Symbol) (r rest : List Symbol) (all pushed : List Tree) (tree : Tree) (whole : Items)
    → 0 < f → (typed ≡ false → a ≡ names) → take_symbol (goes_on a typed) ts ≡ Some (t, r) → (typed && begins_tag t) ≡ false → read_item (tagged a) t r ≡ Some (view tree, rest) → adds ≡ types (view tree) → pushed ≡ all ++ (tree ∷ [])
    → ending_with all (read_typed_once (tagged names) names f typed ts) ≡ whole
    → ending_with pushed (read_typed_once (tagged names) names (f - 1) (typed || adds) rest) ≡ whole
once-next tagged names a f typed adds ts t r rest all pushed tree whole p k h b i d n w =
    ap (λ x. ending_with pushed (read_typed_once (tagged names) names (f - 1) (typed || x) rest)) d
    ∙ ap (λ x. ending_with x (read_typed_once (tagged names) names (f - 1) (typed || types (view tree)) rest)) n
    ∙ sym (rw (once-some (tagged names) names f typed ts p, same-front names a typed ts k ∙ h, b, same-item tagged names a typed t r k b ∙ i) (ending-longer (read_typed_once (tagged names) names (f - 1) (typed || types (view tree)) rest) all tree))
    ∙ w

-- What the reader of specifiers with tags finds is a type.
abbrev pub FindsTypes : (List Symbol → Option Found) → Type 0
FindsTypes tagged = (ts : List Symbol) (e : Syntax) (r : List Symbol) → tagged ts ≡ Some (e, r) → (k : SpecifierSyntax) × (e ≡ Specifier k)

tagged-specifier : (names : Names) (e : Syntax) → IsTaggedTree names e → (k : SpecifierSyntax) × (e ≡ Specifier k)
tagged-specifier names (Specifier k) w = (k, refl)
tagged-specifier names _ w = absurd w

pub tagged-types : (n : ℕ) (names : Names) → FindsTypes (read n TaggedType names)
tagged-types n names ts e r h = tagged-specifier names e (read-sound n TaggedType names ts e r h).well

type_found : (e : Syntax) → (k : SpecifierSyntax) × (e ≡ Specifier k) → types e ≡ true
type_found e x = ap types x.1

-- A specifier that is no type declares nothing.
word-keeps : (tagged : List Symbol → Option Found) (t : Symbol) (r : List Symbol) (e : Syntax) (rest : List Symbol) (names : Names) (c : Bool) → FindsTypes tagged → begins_tag t ≡ c → read_item tagged t r ≡ Some (e, rest) → types e ≡ false → declared e names ≡ names
word-keeps tagged t r e rest names true k b h n =
    let F : Bool → Option Found = λ c. cond c (tagged (t ∷ r)) (Some (Part (SpecWord t), r)) in
    let y = type_found e (k (t ∷ r) e rest (sym (ap F b) ∙ h)) in
    absurd cc
word-keeps tagged t r e rest names false k b h n =
    let F : Bool → Option Found = λ c. cond c (tagged (t ∷ r)) (Some (Part (SpecWord t), r)) in
    ap (λ y. declared y names) (sym ((parts (Part (SpecWord t), r) (e, rest) (sym (ap F b) ∙ h)).0))

neither-left : (a b : Bool) → (a || b) ≡ false → a ≡ false
neither-left true b h = cc
neither-left false b h = refl

neither-right : (a b : Bool) → (a || b) ≡ false → b ≡ false
neither-right true b h = cc
neither-right false b h = h

-- As long as there is no type, the names are as before.
pub plain-next : (n : ℕ) (typed adds : Bool) (names a b : Names) (t : Symbol) (r : List Symbol) (e : Syntax) (rest : List Symbol)
    → (typed ≡ false → a ≡ names) → read_item (read n TaggedType a) t r ≡ Some (e, rest) → adds ≡ types e → b ≡ declared e a → (typed || adds) ≡ false → b ≡ names
plain-next n typed adds names a b t r e rest k h d x f =
    x ∙ word-keeps (read n TaggedType a) t r e rest a (begins_tag t) (tagged-types n a) refl h (sym d ∙ neither-right typed adds f) ∙ k (neither-left typed adds f)

-- What is found where `found` is nothing has too many types, behind others of which `typed` says whether they have one.
abbrev ExceedsBy : Bool → Syntaxes → Type 0
ExceedsBy true es = 0 < other_types es
ExceedsBy false es = has_one_type es ≡ false

abbrev Exceeds : Bool → Items → Type 0
Exceeds typed None = Unit {0}
Exceeds typed (Some es) = ExceedsBy typed es.0

abbrev Cuts : Bool → Items → Items → Type 0
Cuts typed found all = (found ≡ all) ⊎ ((found ≡ None) × Exceeds typed all)

two_others : (ks : List Keyword) (n : ℕ) → 1 < n → is_one_type ks n ≡ false
two_others ks zero h = absurd (omega arith)
two_others ks (suc zero) h = absurd (omega arith)
two_others [] (suc (suc n)) h = refl
two_others (k ∷ ks) (suc (suc n)) h = refl

word_and_other : (k : Keyword) (ks : List Keyword) (n : ℕ) → 0 < n → is_one_type (k ∷ ks) n ≡ false
word_and_other k ks zero h = absurd (omega arith)
word_and_other k ks (suc zero) h = refl
word_and_other k ks (suc (suc n)) h = refl

-- a type and another that is no word
two_types : (e : Syntax) (es : Syntaxes) → types e ≡ true → 0 < other_types es → has_one_type (more e es) ≡ false
unfolding type_words other_types
two_types (Part (SpecWord (Word name))) es h o = two_others (type_words es) (1 + other_types es) (omega (arith, o))
two_types (Part (SpecWord (Reserved k))) es h o =
    let F : Bool → Bool = λ b. is_one_type (cond b (k ∷ []) [] ++ type_words es) (0 + other_types es) in
    ap F h ∙ word_and_other k (type_words es) (0 + other_types es) (omega (arith, o))
two_types (Specifier k) es h o = two_others (type_words es) (1 + other_types es) (omega (arith, o))
two_types _ es h o = cc

no_type : (e : Syntax) (es : Syntaxes) → types e ≡ false → has_one_type (more e es) ≡ has_one_type es
unfolding type_words other_types
no_type (Part (SpecWord (Word name))) es h = cc
no_type (Part (SpecWord (Reserved k))) es h =
    let F : Bool → Bool = λ b. is_one_type (cond b (k ∷ []) [] ++ type_words es) (0 + other_types es) in
    let z : 0 + other_types es ≡ other_types es = omega arith in
    ap F h ∙ ap (is_one_type (type_words es)) z
no_type (Specifier k) es h = cc
no_type (Part (SpecWord _)) es h = let z : 0 + other_types es ≡ other_types es = omega arith in ap (is_one_type (type_words es)) z
no_type _ es h = let z : 0 + other_types es ≡ other_types es = omega arith in ap (is_one_type (type_words es)) z

exceeds-more : (typed adds : Bool) (e : Syntax) (es : Syntaxes) → adds ≡ types e → ExceedsBy (typed || adds) es → ExceedsBy typed (more e es)
unfolding other_types
exceeds-more true adds e es d x = omega (arith, x)
exceeds-more false true e es d x = two_types e es (sym d) x
exceeds-more false false e es d x = no_type e es (sym d) ∙ x

exceeds-tag : (typed : Bool) (e : Syntax) (es : Syntaxes) → typed ≡ true → (k : SpecifierSyntax) × (e ≡ Specifier k) → ExceedsBy typed (more e es)
unfolding other_types
exceeds-tag false e es h x = absurd cc
exceeds-tag true e es h x = subst (λ y. 0 < other_types (more y es)) (sym x.1) (omega arith)

abbrev behind : Syntax → Items → Items
behind e o = o >>= λ es. Some (more e es.0, es.1)

cuts-behind : (typed : Bool) (e : Syntax) (found all : Items) → Cuts (typed || types e) found all → Cuts typed (behind e found) (behind e all)
cuts-behind typed e found all (inl h) = inl (ap (behind e) h)
cuts-behind typed e found None (inr h) = inl (ap (behind e) h.0)
cuts-behind typed e found (Some es) (inr h) = inr (ap (behind e) h.0, exceeds-more typed (types e) e es.0 refl h.1)

cuts-item : (typed : Bool) (found all : Bool → List Symbol → Items) → ((typed : Bool) (ts : List Symbol) → Cuts typed (found typed ts) (all typed ts)) → (o : Option Found)
    → Cuts typed (o >>= λ e. behind e.0 (found (typed || types e.0) e.1)) (o >>= λ e. behind e.0 (all (typed || types e.0) e.1))
cuts-item typed found all rest None = inl refl
cuts-item typed found all rest (Some e) = cuts-behind typed e.0 (found (typed || types e.0) e.1) (all (typed || types e.0) e.1) (rest (typed || types e.0) e.1)

cuts-tag : (typed : Bool) (e : Syntax) (all : Items) → typed ≡ true → (k : SpecifierSyntax) × (e ≡ Specifier k) → Cuts typed None (behind e all)
cuts-tag typed e None h x = inl refl
cuts-tag typed e (Some es) h x = inr (refl, exceeds-tag typed e es.0 h x)

cuts-tagged : (typed : Bool) (all : Bool → List Symbol → Items) (o : Option Found) → typed ≡ true → ((e : Syntax) (r : List Symbol) → o ≡ Some (e, r) → (k : SpecifierSyntax) × (e ≡ Specifier k))
    → Cuts typed None (o >>= λ e. behind e.0 (all (typed || types e.0) e.1))
cuts-tagged typed all None h k = inl refl
cuts-tagged typed all (Some (e, r)) h k = cuts-tag typed e (all (typed || types e) r) h (k e r refl)

cuts-front : (tagged : List Symbol → Option Found) (typed : Bool) (t : Symbol) (r : List Symbol) (found all : Bool → List Symbol → Items) (c : Bool)
    → FindsTypes tagged → ((typed : Bool) (ts : List Symbol) → Cuts typed (found typed ts) (all typed ts)) → (typed && begins_tag t) ≡ c
    → Cuts typed (cond c None (read_item tagged t r >>= λ e. behind e.0 (found (typed || types e.0) e.1))) (read_item tagged t r >>= λ e. behind e.0 (all (typed || types e.0) e.1))
cuts-front tagged typed t r found all false k rest b = cuts-item typed found all rest (read_item tagged t r)
cuts-front tagged typed t r found all true k rest b =
    let h = both typed (begins_tag t) b in
    let F : Bool → Option Found = λ c. cond c (tagged (t ∷ r)) (Some (Part (SpecWord t), r)) in
    let q : read_item tagged t r ≡ tagged (t ∷ r) = ap F h.1 in
    subst (λ o. Cuts typed None (o >>= λ e. behind e.0 (all (typed || types e.0) e.1))) (sym q) (cuts-tagged typed all (tagged (t ∷ r)) h.0 (k (t ∷ r)))

cuts-step : (tagged : List Symbol → Option Found) (typed : Bool) (ts : List Symbol) (found all : Bool → List Symbol → Items) (o : Option (Symbol × List Symbol))
    → FindsTypes tagged → ((typed : Bool) (ts : List Symbol) → Cuts typed (found typed ts) (all typed ts))
    → Cuts typed
    (if_there o (Some (no_more, ts)) (λ t. cond (typed && begins_tag t.0) None (read_item tagged t.0 t.1 >>= λ e. behind e.0 (found (typed || types e.0) e.1))))
    (if_there o (Some (no_more, ts)) (λ t. read_item tagged t.0 t.1 >>= λ e. behind e.0 (all (typed || types e.0) e.1)))
cuts-step tagged typed ts found all None k rest = inl refl
cuts-step tagged typed ts found all (Some t) k rest = cuts-front tagged typed t.0 t.1 found all (typed && begins_tag t.0) k rest refl

cuts : (tagged : List Symbol → Option Found) (names : Names) (f : ℕ) (typed : Bool) (ts : List Symbol) → FindsTypes tagged → Cuts typed (read_typed_once tagged names f typed ts) (read_items tagged names f typed ts)
unfolding read_items read_typed_once
cuts tagged names zero typed ts k = inl refl
cuts tagged names (suc f) typed ts k = cuts-step tagged typed ts (read_typed_once tagged names f) (read_items tagged names f) (take_symbol (goes_on names typed) ts) k (λ typed ts. cuts tagged names f typed ts k)

first_false : (a b c : Bool) → a ≡ false → (a && b && c) ≡ false
first_false true b c h = cc
first_false false b c h = refl

no_fit : (place : Place) (items : Syntaxes) → has_one_type items ≡ false → fit place items ≡ false
no_fit place items h = first_false (has_one_type items) (are_allowed place (storages items)) (may_inline place || not (inlines items)) h

cut-made : (m : ℕ) (place : Place) (found all : Items) → Cuts false found all → (all >>= specs_made m place) ≡ (found >>= specs_made m place)
cut-made m place found all (inl h) = ap (λ o. o >>= specs_made m place) (sym h)
cut-made m place found None (inr h) = ap (λ o. o >>= specs_made m place) (sym h.0)
cut-made m place found (Some es) (inr h) =
    let F : Bool → Option Found = λ b. cond b (made m (Specifier (Specs es.0)) es.1) None in
    ap F (no_fit place es.0 h.1) ∙ ap (λ o. o >>= specs_made m place) (sym h.0)

-- The specifiers of one place are read so.
pub specifiers-once : (m : ℕ) (place : Place) (names : Names) (ts : List Symbol) → 0 < m → read m (SpecifiersIn place) names ts ≡ (read_typed_once (read (m - 1) TaggedType names) names (length ts) false ts >>= specs_made m place)
specifiers-once m place names ts h =
    let tagged = read (m - 1) TaggedType names in
    read-some m (SpecifiersIn place) names ts h
    ∙ cut-made m place (read_typed_once tagged names (length ts) false ts) (read_items tagged names (length ts) false ts) (cuts tagged names (length ts) false ts (tagged-types (m - 1) names))

pub specifiers-none : (m : ℕ) (place : Place) (names : Names) (ts : List Symbol) → 0 < m → read_typed_once (read (m - 1) TaggedType names) names (length ts) false ts ≡ None → read m (SpecifiersIn place) names ts ≡ None
specifiers-none m place names ts p h = specifiers-once m place names ts p ∙ ap (λ o. o >>= specs_made m place) h

pub ruleset items = (once-zero, once-some, once-end, before-none, height_in-push, count_in-push)

pub ruleset specifiers = (read-zero, specifiers-once, specifiers-none, list_out)
