-- Each row of specifiers is read, where what follows doesn't go on with it.
use Rattle.std.proofs.Common.{◌≡◌, ℕ, zero, suc, ◌<◌, ◌≤◌, Bool, true, false, cond, not, ◌&&◌, ◌||◌, List, [], ◌∷◌, ◌++◌, length, Option, None, Some, ap, refl, ◌∙◌, arith}
use Rattle.c_tree.specs.declared.keyword.Keyword.{Keyword}
use Rattle.c_tree.specs.declared.keyword.Keyword.TheVariants as words
use Rattle.c_tree.specs.declared.operator.StructOrUnion.TheVariants as which_word
use Rattle.c_tree.specs.declared.punctuator.Punctuator.{Punctuator}
use Rattle.c_tree.specs.Symbol.{Symbol, Word, Reserved, Sign}
use Rattle.c_tree.specs.Syntax.{Syntax, Specifier, Part, StructTag, EnumTag, Specs, SpecWord, Syntaxes, no_more, more}
use Rattle.c_tree.specs.Height.{height_of, height_in}
use Rattle.c_tree.specs.Phrase.{phrase_then}
use Rattle.c_tree.specs.Tokens.{row_phrase, tokens_then}
use Rattle.c_grammar.specs.Symbols.{is_sign, is_word, after_sign, begins}
use Rattle.c_grammar.specs.Names.{Names}
use Rattle.c_grammar.specs.Specifiers.{Place, is_tag_word, is_storage, is_inline, is_qualifier, is_type_word, is_specifier, begins_tag, goes_on, begins_specifiers, types, type_words_of, other_types_of, type_words, other_types, is_one_type, has_one_type, is_among, as_often, occurrences, storages, inlines, are_allowed, may_inline, fit}
use Rattle.c_grammar.specs.Grammar.{IsItem, AreItems, AreSpecifiers, IsTag}
use Rattle.c_grammar.specs.Found.{Found}
use Rattle.c_grammar.specs.Ways.SpecifierSteps.{read_item, read_items, read_specifiers, read_tag}
use Rattle.c_grammar.proofs.Options.{made_low, neither, or_true}
use Rattle.c_grammar.proofs.Front.{after_none, take_symbol_here, take_symbol_none}
use Rattle.c_grammar.proofs.Longer.{count}

-- How a tree begins with a tag word, and that it is read there.
pub record Tagged (tagged : List Symbol → Option Found) (e : Syntax) (r : List Symbol) : Type 0 where
  pub front : Symbol
  pub behind : List Symbol
  pub tokens : tokens_then e r ≡ front ∷ behind
  pub longer : length r ≤ length behind
  pub begins : begins_tag front ≡ true
  pub found : tagged (front ∷ behind) ≡ Some (e, r)

-- The reader of specifiers with tags finds each that is at most n high, where no symbol follows that goes on with it.
abbrev pub KnowsTagged : (Syntax → Type 0) → (Symbol → Bool) → (List Symbol → Option Found) → ℕ → Type 0
KnowsTagged IsTagged goes tagged n = (e : Syntax) (r : List Symbol) → IsTagged e → height_of e ≤ n → begins goes r ≡ false → Tagged tagged e r

-- a symbol that begins a specifier doesn't go on with a tagged one
abbrev pub StopsAtSpecifiers : (Symbol → Bool) → Names → Type 0
StopsAtSpecifiers goes names = (typed : Bool) (t : Symbol) → goes_on names typed t ≡ true → goes t ≡ false

-- The symbol that a specifier begins with goes on with those before it, and the specifier is read there.
pub record Item (tagged : List Symbol → Option Found) (names : Names) (typed : Bool) (e : Syntax) (r : List Symbol) : Type 0 where
  pub front : Symbol
  pub behind : List Symbol
  pub tokens : tokens_then e r ≡ front ∷ behind
  pub goes : goes_on names typed front ≡ true
  pub found : read_item tagged front behind ≡ Some (e, r)

no_tag_word : (k : Keyword) → (is_storage k || is_inline k || is_qualifier k || is_type_word k) ≡ true → is_tag_word k ≡ false
no_tag_word words.Struct h = cc
no_tag_word words.Union h = cc
no_tag_word words.Enum h = cc
no_tag_word _ h = refl

-- a specifier that is one word isn't the beginning of a tag
no_tag : (names : Names) (typed : Bool) (t : Symbol) → is_specifier names typed t ≡ true → begins_tag t ≡ false
no_tag names typed (Word name) h = refl
no_tag names typed (Reserved k) h = no_tag_word k h
no_tag names typed _ h = cc

-- a specifier is read behind the symbol that it begins with
pub item_begins : (IsTagged : Syntax → Type 0) (goes : Symbol → Bool) (tagged : List Symbol → Option Found) (n : ℕ) (names : Names) (typed : Bool) (e : Syntax) (r : List Symbol)
    → KnowsTagged IsTagged goes tagged n → IsItem IsTagged names typed e → height_of e ≤ n → begins goes r ≡ false → Item tagged names typed e r
item_begins IsTagged goes tagged n names typed (Part (SpecWord word)) r k w h s =
    let F : Bool → Bool = λ b. b || begins_tag word in
    let G : Bool → Option Found = λ b. cond b (tagged (word ∷ r)) (Some (Part (SpecWord word), r)) in
    record { front = word; behind = r; tokens = refl; goes = ap F w; found = ap G (no_tag names typed word w) }
item_begins IsTagged goes tagged n names typed (Specifier k2) r k w h s =
    let t = k (Specifier k2) r w h s in
    let F : Bool → Option Found = λ b. cond b (tagged (t.front ∷ t.behind)) (Some (Part (SpecWord t.front), t.behind)) in
    record { front = t.front; behind = t.behind; tokens = t.tokens; goes = or_true (is_specifier names typed t.front) (begins_tag t.front) t.begins; found = ap F t.begins ∙ t.found }
item_begins IsTagged goes tagged n names typed _ r k w h s = absurd w

-- these specifiers have a type, behind others of which `typed` says so
abbrev pub typed_by : Bool → Syntaxes → Bool
typed_by typed no_more = typed
typed_by typed (more e es) = typed_by (typed || types e) es

-- What stands behind a specifier, more of them or what follows them all, doesn't go on with a tagged one.
pub row_stops : (IsTagged : Syntax → Type 0) (goes : Symbol → Bool) (tagged : List Symbol → Option Found) (n : ℕ) (names : Names) (typed : Bool) (es : Syntaxes) (r : List Symbol)
    → KnowsTagged IsTagged goes tagged n → StopsAtSpecifiers goes names → AreItems IsTagged names typed es → height_in es ≤ n → begins goes r ≡ false → begins goes (phrase_then (row_phrase es) r) ≡ false
row_stops IsTagged goes tagged n names typed no_more r k st w h s = s
row_stops IsTagged goes tagged n names typed (more e es) r k st w h s =
    let X = phrase_then (row_phrase es) r in
    let i = item_begins IsTagged goes tagged n names typed e X k w.0 (omega arith) (row_stops IsTagged goes tagged n names (typed || types e) es r k st w.1 (omega arith) s) in
    rw i.tokens (st typed i.front i.goes)

pub items-complete : (IsTagged : Syntax → Type 0) (goes : Symbol → Bool) (tagged : List Symbol → Option Found) (n : ℕ) (names : Names) (f : ℕ) (typed : Bool) (es : Syntaxes) (r : List Symbol)
    → KnowsTagged IsTagged goes tagged n → StopsAtSpecifiers goes names → AreItems IsTagged names typed es → height_in es ≤ n → begins goes r ≡ false
    → begins (goes_on names (typed_by typed es)) r ≡ false → count es ≤ f → read_items tagged names f typed (phrase_then (row_phrase es) r) ≡ Some (es, r)
unfolding read_items
items-complete IsTagged goes tagged n names zero typed no_more r k st w h s g c = rw (take_symbol_none (goes_on names typed) r g) refl
items-complete IsTagged goes tagged n names zero typed (more e es) r k st w h s g c = absurd (omega arith)
items-complete IsTagged goes tagged n names (suc f) typed no_more r k st w h s g c = rw (take_symbol_none (goes_on names typed) r g) refl
items-complete IsTagged goes tagged n names (suc f) typed (more e es) r k st w h s g c =
    let X = phrase_then (row_phrase es) r in
    let i = item_begins IsTagged goes tagged n names typed e X k w.0 (omega arith) (row_stops IsTagged goes tagged n names (typed || types e) es r k st w.1 (omega arith) s) in
    rw (
      i.tokens,
      take_symbol_here (goes_on names typed) i.front i.behind i.goes,
      i.found,
      items-complete IsTagged goes tagged n names f (typed || types e) es r k st w.1 (omega arith) s g (omega arith),
    ) refl

-- a type stays
typed_stays : (es : Syntaxes) → typed_by true es ≡ true
typed_stays no_more = refl
typed_stays (more e es) = typed_stays es

typed_before : (b : Bool) (es : Syntaxes) → typed_by b es ≡ false → b ≡ false
typed_before true es h = let a = typed_stays es in cc
typed_before false es h = refl

no_type : (e : Syntax) → types e ≡ false → (type_words_of e ≡ []) × (other_types_of e ≡ 0)
no_type (Part (SpecWord (Word name))) h = cc
no_type (Part (SpecWord (Reserved k))) h = let F : Bool → List Keyword = λ b. cond b (k ∷ []) [] in (ap F h, refl)
no_type (Specifier k) h = cc
no_type _ h = (refl, refl)

no_types : (typed : Bool) (es : Syntaxes) → typed_by typed es ≡ false → (type_words es ≡ []) × (other_types es ≡ 0)
unfolding type_words other_types
no_types typed no_more h = (refl, refl)
no_types typed (more e es) h =
    let a = no_types (typed || types e) es h in
    let b = neither typed (types e) (typed_before (typed || types e) es h) in
    let t = no_type e b.1 in
    let F : List Keyword → List Keyword = λ x. x ++ type_words es in
    (ap F t.0 ∙ a.0, omega (arith, t.1, a.1))

no_basic : is_one_type [] 0 ≡ false
unfolding is_among as_often occurrences
no_basic = refl

first_of : (a b c : Bool) → (a && b && c) ≡ true → a ≡ true
first_of true b c h = refl
first_of false b c h = cc

-- specifiers that fit have a type
pub fit_typed : (place : Place) (items : Syntaxes) → fit place items ≡ true → typed_by false items ≡ true
fit_typed place items h = by (typed_by false items) refl
  where
    by : (b : Bool) → typed_by false items ≡ b → b ≡ true
    by true e = refl
    by false e =
        let a = no_types false items e in
        let one : has_one_type items ≡ true = first_of (has_one_type items) (are_allowed place (storages items)) (may_inline place || not (inlines items)) h in
        let F : List Keyword → ℕ → Bool = λ ks n. is_one_type ks n in
        let q : has_one_type items ≡ is_one_type [] 0 = ap (λ ks. F ks (other_types items)) a.0 ∙ ap (λ n. F [] n) a.1 in
        let z = no_basic in
        cc

longer_item : (IsTagged : Syntax → Type 0) (goes : Symbol → Bool) (tagged : List Symbol → Option Found) (n : ℕ) (names : Names) (typed : Bool) (e : Syntax) (r : List Symbol)
    → KnowsTagged IsTagged goes tagged n → IsItem IsTagged names typed e → height_of e ≤ n → begins goes r ≡ false → length r < length (tokens_then e r)
longer_item IsTagged goes tagged n names typed (Part (SpecWord word)) r k w h s = omega arith
longer_item IsTagged goes tagged n names typed (Specifier k2) r k w h s = let t = k (Specifier k2) r w h s in rw t.tokens (omega (arith, t.longer))
longer_item IsTagged goes tagged n names typed _ r k w h s = absurd w

longer_items : (IsTagged : Syntax → Type 0) (goes : Symbol → Bool) (tagged : List Symbol → Option Found) (n : ℕ) (names : Names) (typed : Bool) (es : Syntaxes) (r : List Symbol)
    → KnowsTagged IsTagged goes tagged n → StopsAtSpecifiers goes names → AreItems IsTagged names typed es → height_in es ≤ n → begins goes r ≡ false
    → count es ≤ length (phrase_then (row_phrase es) r)
longer_items IsTagged goes tagged n names typed no_more r k st w h s = omega arith
longer_items IsTagged goes tagged n names typed (more e es) r k st w h s =
    let X = phrase_then (row_phrase es) r in
    let a = longer_items IsTagged goes tagged n names (typed || types e) es r k st w.1 (omega arith) s in
    let b = longer_item IsTagged goes tagged n names typed e X k w.0 (omega arith) (row_stops IsTagged goes tagged n names (typed || types e) es r k st w.1 (omega arith) s) in
    omega (arith, a, b)

pub all_specifiers-complete : (IsTagged : Syntax → Type 0) (goes : Symbol → Bool) (tagged : List Symbol → Option Found) (n m : ℕ) (place : Place) (names : Names) (items : Syntaxes) (r : List Symbol)
    → KnowsTagged IsTagged goes tagged n → StopsAtSpecifiers goes names → AreSpecifiers IsTagged place names (Specifier (Specs items)) → height_in items ≤ n → height_of (Specifier (Specs items)) ≤ m
    → begins goes r ≡ false → begins (goes_on names true) r ≡ false → read_specifiers tagged m place names (tokens_then (Specifier (Specs items)) r) ≡ Some (Specifier (Specs items), r)
all_specifiers-complete IsTagged goes tagged n m place names items r k st w h hm s g =
    let F : Bool → Bool = λ b. begins (goes_on names b) r in
    let a = items-complete IsTagged goes tagged n names (length (phrase_then (row_phrase items) r)) false items r k st w.0 h s (ap F (fit_typed place items w.1) ∙ g) (longer_items IsTagged goes tagged n names false items r k st w.0 h s) in
    rw (a, w.1) (made_low m (Specifier (Specs items)) r hm)

pub tag-knows : (n : ℕ) → KnowsTagged IsTag (λ t. false) read_tag n
tag-knows n (Specifier (StructTag which_word.Struct tag)) r w h s = record { front = Reserved words.Struct; behind = tag ∷ r; tokens = refl; longer = omega arith; begins = refl; found = rw (take_symbol_here is_word tag r w) refl }
tag-knows n (Specifier (StructTag which_word.Union tag)) r w h s = record { front = Reserved words.Union; behind = tag ∷ r; tokens = refl; longer = omega arith; begins = refl; found = rw (take_symbol_here is_word tag r w) refl }
tag-knows n (Specifier (EnumTag tag)) r w h s = record { front = Reserved words.Enum; behind = tag ∷ r; tokens = refl; longer = omega arith; begins = refl; found = rw (take_symbol_here is_word tag r w) refl }
tag-knows n _ r w h s = absurd w

none_begins_nothing : (r : List Symbol) → begins (λ t. false) r ≡ false
none_begins_nothing [] = refl
none_begins_nothing (t ∷ r) = refl

pub specifiers-complete : (m : ℕ) (place : Place) (names : Names) (e : Syntax) (r : List Symbol)
    → AreSpecifiers IsTag place names e → height_of e ≤ m → begins (goes_on names true) r ≡ false → read_specifiers read_tag m place names (tokens_then e r) ≡ Some (e, r)
specifiers-complete m place names (Specifier (Specs items)) r w h g =
    all_specifiers-complete IsTag (λ t. false) read_tag m m place names items r (tag-knows m) (λ typed t x. refl) w (omega arith) h (none_begins_nothing r) g
specifiers-complete m place names _ r w h g = absurd w

-- where specifiers stand, they begin
pub specifiers_begin : (place : Place) (names : Names) (e : Syntax) (r : List Symbol) → AreSpecifiers IsTag place names e → begins (begins_specifiers names) (tokens_then e r) ≡ true
specifiers_begin place names (Specifier (Specs no_more)) r w = let a = fit_typed place no_more w.1 in cc
specifiers_begin place names (Specifier (Specs (more e es))) r w =
    let X = phrase_then (row_phrase es) r in
    let i = item_begins IsTag (λ t. false) read_tag (height_of e) names false e X (tag-knows (height_of e)) w.0.0 (omega arith) (none_begins_nothing X) in
    rw i.tokens i.goes
specifiers_begin place names _ r w = absurd w

specifier_no_sign : (p : Punctuator) (names : Names) (typed : Bool) (t : Symbol) → goes_on names typed t ≡ true → is_sign p t ≡ false
specifier_no_sign p names typed (Sign q) h = cc
specifier_no_sign p names typed _ h = refl

-- no specifier begins with a punctuator
pub item_no_sign : (p : Punctuator) (names : Names) (typed : Bool) (e : Syntax) (r : List Symbol) → IsItem IsTag names typed e → after_sign p (tokens_then e r) ≡ None
item_no_sign p names typed e r w =
    let i = item_begins IsTag (λ t. false) read_tag (height_of e) names typed e r (tag-knows (height_of e)) w (omega arith) (none_begins_nothing r) in
    rw i.tokens (after_none (is_sign p) (i.front ∷ i.behind) (specifier_no_sign p names typed i.front i.goes))
