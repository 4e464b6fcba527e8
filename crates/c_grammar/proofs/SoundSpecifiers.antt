-- What is read as specifiers are specifiers.
use Rattle.std.proofs.Common.{◌≡◌, ℕ, zero, suc, ◌≤◌, Bool, true, false, ◌||◌, List, ◌∷◌, length, Option, Some, inl, inr, ap, ◌∙◌, subst}
use Rattle.c_tree.specs.declared.keyword.Keyword.TheVariants as words
use Rattle.c_tree.specs.declared.operator.StructOrUnion.{StructOrUnion}
use Rattle.c_tree.specs.declared.operator.StructOrUnion.TheVariants as which_word
use Rattle.c_tree.specs.Symbol.{Symbol, Reserved}
use Rattle.c_tree.specs.Syntax.{Syntax, Specifier, Part, StructTag, EnumTag, Specs, SpecWord, Syntaxes, no_more, more}
use Rattle.c_tree.specs.Height.{height_of}
use Rattle.c_tree.specs.Phrase.{phrase_then}
use Rattle.c_tree.specs.Tokens.{word_of, row_phrase, tokens_then}
use Rattle.c_grammar.specs.Symbols.{after_keyword, is_word, take_symbol}
use Rattle.c_grammar.specs.Names.{Names}
use Rattle.c_grammar.specs.Specifiers.{Place, is_specifier, begins_tag, goes_on, types, fit}
use Rattle.c_grammar.specs.Nonterminal.{Specifiers}
use Rattle.c_grammar.specs.Grammar.{IsItem, AreItems, AreSpecifiers, IsTag}
use Rattle.c_grammar.specs.Found.{Found, made}
use Rattle.c_grammar.specs.Ways.SpecifierSteps.{read_item, read_items, read_specifiers, read_struct_tag, read_enum_tag, read_tag}
use Rattle.c_grammar.proofs.Options.{bound, chosen, when, which, parts, either, made_some}
use Rattle.c_grammar.proofs.Front.{take_symbol_some, taken_keyword}
use Rattle.c_grammar.proofs.Readers.{Stands}

-- what the reader of specifiers with tags finds is one
abbrev pub FindsTagged : (Syntax → Type 0) → (List Symbol → Option Found) → Type 0
FindsTagged IsTagged tagged = (names : Names) (typed : Bool) (ts : List Symbol) (e : Syntax) (r : List Symbol)
    → tagged ts ≡ Some (e, r) → (ts ≡ tokens_then e r) × IsItem IsTagged names typed e

no_tag : (names : Names) (typed : Bool) (t : Symbol) → goes_on names typed t ≡ true → begins_tag t ≡ false → is_specifier names typed t ≡ true
no_tag names typed t g b = elim (either (is_specifier names typed t) (begins_tag t) g) as (λ _. is_specifier names typed t ≡ true) [
  | inl a ↦ a
  | inr a ↦ let c = a.1 in cc
]

item-sound : (IsTagged : Syntax → Type 0) (tagged : List Symbol → Option Found) (names : Names) (typed : Bool) (t : Symbol) (ts : List Symbol) (e : Syntax) (r : List Symbol)
    → FindsTagged IsTagged tagged → goes_on names typed t ≡ true → read_item tagged t ts ≡ Some (e, r) → (t ∷ ts ≡ tokens_then e r) × IsItem IsTagged names typed e
item-sound IsTagged tagged names typed t ts e r s g h =
    elim (which (begins_tag t) _ _ _ h) as (λ _. (t ∷ ts ≡ tokens_then e r) × IsItem IsTagged names typed e) [
      | inl o ↦ s names typed (t ∷ ts) e r o.1
      | inr o ↦
          let p = parts (Part (SpecWord t), ts) (e, r) o.1 in
          let w : IsItem IsTagged names typed (Part (SpecWord t)) = no_tag names typed t g o.0 in
          (ap (λ x. tokens_then (Part (SpecWord t)) x) p.1 ∙ ap (λ x. tokens_then x r) p.0, subst (IsItem IsTagged names typed) p.0 w)
    ]

pub record Items (IsTagged : Syntax → Type 0) (names : Names) (typed : Bool) (ts : List Symbol) (es : Syntaxes) (r : List Symbol) : Type 0 where
  pub tokens : ts ≡ phrase_then (row_phrase es) r
  pub well : AreItems IsTagged names typed es

no_items : (IsTagged : Syntax → Type 0) (names : Names) (typed : Bool) (ts : List Symbol) (es : Syntaxes) (r : List Symbol) → ◌≡◌ {A = Option (Syntaxes × List Symbol)} (Some (no_more, ts)) (Some (es, r)) → Items IsTagged names typed ts es r
no_items IsTagged names typed ts es r h =
    let q = parts (no_more, ts) (es, r) h in
    subst (λ x. Items IsTagged names typed ts x r) q.0 (record { tokens = q.1; well = tt })

pub items-sound : (IsTagged : Syntax → Type 0) (tagged : List Symbol → Option Found) (names : Names) (f : ℕ) (typed : Bool) (ts : List Symbol) (es : Syntaxes) (r : List Symbol)
    → FindsTagged IsTagged tagged → read_items tagged names f typed ts ≡ Some (es, r) → Items IsTagged names typed ts es r
unfolding read_items
items-sound IsTagged tagged names zero typed ts es r s h =
    elim (chosen (take_symbol (goes_on names typed) ts) _ _ _ h) as (λ _. Items IsTagged names typed ts es r) [
      | inl o ↦ no_items IsTagged names typed ts es r o.1
      | inr o ↦ let d = o.2 in cc
    ]
items-sound IsTagged tagged names (suc f) typed ts es r s h =
    elim (chosen (take_symbol (goes_on names typed) ts) _ _ _ h) as (λ _. Items IsTagged names typed ts es r) [
      | inl o ↦ no_items IsTagged names typed ts es r o.1
      | inr o ↦
          let t = take_symbol_some (goes_on names typed) ts o.0.0 o.0.1 o.1 in
          let a = bound (read_item tagged o.0.0 o.0.1) _ _ o.2 in
          let i = item-sound IsTagged tagged names typed o.0.0 o.0.1 a.0.0 a.0.1 s t.1 a.1 in
          let b = bound (read_items tagged names f (typed || types a.0.0) a.0.1) _ _ a.2 in
          let j = items-sound IsTagged tagged names f (typed || types a.0.0) a.0.1 b.0.0 b.0.1 s b.1 in
          let q = parts (more a.0.0 b.0.0, b.0.1) (es, r) b.2 in
          subst (λ x. Items IsTagged names typed ts x r) q.0 (record {
            tokens = t.0 ∙ i.0 ∙ ap (tokens_then a.0.0) (j.tokens ∙ ap (λ x. phrase_then (row_phrase b.0.0) x) q.1);
            well = (i.1, j.well);
          })
    ]

pub record AllSpecifiers (m : ℕ) (IsTagged : Syntax → Type 0) (place : Place) (names : Names) (ts : List Symbol) (e : Syntax) (r : List Symbol) : Type 0 where
  pub tokens : ts ≡ tokens_then e r
  pub well : AreSpecifiers IsTagged place names e
  pub height : height_of e ≤ m

pub all_specifiers-sound : (IsTagged : Syntax → Type 0) (tagged : List Symbol → Option Found) (m : ℕ) (place : Place) (names : Names) (ts : List Symbol) (e : Syntax) (r : List Symbol)
    → FindsTagged IsTagged tagged → read_specifiers tagged m place names ts ≡ Some (e, r) → AllSpecifiers m IsTagged place names ts e r
all_specifiers-sound IsTagged tagged m place names ts e r s h =
    let a = bound (read_items tagged names (length ts) false ts) _ _ h in
    let i = items-sound IsTagged tagged names (length ts) false ts a.0.0 a.0.1 s a.1 in
    let k = when (fit place a.0.0) (made m (Specifier (Specs a.0.0)) a.0.1) (e, r) a.2 in
    let q = made_some m (Specifier (Specs a.0.0)) e a.0.1 r k.1 in
    subst (λ x. AllSpecifiers m IsTagged place names ts x r) q.1 (record { tokens = i.tokens ∙ ap (λ x. phrase_then (row_phrase a.0.0) x) q.2; well = (i.well, k.0); height = q.0 })

struct_tag-sound : (which : StructOrUnion) (names : Names) (typed : Bool) (ts : List Symbol) (e : Syntax) (r : List Symbol) → read_struct_tag which ts ≡ Some (e, r) → (Reserved (word_of which) ∷ ts ≡ tokens_then e r) × IsItem IsTag names typed e
struct_tag-sound which names typed ts e r h =
    let a = bound (take_symbol is_word ts) _ _ h in
    let t = take_symbol_some is_word ts a.0.0 a.0.1 a.1 in
    let q = parts (Specifier (StructTag which a.0.0), a.0.1) (e, r) a.2 in
    let w : IsItem IsTag names typed (Specifier (StructTag which a.0.0)) = t.1 in
    (ap (λ x. Reserved (word_of which) ∷ x) (t.0 ∙ ap (λ x. a.0.0 ∷ x) q.1) ∙ ap (λ x. tokens_then x r) q.0, subst (IsItem IsTag names typed) q.0 w)

enum_tag-sound : (names : Names) (typed : Bool) (ts : List Symbol) (e : Syntax) (r : List Symbol) → read_enum_tag ts ≡ Some (e, r) → (Reserved words.Enum ∷ ts ≡ tokens_then e r) × IsItem IsTag names typed e
enum_tag-sound names typed ts e r h =
    let a = bound (take_symbol is_word ts) _ _ h in
    let t = take_symbol_some is_word ts a.0.0 a.0.1 a.1 in
    let q = parts (Specifier (EnumTag a.0.0), a.0.1) (e, r) a.2 in
    let w : IsItem IsTag names typed (Specifier (EnumTag a.0.0)) = t.1 in
    (ap (λ x. Reserved words.Enum ∷ x) (t.0 ∙ ap (λ x. a.0.0 ∷ x) q.1) ∙ ap (λ x. tokens_then x r) q.0, subst (IsItem IsTag names typed) q.0 w)

pub tag-sound : FindsTagged IsTag read_tag
tag-sound names typed ts e r h =
    elim (chosen (after_keyword words.Struct ts) _ _ _ h) as (λ _. (ts ≡ tokens_then e r) × IsItem IsTag names typed e) [
      | inr o ↦ let i = struct_tag-sound which_word.Struct names typed o.0 e r o.2 in (taken_keyword words.Struct ts o.0 o.1 ∙ i.0, i.1)
      | inl o ↦ elim (chosen (after_keyword words.Union ts) _ _ _ o.1) as (λ _. (ts ≡ tokens_then e r) × IsItem IsTag names typed e) [
        | inr u ↦ let i = struct_tag-sound which_word.Union names typed u.0 e r u.2 in (taken_keyword words.Union ts u.0 u.1 ∙ i.0, i.1)
        | inl u ↦
            let a = bound (after_keyword words.Enum ts) _ _ u.1 in
            let i = enum_tag-sound names typed a.0 e r a.2 in
            (taken_keyword words.Enum ts a.0 a.1 ∙ i.0, i.1)
      ]
    ]

pub specifiers-sound : (m : ℕ) (place : Place) (names : Names) (ts : List Symbol) (e : Syntax) (r : List Symbol) → read_specifiers read_tag m place names ts ≡ Some (e, r) → Stands m (Specifiers place) names ts e r
specifiers-sound m place names ts e r h =
    let i = all_specifiers-sound IsTag read_tag m place names ts e r tag-sound h in
    record { tokens = i.tokens; well = i.well; height = i.height }
