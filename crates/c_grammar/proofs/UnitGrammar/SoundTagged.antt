-- What is read as specifiers with bodies, as members or enumerators are such.
use Rattle.std.proofs.Common.{◌≡◌, ℕ, zero, suc, Bool, true, false, ◌||◌, List, ◌∷◌, length, Option, None, Some, inl, inr, ap, refl, ◌∙◌}
use Rattle.c_tree.specs.declared.keyword.Keyword.TheVariants as words
use Rattle.c_tree.specs.declared.operator.StructOrUnion.{StructOrUnion}
use Rattle.c_tree.specs.declared.operator.StructOrUnion.TheVariants as which_word
use Rattle.c_tree.specs.declared.punctuator.Punctuator.TheVariants as marks
use Rattle.c_tree.specs.Symbol.{Symbol, Reserved, Sign}
use Rattle.c_tree.specs.Syntax.{Syntax, Specifier, Declarator, Part, Outer, StructTag, StructBody, EnumTag, EnumBody, StructDeclaration, BitField, Enumerator, Specs, SpecWord, Empty, absent, present, Syntaxes, no_more, more}
use Rattle.c_tree.specs.Phrase.{phrase_then}
use Rattle.c_tree.specs.Tokens.{word_of, tag_if, tokens_then}
use Rattle.c_grammar.specs.Symbols.{after_sign, after_keyword, take_symbol, is_word}
use Rattle.c_grammar.specs.Levels.{conditional_level}
use Rattle.c_grammar.specs.Names.{Names}
use Rattle.c_grammar.specs.Specifiers.{Place, InTypeName, types}
use Rattle.c_grammar.specs.Nonterminal.{WithName, Expression, DeclaratorIn}
use Rattle.c_grammar.specs.Grammar.{IsItem, AreItems, AreSpecifiers, IsDeclarator}
use Rattle.c_grammar.specs.Found.{Reader}
use Rattle.c_grammar.specs.Ways.SpecifierSteps.{read_specifiers}
use Rattle.c_grammar.proofs.Options.{bound, chosen, when}
use Rattle.c_grammar.proofs.Front.{take_symbol_some, taken, taken_keyword}
use Rattle.c_grammar.proofs.Readers.{IsSound as IsSoundBelow}
use Rattle.c_grammar.proofs.SoundSpecifiers.{FindsTagged, all_specifiers-sound}
use Rattle.c_grammar.specs.UnitGrammar.Names.{declared}
use Rattle.c_grammar.specs.UnitGrammar.Construct.{SpecifiersIn, TaggedType, StructMember, ConstructReader}
use Rattle.c_grammar.specs.UnitGrammar.Declarations.{has_any, IsMaybeTag, IsEnumerator, AreEnumerators, IsMemberDeclarator, AreMemberDeclarators, makes_members, AreFullSpecifiers, AreFullItems, IsFullItem, AreMembers}
use Rattle.c_grammar.specs.UnitGrammar.Grammar.{IsTaggedTree}
use Rattle.c_grammar.specs.Ways.TaggedSteps.{read_enumerator, read_enumerators, read_enum_body, read_enum, read_members, read_struct_body, read_struct, read_tagged, read_member_declarator, read_member_declarators, read_declared_members, read_member}
use Rattle.c_grammar.proofs.UnitGrammar.Readers.{Stands, IsSound, finish, found, with_comma, Row, row, Separated, separated, Listed, listed, or_first}

enumerator-sound : (reader : Reader) (n : ℕ) (names : Names) (ts : List Symbol) (e : Syntax) (r : List Symbol)
    → IsSoundBelow reader n → read_enumerator reader names ts ≡ Some (e, r) → (ts ≡ tokens_then e r) × IsEnumerator names e
enumerator-sound reader n names ts e r s h =
    let a = bound (take_symbol is_word ts) _ _ h in
    let t = take_symbol_some is_word ts a.0.0 a.0.1 a.1 in
    elim (chosen (after_sign marks.Assign a.0.1) _ _ _ a.2) as (λ _. (ts ≡ tokens_then e r) × IsEnumerator names e) [
      | inl o ↦ found (IsEnumerator names) ts (Part (Enumerator a.0.0 absent)) a.0.1 e r o.1 t.0 (t.1, tt)
      | inr o ↦
          let b = bound (reader (Expression conditional_level) names o.0) _ _ o.2 in
          let i = s (Expression conditional_level) names o.0 b.0.0 b.0.1 b.1 in
          found (IsEnumerator names) ts (Part (Enumerator a.0.0 (present b.0.0))) b.0.1 e r b.2
          (t.0 ∙ ap (λ x. a.0.0 ∷ x) (taken marks.Assign a.0.1 o.0 o.1 ∙ ap (λ x. Sign marks.Assign ∷ x) i.tokens)) (t.1, i.well)
    ]

enumerators-sound : (reader : Reader) (n : ℕ) (names : Names) (f : ℕ) (ts : List Symbol) (es : Syntaxes) (comma : Bool) (r : List Symbol)
    → IsSoundBelow reader n → read_enumerators reader names f ts ≡ Some (es, comma, r) → Listed (AreEnumerators names) marks.CloseBrace ts es comma r
unfolding read_enumerators
enumerators-sound reader n names zero ts es comma r s h = cc
enumerators-sound reader n names (suc f) ts es comma r s h =
    let a = bound (read_enumerator reader names ts) _ _ h in
    let i = enumerator-sound reader n names ts a.0.0 a.0.1 s a.1 in
    elim (chosen (after_sign marks.Comma a.0.1) _ _ _ a.2) as (λ _. Listed (AreEnumerators names) marks.CloseBrace ts es comma r) [
      | inl p ↦
          let b = bound (after_sign marks.CloseBrace a.0.1) _ _ p.1 in
          listed (AreEnumerators names) marks.CloseBrace ts (more a.0.0 no_more) false b.0 es comma r b.2
          (record { tokens = i.0 ∙ ap (tokens_then a.0.0) (taken marks.CloseBrace a.0.1 b.0 b.1); well = (i.1, tt); some = refl })
      | inr p ↦
          let behind = i.0 ∙ ap (tokens_then a.0.0) (taken marks.Comma a.0.1 p.0 p.1) in
          elim (chosen (after_sign marks.CloseBrace p.0) _ _ _ p.2) as (λ _. Listed (AreEnumerators names) marks.CloseBrace ts es comma r) [
            | inl d ↦
                let b = bound (read_enumerators reader (declared a.0.0 names) f p.0) _ _ d.1 in
                let j = enumerators-sound reader n (declared a.0.0 names) f p.0 b.0.0 b.0.1 b.0.2 s b.1 in
                listed (AreEnumerators names) marks.CloseBrace ts (more a.0.0 b.0.0) b.0.1 b.0.2 es comma r b.2
                (record {
                  tokens = behind ∙ ap (λ x. tokens_then a.0.0 (Sign marks.Comma ∷ x)) j.tokens ∙ ap (tokens_then a.0.0) (with_comma b.0.0 _ j.some);
                  well = (i.1, j.well);
                  some = refl;
                })
            | inr d ↦
                listed (AreEnumerators names) marks.CloseBrace ts (more a.0.0 no_more) true d.0 es comma r d.2
                (record {
                  tokens = behind ∙ ap (λ x. tokens_then a.0.0 (Sign marks.Comma ∷ x)) (taken marks.CloseBrace p.0 d.0 d.1);
                  well = (i.1, tt);
                  some = refl;
                })
          ]
    ]

enum_body-sound : (reader : Reader) (n m : ℕ) (names : Names) (tag : Option Symbol) (all ts : List Symbol) (e : Syntax) (r : List Symbol)
    → IsSoundBelow reader n → IsMaybeTag tag → all ≡ Reserved words.Enum ∷ phrase_then (tag_if tag) (Sign marks.OpenBrace ∷ ts) → read_enum_body reader m names tag ts ≡ Some (e, r) → Stands m TaggedType names all e r
enum_body-sound reader n m names tag all ts e r s w k h =
    let a = bound (read_enumerators reader names (length ts) ts) _ _ h in
    let i = enumerators-sound reader n names (length ts) ts a.0.0 a.0.1 a.0.2 s a.1 in
    finish m TaggedType names all (Specifier (EnumBody tag a.0.0 a.0.1)) a.0.2 e r a.2
    (k ∙ ap (λ x. Reserved words.Enum ∷ phrase_then (tag_if tag) (Sign marks.OpenBrace ∷ x)) i.tokens) (w, i.well, i.some) tt

enum-sound : (reader : Reader) (n m : ℕ) (names : Names) (all ts : List Symbol) (e : Syntax) (r : List Symbol)
    → IsSoundBelow reader n → all ≡ Reserved words.Enum ∷ ts → read_enum reader m names ts ≡ Some (e, r) → Stands m TaggedType names all e r
enum-sound reader n m names all ts e r s k h =
    elim (chosen (take_symbol is_word ts) _ _ _ h) as (λ _. Stands m TaggedType names all e r) [
      | inl o ↦
          let a = bound (after_sign marks.OpenBrace ts) _ _ o.1 in
          enum_body-sound reader n m names None all a.0 e r s tt (k ∙ ap (λ x. Reserved words.Enum ∷ x) (taken marks.OpenBrace ts a.0 a.1)) a.2
      | inr o ↦
          let t = take_symbol_some is_word ts o.0.0 o.0.1 o.1 in
          let begun = k ∙ ap (λ x. Reserved words.Enum ∷ x) t.0 in
          elim (chosen (after_sign marks.OpenBrace o.0.1) _ _ _ o.2) as (λ _. Stands m TaggedType names all e r) [
            | inl b ↦ finish m TaggedType names all (Specifier (EnumTag o.0.0)) o.0.1 e r b.1 begun t.1 tt
            | inr b ↦ enum_body-sound reader n m names (Some o.0.0) all b.0 e r s t.1 (begun ∙ ap (λ x. Reserved words.Enum ∷ o.0.0 ∷ x) (taken marks.OpenBrace o.0.1 b.0 b.1)) b.2
          ]
    ]

members-sound : (inner : ConstructReader) (n : ℕ) (names : Names) (f : ℕ) (ts : List Symbol) (es : Syntaxes) (r : List Symbol)
    → IsSound inner n → read_members inner names f ts ≡ Some (es, r) → Row (AreMembers names) marks.CloseBrace ts es r
unfolding read_members
members-sound inner n names zero ts es r s h = cc
members-sound inner n names (suc f) ts es r s h =
    elim (chosen (after_sign marks.CloseBrace ts) _ _ _ h) as (λ _. Row (AreMembers names) marks.CloseBrace ts es r) [
      | inl o ↦
          let a = bound (inner StructMember names ts) _ _ o.1 in
          let i = s StructMember names ts a.0.0 a.0.1 a.1 in
          let b = bound (read_members inner (declared a.0.0 names) f a.0.1) _ _ a.2 in
          let j = members-sound inner n (declared a.0.0 names) f a.0.1 b.0.0 b.0.1 s b.1 in
          row (AreMembers names) marks.CloseBrace ts (more a.0.0 b.0.0) b.0.1 es r b.2
          (record { tokens = i.tokens ∙ ap (tokens_then a.0.0) j.tokens; well = (i.well, j.well) })
      | inr o ↦ row (AreMembers names) marks.CloseBrace ts no_more o.0 es r o.2 (record { tokens = taken marks.CloseBrace ts o.0 o.1; well = tt })
    ]

struct_body-sound : (inner : ConstructReader) (n m : ℕ) (names : Names) (which : StructOrUnion) (tag : Option Symbol) (all ts : List Symbol) (e : Syntax) (r : List Symbol)
    → IsSound inner n → IsMaybeTag tag → all ≡ Reserved (word_of which) ∷ phrase_then (tag_if tag) (Sign marks.OpenBrace ∷ ts) → read_struct_body inner m names which tag ts ≡ Some (e, r) → Stands m TaggedType names all e r
struct_body-sound inner n m names which tag all ts e r s w k h =
    let a = bound (read_members inner names (length ts) ts) _ _ h in
    let i = members-sound inner n names (length ts) ts a.0.0 a.0.1 s a.1 in
    finish m TaggedType names all (Specifier (StructBody which tag a.0.0)) a.0.1 e r a.2
    (k ∙ ap (λ x. Reserved (word_of which) ∷ phrase_then (tag_if tag) (Sign marks.OpenBrace ∷ x)) i.tokens) (w, i.well) tt

struct-sound : (inner : ConstructReader) (n m : ℕ) (names : Names) (which : StructOrUnion) (all ts : List Symbol) (e : Syntax) (r : List Symbol)
    → IsSound inner n → all ≡ Reserved (word_of which) ∷ ts → read_struct inner m names which ts ≡ Some (e, r) → Stands m TaggedType names all e r
struct-sound inner n m names which all ts e r s k h =
    elim (chosen (take_symbol is_word ts) _ _ _ h) as (λ _. Stands m TaggedType names all e r) [
      | inl o ↦
          let a = bound (after_sign marks.OpenBrace ts) _ _ o.1 in
          struct_body-sound inner n m names which None all a.0 e r s tt (k ∙ ap (λ x. Reserved (word_of which) ∷ x) (taken marks.OpenBrace ts a.0 a.1)) a.2
      | inr o ↦
          let t = take_symbol_some is_word ts o.0.0 o.0.1 o.1 in
          let begun = k ∙ ap (λ x. Reserved (word_of which) ∷ x) t.0 in
          elim (chosen (after_sign marks.OpenBrace o.0.1) _ _ _ o.2) as (λ _. Stands m TaggedType names all e r) [
            | inl b ↦ finish m TaggedType names all (Specifier (StructTag which o.0.0)) o.0.1 e r b.1 begun t.1 tt
            | inr b ↦ struct_body-sound inner n m names which (Some o.0.0) all b.0 e r s t.1 (begun ∙ ap (λ x. Reserved (word_of which) ∷ o.0.0 ∷ x) (taken marks.OpenBrace o.0.1 b.0 b.1)) b.2
          ]
    ]

pub tagged-sound : (reader : Reader) (inner : ConstructReader) (n m : ℕ) (names : Names) (ts : List Symbol) (e : Syntax) (r : List Symbol)
    → IsSoundBelow reader n → IsSound inner n → read_tagged reader inner m names ts ≡ Some (e, r) → Stands m TaggedType names ts e r
tagged-sound reader inner n m names ts e r s i h =
    elim (chosen (after_keyword words.Struct ts) _ _ _ h) as (λ _. Stands m TaggedType names ts e r) [
      | inr o ↦ struct-sound inner n m names which_word.Struct ts o.0 e r i (taken_keyword words.Struct ts o.0 o.1) o.2
      | inl o ↦ elim (chosen (after_keyword words.Union ts) _ _ _ o.1) as (λ _. Stands m TaggedType names ts e r) [
        | inr u ↦ struct-sound inner n m names which_word.Union ts u.0 e r i (taken_keyword words.Union ts u.0 u.1) u.2
        | inl u ↦
            let a = bound (after_keyword words.Enum ts) _ _ u.1 in
            enum-sound reader n m names ts a.0 e r s (taken_keyword words.Enum ts a.0 a.1) a.2
      ]
    ]

-- a declarator alone declares a member
plain_member : (names : Names) (d : Syntax) → IsDeclarator WithName names d → IsMemberDeclarator names d
plain_member names (Declarator k) w = w
plain_member names _ w = absurd w

member_declarator-sound : (reader : Reader) (n : ℕ) (names : Names) (ts : List Symbol) (e : Syntax) (r : List Symbol)
    → IsSoundBelow reader n → read_member_declarator reader names ts ≡ Some (e, r) → (ts ≡ tokens_then e r) × IsMemberDeclarator names e
member_declarator-sound reader n names ts e r s h =
    elim (chosen (after_sign marks.Colon ts) _ _ _ h) as (λ _. (ts ≡ tokens_then e r) × IsMemberDeclarator names e) [
      | inr o ↦
          let b = bound (reader (Expression conditional_level) names o.0) _ _ o.2 in
          let i = s (Expression conditional_level) names o.0 b.0.0 b.0.1 b.1 in
          found (IsMemberDeclarator names) ts (Specifier (BitField absent b.0.0)) b.0.1 e r b.2
          (taken marks.Colon ts o.0 o.1 ∙ ap (λ x. Sign marks.Colon ∷ x) i.tokens) (tt, i.well)
      | inl o ↦
          let a = bound (reader (DeclaratorIn WithName) names ts) _ _ o.1 in
          let i = s (DeclaratorIn WithName) names ts a.0.0 a.0.1 a.1 in
          elim (chosen (after_sign marks.Colon a.0.1) _ _ _ a.2) as (λ _. (ts ≡ tokens_then e r) × IsMemberDeclarator names e) [
            | inl p ↦ found (IsMemberDeclarator names) ts a.0.0 a.0.1 e r p.1 i.tokens (plain_member names a.0.0 i.well)
            | inr p ↦
                let b = bound (reader (Expression conditional_level) names p.0) _ _ p.2 in
                let j = s (Expression conditional_level) names p.0 b.0.0 b.0.1 b.1 in
                found (IsMemberDeclarator names) ts (Specifier (BitField (present a.0.0) b.0.0)) b.0.1 e r b.2
                (i.tokens ∙ ap (tokens_then a.0.0) (taken marks.Colon a.0.1 p.0 p.1 ∙ ap (λ x. Sign marks.Colon ∷ x) j.tokens)) (i.well, j.well)
          ]
    ]

member_declarators-sound : (reader : Reader) (n : ℕ) (names : Names) (f : ℕ) (ts : List Symbol) (es : Syntaxes) (r : List Symbol)
    → IsSoundBelow reader n → read_member_declarators reader names f ts ≡ Some (es, r) → Separated (AreMemberDeclarators names) marks.Semicolon ts es r
unfolding read_member_declarators
member_declarators-sound reader n names zero ts es r s h = cc
member_declarators-sound reader n names (suc f) ts es r s h =
    let a = bound (read_member_declarator reader names ts) _ _ h in
    let i = member_declarator-sound reader n names ts a.0.0 a.0.1 s a.1 in
    elim (chosen (after_sign marks.Comma a.0.1) _ _ _ a.2) as (λ _. Separated (AreMemberDeclarators names) marks.Semicolon ts es r) [
      | inl p ↦
          let b = bound (after_sign marks.Semicolon a.0.1) _ _ p.1 in
          separated (AreMemberDeclarators names) marks.Semicolon ts (more a.0.0 no_more) b.0 es r b.2
          (record { tokens = i.0 ∙ ap (tokens_then a.0.0) (taken marks.Semicolon a.0.1 b.0 b.1); well = (i.1, tt); some = refl })
      | inr p ↦
          let b = bound (read_member_declarators reader names f p.0) _ _ p.2 in
          let j = member_declarators-sound reader n names f p.0 b.0.0 b.0.1 s b.1 in
          separated (AreMemberDeclarators names) marks.Semicolon ts (more a.0.0 b.0.0) b.0.1 es r b.2
          (record {
            tokens = i.0 ∙ ap (tokens_then a.0.0) (taken marks.Comma a.0.1 p.0 p.1 ∙ ap (λ x. Sign marks.Comma ∷ x) j.tokens ∙ with_comma b.0.0 _ j.some);
            well = (i.1, j.well);
            some = refl;
          })
    ]

declared_members-sound : (reader : Reader) (n m : ℕ) (names : Names) (specs : Syntax) (all ts : List Symbol) (e : Syntax) (r : List Symbol)
    → IsSoundBelow reader n → AreFullSpecifiers InTypeName names specs → all ≡ tokens_then specs ts → read_declared_members reader m (declared specs names) specs ts ≡ Some (e, r) → Stands m StructMember names all e r
declared_members-sound reader n m names specs all ts e r s w k h =
    elim (chosen (after_sign marks.Semicolon ts) _ _ _ h) as (λ _. Stands m StructMember names all e r) [
      | inl o ↦
          let a = bound (read_member_declarators reader (declared specs names) (length ts) ts) _ _ o.1 in
          let i = member_declarators-sound reader n (declared specs names) (length ts) ts a.0.0 a.0.1 s a.1 in
          finish m StructMember names all (Specifier (StructDeclaration specs a.0.0)) a.0.1 e r a.2
          (k ∙ ap (tokens_then specs) i.tokens) (w, i.well, or_first (has_any a.0.0) (makes_members specs) i.some) tt
      | inr o ↦
          let c = when (makes_members specs) _ _ o.2 in
          finish m StructMember names all (Specifier (StructDeclaration specs no_more)) o.0 e r c.1
          (k ∙ ap (tokens_then specs) (taken marks.Semicolon ts o.0 o.1)) (w, tt, c.0) tt
    ]

pub member-sound : (reader : Reader) (inner : ConstructReader) (n m : ℕ) (names : Names) (ts : List Symbol) (e : Syntax) (r : List Symbol)
    → IsSoundBelow reader n → IsSound inner n → read_member reader inner m names ts ≡ Some (e, r) → Stands m StructMember names ts e r
member-sound reader inner n m names ts e r s i h =
    elim (chosen (after_sign marks.Semicolon ts) _ _ _ h) as (λ _. Stands m StructMember names ts e r) [
      | inr o ↦ finish m StructMember names ts (Outer Empty) o.0 e r o.2 (taken marks.Semicolon ts o.0 o.1) tt tt
      | inl o ↦
          let a = bound (inner (SpecifiersIn InTypeName) names ts) _ _ o.1 in
          let j = i (SpecifiersIn InTypeName) names ts a.0.0 a.0.1 a.1 in
          declared_members-sound reader n m names a.0.0 ts a.0.1 e r s j.well j.tokens a.2
    ]

-- a specifier with a tag or a body is one wherever specifiers stand
tagged_item : (names within : Names) (typed : Bool) (e : Syntax) → IsTaggedTree names e → IsItem (IsTaggedTree names) within typed e
tagged_item names within typed (Specifier k) w = w
tagged_item names within typed _ w = absurd w

full_item : (names : Names) (typed : Bool) (e : Syntax) → IsItem (IsTaggedTree names) names typed e → IsFullItem names typed e
full_item names typed (Part (SpecWord word)) w = w
full_item names typed (Specifier k) w = w
full_item names typed _ w = absurd w

full_items : (names : Names) (typed : Bool) (es : Syntaxes) → AreItems (IsTaggedTree names) names typed es → AreFullItems names typed es
full_items names typed no_more w = tt
full_items names typed (more e es) w = (full_item names typed e w.0, full_items names (typed || types e) es w.1)

full_specifiers : (place : Place) (names : Names) (e : Syntax) → AreSpecifiers (IsTaggedTree names) place names e → AreFullSpecifiers place names e
full_specifiers place names (Specifier (Specs items)) w = (full_items names false items w.0, w.1)
full_specifiers place names _ w = absurd w

finds_tagged : (inner : ConstructReader) (n : ℕ) (names : Names) → IsSound inner n → FindsTagged (IsTaggedTree names) (inner TaggedType names)
finds_tagged inner n names s within typed ts e r h = let i = s TaggedType names ts e r h in (i.tokens, tagged_item names within typed e i.well)

pub specifiers-sound : (inner : ConstructReader) (n m : ℕ) (place : Place) (names : Names) (ts : List Symbol) (e : Syntax) (r : List Symbol)
    → IsSound inner n → read_specifiers (inner TaggedType names) m place names ts ≡ Some (e, r) → Stands m (SpecifiersIn place) names ts e r
specifiers-sound inner n m place names ts e r s h =
    let i = all_specifiers-sound (IsTaggedTree names) (inner TaggedType names) m place names ts e r (finds_tagged inner n names s) h in
    record { tokens = i.tokens; well = full_specifiers place names e i.well; height = i.height; last = tt }
