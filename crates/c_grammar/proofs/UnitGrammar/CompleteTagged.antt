-- Specifiers with bodies, members and enumerators are read, where what follows doesn't go on with them.
use Rattle.std.proofs.Common.{◌≡◌, ℕ, zero, suc, ◌<◌, ◌≤◌, Bool, true, false, ◌||◌, List, ◌∷◌, length, Option, None, Some, ap, refl, ◌∙◌, sym, arith}
use Rattle.c_tree.specs.declared.operator.StructOrUnion.{StructOrUnion}
use Rattle.c_tree.specs.declared.operator.StructOrUnion.TheVariants as which_word
use Rattle.c_tree.specs.declared.punctuator.Punctuator.{Punctuator}
use Rattle.c_tree.specs.declared.punctuator.Punctuator.TheVariants as marks
use Rattle.c_tree.specs.Symbol.{Symbol, Reserved, Sign}
use Rattle.c_tree.specs.Syntax.{Syntax, SpecifierSyntax, Specifier, Declarator, Part, Outer, Specs, StructTag, StructBody, EnumTag, EnumBody, StructDeclaration, BitField, SpecWord, Enumerator, Empty, MaybeSyntax, absent, present, Syntaxes, no_more, more}
use Rattle.c_tree.specs.Height.{height_of, height_maybe, height_in}
use Rattle.c_tree.specs.Phrase.{phrase_then, ◌⨾◌, sign}
use Rattle.c_tree.specs.Tokens.{tag_if, comma_if, phrase_of, assigned_phrase, list_phrase, more_phrase, row_phrase, tokens_then}
use Rattle.c_grammar.specs.Symbols.{is_sign, is_word, after_sign, begins}
use Rattle.c_grammar.specs.Levels.{conditional_level}
use Rattle.c_grammar.specs.Names.{Names}
use Rattle.c_grammar.specs.Specifiers.{Place, InTypeName, begins_tag, goes_on, types}
use Rattle.c_grammar.specs.Nonterminal.{WithName, Expression, DeclaratorIn}
use Rattle.c_grammar.specs.Grammar.{IsItem, AreItems}
use Rattle.c_grammar.specs.Found.{Reader}
use Rattle.c_grammar.specs.Ways.DeclaratorSteps.{begins_declarator}
use Rattle.c_grammar.specs.Ways.SpecifierSteps.{read_specifiers}
use Rattle.c_grammar.specs.Following.{Stops, goes_on_declaring}
use Rattle.c_grammar.proofs.Options.{made_low}
use Rattle.c_grammar.proofs.Front.{after_none, take_symbol_here}
use Rattle.c_grammar.proofs.Readers.{Knows as KnowsBelow}
use Rattle.c_grammar.proofs.Longer.{count, longer, longer_more}
use Rattle.c_grammar.proofs.Begins.{differ}
use Rattle.c_grammar.proofs.CompleteSpecifiers.{Tagged, KnowsTagged, StopsAtSpecifiers, all_specifiers-complete}
use Rattle.c_grammar.specs.UnitGrammar.Names.{declared}
use Rattle.c_grammar.specs.UnitGrammar.Construct.{SpecifiersIn, TaggedType, StructMember, ConstructReader}
use Rattle.c_grammar.specs.UnitGrammar.Declarations.{has_any, IsMaybeConstant, IsMaybeTag, IsEnumerator, AreEnumerators, IsMemberDeclarator, AreMemberDeclarators, makes_members, AreFullSpecifiers, AreFullItems, IsFullItem, IsMember, AreMembers}
use Rattle.c_grammar.specs.UnitGrammar.Grammar.{IsTaggedTree}
use Rattle.c_grammar.specs.Ways.TaggedSteps.{read_enumerator, read_enumerators, read_enum_body, read_enum, read_members, read_struct_body, read_struct, read_tagged, read_member_declarator, read_member_declarators, read_declared_members, read_member}
use Rattle.c_grammar.proofs.UnitGrammar.Readers.{Knows}
use Rattle.c_grammar.proofs.UnitGrammar.Fronts.{front_no_sign, front_none, full_specifiers_begin, begins_member, member_begins, enumerator_begins, begins_member_declarator, member_declarator_begins, named_begins}
use Rattle.c_grammar.proofs.UnitGrammar.Longer.{longer_members}

-- an enumerator ends before a comma or "}"
value-complete : (reader : Reader) (n : ℕ) (names : Names) (name : Symbol) (value : MaybeSyntax) (p : Punctuator) (r : List Symbol) → KnowsBelow reader n → IsMaybeConstant names value → height_maybe value ≤ n → is_word name ≡ true
    → Stops conditional_level (Sign p ∷ r) → after_sign marks.Assign (Sign p ∷ r) ≡ None → read_enumerator reader names (name ∷ phrase_then (assigned_phrase value) (Sign p ∷ r)) ≡ Some (Part (Enumerator name value), Sign p ∷ r)
value-complete reader n names name absent p r k w h t s a = rw (take_symbol_here is_word name (Sign p ∷ r) t, a) refl
value-complete reader n names name (present e) p r k w h t s a =
    rw (take_symbol_here is_word name (Sign marks.Assign ∷ tokens_then e (Sign p ∷ r)) t, k (Expression conditional_level) names e (Sign p ∷ r) w h s) refl

enumerator-complete : (reader : Reader) (n : ℕ) (names : Names) (e : Syntax) (p : Punctuator) (r : List Symbol) → KnowsBelow reader n → IsEnumerator names e → height_of e ≤ n
    → Stops conditional_level (Sign p ∷ r) → after_sign marks.Assign (Sign p ∷ r) ≡ None → read_enumerator reader names (tokens_then e (Sign p ∷ r)) ≡ Some (e, Sign p ∷ r)
enumerator-complete reader n names (Part (Enumerator name value)) p r k w h s a = value-complete reader n names name value p r k w.1 h w.0 s a
enumerator-complete reader n names _ p r k w h s a = absurd w

enumerators-complete : (reader : Reader) (n : ℕ) (names : Names) (f : ℕ) (e : Syntax) (es : Syntaxes) (comma : Bool) (r : List Symbol) → KnowsBelow reader n → IsEnumerator names e → height_of e ≤ n → AreEnumerators (declared e names) es → height_in es ≤ n → count es < f
    → read_enumerators reader names f (tokens_then e (phrase_then (more_phrase es) (phrase_then (comma_if comma) (Sign marks.CloseBrace ∷ r)))) ≡ Some (more e es, comma, r)
unfolding read_enumerators
enumerators-complete reader n names zero e es comma r k w h ws hs c = absurd (omega arith)
enumerators-complete reader n names (suc f) e no_more false r k w h ws hs c = rw (enumerator-complete reader n names e marks.CloseBrace r k w h (omega arith) refl) refl
enumerators-complete reader n names (suc f) e no_more true r k w h ws hs c = rw (enumerator-complete reader n names e marks.Comma (Sign marks.CloseBrace ∷ r) k w h (omega arith) refl) refl
enumerators-complete reader n names (suc f) e (more e2 es) comma r k w h ws hs c =
    let Y = phrase_then (more_phrase es) (phrase_then (comma_if comma) (Sign marks.CloseBrace ∷ r)) in
    rw (
      enumerator-complete reader n names e marks.Comma (tokens_then e2 Y) k w h (omega arith) refl,
      front_none is_word marks.CloseBrace (tokens_then e2 Y) refl (enumerator_begins (declared e names) e2 Y ws.0),
      enumerators-complete reader n (declared e names) f e2 es comma r k ws.0 (omega arith) ws.1 (omega arith) (omega arith),
    ) refl

enum_body-complete : (reader : Reader) (n : ℕ) (names : Names) (tag : Option Symbol) (es : Syntaxes) (comma : Bool) (r : List Symbol) → KnowsBelow reader n → AreEnumerators names es → has_any es ≡ true → height_in es ≤ n
    → read_enum_body reader (suc n) names tag (phrase_then (list_phrase es) (phrase_then (comma_if comma) (Sign marks.CloseBrace ∷ r))) ≡ Some (Specifier (EnumBody tag es comma), r)
enum_body-complete reader n names tag no_more comma r k w a h = cc
enum_body-complete reader n names tag (more e es) comma r k w a h =
    let Y = phrase_then (comma_if comma) (Sign marks.CloseBrace ∷ r) in
    let X = phrase_then (more_phrase es) Y in
    let b = longer (phrase_of e) X in
    let c = longer_more es Y in
    let d = longer (comma_if comma) (Sign marks.CloseBrace ∷ r) in
    let l : count es < length (tokens_then e X) = omega (arith, b, c, d) in
    rw (enumerators-complete reader n names (length (tokens_then e X)) e es comma r k w.0 (omega arith) w.1 (omega arith) l)
    (made_low (suc n) (Specifier (EnumBody tag (more e es) comma)) r (omega arith))

members-complete : (inner : ConstructReader) (n : ℕ) (names : Names) (f : ℕ) (es : Syntaxes) (r : List Symbol) → Knows inner n → AreMembers names es → height_in es ≤ n → count es < f
    → read_members inner names f (phrase_then (row_phrase es) (Sign marks.CloseBrace ∷ r)) ≡ Some (es, r)
unfolding read_members
members-complete inner n names zero es r k w h c = absurd (omega arith)
members-complete inner n names (suc f) no_more r k w h c = refl
members-complete inner n names (suc f) (more e es) r k w h c =
    let X = phrase_then (row_phrase es) (Sign marks.CloseBrace ∷ r) in
    rw (
      front_none (begins_member names) marks.CloseBrace (tokens_then e X) refl (member_begins names e X w.0),
      k StructMember names e X w.0 (omega arith) tt,
      members-complete inner n (declared e names) f es r k w.1 (omega arith) (omega arith),
    ) refl

struct_body-complete : (inner : ConstructReader) (n : ℕ) (names : Names) (which : StructOrUnion) (tag : Option Symbol) (es : Syntaxes) (r : List Symbol) → Knows inner n → AreMembers names es → height_in es ≤ n
    → read_struct_body inner (suc n) names which tag (phrase_then (row_phrase es) (Sign marks.CloseBrace ∷ r)) ≡ Some (Specifier (StructBody which tag es), r)
struct_body-complete inner n names which tag es r k w h =
    let X = phrase_then (row_phrase es) (Sign marks.CloseBrace ∷ r) in
    let l = longer_members names es (Sign marks.CloseBrace ∷ r) w in
    rw (members-complete inner n names (length X) es r k w h (omega (arith, l))) (made_low (suc n) (Specifier (StructBody which tag es)) r (omega arith))

struct-complete : (inner : ConstructReader) (n : ℕ) (names : Names) (which : StructOrUnion) (tag : Option Symbol) (es : Syntaxes) (r : List Symbol) → Knows inner n → IsMaybeTag tag → AreMembers names es → height_in es ≤ n
    → read_struct inner (suc n) names which (phrase_then (tag_if tag) (Sign marks.OpenBrace ∷ phrase_then (row_phrase es) (Sign marks.CloseBrace ∷ r))) ≡ Some (Specifier (StructBody which tag es), r)
struct-complete inner n names which None es r k t w h = struct_body-complete inner n names which None es r k w h
struct-complete inner n names which (Some tag) es r k t w h =
    let X = phrase_then (row_phrase es) (Sign marks.CloseBrace ∷ r) in
    rw (take_symbol_here is_word tag (Sign marks.OpenBrace ∷ X) t) (struct_body-complete inner n names which (Some tag) es r k w h)

struct_tag-complete : (inner : ConstructReader) (n : ℕ) (names : Names) (which : StructOrUnion) (tag : Symbol) (r : List Symbol) → is_word tag ≡ true → begins (is_sign marks.OpenBrace) r ≡ false
    → read_struct inner (suc n) names which (tag ∷ r) ≡ Some (Specifier (StructTag which tag), r)
struct_tag-complete inner n names which tag r t s =
    rw (take_symbol_here is_word tag r t, after_none (is_sign marks.OpenBrace) r s) (made_low (suc n) (Specifier (StructTag which tag)) r (omega arith))

enum-complete : (reader : Reader) (n : ℕ) (names : Names) (tag : Option Symbol) (es : Syntaxes) (comma : Bool) (r : List Symbol) → KnowsBelow reader n → IsMaybeTag tag → AreEnumerators names es → has_any es ≡ true → height_in es ≤ n
    → read_enum reader (suc n) names (phrase_then (tag_if tag) (Sign marks.OpenBrace ∷ phrase_then (list_phrase es) (phrase_then (comma_if comma) (Sign marks.CloseBrace ∷ r)))) ≡ Some (Specifier (EnumBody tag es comma), r)
enum-complete reader n names None es comma r k t w a h = enum_body-complete reader n names None es comma r k w a h
enum-complete reader n names (Some tag) es comma r k t w a h =
    let X = phrase_then (list_phrase es) (phrase_then (comma_if comma) (Sign marks.CloseBrace ∷ r)) in
    rw (take_symbol_here is_word tag (Sign marks.OpenBrace ∷ X) t) (enum_body-complete reader n names (Some tag) es comma r k w a h)

pub tagged-complete : (reader : Reader) (inner : ConstructReader) (n : ℕ) (names : Names) (e : Syntax) (r : List Symbol) → KnowsBelow reader n → Knows inner n → IsTaggedTree names e → height_of e ≤ suc n → begins (is_sign marks.OpenBrace) r ≡ false
    → read_tagged reader inner (suc n) names (tokens_then e r) ≡ Some (e, r)
tagged-complete reader inner n names (Specifier (StructTag which_word.Struct tag)) r k i w h s = struct_tag-complete inner n names which_word.Struct tag r w s
tagged-complete reader inner n names (Specifier (StructTag which_word.Union tag)) r k i w h s = struct_tag-complete inner n names which_word.Union tag r w s
tagged-complete reader inner n names (Specifier (StructBody which_word.Struct tag members)) r k i w h s = struct-complete inner n names which_word.Struct tag members r i w.0 w.1 (omega arith)
tagged-complete reader inner n names (Specifier (StructBody which_word.Union tag members)) r k i w h s = struct-complete inner n names which_word.Union tag members r i w.0 w.1 (omega arith)
tagged-complete reader inner n names (Specifier (EnumTag tag)) r k i w h s =
    rw (take_symbol_here is_word tag r w, after_none (is_sign marks.OpenBrace) r s) (made_low (suc n) (Specifier (EnumTag tag)) r (omega arith))
tagged-complete reader inner n names (Specifier (EnumBody tag enumerators comma)) r k i w h s = enum-complete reader n names tag enumerators comma r k w.0 w.1 w.2 (omega arith)
tagged-complete reader inner n names _ r k i w h s = absurd w

member_declarator-complete : (reader : Reader) (n : ℕ) (names : Names) (e : Syntax) (p : Punctuator) (r : List Symbol) → KnowsBelow reader n → IsMemberDeclarator names e → height_of e ≤ n
    → Stops conditional_level (Sign p ∷ r) → after_sign marks.Colon (Sign p ∷ r) ≡ None → begins (goes_on_declaring names) (Sign p ∷ r) ≡ false → read_member_declarator reader names (tokens_then e (Sign p ∷ r)) ≡ Some (e, Sign p ∷ r)
member_declarator-complete reader n names (Declarator d) p r k w h s a b =
    rw (
      front_none (begins_declarator WithName) marks.Colon (tokens_then (Declarator d) (Sign p ∷ r)) refl (named_begins names (Declarator d) (Sign p ∷ r) w),
      k (DeclaratorIn WithName) names (Declarator d) (Sign p ∷ r) w h b,
      a,
    ) refl
member_declarator-complete reader n names (Specifier (BitField absent width)) p r k w h s a b = rw (k (Expression conditional_level) names width (Sign p ∷ r) w.1 (omega arith) s) refl
member_declarator-complete reader n names (Specifier (BitField (present d) width)) p r k w h s a b =
    let X = Sign marks.Colon ∷ tokens_then width (Sign p ∷ r) in
    rw (
      front_none (begins_declarator WithName) marks.Colon (tokens_then d X) refl (named_begins names d X w.0),
      k (DeclaratorIn WithName) names d X w.0 (omega arith) refl,
      k (Expression conditional_level) names width (Sign p ∷ r) w.1 (omega arith) s,
    ) refl
member_declarator-complete reader n names _ p r k w h s a b = absurd w

member_declarators-complete : (reader : Reader) (n : ℕ) (names : Names) (f : ℕ) (e : Syntax) (es : Syntaxes) (r : List Symbol) → KnowsBelow reader n → IsMemberDeclarator names e → height_of e ≤ n → AreMemberDeclarators names es → height_in es ≤ n → count es < f
    → read_member_declarators reader names f (tokens_then e (phrase_then (more_phrase es) (Sign marks.Semicolon ∷ r))) ≡ Some (more e es, r)
unfolding read_member_declarators
member_declarators-complete reader n names zero e es r k w h ws hs c = absurd (omega arith)
member_declarators-complete reader n names (suc f) e no_more r k w h ws hs c = rw (member_declarator-complete reader n names e marks.Semicolon r k w h (omega arith) refl refl) refl
member_declarators-complete reader n names (suc f) e (more e2 es) r k w h ws hs c =
    let Y = phrase_then (more_phrase es) (Sign marks.Semicolon ∷ r) in
    rw (
      member_declarator-complete reader n names e marks.Comma (tokens_then e2 Y) k w h (omega arith) refl refl,
      member_declarators-complete reader n names f e2 es r k ws.0 (omega arith) ws.1 (omega arith) (omega arith),
    ) refl

declared_members-complete : (reader : Reader) (n : ℕ) (names : Names) (specs : Syntax) (es : Syntaxes) (r : List Symbol) → KnowsBelow reader n → AreMemberDeclarators (declared specs names) es → (has_any es || makes_members specs) ≡ true → height_of (Specifier (StructDeclaration specs es)) ≤ suc n
    → read_declared_members reader (suc n) (declared specs names) specs (phrase_then (list_phrase es) (Sign marks.Semicolon ∷ r)) ≡ Some (Specifier (StructDeclaration specs es), r)
declared_members-complete reader n names specs no_more r k w a h = let b : makes_members specs ≡ true = a in rw b (made_low (suc n) (Specifier (StructDeclaration specs no_more)) r h)
declared_members-complete reader n names specs (more e es) r k w a h =
    let Y = Sign marks.Semicolon ∷ r in
    let X = phrase_then (more_phrase es) Y in
    let b = longer (phrase_of e) X in
    let c = longer_more es Y in
    let l : count es < length (tokens_then e X) = omega (arith, b, c) in
    rw (
      front_none begins_member_declarator marks.Semicolon (tokens_then e X) refl (member_declarator_begins (declared specs names) e X w.0),
      member_declarators-complete reader n (declared specs names) (length (tokens_then e X)) e es r k w.0 (omega arith) w.1 (omega arith) l,
    ) (made_low (suc n) (Specifier (StructDeclaration specs (more e es))) r h)

-- what may stand behind the specifiers of members
before_members : (names within : Names) (es : Syntaxes) (r : List Symbol) → AreMemberDeclarators names es
    → (begins (goes_on within true) (phrase_then (list_phrase es) (Sign marks.Semicolon ∷ r)) ≡ false) × (begins (is_sign marks.OpenBrace) (phrase_then (list_phrase es) (Sign marks.Semicolon ∷ r)) ≡ false)
before_members names within no_more r w = (refl, refl)
before_members names within (more e es) r w =
    let X = phrase_then (more_phrase es) (Sign marks.Semicolon ∷ r) in
    let b = member_declarator_begins names e X w.0 in
    (differ begins_member_declarator (goes_on within true) (tokens_then e X) (no_specifier within) b, front_no_sign begins_member_declarator marks.OpenBrace (tokens_then e X) refl b)
  where
    no_specifier : (within : Names) (t : Symbol) → begins_member_declarator t ≡ true → goes_on within true t ≡ false
    no_specifier within (Reserved k) h = cc
    no_specifier within _ h = refl

pub member-complete : (reader : Reader) (inner : ConstructReader) (n : ℕ) (names : Names) (e : Syntax) (r : List Symbol) → KnowsBelow reader n → Knows inner n → IsMember names e → height_of e ≤ suc n
    → read_member reader inner (suc n) names (tokens_then e r) ≡ Some (e, r)
member-complete reader inner n names (Outer Empty) r k i w h = made_low (suc n) (Outer Empty) r h
member-complete reader inner n names (Specifier (StructDeclaration specs es)) r k i w h =
    let X = phrase_then (list_phrase es) (Sign marks.Semicolon ∷ r) in
    rw (
      front_none (goes_on names false) marks.Semicolon (tokens_then specs X) refl (full_specifiers_begin InTypeName names specs X w.0),
      i (SpecifiersIn InTypeName) names specs X w.0 (omega arith) (before_members (declared specs names) names es r w.1),
    ) (declared_members-complete reader n names specs es r k w.1 w.2 h)
member-complete reader inner n names _ r k i w h = absurd w

-- a specifier with a tag or a body, as the reader of specifiers asks for it
begun : (inner : ConstructReader) (n : ℕ) (names : Names) (k : SpecifierSyntax) (r : List Symbol) (front : Symbol) (behind : List Symbol) → Knows inner n → IsTaggedTree names (Specifier k) → height_of (Specifier k) ≤ n → begins (is_sign marks.OpenBrace) r ≡ false
    → tokens_then (Specifier k) r ≡ front ∷ behind → length r ≤ length behind → begins_tag front ≡ true → Tagged (inner TaggedType names) (Specifier k) r
begun inner n names k r front behind i w h s t l b =
    record { front = front; behind = behind; tokens = t; longer = l; begins = b; found = ap (inner TaggedType names) (sym t) ∙ i TaggedType names (Specifier k) r w h s }

knows_tagged : (inner : ConstructReader) (n : ℕ) (names : Names) → Knows inner n → KnowsTagged (IsTaggedTree names) (is_sign marks.OpenBrace) (inner TaggedType names) n
knows_tagged inner n names i (Specifier (StructTag which_word.Struct tag)) r w h s = begun inner n names _ r _ _ i w h s refl (omega arith) refl
knows_tagged inner n names i (Specifier (StructTag which_word.Union tag)) r w h s = begun inner n names _ r _ _ i w h s refl (omega arith) refl
knows_tagged inner n names i (Specifier (StructBody which_word.Struct tag members)) r w h s = begun inner n names _ r _ _ i w h s refl (longer (tag_if tag ⨾ sign marks.OpenBrace ⨾ row_phrase members ⨾ sign marks.CloseBrace) r) refl
knows_tagged inner n names i (Specifier (StructBody which_word.Union tag members)) r w h s = begun inner n names _ r _ _ i w h s refl (longer (tag_if tag ⨾ sign marks.OpenBrace ⨾ row_phrase members ⨾ sign marks.CloseBrace) r) refl
knows_tagged inner n names i (Specifier (EnumTag tag)) r w h s = begun inner n names _ r _ _ i w h s refl (omega arith) refl
knows_tagged inner n names i (Specifier (EnumBody tag enumerators comma)) r w h s = begun inner n names _ r _ _ i w h s refl (longer (tag_if tag ⨾ sign marks.OpenBrace ⨾ list_phrase enumerators ⨾ comma_if comma ⨾ sign marks.CloseBrace) r) refl
knows_tagged inner n names i _ r w h s = absurd w

any_item : (names : Names) (typed : Bool) (e : Syntax) → IsFullItem names typed e → IsItem (IsTaggedTree names) names typed e
any_item names typed (Part (SpecWord word)) w = w
any_item names typed (Specifier k) w = w
any_item names typed _ w = absurd w

any_items : (names : Names) (typed : Bool) (es : Syntaxes) → AreFullItems names typed es → AreItems (IsTaggedTree names) names typed es
any_items names typed no_more w = tt
any_items names typed (more e es) w = (any_item names typed e w.0, any_items names (typed || types e) es w.1)

no_brace : (names : Names) → StopsAtSpecifiers (is_sign marks.OpenBrace) names
no_brace names typed (Sign p) h = cc
no_brace names typed _ h = refl

pub specifiers-complete : (inner : ConstructReader) (n : ℕ) (place : Place) (names : Names) (e : Syntax) (r : List Symbol) → Knows inner n → AreFullSpecifiers place names e → height_of e ≤ suc n
    → begins (goes_on names true) r ≡ false → begins (is_sign marks.OpenBrace) r ≡ false → read_specifiers (inner TaggedType names) (suc n) place names (tokens_then e r) ≡ Some (e, r)
specifiers-complete inner n place names (Specifier (Specs items)) r i w h g s =
    all_specifiers-complete (IsTaggedTree names) (is_sign marks.OpenBrace) (inner TaggedType names) n (suc n) place names items r
    (knows_tagged inner n names i) (no_brace names) (any_items names false items w.0, w.1) (omega arith) h s g
specifiers-complete inner n place names _ r i w h g s = absurd w
