-- Each declarator, parameter and type name is read, where what follows doesn't go on with it.
use Rattle.std.proofs.Common.{◌≡◌, ℕ, zero, suc, ◌<◌, ◌≤◌, Bool, true, false, cond, List, [], ◌∷◌, ◌++◌, length, Option, None, Some, ap, refl, ◌∙◌, arith}
use Rattle.c_tree.specs.declared.keyword.Keyword.TheVariants as words
use Rattle.c_tree.specs.declared.operator.StructOrUnion.TheVariants as which_word
use Rattle.c_tree.specs.declared.punctuator.Punctuator.TheVariants as marks
use Rattle.c_tree.specs.Symbol.{Symbol, Word, Reserved, Sign}
use Rattle.c_tree.specs.Syntax.{Syntax, Specifier, Declarator, Part, TypeName, Specs, StructTag, EnumTag, Param, Named, Nested, Unnamed, SpecWord, ArrayBound, VoidParams, Params, MaybeSyntax, absent, present, Syntaxes, no_more, more}
use Rattle.c_tree.specs.Height.{height_of, height_maybe, height_in}
use Rattle.c_tree.specs.Phrase.{phrase_then}
use Rattle.c_tree.specs.Tokens.{phrase_of, maybe_phrase, row_phrase, list_phrase, more_phrase, ellipsis_if, tokens_then}
use Rattle.c_grammar.specs.Symbols.{is_sign, is_word, after_sign, begins}
use Rattle.c_grammar.specs.Levels.{assignment_level}
use Rattle.c_grammar.specs.Names.{Names, with_param}
use Rattle.c_grammar.specs.Specifiers.{Place, InTypeName, InParam, begins_specifiers, fit}
use Rattle.c_grammar.specs.Nonterminal.{Form, Abstract, Either, may_name, may_omit, Expression, Specifiers, DeclaratorIn, Parameter}
use Rattle.c_grammar.specs.Grammar.{IsTag, AreItems, IsMaybeDeclarator, IsTypeName, IsDeclarator, AreSuffixes, IsSuffix, IsBound, IsParam, AreParams, IsList, ArePointers, is_bound_word, is_pointer_word}
use Rattle.c_grammar.specs.Found.{Found, Reader}
use Rattle.c_grammar.specs.Following.{goes_on_declaring}
use Rattle.c_grammar.specs.Ways.DeclaratorSteps.{read_bound, read_params, after_void, read_param_list, begins_suffix, read_suffix, read_suffixes, pointers_of, after_pointers, begins_params, take_name, after_nesting, read_direct, read_declarator, begins_declarator, read_type_name, read_param}
use Rattle.c_grammar.proofs.Options.{made_low, neither, or_true}
use Rattle.c_grammar.proofs.Front.{after_none, take_symbol_here, take_symbol_none, run_of-here, after_run-here}
use Rattle.c_grammar.proofs.Readers.{Knows}
use Rattle.c_grammar.proofs.Longer.{count, longer, longer_more, longer_suffixes}
use Rattle.c_grammar.proofs.Begins.{differ, narrower, wider, expression_no_sign, expression_no_bound_word, param_begins, param_no_sign, declarator_begins, declarator_no_close, before_declarator, nested_no_params}
use Rattle.c_grammar.proofs.Stops.{ends_specifiers, ends_word, ends_suffix, ends_pointers, ends_declarator, no_star}
use Rattle.c_grammar.proofs.CompleteSpecifiers.{fit_typed, item_no_sign}

bound-complete : (inner : Reader) (n : ℕ) (names : Names) (words : List Symbol) (bound : MaybeSyntax) (r : List Symbol) → Knows inner n → IsBound names bound → height_maybe bound ≤ n
    → read_bound inner names words (phrase_then (maybe_phrase bound) (Sign marks.CloseBracket ∷ r)) ≡ Some (Part (ArrayBound words bound), r)
bound-complete inner n names words absent r k w h = refl
bound-complete inner n names words (present e) r k w h =
    rw (expression_no_sign marks.CloseBracket names e (Sign marks.CloseBracket ∷ r) (omega arith) w.1, k (Expression assignment_level) names e (Sign marks.CloseBracket ∷ r) w h (omega arith)) refl

bound_no_word : (names : Names) (bound : MaybeSyntax) (r : List Symbol) → IsBound names bound → begins is_bound_word (phrase_then (maybe_phrase bound) (Sign marks.CloseBracket ∷ r)) ≡ false
bound_no_word names absent r w = refl
bound_no_word names (present e) r w = expression_no_bound_word names e (Sign marks.CloseBracket ∷ r) w.1

params-complete : (inner : Reader) (n : ℕ) (names : Names) (f : ℕ) (e : Syntax) (es : Syntaxes) (variadic : Bool) (r : List Symbol) → Knows inner n → IsParam names e → height_of e ≤ n → AreParams (with_param e names) es → height_in es ≤ n → count es < f
    → read_params inner names f (tokens_then e (phrase_then (more_phrase es) (phrase_then (ellipsis_if variadic) (Sign marks.CloseParen ∷ r)))) ≡ Some (more e es, variadic, r)
unfolding read_params
params-complete inner n names zero e es variadic r k w h ws hs c = absurd (omega arith)
params-complete inner n names (suc f) e no_more false r k w h ws hs c = rw (k Parameter names e (Sign marks.CloseParen ∷ r) w h refl) refl
params-complete inner n names (suc f) e no_more true r k w h ws hs c = rw (k Parameter names e (Sign marks.Comma ∷ Sign marks.Ellipsis ∷ Sign marks.CloseParen ∷ r) w h refl) refl
params-complete inner n names (suc f) e (more e2 es) variadic r k w h ws hs c =
    let Y = phrase_then (more_phrase es) (phrase_then (ellipsis_if variadic) (Sign marks.CloseParen ∷ r)) in
    rw (
      k Parameter names e (Sign marks.Comma ∷ tokens_then e2 Y) w h refl,
      param_no_sign marks.Ellipsis (with_param e names) e2 Y ws.0,
      params-complete inner n (with_param e names) f e2 es variadic r k ws.0 (omega arith) ws.1 (omega arith) (omega arith),
    ) refl

-- A parameter that begins with `void` isn't closed behind it, unless it is the only one.
no_void_declarator : (names : Names) (declarator : MaybeSyntax) (es : Syntaxes) (variadic : Bool) (r : List Symbol)
    → IsList (more (Specifier (Param (Specifier (Specs (more (Part (SpecWord (Reserved words.Void))) no_more))) declarator)) es) variadic → IsMaybeDeclarator Either names declarator
    → after_sign marks.CloseParen (phrase_then (maybe_phrase declarator) (phrase_then (more_phrase es) (phrase_then (ellipsis_if variadic) (Sign marks.CloseParen ∷ r)))) ≡ None
no_void_declarator names (present d) es variadic r l w =
    let X = phrase_then (more_phrase es) (phrase_then (ellipsis_if variadic) (Sign marks.CloseParen ∷ r)) in
    after_none (is_sign marks.CloseParen) (tokens_then d X) (differ (begins_declarator Either) (is_sign marks.CloseParen) (tokens_then d X) (declarator_no_close Either) (declarator_begins Either names d X w))
no_void_declarator names absent (more p ps) variadic r l w = refl
no_void_declarator names absent no_more true r l w = refl
no_void_declarator names absent no_more false r l w = absurd (l refl)

no_void_items : (names : Names) (items : Syntaxes) (declarator : MaybeSyntax) (es : Syntaxes) (variadic : Bool) (r : List Symbol)
    → AreItems IsTag names false items → 0 < count items → IsList (more (Specifier (Param (Specifier (Specs items)) declarator)) es) variadic → IsMaybeDeclarator Either names declarator
    → after_void (phrase_then (row_phrase items) (phrase_then (maybe_phrase declarator) (phrase_then (more_phrase es) (phrase_then (ellipsis_if variadic) (Sign marks.CloseParen ∷ r))))) ≡ None
no_void_items names no_more declarator es variadic r w c l d = absurd (omega arith)
no_void_items names (more (Part (SpecWord (Reserved words.Void))) no_more) declarator es variadic r w c l d = no_void_declarator names declarator es variadic r l d
no_void_items names (more (Part (SpecWord (Reserved words.Void))) (more i is)) declarator es variadic r w c l d = item_no_sign marks.CloseParen names true i _ w.1.0
no_void_items names (more (Part (SpecWord (Reserved _))) is) declarator es variadic r w c l d = refl
no_void_items names (more (Part (SpecWord _)) is) declarator es variadic r w c l d = refl
no_void_items names (more (Specifier (StructTag which_word.Struct tag)) is) declarator es variadic r w c l d = refl
no_void_items names (more (Specifier (StructTag which_word.Union tag)) is) declarator es variadic r w c l d = refl
no_void_items names (more (Specifier (EnumTag tag)) is) declarator es variadic r w c l d = refl
no_void_items names (more _ is) declarator es variadic r w c l d = absurd w.0

fit_some : (place : Place) (items : Syntaxes) → fit place items ≡ true → 0 < count items
fit_some place no_more h = let a = fit_typed place no_more h in cc
fit_some place (more e es) h = omega arith

no_void : (names : Names) (e : Syntax) (es : Syntaxes) (variadic : Bool) (r : List Symbol) → IsParam names e → IsList (more e es) variadic
    → after_void (tokens_then e (phrase_then (more_phrase es) (phrase_then (ellipsis_if variadic) (Sign marks.CloseParen ∷ r)))) ≡ None
no_void names (Specifier (Param (Specifier (Specs items)) declarator)) es variadic r w l =
    no_void_items names items declarator es variadic r w.0.0 (fit_some InParam items w.0.1) l w.1
no_void names (Specifier (Param _ declarator)) es variadic r w l = absurd w.0
no_void names _ es variadic r w l = absurd w

param_list-complete : (inner : Reader) (n : ℕ) (names : Names) (es : Syntaxes) (variadic : Bool) (r : List Symbol) → Knows inner n → AreParams names es → IsList es variadic → height_in es ≤ n
    → read_param_list inner names (phrase_then (list_phrase es) (phrase_then (ellipsis_if variadic) (Sign marks.CloseParen ∷ r))) ≡ Some (Part (Params es variadic), r)
param_list-complete inner n names no_more false r k w l h = refl
param_list-complete inner n names no_more true r k w l h = absurd l
param_list-complete inner n names (more e es) variadic r k w l h =
    let Y = phrase_then (ellipsis_if variadic) (Sign marks.CloseParen ∷ r) in
    let X = phrase_then (more_phrase es) Y in
    let a = longer (phrase_of e) X in
    let b = longer_more es Y in
    let c = longer (ellipsis_if variadic) (Sign marks.CloseParen ∷ r) in
    let d : count es < length (tokens_then e X) = omega (arith, a, b, c) in
    rw (
      param_no_sign marks.CloseParen names e X w.0,
      no_void names e es variadic r w.0 l,
      params-complete inner n names (length (tokens_then e X)) e es variadic r k w.0 (omega arith) w.1 (omega arith) d,
    ) refl

suffix_begins : (names : Names) (e : Syntax) (r : List Symbol) → IsSuffix names e → begins begins_suffix (tokens_then e r) ≡ true
suffix_begins names (Part (ArrayBound words bound)) r w = refl
suffix_begins names (Part VoidParams) r w = refl
suffix_begins names (Part (Params params variadic)) r w = refl
suffix_begins names _ r w = absurd w

suffix-complete : (inner : Reader) (n : ℕ) (names : Names) (e : Syntax) (r : List Symbol) → Knows inner n → IsSuffix names e → height_of e ≤ n → read_suffix inner names (tokens_then e r) ≡ Some (e, r)
suffix-complete inner n names (Part (ArrayBound words bound)) r k w h =
    let Y = phrase_then (maybe_phrase bound) (Sign marks.CloseBracket ∷ r) in
    let b = bound_no_word names bound r w.1 in
    rw (run_of-here is_bound_word words Y w.0 b, after_run-here is_bound_word words Y w.0 b) (bound-complete inner n names words bound r k w.1 h)
suffix-complete inner n names (Part VoidParams) r k w h = refl
suffix-complete inner n names (Part (Params params variadic)) r k w h = param_list-complete inner n names params variadic r k w.0 w.1 h
suffix-complete inner n names _ r k w h = absurd w

suffixes-more : (inner : Reader) (n : ℕ) (names : Names) (f : ℕ) (es : Syntaxes) (r : List Symbol) → Knows inner n → AreSuffixes names es → height_in es ≤ n → begins begins_suffix r ≡ false → count es ≤ f
    → read_suffixes inner names f (phrase_then (row_phrase es) r) ≡ Some (es, r)
unfolding read_suffixes
suffixes-more inner n names zero no_more r k w h s c = rw s refl
suffixes-more inner n names zero (more e es) r k w h s c = absurd (omega arith)
suffixes-more inner n names (suc f) no_more r k w h s c = rw s refl
suffixes-more inner n names (suc f) (more e es) r k w h s c =
    let X = phrase_then (row_phrase es) r in
    rw (suffix_begins names e X w.0, suffix-complete inner n names e X k w.0 (omega arith), suffixes-more inner n names f es r k w.1 (omega arith) s (omega arith)) refl

pub suffixes-complete : (inner : Reader) (n : ℕ) (names : Names) (es : Syntaxes) (r : List Symbol) → Knows inner n → AreSuffixes names es → height_in es ≤ n → begins begins_suffix r ≡ false
    → read_suffixes inner names (length (phrase_then (row_phrase es) r)) (phrase_then (row_phrase es) r) ≡ Some (es, r)
suffixes-complete inner n names es r k w h s =
    let a = longer_suffixes names es r w in
    suffixes-more inner n names (length (phrase_then (row_phrase es) r)) es r k w h s (omega (arith, a))

-- the pointers in front are found
pointers-complete : (pointers rest : List Symbol) → ArePointers pointers → begins is_pointer_word rest ≡ false → (pointers_of (pointers ++ rest) ≡ pointers) × (after_pointers (pointers ++ rest) ≡ rest)
pointers-complete [] rest w h =
    let a = after_none (is_sign marks.Star) rest (narrower is_pointer_word (is_sign marks.Star) rest no_star h) in
    (rw a refl, rw a refl)
pointers-complete (Sign marks.Star ∷ ps) rest w h = (ap (λ x. Sign marks.Star ∷ x) (run_of-here is_pointer_word ps rest w.1 h), after_run-here is_pointer_word ps rest w.1 h)
pointers-complete (Sign _ ∷ ps) rest w h = let a = w.0 in cc
pointers-complete (_ ∷ ps) rest w h = let a = w.0 in cc

word_no_pointer : (t : Symbol) → is_word t ≡ true → is_pointer_word t ≡ false
word_no_pointer (Word name) h = refl
word_no_pointer _ h = cc

-- behind the pointers
direct-complete : (inner : Reader) (m : ℕ) (form : Form) (names : Names) (pointers rest : List Symbol) (y : Option Found) → ArePointers pointers → begins is_pointer_word rest ≡ false
    → read_direct inner m form names pointers rest ≡ y → read_declarator inner m form names (pointers ++ rest) ≡ y
direct-complete inner m form names pointers rest y w s h = let a = pointers-complete pointers rest w s in rw (a.0, a.1) h

named-complete : (inner : Reader) (n : ℕ) (form : Form) (names : Names) (pointers : List Symbol) (name : Symbol) (es : Syntaxes) (r : List Symbol) → Knows inner n → IsDeclarator form names (Declarator (Named pointers name es))
    → height_of (Declarator (Named pointers name es)) ≤ suc n → begins (goes_on_declaring names) r ≡ false
    → read_declarator inner (suc n) form names (tokens_then (Declarator (Named pointers name es)) r) ≡ Some (Declarator (Named pointers name es), r)
named-complete inner n form names pointers name es r k w h s =
    let Z = phrase_then (row_phrase es) r in
    direct-complete inner (suc n) form names pointers (name ∷ Z) (Some (Declarator (Named pointers name es), r)) w.1 (word_no_pointer name w.2)
    (rw (w.0, take_symbol_here is_word name Z w.2, suffixes-complete inner n names es r k w.3 (omega arith) (ends_suffix names r s)) (made_low (suc n) (Declarator (Named pointers name es)) r h))

cond_none : {A : Type 0} (b : Bool) → ◌≡◌ {A = Option A} (cond b None None) None
cond_none true = refl
cond_none false = refl

nested-complete : (inner : Reader) (n : ℕ) (form : Form) (names : Names) (pointers : List Symbol) (e : Syntax) (es : Syntaxes) (r : List Symbol) → Knows inner n → IsDeclarator form names (Declarator (Nested pointers e es))
    → height_of (Declarator (Nested pointers e es)) ≤ suc n → begins (goes_on_declaring names) r ≡ false
    → read_declarator inner (suc n) form names (tokens_then (Declarator (Nested pointers e es)) r) ≡ Some (Declarator (Nested pointers e es), r)
nested-complete inner n form names pointers e es r k w h s =
    let Z = phrase_then (row_phrase es) r in
    let X = tokens_then e (Sign marks.CloseParen ∷ Z) in
    let a : take_name form (Sign marks.OpenParen ∷ X) ≡ None = cond_none (may_name form) in
    let F : Bool → Option (List Symbol) = λ b. cond b None (Some X) in
    let b : after_nesting form names (Sign marks.OpenParen ∷ X) ≡ Some X = ap F (nested_no_params form names e (Sign marks.CloseParen ∷ Z) w.1 w.2) in
    direct-complete inner (suc n) form names pointers (Sign marks.OpenParen ∷ X) (Some (Declarator (Nested pointers e es), r)) w.0 refl
    (rw (a, b, k (DeclaratorIn form) names e (Sign marks.CloseParen ∷ Z) w.1 (omega arith) refl, suffixes-complete inner n names es r k w.3 (omega arith) (ends_suffix names r s))
    (made_low (suc n) (Declarator (Nested pointers e es)) r h))

-- where what follows a declarator without a name, or its suffixes, has this property
suffixes_begin : (p : Symbol → Bool) (names : Names) (es : Syntaxes) (r : List Symbol) → p (Sign marks.OpenBracket) ≡ false → p (Sign marks.OpenParen) ≡ false → AreSuffixes names es → begins p r ≡ false → begins p (phrase_then (row_phrase es) r) ≡ false
suffixes_begin p names no_more r a b w s = s
suffixes_begin p names (more (Part (ArrayBound words bound)) es) r a b w s = a
suffixes_begin p names (more (Part VoidParams) es) r a b w s = b
suffixes_begin p names (more (Part (Params params variadic)) es) r a b w s = b
suffixes_begin p names (more _ es) r a b w s = absurd w.0

params_begin : (names : Names) (es : Syntaxes) (variadic : Bool) (r : List Symbol) → AreParams names es → IsList es variadic
    → begins (begins_params names) (phrase_then (list_phrase es) (phrase_then (ellipsis_if variadic) (Sign marks.CloseParen ∷ r))) ≡ true
params_begin names no_more false r w l = refl
params_begin names no_more true r w l = absurd l
params_begin names (more e es) variadic r w l =
    let X = tokens_then e (phrase_then (more_phrase es) (phrase_then (ellipsis_if variadic) (Sign marks.CloseParen ∷ r))) in
    wider (begins_specifiers names) (begins_params names) X (λ t h. or_true (is_sign marks.CloseParen t) (begins_specifiers names t) h) (param_begins names e _ w.0)

no_nesting : (form : Form) (names : Names) (ts : List Symbol) → may_omit form ≡ true → begins (begins_params names) ts ≡ true → after_nesting form names (Sign marks.OpenParen ∷ ts) ≡ None
no_nesting form names ts o h = rw (o, h) refl

unnamed_no_nesting : (form : Form) (names : Names) (es : Syntaxes) (r : List Symbol) → may_omit form ≡ true → AreSuffixes names es → begins (goes_on_declaring names) r ≡ false → after_nesting form names (phrase_then (row_phrase es) r) ≡ None
unnamed_no_nesting form names no_more r o w s =
    let a = after_none (is_sign marks.OpenParen) r (narrower begins_suffix (is_sign marks.OpenParen) r (λ t h. (neither (is_sign marks.OpenBracket t) (is_sign marks.OpenParen t) h).1) (ends_suffix names r s)) in
    rw a refl
unnamed_no_nesting form names (more (Part (ArrayBound words bound)) es) r o w s = refl
unnamed_no_nesting form names (more (Part VoidParams) es) r o w s = no_nesting form names (Reserved words.Void ∷ Sign marks.CloseParen ∷ phrase_then (row_phrase es) r) o refl
unnamed_no_nesting form names (more (Part (Params params variadic)) es) r o w s =
    no_nesting form names (phrase_then (list_phrase params) (phrase_then (ellipsis_if variadic) (Sign marks.CloseParen ∷ phrase_then (row_phrase es) r))) o (params_begin names params variadic (phrase_then (row_phrase es) r) w.0.0 w.0.1)
unnamed_no_nesting form names (more _ es) r o w s = absurd w.0

unnamed-complete : (inner : Reader) (n : ℕ) (form : Form) (names : Names) (pointers : List Symbol) (es : Syntaxes) (r : List Symbol) → Knows inner n → IsDeclarator form names (Declarator (Unnamed pointers es))
    → height_of (Declarator (Unnamed pointers es)) ≤ suc n → begins (goes_on_declaring names) r ≡ false
    → read_declarator inner (suc n) form names (tokens_then (Declarator (Unnamed pointers es)) r) ≡ Some (Declarator (Unnamed pointers es), r)
unnamed-complete inner n form names pointers es r k w h s =
    let Z = phrase_then (row_phrase es) r in
    let c = take_symbol_none is_word Z (suffixes_begin is_word names es r refl refl w.2 (ends_word names r s)) in
    let F : Option (Symbol × List Symbol) → Option (Symbol × List Symbol) = λ o. cond (may_name form) o None in
    let a : take_name form Z ≡ None = ap F c ∙ cond_none (may_name form) in
    direct-complete inner (suc n) form names pointers Z (Some (Declarator (Unnamed pointers es), r)) w.1 (suffixes_begin is_pointer_word names es r refl refl w.2 (ends_pointers names r s))
    (rw (a, unnamed_no_nesting form names es r w.0 w.2 s, w.0, suffixes-complete inner n names es r k w.2 (omega arith) (ends_suffix names r s), w.3)
    (made_low (suc n) (Declarator (Unnamed pointers es)) r h))

pub declarator-complete : (inner : Reader) (n : ℕ) (form : Form) (names : Names) (e : Syntax) (r : List Symbol) → Knows inner n → IsDeclarator form names e → height_of e ≤ suc n → begins (goes_on_declaring names) r ≡ false
    → read_declarator inner (suc n) form names (tokens_then e r) ≡ Some (e, r)
declarator-complete inner n form names (Declarator (Named pointers name es)) r k w h s = named-complete inner n form names pointers name es r k w h s
declarator-complete inner n form names (Declarator (Nested pointers e es)) r k w h s = nested-complete inner n form names pointers e es r k w h s
declarator-complete inner n form names (Declarator (Unnamed pointers es)) r k w h s = unnamed-complete inner n form names pointers es r k w h s
declarator-complete inner n form names _ r k w h s = absurd w

pub type_name-complete : (inner : Reader) (n : ℕ) (names : Names) (e : Syntax) (r : List Symbol) → Knows inner n → IsTypeName names e → height_of e ≤ suc n → begins (goes_on_declaring names) r ≡ false
    → read_type_name inner (suc n) names (tokens_then e r) ≡ Some (e, r)
type_name-complete inner n names (Specifier (TypeName specs absent)) r k w h s =
    rw (k (Specifiers InTypeName) names specs r w.0 (omega arith) (ends_specifiers names r s), ends_declarator Abstract names r s) (made_low (suc n) (Specifier (TypeName specs absent)) r h)
type_name-complete inner n names (Specifier (TypeName specs (present d))) r k w h s =
    rw (
      k (Specifiers InTypeName) names specs (tokens_then d r) w.0 (omega arith) (before_declarator Abstract names d r w.1),
      declarator_begins Abstract names d r w.1,
      k (DeclaratorIn Abstract) names d r w.1 (omega arith) s,
    ) (made_low (suc n) (Specifier (TypeName specs (present d))) r h)
type_name-complete inner n names _ r k w h s = absurd w

pub param-complete : (inner : Reader) (n : ℕ) (names : Names) (e : Syntax) (r : List Symbol) → Knows inner n → IsParam names e → height_of e ≤ suc n → begins (goes_on_declaring names) r ≡ false
    → read_param inner (suc n) names (tokens_then e r) ≡ Some (e, r)
param-complete inner n names (Specifier (Param specs absent)) r k w h s =
    rw (k (Specifiers InParam) names specs r w.0 (omega arith) (ends_specifiers names r s), ends_declarator Either names r s) (made_low (suc n) (Specifier (Param specs absent)) r h)
param-complete inner n names (Specifier (Param specs (present d))) r k w h s =
    rw (
      k (Specifiers InParam) names specs (tokens_then d r) w.0 (omega arith) (before_declarator Either names d r w.1),
      declarator_begins Either names d r w.1,
      k (DeclaratorIn Either) names d r w.1 (omega arith) s,
    ) (made_low (suc n) (Specifier (Param specs (present d))) r h)
param-complete inner n names _ r k w h s = absurd w
