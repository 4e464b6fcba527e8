-- What is read as a declarator, a type name or a parameter is one.
use Rattle.std.proofs.Common.{◌≡◌, ℕ, zero, suc, Bool, true, false, ◌&&◌, ◌||◌, List, [], ◌∷◌, ◌++◌, length, Option, None, Some, inl, inr, ap, refl, ◌∙◌, subst}
use Rattle.c_tree.specs.declared.keyword.Keyword.TheVariants as words
use Rattle.c_tree.specs.declared.punctuator.Punctuator.TheVariants as marks
use Rattle.c_tree.specs.Symbol.{Symbol, Word, Reserved, Sign}
use Rattle.c_tree.specs.Syntax.{Syntax, Specifier, Declarator, Part, TypeName, Param, Named, Nested, Unnamed, ArrayBound, VoidParams, Params, absent, present, Syntaxes, no_more, more}
use Rattle.c_tree.specs.Phrase.{phrase_then}
use Rattle.c_tree.specs.Tokens.{ellipsis_if, list_phrase, more_phrase, row_phrase, tokens_then}
use Rattle.c_grammar.specs.Symbols.{after_sign, after_keyword, begins, take_symbol, run_of, after_run, is_word, AreAll}
use Rattle.c_grammar.specs.Levels.{assignment_level}
use Rattle.c_grammar.specs.Names.{Names, is_type, with_param}
use Rattle.c_grammar.specs.Specifiers.{InTypeName, InParam}
use Rattle.c_grammar.specs.Nonterminal.{Form, Abstract, Either, may_name, may_omit, Expression, Specifiers, NameOfType, DeclaratorIn, Parameter}
use Rattle.c_grammar.specs.Grammar.{is_pointer_word, ArePointers, is_bound_word, is_nothing, is_taken_as_type, lone_void, IsList, AreSuffixes, IsSuffix, AreParams}
use Rattle.c_grammar.specs.Found.{Reader, if_there}
use Rattle.c_grammar.specs.Ways.DeclaratorSteps.{read_bound, read_params, after_void, read_param_list, begins_suffix, read_suffix, read_suffixes, pointers_of, after_pointers, begins_params, take_name, after_nesting, read_named, read_nested, read_unnamed, read_direct, read_declarator, begins_declarator, read_type_name, read_param}
use Rattle.c_grammar.proofs.Options.{bound, chosen, unless, when, which, parts, three_parts}
use Rattle.c_grammar.proofs.Front.{take_symbol_some, taken, taken_keyword, run-all, run-has}
use Rattle.c_grammar.proofs.Readers.{Stands, IsSound, finish}

record Suffix (names : Names) (ts : List Symbol) (e : Syntax) (r : List Symbol) : Type 0 where
  pub tokens : ts ≡ tokens_then e r
  pub well : IsSuffix names e

found_suffix : (names : Names) (ts : List Symbol) (x : Syntax) (t : List Symbol) (e : Syntax) (r : List Symbol)
    → ◌≡◌ {A = Option (Syntax × List Symbol)} (Some (x, t)) (Some (e, r)) → ts ≡ tokens_then x t → IsSuffix names x → Suffix names ts e r
found_suffix names ts x t e r h k w =
    let q = parts (x, t) (e, r) h in
    subst (λ y. Suffix names ts y r) q.0 (record { tokens = k ∙ ap (tokens_then x) q.1; well = w })

bound-sound : (inner : Reader) (n : ℕ) (names : Names) (words ts : List Symbol) (e : Syntax) (r : List Symbol)
    → IsSound inner n → AreAll is_bound_word words → read_bound inner names words ts ≡ Some (e, r) → Suffix names (Sign marks.OpenBracket ∷ (words ++ ts)) e r
bound-sound inner n names words ts e r s w h =
    elim (chosen (after_sign marks.CloseBracket ts) _ _ _ h) as (λ _. Suffix names (Sign marks.OpenBracket ∷ (words ++ ts)) e r) [
      | inl o ↦
          let a = bound (inner (Expression assignment_level) names ts) _ _ o.1 in
          let i = s (Expression assignment_level) names ts a.0.0 a.0.1 a.1 in
          let b = bound (after_sign marks.CloseBracket a.0.1) _ _ a.2 in
          found_suffix names _ (Part (ArrayBound words (present a.0.0))) b.0 e r b.2
          (ap (λ x. Sign marks.OpenBracket ∷ (words ++ x)) (i.tokens ∙ ap (tokens_then a.0.0) (taken marks.CloseBracket a.0.1 b.0 b.1)))
          (w, i.well)
      | inr o ↦
          found_suffix names _ (Part (ArrayBound words absent)) o.0 e r o.2
          (ap (λ x. Sign marks.OpenBracket ∷ (words ++ x)) (taken marks.CloseBracket ts o.0 o.1)) (w, tt)
    ]

abbrev pub IsMore : Syntaxes → Type 0
IsMore no_more = ⊥
IsMore (more e es) = Unit {0}

-- a list behind a comma is one whose members have commas in front
pub with_comma : (es : Syntaxes) (ts : List Symbol) → IsMore es → Sign marks.Comma ∷ phrase_then (list_phrase es) ts ≡ phrase_then (more_phrase es) ts
with_comma no_more ts h = absurd h
with_comma (more e es) ts h = refl

record Listed (names : Names) (ts : List Symbol) (es : Syntaxes) (variadic : Bool) (r : List Symbol) : Type 0 where
  pub tokens : ts ≡ phrase_then (list_phrase es) (phrase_then (ellipsis_if variadic) (Sign marks.CloseParen ∷ r))
  pub well : AreParams names es
  pub some : IsMore es

listed : (names : Names) (ts : List Symbol) (xs : Syntaxes) (v : Bool) (t : List Symbol) (es : Syntaxes) (variadic : Bool) (r : List Symbol)
    → ◌≡◌ {A = Option (Syntaxes × Bool × List Symbol)} (Some (xs, v, t)) (Some (es, variadic, r)) → Listed names ts xs v t → Listed names ts es variadic r
listed names ts xs v t es variadic r h l =
    let q = three_parts (xs, v, t) (es, variadic, r) h in
    subst (λ x. Listed names ts x variadic r) q.0 (subst (λ x. Listed names ts xs x r) q.1 (subst (λ x. Listed names ts xs v x) q.2 l))

params-sound : (inner : Reader) (n : ℕ) (names : Names) (f : ℕ) (ts : List Symbol) (es : Syntaxes) (variadic : Bool) (r : List Symbol)
    → IsSound inner n → read_params inner names f ts ≡ Some (es, variadic, r) → Listed names ts es variadic r
unfolding read_params
params-sound inner n names zero ts es variadic r s h = cc
params-sound inner n names (suc f) ts es variadic r s h =
    let a = bound (inner Parameter names ts) _ _ h in
    let i = s Parameter names ts a.0.0 a.0.1 a.1 in
    elim (chosen (after_sign marks.Comma a.0.1) _ _ _ a.2) as (λ _. Listed names ts es variadic r) [
      | inl p ↦
          let b = bound (after_sign marks.CloseParen a.0.1) _ _ p.1 in
          listed names ts (more a.0.0 no_more) false b.0 es variadic r b.2
          (record { tokens = i.tokens ∙ ap (tokens_then a.0.0) (taken marks.CloseParen a.0.1 b.0 b.1); well = (i.well, tt); some = tt })
      | inr p ↦
          let comma = i.tokens ∙ ap (tokens_then a.0.0) (taken marks.Comma a.0.1 p.0 p.1) in
          elim (chosen (after_sign marks.Ellipsis p.0) _ _ _ p.2) as (λ _. Listed names ts es variadic r) [
            | inl d ↦
                let b = bound (read_params inner (with_param a.0.0 names) f p.0) _ _ d.1 in
                let j = params-sound inner n (with_param a.0.0 names) f p.0 b.0.0 b.0.1 b.0.2 s b.1 in
                listed names ts (more a.0.0 b.0.0) b.0.1 b.0.2 es variadic r b.2
                (record {
                  tokens = comma ∙ ap (λ x. tokens_then a.0.0 (Sign marks.Comma ∷ x)) j.tokens ∙ ap (tokens_then a.0.0) (with_comma b.0.0 _ j.some);
                  well = (i.well, j.well);
                  some = tt;
                })
            | inr d ↦
                let b = bound (after_sign marks.CloseParen d.0) _ _ d.2 in
                listed names ts (more a.0.0 no_more) true b.0 es variadic r b.2
                (record {
                  tokens = comma ∙ ap (λ x. tokens_then a.0.0 (Sign marks.Comma ∷ x)) (taken marks.Ellipsis p.0 d.0 d.1 ∙ ap (λ x. Sign marks.Ellipsis ∷ x) (taken marks.CloseParen d.0 b.0 b.1));
                  well = (i.well, tt);
                  some = tt;
                })
          ]
    ]

is_list : (es : Syntaxes) (variadic : Bool) → IsMore es → (variadic ≡ false → es ≡ lone_void → ⊥) → IsList es variadic
is_list no_more variadic m h = absurd m
is_list (more e es) true m h = tt
is_list (more e es) false m h = h refl

void_found : (ts : List Symbol) (es : Syntaxes) (variadic : Bool) (r : List Symbol)
    → ts ≡ phrase_then (list_phrase es) (phrase_then (ellipsis_if variadic) (Sign marks.CloseParen ∷ r)) → after_void ts ≡ None → variadic ≡ false → es ≡ lone_void → ⊥
void_found ts es variadic r h n v l =
    let e : ts ≡ Reserved words.Void ∷ Sign marks.CloseParen ∷ r =
    h ∙ ap (λ x. phrase_then (list_phrase x) (phrase_then (ellipsis_if variadic) (Sign marks.CloseParen ∷ r))) l ∙ ap (λ x. Reserved words.Void ∷ phrase_then (ellipsis_if x) (Sign marks.CloseParen ∷ r)) v in
    let f : after_void ts ≡ Some r = ap after_void e in
    cc

param_list-sound : (inner : Reader) (n : ℕ) (names : Names) (ts : List Symbol) (e : Syntax) (r : List Symbol)
    → IsSound inner n → read_param_list inner names ts ≡ Some (e, r) → Suffix names (Sign marks.OpenParen ∷ ts) e r
param_list-sound inner n names ts e r s h =
    elim (chosen (after_sign marks.CloseParen ts) _ _ _ h) as (λ _. Suffix names (Sign marks.OpenParen ∷ ts) e r) [
      | inr o ↦
          found_suffix names _ (Part (Params no_more false)) o.0 e r o.2
          (ap (λ x. Sign marks.OpenParen ∷ x) (taken marks.CloseParen ts o.0 o.1)) (tt, λ x. cc x)
      | inl o ↦ elim (chosen (after_void ts) _ _ _ o.1) as (λ _. Suffix names (Sign marks.OpenParen ∷ ts) e r) [
        | inr v ↦
            let a = bound (after_keyword words.Void ts) _ _ v.1 in
            found_suffix names _ (Part VoidParams) v.0 e r v.2
            (ap (λ x. Sign marks.OpenParen ∷ x) (taken_keyword words.Void ts a.0 a.1 ∙ ap (λ x. Reserved words.Void ∷ x) (taken marks.CloseParen a.0 v.0 a.2))) tt
        | inl v ↦
            let a = bound (read_params inner names (length ts) ts) _ _ v.1 in
            let i = params-sound inner n names (length ts) ts a.0.0 a.0.1 a.0.2 s a.1 in
            found_suffix names _ (Part (Params a.0.0 a.0.1)) a.0.2 e r a.2
            (ap (λ x. Sign marks.OpenParen ∷ x) i.tokens) (i.well, is_list a.0.0 a.0.1 i.some (void_found ts a.0.0 a.0.1 a.0.2 i.tokens v.0))
      ]
    ]

suffix-sound : (inner : Reader) (n : ℕ) (names : Names) (ts : List Symbol) (e : Syntax) (r : List Symbol)
    → IsSound inner n → read_suffix inner names ts ≡ Some (e, r) → Suffix names ts e r
suffix-sound inner n names ts e r s h =
    elim (chosen (after_sign marks.OpenBracket ts) _ _ _ h) as (λ _. Suffix names ts e r) [
      | inl o ↦
          let a = bound (after_sign marks.OpenParen ts) _ _ o.1 in
          let i = param_list-sound inner n names a.0 e r s a.2 in
          record { tokens = taken marks.OpenParen ts a.0 a.1 ∙ i.tokens; well = i.well }
      | inr o ↦
          let i = bound-sound inner n names (run_of is_bound_word o.0) (after_run is_bound_word o.0) e r s (run-has is_bound_word o.0) o.2 in
          record { tokens = taken marks.OpenBracket ts o.0 o.1 ∙ ap (λ x. Sign marks.OpenBracket ∷ x) (run-all is_bound_word o.0) ∙ i.tokens; well = i.well }
    ]

record AllSuffixes (names : Names) (ts : List Symbol) (es : Syntaxes) (r : List Symbol) : Type 0 where
  pub tokens : ts ≡ phrase_then (row_phrase es) r
  pub well : AreSuffixes names es

no_suffix : (names : Names) (ts : List Symbol) (es : Syntaxes) (r : List Symbol) → ◌≡◌ {A = Option (Syntaxes × List Symbol)} (Some (no_more, ts)) (Some (es, r)) → AllSuffixes names ts es r
no_suffix names ts es r h =
    let q = parts (no_more, ts) (es, r) h in
    subst (λ x. AllSuffixes names ts x r) q.0 (record { tokens = q.1; well = tt })

suffixes-sound : (inner : Reader) (n : ℕ) (names : Names) (f : ℕ) (ts : List Symbol) (es : Syntaxes) (r : List Symbol)
    → IsSound inner n → read_suffixes inner names f ts ≡ Some (es, r) → AllSuffixes names ts es r
unfolding read_suffixes
suffixes-sound inner n names zero ts es r s h = let u = unless (begins begins_suffix ts) (Some (no_more, ts)) (es, r) h in no_suffix names ts es r u.1
suffixes-sound inner n names (suc f) ts es r s h =
    elim (which (begins begins_suffix ts) _ _ _ h) as (λ _. AllSuffixes names ts es r) [
      | inr o ↦ no_suffix names ts es r o.1
      | inl o ↦
          let a = bound (read_suffix inner names ts) _ _ o.1 in
          let i = suffix-sound inner n names ts a.0.0 a.0.1 s a.1 in
          let b = bound (read_suffixes inner names f a.0.1) _ _ a.2 in
          let j = suffixes-sound inner n names f a.0.1 b.0.0 b.0.1 s b.1 in
          let q = parts (more a.0.0 b.0.0, b.0.1) (es, r) b.2 in
          subst (λ x. AllSuffixes names ts x r) q.0 (record {
            tokens = i.tokens ∙ ap (tokens_then a.0.0) (j.tokens ∙ ap (λ x. phrase_then (row_phrase b.0.0) x) q.1);
            well = (i.well, j.well);
          })
    ]

pointers_all : (ts : List Symbol) (o : Option (List Symbol)) → after_sign marks.Star ts ≡ o → ts ≡ if_there o [] (λ rest. Sign marks.Star ∷ run_of is_pointer_word rest) ++ if_there o ts (λ rest. after_run is_pointer_word rest)
pointers_all ts None h = refl
pointers_all ts (Some rest) h = taken marks.Star ts rest h ∙ ap (λ x. Sign marks.Star ∷ x) (run-all is_pointer_word rest)

are_pointers : (o : Option (List Symbol)) → ArePointers (if_there o [] (λ rest. Sign marks.Star ∷ run_of is_pointer_word rest))
are_pointers None = tt
are_pointers (Some rest) = (refl, run-has is_pointer_word rest)

named-sound : (inner : Reader) (n m : ℕ) (form : Form) (names : Names) (all pointers : List Symbol) (name : Symbol) (ts : List Symbol) (e : Syntax) (r : List Symbol)
    → IsSound inner n → ArePointers pointers → all ≡ pointers ++ (name ∷ ts) → may_name form ≡ true → is_word name ≡ true → read_named inner m names pointers name ts ≡ Some (e, r) → Stands m (DeclaratorIn form) names all e r
named-sound inner n m form names all pointers name ts e r s p k f w h =
    let a = bound (read_suffixes inner names (length ts) ts) _ _ h in
    let i = suffixes-sound inner n names (length ts) ts a.0.0 a.0.1 s a.1 in
    finish m (DeclaratorIn form) names all (Declarator (Named pointers name a.0.0)) a.0.1 e r a.2
    (k ∙ ap (λ x. pointers ++ (name ∷ x)) i.tokens) (f, p, w, i.well)

by_type : (b : Bool) → (true && (false || ((true && b) || false))) ≡ false → b ≡ false
by_type true h = cc
by_type false h = refl

-- behind a "(" that doesn't begin parameters stands no name of a type
not_taken : (form : Form) (names : Names) (d : Syntax) (r : List Symbol) → (may_omit form && begins (begins_params names) (tokens_then d r)) ≡ false → is_taken_as_type form names d ≡ false
not_taken Either names (Declarator (Named [] (Word name) suffixes)) r h = by_type (is_type names name) h
not_taken _ names _ r h = refl

nested-sound : (inner : Reader) (n m : ℕ) (form : Form) (names : Names) (all pointers inside : List Symbol) (e : Syntax) (r : List Symbol)
    → IsSound inner n → ArePointers pointers → all ≡ pointers ++ (Sign marks.OpenParen ∷ inside) → (may_omit form && begins (begins_params names) inside) ≡ false
    → read_nested inner m form names pointers inside ≡ Some (e, r) → Stands m (DeclaratorIn form) names all e r
nested-sound inner n m form names all pointers inside e r s p k b h =
    let a = bound (inner (DeclaratorIn form) names inside) _ _ h in
    let i = s (DeclaratorIn form) names inside a.0.0 a.0.1 a.1 in
    let c = bound (after_sign marks.CloseParen a.0.1) _ _ a.2 in
    let d = bound (read_suffixes inner names (length c.0) c.0) _ _ c.2 in
    let j = suffixes-sound inner n names (length c.0) c.0 d.0.0 d.0.1 s d.1 in
    let free : is_taken_as_type form names a.0.0 ≡ false =
    not_taken form names a.0.0 a.0.1 (subst (λ x. (may_omit form && begins (begins_params names) x) ≡ false) i.tokens b) in
    finish m (DeclaratorIn form) names all (Declarator (Nested pointers a.0.0 d.0.0)) d.0.1 e r d.2
    (k ∙ ap (λ x. pointers ++ (Sign marks.OpenParen ∷ x)) (i.tokens ∙ ap (tokens_then a.0.0) (taken marks.CloseParen a.0.1 c.0 c.1 ∙ ap (λ x. Sign marks.CloseParen ∷ x) j.tokens)))
    (p, i.well, free, j.well)

unnamed-sound : (inner : Reader) (n m : ℕ) (form : Form) (names : Names) (all pointers ts : List Symbol) (e : Syntax) (r : List Symbol)
    → IsSound inner n → ArePointers pointers → all ≡ pointers ++ ts → read_unnamed inner m form names pointers ts ≡ Some (e, r) → Stands m (DeclaratorIn form) names all e r
unnamed-sound inner n m form names all pointers ts e r s p k h =
    let f = when (may_omit form) _ _ h in
    let a = bound (read_suffixes inner names (length ts) ts) _ _ f.1 in
    let i = suffixes-sound inner n names (length ts) ts a.0.0 a.0.1 s a.1 in
    let u = unless (is_nothing pointers a.0.0) _ _ a.2 in
    finish m (DeclaratorIn form) names all (Declarator (Unnamed pointers a.0.0)) a.0.1 e r u.1 (k ∙ ap (λ x. pointers ++ x) i.tokens) (f.0, p, i.well, u.0)

direct-sound : (inner : Reader) (n m : ℕ) (form : Form) (names : Names) (all pointers ts : List Symbol) (e : Syntax) (r : List Symbol)
    → IsSound inner n → ArePointers pointers → all ≡ pointers ++ ts → read_direct inner m form names pointers ts ≡ Some (e, r) → Stands m (DeclaratorIn form) names all e r
direct-sound inner n m form names all pointers ts e r s p k h =
    elim (chosen (take_name form ts) _ _ _ h) as (λ _. Stands m (DeclaratorIn form) names all e r) [
      | inr o ↦
          let f = when (may_name form) (take_symbol is_word ts) o.0 o.1 in
          let t = take_symbol_some is_word ts o.0.0 o.0.1 f.1 in
          named-sound inner n m form names all pointers o.0.0 o.0.1 e r s p (k ∙ ap (λ x. pointers ++ x) t.0) f.0 t.1 o.2
      | inl o ↦ elim (chosen (after_nesting form names ts) _ _ _ o.1) as (λ _. Stands m (DeclaratorIn form) names all e r) [
        | inl i ↦ unnamed-sound inner n m form names all pointers ts e r s p k i.1
        | inr i ↦
            let a = bound (after_sign marks.OpenParen ts) _ _ i.1 in
            let u = unless (may_omit form && begins (begins_params names) a.0) (Some a.0) i.0 a.2 in
            let same_inside : a.0 ≡ i.0 = cc in
            nested-sound inner n m form names all pointers i.0 e r s p
            (k ∙ ap (λ x. pointers ++ x) (taken marks.OpenParen ts a.0 a.1 ∙ ap (λ x. Sign marks.OpenParen ∷ x) same_inside))
            (subst (λ x. (may_omit form && begins (begins_params names) x) ≡ false) same_inside u.0) i.2
      ]
    ]

pub declarator-sound : (inner : Reader) (n m : ℕ) (form : Form) (names : Names) (ts : List Symbol) (e : Syntax) (r : List Symbol)
    → IsSound inner n → read_declarator inner m form names ts ≡ Some (e, r) → Stands m (DeclaratorIn form) names ts e r
declarator-sound inner n m form names ts e r s h =
    direct-sound inner n m form names ts (pointers_of ts) (after_pointers ts) e r s (are_pointers (after_sign marks.Star ts)) (pointers_all ts (after_sign marks.Star ts) refl) h

pub type_name-sound : (inner : Reader) (n m : ℕ) (names : Names) (ts : List Symbol) (e : Syntax) (r : List Symbol)
    → IsSound inner n → read_type_name inner m names ts ≡ Some (e, r) → Stands m NameOfType names ts e r
type_name-sound inner n m names ts e r s h =
    let a = bound (inner (Specifiers InTypeName) names ts) _ _ h in
    let i = s (Specifiers InTypeName) names ts a.0.0 a.0.1 a.1 in
    elim (which (begins (begins_declarator Abstract) a.0.1) _ _ _ a.2) as (λ _. Stands m NameOfType names ts e r) [
      | inl o ↦
          let b = bound (inner (DeclaratorIn Abstract) names a.0.1) _ _ o.1 in
          let j = s (DeclaratorIn Abstract) names a.0.1 b.0.0 b.0.1 b.1 in
          finish m NameOfType names ts (Specifier (TypeName a.0.0 (present b.0.0))) b.0.1 e r b.2 (i.tokens ∙ ap (tokens_then a.0.0) j.tokens) (i.well, j.well)
      | inr o ↦ finish m NameOfType names ts (Specifier (TypeName a.0.0 absent)) a.0.1 e r o.1 i.tokens (i.well, tt)
    ]

pub param-sound : (inner : Reader) (n m : ℕ) (names : Names) (ts : List Symbol) (e : Syntax) (r : List Symbol)
    → IsSound inner n → read_param inner m names ts ≡ Some (e, r) → Stands m Parameter names ts e r
param-sound inner n m names ts e r s h =
    let a = bound (inner (Specifiers InParam) names ts) _ _ h in
    let i = s (Specifiers InParam) names ts a.0.0 a.0.1 a.1 in
    elim (which (begins (begins_declarator Either) a.0.1) _ _ _ a.2) as (λ _. Stands m Parameter names ts e r) [
      | inl o ↦
          let b = bound (inner (DeclaratorIn Either) names a.0.1) _ _ o.1 in
          let j = s (DeclaratorIn Either) names a.0.1 b.0.0 b.0.1 b.1 in
          finish m Parameter names ts (Specifier (Param a.0.0 (present b.0.0))) b.0.1 e r b.2 (i.tokens ∙ ap (tokens_then a.0.0) j.tokens) (i.well, j.well)
      | inr o ↦ finish m Parameter names ts (Specifier (Param a.0.0 absent)) a.0.1 e r o.1 i.tokens (i.well, tt)
    ]
