-- What is read as an initial value or a declaration is one.
use Rattle.std.proofs.Common.{◌≡◌, ℕ, zero, suc, Bool, true, false, not, List, ◌∷◌, length, Some, inl, inr, ap, refl, ◌∙◌, sym, subst}
use Rattle.c_tree.specs.declared.punctuator.Punctuator.TheVariants as marks
use Rattle.c_tree.specs.Symbol.{Symbol, Word, Sign}
use Rattle.c_tree.specs.Syntax.{Syntax, Primary, Operation, Initializer, Declarator, Outer, Ident, Init, Braces, Declaration, Syntaxes, no_more, more}
use Rattle.c_tree.specs.Tokens.{tokens_then}
use Rattle.c_grammar.specs.Symbols.{after_sign, begins, is_sign}
use Rattle.c_grammar.specs.Levels.{assignment_level}
use Rattle.c_grammar.specs.Names.{Names, name_of, with_name}
use Rattle.c_grammar.specs.Specifiers.{InDeclaration}
use Rattle.c_grammar.specs.Nonterminal.{WithName, Expression, DeclaratorIn}
use Rattle.c_grammar.specs.Grammar.{IsDeclarator, IsOf as IsOfBelow}
use Rattle.c_grammar.specs.Found.{Reader}
use Rattle.c_grammar.proofs.Options.{bound, chosen, which}
use Rattle.c_grammar.proofs.Front.{taken}
use Rattle.c_grammar.proofs.Readers.{IsSound as IsSoundBelow}
use Rattle.c_grammar.specs.UnitGrammar.Names.{declared, declared_name, makes_types}
use Rattle.c_grammar.specs.UnitGrammar.Construct.{SpecifiersIn, BracedInitials, BlockDeclaration, ConstructReader}
use Rattle.c_grammar.specs.UnitGrammar.Declarations.{has_any, AreFullSpecifiers, IsInitial, AreInitials, IsNameTree, IsInitDeclarator, AreInitDeclarators}
use Rattle.c_grammar.specs.UnitGrammar.Grammar.{IsBracesTree}
use Rattle.c_grammar.specs.Ways.DeclarationSteps.{read_initial, read_initials, read_braces, read_initialized, read_init_declarators, read_declaration_rest, read_declaration}
use Rattle.c_grammar.proofs.UnitGrammar.Readers.{Stands, IsSound, finish, found, with_comma, Separated, separated, Listed, listed, or_first}

expression_initial : (names : Names) (e : Syntax) → IsOfBelow (Expression assignment_level) names e → IsInitial names e
expression_initial names (Primary k) w = w
expression_initial names (Operation k) w = w
expression_initial names _ w = absurd w.1

braced_initial : (names : Names) (e : Syntax) → IsBracesTree names e → IsInitial names e
braced_initial names (Initializer k) w = w
braced_initial names _ w = absurd w

initial-sound : (reader : Reader) (inner : ConstructReader) (n : ℕ) (names : Names) (ts : List Symbol) (e : Syntax) (r : List Symbol)
    → IsSoundBelow reader n → IsSound inner n → read_initial reader inner names ts ≡ Some (e, r) → (ts ≡ tokens_then e r) × IsInitial names e
initial-sound reader inner n names ts e r s i h =
    elim (which (begins (is_sign marks.OpenBrace) ts) _ _ _ h) as (λ _. (ts ≡ tokens_then e r) × IsInitial names e) [
      | inl o ↦ let j = i BracedInitials names ts e r o.1 in (j.tokens, braced_initial names e j.well)
      | inr o ↦ let j = s (Expression assignment_level) names ts e r o.1 in (j.tokens, expression_initial names e j.well)
    ]

initials-sound : (reader : Reader) (inner : ConstructReader) (n : ℕ) (names : Names) (f : ℕ) (ts : List Symbol) (es : Syntaxes) (comma : Bool) (r : List Symbol)
    → IsSoundBelow reader n → IsSound inner n → read_initials reader inner names f ts ≡ Some (es, comma, r) → Listed (AreInitials names) marks.CloseBrace ts es comma r
unfolding read_initials
initials-sound reader inner n names zero ts es comma r s i h = cc
initials-sound reader inner n names (suc f) ts es comma r s i h =
    let a = bound (read_initial reader inner names ts) _ _ h in
    let k = initial-sound reader inner n names ts a.0.0 a.0.1 s i a.1 in
    elim (chosen (after_sign marks.Comma a.0.1) _ _ _ a.2) as (λ _. Listed (AreInitials names) marks.CloseBrace ts es comma r) [
      | inl p ↦
          let b = bound (after_sign marks.CloseBrace a.0.1) _ _ p.1 in
          listed (AreInitials names) marks.CloseBrace ts (more a.0.0 no_more) false b.0 es comma r b.2
          (record { tokens = k.0 ∙ ap (tokens_then a.0.0) (taken marks.CloseBrace a.0.1 b.0 b.1); well = (k.1, tt); some = refl })
      | inr p ↦
          let behind = k.0 ∙ ap (tokens_then a.0.0) (taken marks.Comma a.0.1 p.0 p.1) in
          elim (chosen (after_sign marks.CloseBrace p.0) _ _ _ p.2) as (λ _. Listed (AreInitials names) marks.CloseBrace ts es comma r) [
            | inl d ↦
                let b = bound (read_initials reader inner names f p.0) _ _ d.1 in
                let j = initials-sound reader inner n names f p.0 b.0.0 b.0.1 b.0.2 s i b.1 in
                listed (AreInitials names) marks.CloseBrace ts (more a.0.0 b.0.0) b.0.1 b.0.2 es comma r b.2
                (record {
                  tokens = behind ∙ ap (λ x. tokens_then a.0.0 (Sign marks.Comma ∷ x)) j.tokens ∙ ap (tokens_then a.0.0) (with_comma b.0.0 _ j.some);
                  well = (k.1, j.well);
                  some = refl;
                })
            | inr d ↦
                listed (AreInitials names) marks.CloseBrace ts (more a.0.0 no_more) true d.0 es comma r d.2
                (record {
                  tokens = behind ∙ ap (λ x. tokens_then a.0.0 (Sign marks.Comma ∷ x)) (taken marks.CloseBrace p.0 d.0 d.1);
                  well = (k.1, tt);
                  some = refl;
                })
          ]
    ]

pub braces-sound : (reader : Reader) (inner : ConstructReader) (n m : ℕ) (names : Names) (ts : List Symbol) (e : Syntax) (r : List Symbol)
    → IsSoundBelow reader n → IsSound inner n → read_braces reader inner m names ts ≡ Some (e, r) → Stands m BracedInitials names ts e r
braces-sound reader inner n m names ts e r s i h =
    let o = bound (after_sign marks.OpenBrace ts) _ _ h in
    let begun = taken marks.OpenBrace ts o.0 o.1 in
    elim (chosen (after_sign marks.CloseBrace o.0) _ _ _ o.2) as (λ _. Stands m BracedInitials names ts e r) [
      | inl p ↦
          let a = bound (read_initials reader inner names (length o.0) o.0) _ _ p.1 in
          let j = initials-sound reader inner n names (length o.0) o.0 a.0.0 a.0.1 a.0.2 s i a.1 in
          finish m BracedInitials names ts (Initializer (Braces a.0.0 a.0.1)) a.0.2 e r a.2
          (begun ∙ ap (λ x. Sign marks.OpenBrace ∷ x) j.tokens) (j.well, or_first (has_any a.0.0) (not a.0.1) j.some) tt
      | inr p ↦
          finish m BracedInitials names ts (Initializer (Braces no_more false)) p.0 e r p.2
          (begun ∙ ap (λ x. Sign marks.OpenBrace ∷ x) (taken marks.CloseBrace o.0 p.0 p.1)) (tt, refl) tt
    ]

-- a declarator alone declares its name
plain_declarator : (type : Bool) (names : Names) (d : Syntax) → IsDeclarator WithName names d → IsInitDeclarator type names d
plain_declarator type names (Declarator k) w = w
plain_declarator type names _ w = absurd w

initialized-sound : (reader : Reader) (inner : ConstructReader) (n : ℕ) (type : Bool) (names : Names) (d : Syntax) (ts : List Symbol) (e : Syntax) (r : List Symbol)
    → IsSoundBelow reader n → IsSound inner n → IsDeclarator WithName names d → read_initialized reader inner type names d ts ≡ Some (e, r) → (tokens_then d ts ≡ tokens_then e r) × IsInitDeclarator type names e
initialized-sound reader inner n type names d ts e r s i w h =
    elim (chosen (after_sign marks.Assign ts) _ _ _ h) as (λ _. (tokens_then d ts ≡ tokens_then e r) × IsInitDeclarator type names e) [
      | inl o ↦ found (IsInitDeclarator type names) (tokens_then d ts) d ts e r o.1 refl (plain_declarator type names d w)
      | inr o ↦
          let a = bound (name_of d) _ _ o.2 in
          let b = bound (read_initial reader inner ((a.0, type) ∷ names) o.0) _ _ a.2 in
          let j = initial-sound reader inner n ((a.0, type) ∷ names) o.0 b.0.0 b.0.1 s i b.1 in
          let named : IsNameTree (name_of d) (Primary (Ident (Word a.0))) = subst (λ x. IsNameTree x (Primary (Ident (Word a.0)))) (sym a.1) refl in
          let initial : IsInitial (with_name (name_of d) type names) b.0.0 = subst (λ x. IsInitial (with_name x type names) b.0.0) (sym a.1) j.1 in
          found (IsInitDeclarator type names) (tokens_then d ts) (Initializer (Init (Primary (Ident (Word a.0))) d b.0.0)) b.0.1 e r b.2
          (ap (tokens_then d) (taken marks.Assign ts o.0 o.1 ∙ ap (λ x. Sign marks.Assign ∷ x) j.0)) (named, w, initial)
    ]

init_declarators-sound : (reader : Reader) (inner : ConstructReader) (n : ℕ) (type : Bool) (names : Names) (f : ℕ) (d : Syntax) (ts : List Symbol) (es : Syntaxes) (r : List Symbol)
    → IsSoundBelow reader n → IsSound inner n → IsDeclarator WithName names d → read_init_declarators reader inner type names f d ts ≡ Some (es, r) → Separated (AreInitDeclarators type names) marks.Semicolon (tokens_then d ts) es r
unfolding read_init_declarators
init_declarators-sound reader inner n type names zero d ts es r s i w h = cc
init_declarators-sound reader inner n type names (suc f) d ts es r s i w h =
    let a = bound (read_initialized reader inner type names d ts) _ _ h in
    let k = initialized-sound reader inner n type names d ts a.0.0 a.0.1 s i w a.1 in
    let inside : Names = with_name (declared_name a.0.0) type names in
    elim (chosen (after_sign marks.Comma a.0.1) _ _ _ a.2) as (λ _. Separated (AreInitDeclarators type names) marks.Semicolon (tokens_then d ts) es r) [
      | inl p ↦
          let b = bound (after_sign marks.Semicolon a.0.1) _ _ p.1 in
          separated (AreInitDeclarators type names) marks.Semicolon (tokens_then d ts) (more a.0.0 no_more) b.0 es r b.2
          (record { tokens = k.0 ∙ ap (tokens_then a.0.0) (taken marks.Semicolon a.0.1 b.0 b.1); well = (k.1, tt); some = refl })
      | inr p ↦
          let b = bound (reader (DeclaratorIn WithName) inside p.0) _ _ p.2 in
          let j = s (DeclaratorIn WithName) inside p.0 b.0.0 b.0.1 b.1 in
          let c = bound (read_init_declarators reader inner type inside f b.0.0 b.0.1) _ _ b.2 in
          let q = init_declarators-sound reader inner n type inside f b.0.0 b.0.1 c.0.0 c.0.1 s i j.well c.1 in
          separated (AreInitDeclarators type names) marks.Semicolon (tokens_then d ts) (more a.0.0 c.0.0) c.0.1 es r c.2
          (record {
            tokens = k.0 ∙ ap (tokens_then a.0.0) (taken marks.Comma a.0.1 p.0 p.1 ∙ ap (λ x. Sign marks.Comma ∷ x) (j.tokens ∙ q.tokens) ∙ with_comma c.0.0 _ q.some);
            well = (k.1, q.well);
            some = refl;
          })
    ]

pub declaration_rest-sound : (reader : Reader) (inner : ConstructReader) (n m : ℕ) (names : Names) (specs d : Syntax) (all ts : List Symbol) (e : Syntax) (r : List Symbol)
    → IsSoundBelow reader n → IsSound inner n → AreFullSpecifiers InDeclaration names specs → IsDeclarator WithName (declared specs names) d → all ≡ tokens_then specs (tokens_then d ts)
    → read_declaration_rest reader inner m (declared specs names) specs d ts ≡ Some (e, r) → Stands m BlockDeclaration names all e r
declaration_rest-sound reader inner n m names specs d all ts e r s i w v k h =
    let a = bound (read_init_declarators reader inner (makes_types specs) (declared specs names) (length ts) d ts) _ _ h in
    let j = init_declarators-sound reader inner n (makes_types specs) (declared specs names) (length ts) d ts a.0.0 a.0.1 s i v a.1 in
    finish m BlockDeclaration names all (Outer (Declaration specs a.0.0)) a.0.1 e r a.2 (k ∙ ap (tokens_then specs) j.tokens) (w, j.well) tt

pub declaration-sound : (reader : Reader) (inner : ConstructReader) (n m : ℕ) (names : Names) (ts : List Symbol) (e : Syntax) (r : List Symbol)
    → IsSoundBelow reader n → IsSound inner n → read_declaration reader inner m names ts ≡ Some (e, r) → Stands m BlockDeclaration names ts e r
declaration-sound reader inner n m names ts e r s i h =
    let a = bound (inner (SpecifiersIn InDeclaration) names ts) _ _ h in
    let j = i (SpecifiersIn InDeclaration) names ts a.0.0 a.0.1 a.1 in
    elim (chosen (after_sign marks.Semicolon a.0.1) _ _ _ a.2) as (λ _. Stands m BlockDeclaration names ts e r) [
      | inl o ↦
          let b = bound (reader (DeclaratorIn WithName) (declared a.0.0 names) a.0.1) _ _ o.1 in
          let k = s (DeclaratorIn WithName) (declared a.0.0 names) a.0.1 b.0.0 b.0.1 b.1 in
          declaration_rest-sound reader inner n m names a.0.0 b.0.0 ts b.0.1 e r s i j.well k.well (j.tokens ∙ ap (tokens_then a.0.0) k.tokens) b.2
      | inr o ↦
          finish m BlockDeclaration names ts (Outer (Declaration a.0.0 no_more)) o.0 e r o.2
          (j.tokens ∙ ap (tokens_then a.0.0) (taken marks.Semicolon a.0.1 o.0 o.1)) (j.well, tt) tt
    ]
