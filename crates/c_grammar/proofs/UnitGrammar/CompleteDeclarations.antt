-- Initial values and declarations are read, where what follows doesn't go on with them.
use Rattle.std.proofs.Common.{◌≡◌, ℕ, zero, suc, ◌<◌, ◌≤◌, Bool, true, false, List, ◌∷◌, length, Option, None, Some, ap, refl, ◌∙◌, sym, arith}
use Rattle.c_tree.specs.declared.punctuator.Punctuator.TheVariants as marks
use Rattle.c_tree.specs.Symbol.{Symbol, Word, Sign}
use Rattle.c_tree.specs.Syntax.{Syntax, Primary, Operation, Initializer, Declarator, Outer, Ident, Init, Braces, Declaration, Syntaxes, no_more, more}
use Rattle.c_tree.specs.Height.{height_of, height_in}
use Rattle.c_tree.specs.Phrase.{phrase_then}
use Rattle.c_tree.specs.Tokens.{phrase_of, comma_if, list_phrase, more_phrase, tokens_then}
use Rattle.c_grammar.specs.Symbols.{is_sign, after_sign, begins}
use Rattle.c_grammar.specs.Levels.{assignment_level}
use Rattle.c_grammar.specs.Names.{Names, name_of, with_name}
use Rattle.c_grammar.specs.Specifiers.{InDeclaration, goes_on}
use Rattle.c_grammar.specs.Nonterminal.{WithName, Expression, DeclaratorIn}
use Rattle.c_grammar.specs.Grammar.{IsDeclarator}
use Rattle.c_grammar.specs.Found.{◌>>=◌, Found, Reader}
use Rattle.c_grammar.specs.Ways.DeclaratorSteps.{begins_declarator}
use Rattle.c_grammar.specs.Following.{Stops, goes_on_declaring}
use Rattle.c_grammar.proofs.Options.{made_low}
use Rattle.c_grammar.proofs.Readers.{Knows as KnowsBelow}
use Rattle.c_grammar.proofs.Longer.{count, longer, longer_more}
use Rattle.c_grammar.proofs.Begins.{differ, begins_expression, expression_begins, declarator_no_specifier}
use Rattle.c_grammar.specs.UnitGrammar.Names.{declared, declared_name, makes_types}
use Rattle.c_grammar.specs.UnitGrammar.Construct.{SpecifiersIn, BracedInitials, ConstructReader}
use Rattle.c_grammar.specs.UnitGrammar.Declarations.{IsInitial, AreInitials, IsNameTree, IsInitDeclarator, AreInitDeclarators, IsDeclaration}
use Rattle.c_grammar.specs.UnitGrammar.Grammar.{IsBracesTree}
use Rattle.c_grammar.specs.Ways.DeclarationSteps.{read_initial, read_initials, read_braces, read_initialized, read_init_declarators, read_declaration_rest, read_declaration}
use Rattle.c_grammar.proofs.UnitGrammar.Readers.{Knows}
use Rattle.c_grammar.proofs.UnitGrammar.Fronts.{front_no_sign, front_none, init_declarator_begins, begins_initial, initial_begins}

-- an expression as an initial value
plain_initial : (reader : Reader) (inner : ConstructReader) (n : ℕ) (names : Names) (e : Syntax) (r : List Symbol) → begins (begins_expression names) (tokens_then e r) ≡ true → reader (Expression assignment_level) names (tokens_then e r) ≡ Some (e, r)
    → read_initial reader inner names (tokens_then e r) ≡ Some (e, r)
plain_initial reader inner n names e r b h = rw (front_no_sign (begins_expression names) marks.OpenBrace (tokens_then e r) refl b) h

initial-complete : (reader : Reader) (inner : ConstructReader) (n : ℕ) (names : Names) (e : Syntax) (r : List Symbol) → KnowsBelow reader n → Knows inner n → IsInitial names e → height_of e ≤ n → Stops assignment_level r
    → read_initial reader inner names (tokens_then e r) ≡ Some (e, r)
initial-complete reader inner n names (Initializer (Braces elements comma)) r k i w h s = i BracedInitials names (Initializer (Braces elements comma)) r w h tt
initial-complete reader inner n names (Initializer _) r k i w h s = absurd w
initial-complete reader inner n names (Primary e) r k i w h s = plain_initial reader inner n names (Primary e) r (expression_begins names (Primary e) r w.1) (k (Expression assignment_level) names (Primary e) r w h s)
initial-complete reader inner n names (Operation e) r k i w h s = plain_initial reader inner n names (Operation e) r (expression_begins names (Operation e) r w.1) (k (Expression assignment_level) names (Operation e) r w h s)
initial-complete reader inner n names _ r k i w h s = absurd w.1

initials-complete : (reader : Reader) (inner : ConstructReader) (n : ℕ) (names : Names) (f : ℕ) (e : Syntax) (es : Syntaxes) (comma : Bool) (r : List Symbol) → KnowsBelow reader n → Knows inner n → IsInitial names e → height_of e ≤ n → AreInitials names es → height_in es ≤ n → count es < f
    → read_initials reader inner names f (tokens_then e (phrase_then (more_phrase es) (phrase_then (comma_if comma) (Sign marks.CloseBrace ∷ r)))) ≡ Some (more e es, comma, r)
unfolding read_initials
initials-complete reader inner n names zero e es comma r k i w h ws hs c = absurd (omega arith)
initials-complete reader inner n names (suc f) e no_more false r k i w h ws hs c = rw (initial-complete reader inner n names e (Sign marks.CloseBrace ∷ r) k i w h (omega arith)) refl
initials-complete reader inner n names (suc f) e no_more true r k i w h ws hs c = rw (initial-complete reader inner n names e (Sign marks.Comma ∷ Sign marks.CloseBrace ∷ r) k i w h (omega arith)) refl
initials-complete reader inner n names (suc f) e (more e2 es) comma r k i w h ws hs c =
    let Y = phrase_then (more_phrase es) (phrase_then (comma_if comma) (Sign marks.CloseBrace ∷ r)) in
    rw (
      initial-complete reader inner n names e (Sign marks.Comma ∷ tokens_then e2 Y) k i w h (omega arith),
      front_none (begins_initial names) marks.CloseBrace (tokens_then e2 Y) refl (initial_begins names e2 Y ws.0),
      initials-complete reader inner n names f e2 es comma r k i ws.0 (omega arith) ws.1 (omega arith) (omega arith),
    ) refl

pub braces-complete : (reader : Reader) (inner : ConstructReader) (n : ℕ) (names : Names) (e : Syntax) (r : List Symbol) → KnowsBelow reader n → Knows inner n → IsBracesTree names e → height_of e ≤ suc n
    → read_braces reader inner (suc n) names (tokens_then e r) ≡ Some (e, r)
braces-complete reader inner n names (Initializer (Braces no_more false)) r k i w h = made_low (suc n) (Initializer (Braces no_more false)) r h
braces-complete reader inner n names (Initializer (Braces no_more true)) r k i w h = let a = w.1 in cc
braces-complete reader inner n names (Initializer (Braces (more e es) comma)) r k i w h =
    let Y = phrase_then (comma_if comma) (Sign marks.CloseBrace ∷ r) in
    let X = phrase_then (more_phrase es) Y in
    let b = longer (phrase_of e) X in
    let c = longer_more es Y in
    let d = longer (comma_if comma) (Sign marks.CloseBrace ∷ r) in
    let l : count es < length (tokens_then e X) = omega (arith, b, c, d) in
    rw (
      front_none (begins_initial names) marks.CloseBrace (tokens_then e X) refl (initial_begins names e X w.0.0),
      initials-complete reader inner n names (length (tokens_then e X)) e es comma r k i w.0.0 (omega arith) w.0.1 (omega arith) l,
    ) (made_low (suc n) (Initializer (Braces (more e es) comma)) r h)
braces-complete reader inner n names _ r k i w h = absurd w

-- the declarator of a name with or without an initial value, and what stands behind it
abbrev pub declarator_of : Syntax → Syntax
declarator_of (Initializer (Init name declarator initial)) = declarator
declarator_of e = e

abbrev pub behind_declarator : Syntax → List Symbol → List Symbol
behind_declarator (Initializer (Init name declarator initial)) r = Sign marks.Assign ∷ tokens_then initial r
behind_declarator e r = r

split : (e : Syntax) (r : List Symbol) → tokens_then e r ≡ tokens_then (declarator_of e) (behind_declarator e r)
split (Initializer (Init name declarator initial)) r = refl
split (Initializer _) r = refl
split (Primary k) r = refl
split _ r = refl

is_declarator : (type : Bool) (names : Names) (e : Syntax) → IsInitDeclarator type names e → IsDeclarator WithName names (declarator_of e)
is_declarator type names (Declarator k) w = w
is_declarator type names (Initializer (Init name declarator initial)) w = w.1
is_declarator type names _ w = absurd w

lower : (e : Syntax) → height_of (declarator_of e) ≤ height_of e
lower (Initializer (Init name declarator initial)) = omega arith
lower (Initializer _) = omega arith
lower (Primary k) = omega arith
lower _ = omega arith

-- a declarator ends before its initial value, and else where the name with it ends
ends_declaring : (type : Bool) (names within : Names) (e : Syntax) (r : List Symbol) → IsInitDeclarator type names e → begins (goes_on_declaring within) r ≡ false → begins (goes_on_declaring within) (behind_declarator e r) ≡ false
ends_declaring type names within (Declarator k) r w h = h
ends_declaring type names within (Initializer (Init name declarator initial)) r w h = refl
ends_declaring type names within _ r w h = absurd w

longer_behind : (e : Syntax) (r : List Symbol) → length r ≤ length (behind_declarator e r)
longer_behind (Initializer (Init name declarator initial)) r = let a = longer (phrase_of initial) r in omega arith
longer_behind (Initializer _) r = omega arith
longer_behind (Primary k) r = omega arith
longer_behind _ r = omega arith

-- the rest of a name with an initial value
abbrev with_initial : Reader → ConstructReader → Bool → Names → Syntax → List Symbol → ℕ → Option Found
with_initial reader inner type names d ts name = read_initial reader inner ((name, type) ∷ names) ts >>= λ e. Some (Initializer (Init (Primary (Ident (Word name))) d e.0), e.1)

named : (reader : Reader) (inner : ConstructReader) (n : ℕ) (type : Bool) (names : Names) (name d initial : Syntax) (r : List Symbol) (o : Option ℕ) → KnowsBelow reader n → Knows inner n → IsNameTree o name → IsInitial (with_name o type names) initial → height_of initial ≤ n → Stops assignment_level r
    → (o >>= with_initial reader inner type names d (tokens_then initial r)) ≡ Some (Initializer (Init name d initial), r)
named reader inner n type names name d initial r None k i q w h s = absurd q
named reader inner n type names name d initial r (Some word) k i q w h s =
    let F : Syntax → Option Found = λ x. Some (Initializer (Init x d initial), r) in
    rw (initial-complete reader inner n ((word, type) ∷ names) initial r k i w h s) (ap F (sym q))

initialized-complete : (reader : Reader) (inner : ConstructReader) (n : ℕ) (type : Bool) (names : Names) (e : Syntax) (r : List Symbol) → KnowsBelow reader n → Knows inner n → IsInitDeclarator type names e → height_of e ≤ n → Stops assignment_level r → after_sign marks.Assign r ≡ None
    → read_initialized reader inner type names (declarator_of e) (behind_declarator e r) ≡ Some (e, r)
initialized-complete reader inner n type names (Declarator d) r k i w h s a = rw a refl
initialized-complete reader inner n type names (Initializer (Init name d initial)) r k i w h s a = named reader inner n type names name d initial r (name_of d) k i w.0 w.2 (omega arith) s
initialized-complete reader inner n type names _ r k i w h s a = absurd w

pub ends_more : (names : Names) (es : Syntaxes) (r : List Symbol) → begins (goes_on_declaring names) (phrase_then (more_phrase es) (Sign marks.Semicolon ∷ r)) ≡ false
ends_more names no_more r = refl
ends_more names (more e es) r = refl

init_declarators-complete : (reader : Reader) (inner : ConstructReader) (n : ℕ) (type : Bool) (names : Names) (f : ℕ) (e : Syntax) (es : Syntaxes) (r : List Symbol) → KnowsBelow reader n → Knows inner n → IsInitDeclarator type names e → height_of e ≤ n
    → AreInitDeclarators type (with_name (declared_name e) type names) es → height_in es ≤ n → count es < f
    → read_init_declarators reader inner type names f (declarator_of e) (behind_declarator e (phrase_then (more_phrase es) (Sign marks.Semicolon ∷ r))) ≡ Some (more e es, r)
unfolding read_init_declarators
init_declarators-complete reader inner n type names zero e es r k i w h ws hs c = absurd (omega arith)
init_declarators-complete reader inner n type names (suc f) e no_more r k i w h ws hs c = rw (initialized-complete reader inner n type names e (Sign marks.Semicolon ∷ r) k i w h (omega arith) refl) refl
init_declarators-complete reader inner n type names (suc f) e (more e2 es) r k i w h ws hs c =
    let Y = phrase_then (more_phrase es) (Sign marks.Semicolon ∷ r) in
    let within : Names = with_name (declared_name e) type names in
    let l = lower e2 in
    rw (
      initialized-complete reader inner n type names e (Sign marks.Comma ∷ tokens_then e2 Y) k i w h (omega arith) refl,
      split e2 Y,
      k (DeclaratorIn WithName) within (declarator_of e2) (behind_declarator e2 Y) (is_declarator type within e2 ws.0) (omega arith) (ends_declaring type within within e2 Y ws.0 (ends_more within es r)),
      init_declarators-complete reader inner n type within f e2 es r k i ws.0 (omega arith) ws.1 (omega arith) (omega arith),
    ) refl

-- the rest of a declaration whose first declarator has been read
pub declaration_rest-complete : (reader : Reader) (inner : ConstructReader) (n : ℕ) (names : Names) (specs e : Syntax) (es : Syntaxes) (r : List Symbol) → KnowsBelow reader n → Knows inner n → AreInitDeclarators (makes_types specs) (declared specs names) (more e es) → height_of (Outer (Declaration specs (more e es))) ≤ suc n
    → read_declaration_rest reader inner (suc n) (declared specs names) specs (declarator_of e) (behind_declarator e (phrase_then (more_phrase es) (Sign marks.Semicolon ∷ r))) ≡ Some (Outer (Declaration specs (more e es)), r)
declaration_rest-complete reader inner n names specs e es r k i w h =
    let X = phrase_then (more_phrase es) (Sign marks.Semicolon ∷ r) in
    let b = longer_more es (Sign marks.Semicolon ∷ r) in
    let c = longer_behind e X in
    let l : count es < length (behind_declarator e X) = omega (arith, b, c) in
    rw (init_declarators-complete reader inner n (makes_types specs) (declared specs names) (length (behind_declarator e X)) e es r k i w.0 (omega arith) w.1 (omega arith) l)
    (made_low (suc n) (Outer (Declaration specs (more e es))) r h)

-- what may stand behind the specifiers of a declaration
pub before_declarators : (type : Bool) (names within : Names) (es : Syntaxes) (r : List Symbol) → AreInitDeclarators type names es
    → (begins (goes_on within true) (phrase_then (list_phrase es) (Sign marks.Semicolon ∷ r)) ≡ false) × (begins (is_sign marks.OpenBrace) (phrase_then (list_phrase es) (Sign marks.Semicolon ∷ r)) ≡ false)
before_declarators type names within no_more r w = (refl, refl)
before_declarators type names within (more e es) r w =
    let X = phrase_then (more_phrase es) (Sign marks.Semicolon ∷ r) in
    let b = init_declarator_begins type names e X w.0 in
    (differ (begins_declarator WithName) (goes_on within true) (tokens_then e X) (declarator_no_specifier WithName within) b, front_no_sign (begins_declarator WithName) marks.OpenBrace (tokens_then e X) refl b)

-- the first declarator of a declaration is read
pub first_declarator : (reader : Reader) (n : ℕ) (type : Bool) (names : Names) (e : Syntax) (es : Syntaxes) (r : List Symbol) → KnowsBelow reader n → IsInitDeclarator type names e → height_of e ≤ n
    → let X = phrase_then (more_phrase es) (Sign marks.Semicolon ∷ r) in reader (DeclaratorIn WithName) names (tokens_then e X) ≡ Some (declarator_of e, behind_declarator e X)
first_declarator reader n type names e es r k w h =
    let X = phrase_then (more_phrase es) (Sign marks.Semicolon ∷ r) in
    let l = lower e in
    ap (reader (DeclaratorIn WithName) names) (split e X) ∙ k (DeclaratorIn WithName) names (declarator_of e) (behind_declarator e X) (is_declarator type names e w) (omega arith) (ends_declaring type names names e X w (ends_more names es r))

pub declaration-complete : (reader : Reader) (inner : ConstructReader) (n : ℕ) (names : Names) (e : Syntax) (r : List Symbol) → KnowsBelow reader n → Knows inner n → IsDeclaration names e → height_of e ≤ suc n
    → read_declaration reader inner (suc n) names (tokens_then e r) ≡ Some (e, r)
declaration-complete reader inner n names (Outer (Declaration specs no_more)) r k i w h =
    rw (i (SpecifiersIn InDeclaration) names specs (Sign marks.Semicolon ∷ r) w.0 (omega arith) (refl, refl)) (made_low (suc n) (Outer (Declaration specs no_more)) r h)
declaration-complete reader inner n names (Outer (Declaration specs (more e es))) r k i w h =
    let X = phrase_then (more_phrase es) (Sign marks.Semicolon ∷ r) in
    let type : Bool = makes_types specs in
    let within : Names = declared specs names in
    rw (
      i (SpecifiersIn InDeclaration) names specs (tokens_then e X) w.0 (omega arith) (before_declarators type within names (more e es) r w.1),
      front_none (begins_declarator WithName) marks.Semicolon (tokens_then e X) refl (init_declarator_begins type within e X w.1.0),
      first_declarator reader n type within e es r k w.1.0 (omega arith),
    ) (declaration_rest-complete reader inner n names specs e es r k i w.1 h)
declaration-complete reader inner n names _ r k i w h = absurd w
