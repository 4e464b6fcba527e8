-- The parse of a chunk is read, so it is the only one.
use Rattle.std.proofs.Common.{◌≡◌, ℕ, suc, ◌≤◌, Bool, true, false, cond, List, [], ◌∷◌, Option, None, Some, ap, refl, ◌∙◌, sym, arith}
use Rattle.c_tree.specs.declared.punctuator.Punctuator.TheVariants as marks
use Rattle.c_tree.specs.Symbol.{Symbol, Sign}
use Rattle.c_tree.specs.Syntax.{Syntax, Initializer, Declarator, Outer, Statement, Init, Declaration, Function, Empty, Block, Syntaxes, no_more, more}
use Rattle.c_tree.specs.Height.{height_of}
use Rattle.c_tree.specs.Phrase.{phrase_then}
use Rattle.c_tree.specs.Tokens.{more_phrase, tokens_then}
use Rattle.c_grammar.specs.Symbols.{is_sign, begins}
use Rattle.c_grammar.specs.Names.{Names, name_of, with_name, with_params, params_of}
use Rattle.c_grammar.specs.Specifiers.{InDeclaration, goes_on}
use Rattle.c_grammar.specs.Nonterminal.{WithName, DeclaratorIn}
use Rattle.c_grammar.specs.Found.{◌>>=◌, Found, Reader, made}
use Rattle.c_grammar.specs.Ways.DeclaratorSteps.{begins_declarator}
use Rattle.c_grammar.specs.Following.{goes_on_declaring}
use Rattle.c_grammar.specs.Reading.{read as read_expressions}
use Rattle.c_grammar.proofs.Options.{made_low, same}
use Rattle.c_grammar.proofs.Readers.{Knows as KnowsBelow}
use Rattle.c_grammar.proofs.Begins.{differ, declarator_no_specifier}
use Rattle.c_grammar.proofs.Complete.{read-complete as expressions-complete}
use Rattle.c_grammar.specs.UnitGrammar.Names.{declared, makes_types}
use Rattle.c_grammar.specs.UnitGrammar.Construct.{SpecifiersIn, FunctionBody, ConstructReader}
use Rattle.c_grammar.specs.UnitGrammar.Declarations.{IsInitDeclarator}
use Rattle.c_grammar.specs.UnitGrammar.Control.{is_controlled}
use Rattle.c_grammar.specs.UnitGrammar.Grammar.{may_define, IsBody, IsChunk, IsParse}
use Rattle.c_grammar.specs.Ways.ChunkSteps.{read_function, read_chunk}
use Rattle.c_grammar.specs.UnitGrammar.Reading.{read, chunk}
use Rattle.c_grammar.proofs.UnitGrammar.Readers.{Knows}
use Rattle.c_grammar.proofs.UnitGrammar.Fronts.{front_no_sign, front_none, full_specifiers_begin, named_begins, init_declarator_begins}
use Rattle.c_grammar.proofs.UnitGrammar.CompleteDeclarations.{behind_declarator, declaration_rest-complete, before_declarators, first_declarator}
use Rattle.c_grammar.proofs.UnitGrammar.Complete.{read-complete}

no_brace : (type : Bool) (names : Names) (e : Syntax) (r : List Symbol) → IsInitDeclarator type names e → begins (is_sign marks.OpenBrace) r ≡ false → begins (is_sign marks.OpenBrace) (behind_declarator e r) ≡ false
no_brace type names (Declarator k) r w h = h
no_brace type names (Initializer (Init name declarator initial)) r w h = refl
no_brace type names _ r w h = absurd w

-- no body stands behind the first declarator of a declaration
no_body : (type : Bool) (names : Names) (e : Syntax) (es : Syntaxes) (r : List Symbol) → IsInitDeclarator type names e → begins (is_sign marks.OpenBrace) (behind_declarator e (phrase_then (more_phrase es) (Sign marks.Semicolon ∷ r))) ≡ false
no_body type names e no_more r w = no_brace type names e (Sign marks.Semicolon ∷ r) w refl
no_body type names e (more e2 es) r w = no_brace type names e (Sign marks.Comma ∷ tokens_then e2 (phrase_then (more_phrase es) (Sign marks.Semicolon ∷ r))) w refl

-- a body begins with "{", with which no declarator goes on
body_begins : (names within : Names) (o : Option Syntaxes) (body : Syntax) (r : List Symbol) → IsBody names o body
    → (begins (is_sign marks.OpenBrace) (tokens_then body r) ≡ true) × (begins (goes_on_declaring within) (tokens_then body r) ≡ false)
body_begins names within None body r w = absurd w
body_begins names within (Some params) (Statement (Block items)) r w = (refl, refl)
body_begins names within (Some params) _ r w = absurd w.0

-- the rest of a function whose parameters these are
abbrev rest_with : ConstructReader → ℕ → Names → Syntax → Syntax → List Symbol → Syntaxes → Option Found
rest_with inner m names specs d ts params =
    inner FunctionBody (with_params params names) ts >>= λ body. cond (is_controlled body.0) (made m (Outer (Function specs d body.0)) body.1) None

body-complete : (inner : ConstructReader) (n : ℕ) (names : Names) (specs d body : Syntax) (o : Option Syntaxes) (r : List Symbol) → Knows inner n → IsBody names o body → height_of (Outer (Function specs d body)) ≤ suc n
    → (o >>= rest_with inner (suc n) names specs d (tokens_then body r)) ≡ Some (Outer (Function specs d body), r)
body-complete inner n names specs d body None r i w h = absurd w
body-complete inner n names specs d body (Some params) r i w h =
    rw (i FunctionBody (with_params params names) body r w.0 (omega arith) tt, w.1) (made_low (suc n) (Outer (Function specs d body)) r h)

function-complete : (inner : ConstructReader) (n : ℕ) (names : Names) (specs d body : Syntax) (r : List Symbol) → Knows inner n → may_define specs ≡ true → IsBody (with_name (name_of d) false (declared specs names)) (params_of d) body → height_of (Outer (Function specs d body)) ≤ suc n
    → read_function inner (suc n) (declared specs names) specs d (tokens_then body r) ≡ Some (Outer (Function specs d body), r)
function-complete inner n names specs d body r i m w h = rw m (body-complete inner n (with_name (name_of d) false (declared specs names)) specs d body (params_of d) r i w h)

read_chunk-complete : (reader : Reader) (inner : ConstructReader) (n : ℕ) (names : Names) (e : Syntax) (r : List Symbol) → KnowsBelow reader n → Knows inner n → IsChunk names e → height_of e ≤ suc n
    → read_chunk reader inner (suc n) names (tokens_then e r) ≡ Some (e, r)
read_chunk-complete reader inner n names (Outer Empty) r k i w h = made_low (suc n) (Outer Empty) r h
read_chunk-complete reader inner n names (Outer (Declaration specs no_more)) r k i w h =
    let X = Sign marks.Semicolon ∷ r in
    rw (
      front_none (goes_on names false) marks.Semicolon (tokens_then specs X) refl (full_specifiers_begin InDeclaration names specs X w.0),
      i (SpecifiersIn InDeclaration) names specs X w.0 (omega arith) (refl, refl),
    ) (made_low (suc n) (Outer (Declaration specs no_more)) r h)
read_chunk-complete reader inner n names (Outer (Declaration specs (more e es))) r k i w h =
    let X = tokens_then e (phrase_then (more_phrase es) (Sign marks.Semicolon ∷ r)) in
    let type : Bool = makes_types specs in
    let within : Names = declared specs names in
    rw (
      front_none (goes_on names false) marks.Semicolon (tokens_then specs X) refl (full_specifiers_begin InDeclaration names specs X w.0),
      i (SpecifiersIn InDeclaration) names specs X w.0 (omega arith) (before_declarators type within names (more e es) r w.1),
      front_none (begins_declarator WithName) marks.Semicolon X refl (init_declarator_begins type within e _ w.1.0),
      first_declarator reader n type within e es r k w.1.0 (omega arith),
      no_body type within e es r w.1.0,
    ) (declaration_rest-complete reader inner n names specs e es r k i w.1 h)
read_chunk-complete reader inner n names (Outer (Function specs d body)) r k i w h =
    let Y = tokens_then body r in
    let X = tokens_then d Y in
    let within : Names = declared specs names in
    let f = named_begins within d Y w.2 in
    let b = body_begins (with_name (name_of d) false within) within (params_of d) body r w.3 in
    rw (
      front_none (goes_on names false) marks.Semicolon (tokens_then specs X) refl (full_specifiers_begin InDeclaration names specs X w.0),
      i (SpecifiersIn InDeclaration) names specs X w.0 (omega arith) (differ (begins_declarator WithName) (goes_on names true) X (declarator_no_specifier WithName names) f, front_no_sign (begins_declarator WithName) marks.OpenBrace X refl f),
      front_none (begins_declarator WithName) marks.Semicolon X refl f,
      k (DeclaratorIn WithName) within d Y w.2 (omega arith) b.1,
      b.0,
    ) (function-complete inner n names specs d body r i w.1 w.3 h)
read_chunk-complete reader inner n names _ r k i w h = absurd w

-- a parse of a chunk is what is read of it
pub chunk-complete : (names : Names) (ts : List Symbol) (e : Syntax) → IsParse names e ts → chunk names ts ≡ Some e
chunk-complete names ts e p =
    ap (chunk names) p.tokens ∙ rw (read_chunk-complete (read_expressions 999) (read 999) 999 names e [] (expressions-complete 999) (read-complete 999) p.well p.height) refl

-- a chunk has at most one parse
pub one_parse : (names : Names) (ts : List Symbol) (a b : Syntax) → IsParse names a ts → IsParse names b ts → a ≡ b
one_parse names ts a b p q = same a b (sym (chunk-complete names ts a p) ∙ chunk-complete names ts b q)
