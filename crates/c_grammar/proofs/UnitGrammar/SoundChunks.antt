-- What is read of a chunk is a parse of it.
use Rattle.std.proofs.Common.{◌≡◌, ℕ, ◌≤◌, true, false, List, [], ◌∷◌, Option, Some, inl, inr, ap, ◌∙◌, sym, subst}
use Rattle.c_tree.specs.declared.punctuator.Punctuator.TheVariants as marks
use Rattle.c_tree.specs.Symbol.{Symbol}
use Rattle.c_tree.specs.Syntax.{Syntax, Outer, Declaration, Function, Empty, Syntaxes, no_more}
use Rattle.c_tree.specs.Height.{height_of}
use Rattle.c_tree.specs.Tokens.{tokens_then}
use Rattle.c_grammar.specs.Symbols.{after_sign, begins, is_sign}
use Rattle.c_grammar.specs.Names.{Names, name_of, with_name, with_params, params_of}
use Rattle.c_grammar.specs.Specifiers.{InDeclaration}
use Rattle.c_grammar.specs.Nonterminal.{WithName, DeclaratorIn}
use Rattle.c_grammar.specs.Grammar.{IsDeclarator}
use Rattle.c_grammar.specs.Found.{Found, Reader, made}
use Rattle.c_grammar.specs.Reading.{read as read_expressions, ended}
use Rattle.c_grammar.proofs.Options.{bound, chosen, when, which, made_some}
use Rattle.c_grammar.proofs.Front.{taken}
use Rattle.c_grammar.proofs.Readers.{IsSound as IsSoundBelow}
use Rattle.c_grammar.proofs.Sound.{read-sound as expressions-sound}
use Rattle.c_grammar.specs.UnitGrammar.Names.{declared}
use Rattle.c_grammar.specs.UnitGrammar.Construct.{SpecifiersIn, FunctionBody, ConstructReader}
use Rattle.c_grammar.specs.UnitGrammar.Declarations.{AreFullSpecifiers, IsDeclaration}
use Rattle.c_grammar.specs.UnitGrammar.Control.{is_controlled}
use Rattle.c_grammar.specs.UnitGrammar.Grammar.{may_define, IsBlock, IsBody, IsChunk, IsParse}
use Rattle.c_grammar.specs.Ways.ChunkSteps.{read_function, read_definition, read_chunk}
use Rattle.c_grammar.specs.UnitGrammar.Reading.{read, chunk}
use Rattle.c_grammar.proofs.UnitGrammar.Readers.{IsSound}
use Rattle.c_grammar.proofs.UnitGrammar.SoundDeclarations.{declaration_rest-sound}
use Rattle.c_grammar.proofs.UnitGrammar.Sound.{read-sound}

-- the tree of a chunk stands in front of r
record Outside (m : ℕ) (names : Names) (ts : List Symbol) (e : Syntax) (r : List Symbol) : Type 0 where
  pub tokens : ts ≡ tokens_then e r
  pub well : IsChunk names e
  pub height : height_of e ≤ m

outside : (m : ℕ) (names : Names) (ts : List Symbol) (x : Syntax) (t : List Symbol) (e : Syntax) (r : List Symbol)
    → made m x t ≡ Some (e, r) → ts ≡ tokens_then x t → IsChunk names x → Outside m names ts e r
outside m names ts x t e r h k w =
    let q = made_some m x e t r h in
    subst (λ y. Outside m names ts y r) q.1 (record { tokens = k ∙ ap (tokens_then x) q.2; well = w; height = q.0 })

is_chunk : (names : Names) (e : Syntax) → IsDeclaration names e → IsChunk names e
is_chunk names (Outer (Declaration specs declarators)) w = w
is_chunk names _ w = absurd w

is_body : (names : Names) (o : Option Syntaxes) (params : Syntaxes) (body : Syntax)
    → o ≡ Some params → IsBlock (with_params params names) body → is_controlled body ≡ true → IsBody names o body
is_body names o params body h w c = subst (λ x. IsBody names x body) (sym h) (w, c)

function-sound : (inner : ConstructReader) (n m : ℕ) (names : Names) (specs d : Syntax) (all ts : List Symbol) (e : Syntax) (r : List Symbol)
    → IsSound inner n → AreFullSpecifiers InDeclaration names specs → IsDeclarator WithName (declared specs names) d → all ≡ tokens_then specs (tokens_then d ts)
    → read_function inner m (declared specs names) specs d ts ≡ Some (e, r) → Outside m names all e r
function-sound inner n m names specs d all ts e r i w v k h =
    let outer : Names = with_name (name_of d) false (declared specs names) in
    let c = when (may_define specs) _ _ h in
    let a = bound (params_of d) _ _ c.1 in
    let b = bound (inner FunctionBody (with_params a.0 outer) ts) _ _ a.2 in
    let j = i FunctionBody (with_params a.0 outer) ts b.0.0 b.0.1 b.1 in
    let q = when (is_controlled b.0.0) _ _ b.2 in
    outside m names all (Outer (Function specs d b.0.0)) b.0.1 e r q.1
    (k ∙ ap (λ x. tokens_then specs (tokens_then d x)) j.tokens)
    (w, c.0, v, is_body outer (params_of d) a.0 b.0.0 a.1 j.well q.0)

definition-sound : (reader : Reader) (inner : ConstructReader) (n m : ℕ) (names : Names) (specs d : Syntax) (all ts : List Symbol) (e : Syntax) (r : List Symbol)
    → IsSoundBelow reader n → IsSound inner n → AreFullSpecifiers InDeclaration names specs → IsDeclarator WithName (declared specs names) d → all ≡ tokens_then specs (tokens_then d ts)
    → read_definition reader inner m (declared specs names) specs d ts ≡ Some (e, r) → Outside m names all e r
definition-sound reader inner n m names specs d all ts e r s i w v k h =
    elim (which (begins (is_sign marks.OpenBrace) ts) _ _ _ h) as (λ _. Outside m names all e r) [
      | inl o ↦ function-sound inner n m names specs d all ts e r i w v k o.1
      | inr o ↦
          let j = declaration_rest-sound reader inner n m names specs d all ts e r s i w v k o.1 in
          record { tokens = j.tokens; well = is_chunk names e j.well; height = j.height }
    ]

read_chunk-sound : (reader : Reader) (inner : ConstructReader) (n m : ℕ) (names : Names) (ts : List Symbol) (e : Syntax) (r : List Symbol)
    → IsSoundBelow reader n → IsSound inner n → read_chunk reader inner m names ts ≡ Some (e, r) → Outside m names ts e r
read_chunk-sound reader inner n m names ts e r s i h =
    elim (chosen (after_sign marks.Semicolon ts) _ _ _ h) as (λ _. Outside m names ts e r) [
      | inr o ↦ outside m names ts (Outer Empty) o.0 e r o.2 (taken marks.Semicolon ts o.0 o.1) tt
      | inl o ↦
          let a = bound (inner (SpecifiersIn InDeclaration) names ts) _ _ o.1 in
          let j = i (SpecifiersIn InDeclaration) names ts a.0.0 a.0.1 a.1 in
          elim (chosen (after_sign marks.Semicolon a.0.1) _ _ _ a.2) as (λ _. Outside m names ts e r) [
            | inr p ↦
                outside m names ts (Outer (Declaration a.0.0 no_more)) p.0 e r p.2
                (j.tokens ∙ ap (tokens_then a.0.0) (taken marks.Semicolon a.0.1 p.0 p.1)) (j.well, tt)
            | inl p ↦
                let b = bound (reader (DeclaratorIn WithName) (declared a.0.0 names) a.0.1) _ _ p.1 in
                let k = s (DeclaratorIn WithName) (declared a.0.0 names) a.0.1 b.0.0 b.0.1 b.1 in
                definition-sound reader inner n m names a.0.0 b.0.0 ts b.0.1 e r s i j.well k.well (j.tokens ∙ ap (tokens_then a.0.0) k.tokens) b.2
          ]
    ]

at_end : (found : Found) (e : Syntax) → ended found ≡ Some e → Some found ≡ Some (e, [])
at_end (x, []) e h = let q : x ≡ e = cc in let F : Syntax → Option Found = λ y. Some (y, []) in ap F q
at_end (x, t ∷ ts) e h = cc

-- what is read of a chunk is a parse of it
pub chunk-sound : (names : Names) (ts : List Symbol) (e : Syntax) → chunk names ts ≡ Some e → IsParse names e ts
chunk-sound names ts e h =
    let a = bound (read_chunk (read_expressions 999) (read 999) 1000 names ts) ended e h in
    let s = read_chunk-sound (read_expressions 999) (read 999) 999 1000 names ts e [] (expressions-sound 999) (read-sound 999) (a.1 ∙ at_end a.0 e a.2) in
    record { tokens = s.tokens; well = s.well; height = s.height }
