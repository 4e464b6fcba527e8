-- What is read in front of symbols, up to their end, is their parse.
use Rattle.std.proofs.Common.{◌≡◌, ℕ, ◌<◌, Bor, List, [], ◌∷◌, length, None, Some, Result, Ok, Err, IfOk, IfErr, IsErrAnd, refl, sym, ◌∙◌, subst, arith}
use Rattle.c_tree.specs.declared.tree.Tree.{Tree}
use Rattle.c_tree.specs.declared.token.Token.{Token}
use Rattle.c_tree.specs.Symbol.{Symbol, symbols_of}
use Rattle.c_tree.specs.Syntax.{Syntax}
use Rattle.c_grammar.specs.Names.{Names}
use Rattle.c_grammar.specs.Nonterminal.{Nonterminal}
use Rattle.c_grammar.specs.Reading.{read, whole}
use Rattle.c_grammar.specs.Theorems.{ParsesAreRead}
use Rattle.c_tree.specs.Forget.{view}
use Rattle.c_tree.specs.Views.{node_of}
use Rattle.c_grammar.specs.CPlaces.Stands.{StandsOver}
use Rattle.c_expr.specs.declared.fault.ExprFault.{ExprFault}
use Rattle.c_expr.specs.declared.fault.ExprFault.TheVariants.{NoTree}
use Rattle.c_expr.specs.declared.nodes.Read.{Read}
use Rattle.c_expr.specs.Parses.{IsTheParse, HasNoParse}

some_same : (a b : Syntax) → Some a ≡ Some b → a ≡ b
some_same a b h = cc

whole-ended : (nonterminal : Nonterminal) (names : Names) (ts : List Symbol) (e : Syntax) (rest : List Token) → length rest ≡ 0 → read 1000 nonterminal names ts ≡ Some (e, symbols_of rest) → whole nonterminal names ts ≡ Some e
whole-ended nonterminal names ts e [] z h = rw h refl
whole-ended nonterminal names ts e (t ∷ rest) z h = absurd (omega (arith, z))

whole-more : (nonterminal : Nonterminal) (names : Names) (ts : List Symbol) (e : Syntax) (rest : List Token) → 0 < length rest → read 1000 nonterminal names ts ≡ Some (e, symbols_of rest) → whole nonterminal names ts ≡ None
whole-more nonterminal names ts e [] z h = absurd (omega (arith, z))
whole-more nonterminal names ts e (t ∷ rest) z h = rw h refl

whole-none : (nonterminal : Nonterminal) (names : Names) (ts : List Symbol) → read 1000 nonterminal names ts ≡ None → whole nonterminal names ts ≡ None
whole-none nonterminal names ts h = rw h refl

-- what is read up to the end
pub the-parse : (nonterminal : Nonterminal) (names : Names) (ts : List Symbol) (e : Syntax) (rest : List Token) → ParsesAreRead → length rest ≡ 0 → read 1000 nonterminal names ts ≡ Some (e, symbols_of rest) → IsTheParse nonterminal names e ts
the-parse nonterminal names ts e rest reads z h =
    let w = whole-ended nonterminal names ts e rest z h in
    record { parse = (reads nonterminal names ts e).0 w; alone = λ other p. some_same other e (sym ((reads nonterminal names ts other).1 p) ∙ w) }

none : (nonterminal : Nonterminal) (names : Names) (ts : List Symbol) → ParsesAreRead → whole nonterminal names ts ≡ None → HasNoParse nonterminal names ts
none nonterminal names ts reads w e p = let s : Some e ≡ None = sym ((reads nonterminal names ts e).1 p) ∙ w in cc

-- where something is left over
pub no-parse-before : (nonterminal : Nonterminal) (names : Names) (ts : List Symbol) (e : Syntax) (rest : List Token) → ParsesAreRead → 0 < length rest → read 1000 nonterminal names ts ≡ Some (e, symbols_of rest) → HasNoParse nonterminal names ts
no-parse-before nonterminal names ts e rest reads z h = none nonterminal names ts reads (whole-more nonterminal names ts e rest z h)

-- and where nothing is read
pub no-parse : (nonterminal : Nonterminal) (names : Names) (ts : List Symbol) → ParsesAreRead → read 1000 nonterminal names ts ≡ None → HasNoParse nonterminal names ts
no-parse nonterminal names ts reads h = none nonterminal names ts reads (whole-none nonterminal names ts h)

pub kept-parsed : (nonterminal : Nonterminal) (names : Names) (ts : List Symbol) (r : Read) (result : Result (Bor Tree) ExprFault) → ParsesAreRead
    → read 1000 nonterminal names ts ≡ Some (view r.tree.now, symbols_of r.rest.now) → IfOk result (λ tree. (tree.now ≡ r.tree.now) × (length r.rest.now ≡ 0))
    → IfOk result (λ tree. IsTheParse nonterminal names (view tree.now) ts)
kept-parsed nonterminal names ts r (Ok tree) reads h k = subst (λ t. IsTheParse nonterminal names (view t) ts) (sym k.0) (the-parse nonterminal names ts (view r.tree.now) r.rest.now reads k.1 h)
kept-parsed nonterminal names ts r (Err e) reads h k = tt

pub left-refused : (nonterminal : Nonterminal) (names : Names) (ts : List Symbol) (r : Read) (result : Result (Bor Tree) ExprFault) → ParsesAreRead
    → read 1000 nonterminal names ts ≡ Some (view r.tree.now, symbols_of r.rest.now) → IfErr result (λ fault. fault ≡ NoTree → 0 < length r.rest.now)
    → IfErr result (λ fault. fault ≡ NoTree → HasNoParse nonterminal names ts)
left-refused nonterminal names ts r (Ok tree) reads h k = tt
left-refused nonterminal names ts r (Err e) reads h k = λ n. no-parse-before nonterminal names ts (view r.tree.now) r.rest.now reads (k n) h

pub fault-refused : (nonterminal : Nonterminal) (names : Names) (ts : List Symbol) (fault : ExprFault) (result : Result (Bor Tree) ExprFault) → ParsesAreRead
    → (fault ≡ NoTree → read 1000 nonterminal names ts ≡ None) → IsErrAnd result (λ e. e ≡ fault) → IfErr result (λ fault. fault ≡ NoTree → HasNoParse nonterminal names ts)
fault-refused nonterminal names ts fault (Ok tree) reads h k = tt
fault-refused nonterminal names ts fault (Err e) reads h k = λ n. no-parse nonterminal names ts reads (h (sym k ∙ n))

empty : (ts : List Token) → length ts ≡ 0 → ts ≡ []
empty [] h = refl
empty (t ∷ ts) h = absurd (omega (arith, h))

pub kept-stands : (low high : ℕ) (ts : List Token) (r : Read) (result : Result (Bor Tree) ExprFault) → StandsOver (node_of r.tree.now) low high ts r.rest.now
    → IfOk result (λ tree. (tree.now ≡ r.tree.now) × (length r.rest.now ≡ 0)) → IfOk result (λ tree. StandsOver (node_of tree.now) low high ts [])
kept-stands low high ts r (Ok tree) s k = subst (λ t. StandsOver (node_of t) low high ts []) (sym k.0) (subst (λ us. StandsOver (node_of r.tree.now) low high ts us) (empty r.rest.now k.1) s)
kept-stands low high ts r (Err e) s k = tt
