-- A unit is read chunk by chunk.
use Rattle.std.proofs.Common.{◌≡◌, ℕ, zero, suc, ◌+◌, ◌-◌, ◌≤◌, ◌<◌, ◌⊎◌, inl, inr, Bool, true, false, IsTrue, ◌↔◌, Bor, List, [], ◌∷◌, ◌++◌, drop, take, length, Option, Some, None, Result, Ok, Err, IfOk, IfErr, IsErrAnd, slice_get, refl, sym, ap, ◌∙◌, subst, arith}
use Rattle.std.proofs.lemmas.Bool.{cases_lt}
use Rattle.std.proofs.lemmas.List.{drop_all}
use Rattle.c_tree.specs.declared.place.Place.{Place}
use Rattle.c_tree.specs.declared.token.Token.{Token}
use Rattle.c_tree.specs.declared.tree.Tree.{Tree}
use Rattle.c_tree.specs.Symbol.{Symbol, symbols_of}
use Rattle.c_tree.specs.Syntax.{Syntax, Syntaxes, no_more, more}
use Rattle.c_tree.specs.Forget.{view, view_all}
use Rattle.c_tree.specs.Views.{node_of}
use Rattle.c_grammar.specs.CPlaces.Stands.{StandsOver}
use Rattle.c_lexer.specs.CReading.Chunks.{EndsChunk, IsChunk, Follow, AreChunks, IsCut}
use Rattle.c_grammar.specs.Names.{Names}
use Rattle.c_grammar.specs.Reading.{read as read_expressions}
use Rattle.c_grammar.specs.UnitGrammar.Names.{declared}
use Rattle.c_grammar.specs.UnitGrammar.Grammar.{IsParse, AreParses, IsFirstBad}
use Rattle.c_grammar.specs.UnitGrammar.Theorems.{ParsesAreUnique, ChunksAreRead}
use Rattle.c_grammar.specs.Ways.ChunkSteps.{read_chunk}
use Rattle.c_grammar.specs.UnitGrammar.Reading.{read, chunk}
use Rattle.c_expr.specs.Gives.{before}
use Rattle.c_expr.specs.Standing.{IsFirst}
use Rattle.c_expr.proofs.Items.{before-push, before-none}
use Rattle.c_expr.specs.declared.fault.ExprFault.{ExprFault}
use Rattle.c_expr.specs.declared.fault.ExprFault.TheVariants.{NoTree}
use Rattle.c_expr.specs.declared.nodes.Read.{Read}
use Rattle.c_parser.specs.Units.{tokens_in, IsParseIn, AreTheTrees, IsFirstBadAt}
use Rattle.c_parser.specs.declared.fault.ParseFault.{ParseFault}
use Rattle.c_parser.specs.declared.fault.ParseFault.TheVariants.{NoMemory, Syntax as SyntaxAt}
use Rattle.type_values.specs.declared.unit.Unit.{Unit}

-- Chunks of the same tokens are the same.

not_shorter : (ts : List Token) (from to other : ℕ) → IsChunk ts from to → IsChunk ts from other → to < other → ⊥
not_shorter ts from to other c d h = elim c.ends as (λ _. ⊥) [
  | inl p ↦ d.inside p.0 (let s = c.some in let e = p.1 in omega arith) (let e = p.1 in omega arith) p.2
  | inr e ↦ let w = d.within in absurd (omega arith)
]

same_end : (ts : List Token) (from to other : ℕ) → IsChunk ts from to → IsChunk ts from other → to ≡ other
same_end ts from to other c d = elim (cases_lt to other) as (λ _. to ≡ other) [
  | inl h ↦ absurd (not_shorter ts from to other c d h)
  | inr h ↦ elim (cases_lt other to) as (λ _. to ≡ other) [
    | inl k ↦ absurd (not_shorter ts from other to d c k)
    | inr k ↦ omega arith
  ]
]

same_pair : (c d : ℕ × ℕ) → c.0 ≡ d.0 → c.1 ≡ d.1 → c ≡ d
same_pair c d h k = ap (λ n. (n, c.1)) h ∙ ap (λ n. (d.0, n)) k

pub same_chunks : (ts : List Token) (from : ℕ) (ps qs : List (ℕ × ℕ)) → Follow ts from ps (length ts) → Follow ts from qs (length ts) → ps ≡ qs
same_chunks ts from [] [] f g = refl
same_chunks ts from [] (d ∷ ds) f g = let s = g.1.some in let w = g.1.within in let e = g.0 in absurd (omega arith)
same_chunks ts from (c ∷ cs) [] f g = let s = f.1.some in let w = f.1.within in let e = f.0 in absurd (omega arith)
same_chunks ts from (c ∷ cs) (d ∷ ds) f g =
    let start : c.0 ≡ d.0 = f.0 ∙ sym g.0 in
    let end : c.1 ≡ d.1 = same_end ts d.0 c.1 d.1 (subst (λ n. IsChunk ts n c.1) start f.1) g.1 in
    let rest : cs ≡ ds = same_chunks ts d.1 cs ds (subst (λ n. Follow ts n cs (length ts)) end f.2) g.2 in
    let first = same_pair c d start end in
    cc

-- A chunk has at most one parse, and so have chunks.

pub one_parse : ParsesAreUnique → (ts : List Token) (names : Names) (a b : Syntax) (c : ℕ × ℕ) → IsParseIn ts names a c → IsParseIn ts names b c → a ≡ b
one_parse unique ts names a b c p q = unique names (symbols_of (tokens_in ts c)) a b p.parse q.parse

pub one_list : ParsesAreUnique → (ts : List Token) (names : Names) (chunks : List (ℕ × ℕ)) (ds es : Syntaxes) → AreParses (IsParseIn ts) names ds chunks → AreParses (IsParseIn ts) names es chunks → ds ≡ es
one_list unique ts names [] no_more no_more p q = refl
one_list unique ts names [] no_more (more b es) p q = absurd q
one_list unique ts names [] (more a ds) es p q = absurd p
one_list unique ts names (c ∷ chunks) no_more es p q = absurd p
one_list unique ts names (c ∷ chunks) (more a ds) no_more p q = absurd q
one_list unique ts names (c ∷ chunks) (more a ds) (more b es) p q =
    let e : a ≡ b = one_parse unique ts names a b c p.0 q.0 in
    let rest : ds ≡ es = one_list unique ts (declared b names) chunks ds es (subst (λ x. AreParses (IsParseIn ts) (declared x names) ds chunks) e p.1) q.1 in
    cc

-- What is read of one more chunk.

-- trees of the chunks that are left make parses of all, behind these
abbrev pub GoesOn : List Token → List (ℕ × ℕ) → List Tree → Names → List (ℕ × ℕ) → Type 0
GoesOn ts chunks all names rest = (es : Syntaxes) → AreParses (IsParseIn ts) names es rest → AreParses (IsParseIn ts) [] (before all es) chunks

-- and the first of these without a parse is the first of all
abbrev pub BadGoesOn : List Token → List (ℕ × ℕ) → ℕ → Names → List (ℕ × ℕ) → Type 0
BadGoesOn ts chunks done names rest = (k : ℕ) → IsFirstBad (IsParseIn ts) names rest k → IsFirstBad (IsParseIn ts) [] chunks (done + k)

pub goes-on : (ts : List Token) (chunks : List (ℕ × ℕ)) (all pushed : List Tree) (tree : Tree) (names new : Names) (c : ℕ × ℕ) (rest : List (ℕ × ℕ))
    → pushed ≡ all ++ (tree ∷ []) → IsParseIn ts names (view tree) c → new ≡ declared (view tree) names
    → GoesOn ts chunks all names (c ∷ rest) → GoesOn ts chunks pushed new rest
goes-on ts chunks all pushed tree names new c rest h p n g es q =
    let both = g (more (view tree) es) (p, subst (λ x. AreParses (IsParseIn ts) x es rest) n q) in
    subst (λ x. AreParses (IsParseIn ts) [] x chunks) (sym (ap (λ us. before us es) h ∙ before-push all tree es)) both

pub bad-goes-on : (ts : List Token) (chunks : List (ℕ × ℕ)) (done : ℕ) (tree : Tree) (names new : Names) (c : ℕ × ℕ) (rest : List (ℕ × ℕ))
    → IsParseIn ts names (view tree) c → new ≡ declared (view tree) names
    → BadGoesOn ts chunks done names (c ∷ rest) → BadGoesOn ts chunks (done + 1) new rest
bad-goes-on ts chunks done tree names new c rest p n g k q =
    let both = g (k + 1) (inr (view tree, k, refl, p, subst (λ x. IsFirstBad (IsParseIn ts) x rest k) n q)) in
    let e : done + (k + 1) ≡ (done + 1) + k = omega arith in
    subst (λ m. IsFirstBad (IsParseIn ts) [] chunks m) e both

-- Whether a chunk has an end.

-- before the last, each has
pub ends_inside : (ts : List Token) (from to : ℕ) → IsChunk ts from to → to < length ts → (k : ℕ) × (to ≡ k + 1) × EndsChunk ts k
ends_inside ts from to c h = elim c.ends as (λ _. (k : ℕ) × (to ≡ k + 1) × EndsChunk ts k) [
  | inl p ↦ p
  | inr e ↦ absurd (omega arith)
]

-- and the last, where nothing is left
pub ends_last : (ts : List Token) (from to : ℕ) → IsChunk ts from to → to ≡ length ts → IsCut ts → (k : ℕ) × (to ≡ k + 1) × EndsChunk ts k
ends_last ts from to c e cut =
    let some = c.some in
    let here : to ≡ (to - 1) + 1 = omega arith in
    (to - 1, here, cut (to - 1) (sym e ∙ here))

-- what is left has none
pub left_open : (ts : List Token) (from to : ℕ) → to ≡ length ts → (IsCut ts → ⊥) → (names : Names) (e : Syntax) → IsParseIn ts names e (from, to) → ⊥
left_open ts from to h uncut names e p = uncut (λ n k.
    let same : p.last ≡ n = let w = p.end in omega arith in
    subst (λ m. EndsChunk ts m) same p.ends)

-- What is read of a chunk is its parse.

chunk_ended : (names : Names) (ts : List Symbol) (e : Syntax) (rest : List Token) → length rest ≡ 0 → read_chunk (read_expressions 999) (read 999) 1000 names ts ≡ Some (e, symbols_of rest) → chunk names ts ≡ Some e
chunk_ended names ts e [] z h = rw h refl
chunk_ended names ts e (t ∷ rest) z h = absurd (omega (arith, z))

chunk_more : (names : Names) (ts : List Symbol) (e : Syntax) (rest : List Token) → 0 < length rest → read_chunk (read_expressions 999) (read 999) 1000 names ts ≡ Some (e, symbols_of rest) → chunk names ts ≡ None
chunk_more names ts e [] z h = absurd (omega (arith, z))
chunk_more names ts e (t ∷ rest) z h = rw h refl

chunk_none : (names : Names) (ts : List Symbol) → read_chunk (read_expressions 999) (read 999) 1000 names ts ≡ None → chunk names ts ≡ None
chunk_none names ts h = rw h refl

abbrev pub HasNone : Names → List Symbol → Type 0
HasNone names ts = (e : Syntax) → IsParse names e ts → ⊥

none : (names : Names) (ts : List Symbol) → ChunksAreRead → chunk names ts ≡ None → HasNone names ts
none names ts reads w e p = let s : Some e ≡ None = sym ((reads names ts e).1 p) ∙ w in cc

pub kept-parsed : (names : Names) (ts : List Symbol) (r : Read) (result : Result (Bor Tree) ExprFault) → ChunksAreRead
    → read_chunk (read_expressions 999) (read 999) 1000 names ts ≡ Some (view r.tree.now, symbols_of r.rest.now) → IfOk result (λ tree. (tree.now ≡ r.tree.now) × (length r.rest.now ≡ 0))
    → IfOk result (λ tree. IsParse names (view tree.now) ts)
kept-parsed names ts r (Ok tree) reads h k = subst (λ t. IsParse names (view t) ts) (sym k.0) ((reads names ts (view r.tree.now)).0 (chunk_ended names ts (view r.tree.now) r.rest.now k.1 h))
kept-parsed names ts r (Err e) reads h k = tt

pub left-refused : (names : Names) (ts : List Symbol) (r : Read) (result : Result (Bor Tree) ExprFault) → ChunksAreRead
    → read_chunk (read_expressions 999) (read 999) 1000 names ts ≡ Some (view r.tree.now, symbols_of r.rest.now) → IfErr result (λ fault. fault ≡ NoTree → 0 < length r.rest.now)
    → IfErr result (λ fault. fault ≡ NoTree → HasNone names ts)
left-refused names ts r (Ok tree) reads h k = tt
left-refused names ts r (Err e) reads h k = λ n. none names ts reads (chunk_more names ts (view r.tree.now) r.rest.now (k n) h)

pub fault-refused : (names : Names) (ts : List Symbol) (fault : ExprFault) (result : Result (Bor Tree) ExprFault) → ChunksAreRead
    → (fault ≡ NoTree → read_chunk (read_expressions 999) (read 999) 1000 names ts ≡ None) → IsErrAnd result (λ e. e ≡ fault)
    → IfErr result (λ fault. fault ≡ NoTree → HasNone names ts)
fault-refused names ts fault (Ok tree) reads h k = tt
fault-refused names ts fault (Err e) reads h k = λ n. none names ts reads (chunk_none names ts (h (sym k ∙ n)))

empty : (ts : List Token) → length ts ≡ 0 → ts ≡ []
empty [] h = refl
empty (t ∷ ts) h = absurd (omega (arith, h))

pub kept-stands : (low high : ℕ) (ts : List Token) (r : Read) (result : Result (Bor Tree) ExprFault) → StandsOver (node_of r.tree.now) low high ts r.rest.now
    → IfOk result (λ tree. (tree.now ≡ r.tree.now) × (length r.rest.now ≡ 0)) → IfOk result (λ tree. StandsOver (node_of tree.now) low high ts [])
kept-stands low high ts r (Ok tree) s k = subst (λ t. StandsOver (node_of t) low high ts []) (sym k.0) (subst (λ us. StandsOver (node_of r.tree.now) low high ts us) (empty r.rest.now k.1) s)
kept-stands low high ts r (Err e) s k = tt

pub kept-declared : (old new : Names) (r : Read) (result : Result (Bor Tree) ExprFault) → new ≡ declared (view r.tree.now) old
    → IfOk result (λ tree. (tree.now ≡ r.tree.now) × (length r.rest.now ≡ 0)) → IfOk result (λ tree. new ≡ declared (view tree.now) old)
kept-declared old new r (Ok tree) h k = subst (λ t. new ≡ declared (view t) old) (sym k.0) h
kept-declared old new r (Err e) h k = tt

-- The loop over the chunks.

pub goes-on-start : (ts : List Token) (chunks : List (ℕ × ℕ)) (all : List Tree) (names : Names) → all ≡ [] → names ≡ [] → GoesOn ts chunks all names chunks
goes-on-start ts chunks all names a n es p = subst (λ us. AreParses (IsParseIn ts) [] (before us es) chunks) (sym a) (subst (λ ns. AreParses (IsParseIn ts) ns es chunks) n p)

pub bad-goes-on-start : (ts : List Token) (chunks : List (ℕ × ℕ)) (names : Names) → names ≡ [] → BadGoesOn ts chunks 0 names chunks
bad-goes-on-start ts chunks names n k p =
    let same : k ≡ 0 + k = omega arith in
    subst (λ m. IsFirstBad (IsParseIn ts) [] chunks m) same (subst (λ ns. IsFirstBad (IsParseIn ts) ns chunks k) n p)

-- the parse, where its beginning is that of the chunk
pub parse-there : (ts : List Token) (names : Names) (e : Syntax) (from : ℕ) (c : ℕ × ℕ) → c.0 ≡ from → IsParseIn ts names e (from, c.1) → IsParseIn ts names e c
parse-there ts names e from c h p = subst (λ d. IsParseIn ts names e d) (same_pair (from, c.1) c (sym h) refl) p

pub parse-here : (ts : List Token) (names : Names) (e : Syntax) (from : ℕ) (c : ℕ × ℕ) → c.0 ≡ from → IsParseIn ts names e c → IsParseIn ts names e (from, c.1)
parse-here ts names e from c h p = subst (λ d. IsParseIn ts names e d) (same_pair c (from, c.1) h refl) p

-- behind the last chunk all trees are the parses
pub all-parses : (unique : ParsesAreUnique) (ts : List Token) (bounds chunks : List (ℕ × ℕ)) (all : List Tree) (names : Names) (index : ℕ) (es : Syntaxes)
    → AreChunks ts bounds → AreChunks ts chunks → length chunks ≤ index → GoesOn ts chunks all names (drop index chunks) → es ≡ view_all all → AreTheTrees ts bounds es
all-parses unique ts bounds chunks all names index es b c h g e =
    let same : chunks ≡ bounds = same_chunks ts 0 chunks bounds c b in
    let end : AreParses (IsParseIn ts) names no_more (drop index chunks) = subst (λ x. AreParses (IsParseIn ts) names no_more x) (sym (drop_all index chunks h)) tt in
    let are : AreParses (IsParseIn ts) [] es chunks = subst (λ x. AreParses (IsParseIn ts) [] x chunks) (before-none all ∙ sym e) (g no_more end) in
    let there = subst (λ x. AreParses (IsParseIn ts) [] es x) same are in
    record { parses = there; alone = λ others p. one_list unique ts [] bounds others es p there }

-- and a chunk without a parse is the first of all
pub bad-there : (ts : List Token) (bounds chunks rest : List (ℕ × ℕ)) (names : Names) (index : ℕ) (c : ℕ × ℕ) (place : Place)
    → AreChunks ts bounds → AreChunks ts chunks → slice_get chunks index ≡ Some c → IsFirst place (drop c.0 ts) → ((e : Syntax) → IsParseIn ts names e c → ⊥)
    → BadGoesOn ts chunks index names (c ∷ rest) → IsFirstBadAt ts bounds place
bad-there ts bounds chunks rest names index c place b h there begins bad g =
    let same : chunks ≡ bounds = same_chunks ts 0 chunks bounds h b in
    let here : index + 0 ≡ index = omega arith in
    let first : IsFirstBad (IsParseIn ts) [] chunks index = subst (λ k. IsFirstBad (IsParseIn ts) [] chunks k) here (g 0 (inl (refl, bad))) in
    subst (λ x. IsFirstBadAt ts x place) same (record { number = index; bad = first; chunk = c; there = there; begins = begins })

pub handed-on : (result : Result Unit ParseFault) (fault : ParseFault) (Q : Place → Type 0) → ((place : Place) → fault ≡ SyntaxAt place → Q place) → IsErrAnd result (λ e. e ≡ fault)
    → IfErr result (λ e. (place : Place) → e ≡ SyntaxAt place → Q place)
handed-on (Ok unit) fault Q h k = tt
handed-on (Err e) fault Q h k = λ place n. h place (sym k ∙ n)

pub without_memory : (result : Result Unit ParseFault) (Q : Place → Type 0) → IsErrAnd result (λ e. e ≡ NoMemory) → IfErr result (λ e. (place : Place) → e ≡ SyntaxAt place → Q place)
without_memory (Ok unit) Q k = tt
without_memory (Err e) Q k = λ place n. let apart : NoMemory ≡ SyntaxAt place = sym k ∙ n in cc
