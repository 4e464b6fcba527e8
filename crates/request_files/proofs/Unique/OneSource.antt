-- A C file has at most one text, its tokens have at most one fault, and never both.
use Rattle.std.proofs.Common.{◌≡◌, inl, inr, ℕ, zero, suc, ◌+◌, ◌<◌, List, [], ◌∷◌, length, drop, None, Some, slice_get, refl, sym, ap, ◌∙◌, subst, arith}
use Rattle.mx_base.specs.Names.{HasNoRepeats}
use Rattle.c_tree.specs.declared.place.Place.{Place}
use Rattle.c_tree.specs.declared.token.Token.{Token}
use Rattle.c_tree.specs.Node.{Nodes}
use Rattle.c_tree.specs.Syntax.{Syntaxes, no_more, more}
use Rattle.c_tree.specs.Forget.{syntaxes_of}
use Rattle.c_lexer.specs.CReading.Chunks.{AreChunks, Follow}
use Rattle.c_lexer.specs.declared.c_reading.mode.Mode.TheVariants.{C}
use Rattle.c_lexer.specs.CReading.Strip.{stripped}
use Rattle.c_lexer.specs.Tokens.{TokenList}
use Rattle.c_grammar.specs.Names.{Names}
use Rattle.c_grammar.specs.UnitGrammar.Names.{declared}
use Rattle.c_grammar.specs.UnitGrammar.Grammar.{AreParses, IsFirstBad}
use Rattle.c_grammar.proofs.UnitGrammar.CompleteChunks.{one_parse}
use Rattle.c_parser.specs.Units.{IsParseIn, IsFirstBadAt}
use Rattle.c_parser.proofs.Chunks.{same_chunks}
use Rattle.c_parser.proofs.Chunks as chunks
use Rattle.c_expr.specs.Standing.{IsFirst}
use Rattle.type_rules.specs.Definition.{Table, first_fault}
use Rattle.type_rules.specs.Faults as typing
use Rattle.type_rules.specs.Unit.{places_of, table_by}
use Rattle.typed_unit.specs.Texts.{Text}
use Rattle.request_files.specs.FrontEnd.Faults.{of_typing, place_of}
use Rattle.request_files.specs.FrontEnd.Found.{stands_at}
use Rattle.request_files.specs.FrontEnd.Sources.{AreTrees, AreTypedTrees}
use Rattle.request_files.specs.declared.fault.Fault.TheVariants.{Syntax as SyntaxFault}
use Rattle.request_files.specs.declared.front_end.refusal.Faulty.{Faulty}
use Rattle.request_files.specs.Faults.{HasNoMeaning, HasNoUnitAt, without_dropped}
use Rattle.request_files.specs.Meanings.{IsSource}
use Rattle.request_files.specs.Turns.{SourceFile}
use Rattle.request_files.proofs.Unique.OneList.{one_list}
use Rattle.tree_facts.proofs.Rebuilt.{same_row}

-- where each chunk has a parse, none is the first without
none_bad : (ts : List Token) (names : Names) (cs : List (ℕ × ℕ)) (es : Syntaxes) (k : ℕ) → AreParses (IsParseIn ts) names es cs → IsFirstBad (IsParseIn ts) names cs k → ⊥
none_bad ts names [] es k p b = b
none_bad ts names (c ∷ cs) no_more k p b = p
none_bad ts names (c ∷ cs) (more e es) k p (inl b) = b.1 e p.0
none_bad ts names (c ∷ cs) (more e es) k p (inr (f, j, i, q, b)) =
    let s : f ≡ e = chunks.one_parse one_parse ts names f e c q p.0 in
    none_bad ts (declared e names) cs es j p.1 (subst (λ x. IsFirstBad (IsParseIn ts) (declared x names) cs j) s b)

-- one chunk is the first without
one_bad : (ts : List Token) (names : Names) (cs : List (ℕ × ℕ)) (k j : ℕ) → IsFirstBad (IsParseIn ts) names cs k → IsFirstBad (IsParseIn ts) names cs j → k ≡ j
one_bad ts names [] k j a b = absurd a
one_bad ts names (c ∷ cs) k j (inl a) (inl b) = a.0 ∙ sym b.0
one_bad ts names (c ∷ cs) k j (inl a) (inr b) = absurd (a.1 b.0 b.3)
one_bad ts names (c ∷ cs) k j (inr a) (inl b) = absurd (b.1 a.0 a.3)
one_bad ts names (c ∷ cs) k j (inr (e, m, i, p, a)) (inr (f, n, h, q, b)) =
    let s : f ≡ e = chunks.one_parse one_parse ts names f e c q p in
    let r = one_bad ts (declared e names) cs m n a (subst (λ x. IsFirstBad (IsParseIn ts) (declared x names) cs n) s b) in
    i ∙ ap (λ x. x + 1) r ∙ sym h

-- a chunk begins at a token
chunk_at : (ts : List Token) (from to : ℕ) (cs : List (ℕ × ℕ)) (n : ℕ) (c : ℕ × ℕ) → Follow ts from cs to → slice_get cs n ≡ Some c → c.0 < length ts
chunk_at ts from to [] n c f e = cc
chunk_at ts from to (d ∷ ds) zero c f e = let s : d ≡ c = cc in subst (λ x. x.0 < length ts) s (let a = f.1.some in let b = f.1.within in omega arith)
chunk_at ts from to (d ∷ ds) (suc n) c f e = chunk_at ts d.1 to ds n c f.2 e

first_there : (n : ℕ) (ts : List Token) → n < length ts → (t : Token) × ((rest : List Token) × (drop n ts ≡ t ∷ rest))
first_there n [] h = absurd (omega arith)
first_there zero (t ∷ ts) h = (t, (ts, refl))
first_there (suc n) (t ∷ ts) h = first_there n ts (omega arith)

one_place : (ts : List Token) (n : ℕ) (p q : Place) → n < length ts → IsFirst p (drop n ts) → IsFirst q (drop n ts) → p ≡ q
one_place ts n p q h a b = let f = first_there n ts h in a f.0 f.1.0 f.1.1 ∙ sym (b f.0 f.1.0 f.1.1)

some_is : {A : Type 0} (x y : A) → Some x ≡ Some y → x ≡ y
some_is x y h = cc

one_bad_place : (ts : List Token) (cs : List (ℕ × ℕ)) (p q : Place) → AreChunks ts cs → IsFirstBadAt ts cs p → IsFirstBadAt ts cs q → p ≡ q
one_bad_place ts cs p q f a b =
    let n = one_bad ts [] cs a.number b.number a.bad b.bad in
    let c : a.chunk ≡ b.chunk = some_is a.chunk b.chunk (sym a.there ∙ ap (slice_get cs) n ∙ b.there) in
    let first : IsFirst p (drop b.chunk.0 ts) = subst (λ x. IsFirst p (drop x.0 ts)) c a.begins in
    one_place ts b.chunk.0 p q (chunk_at ts 0 (length ts) cs b.number b.chunk f b.there) first b.begins

-- tokens have one row of trees
pub one_trees : (ts : List Token) (a b : Nodes) → AreTrees ts a → AreTrees ts b → a ≡ b
one_trees ts a b x y =
    let c = same_chunks ts 0 x.bounds y.bounds x.chunks y.chunks in
    let p : AreParses (IsParseIn ts) [] (syntaxes_of a) y.bounds = subst (λ cs. AreParses (IsParseIn ts) [] (syntaxes_of a) cs) c x.parses.parses in
    same_row a b 0 x.high y.high ts [] [] (y.parses.alone (syntaxes_of a) p) x.stand y.stand

trees_not_bad : (ts : List Token) (a : Nodes) (cs : List (ℕ × ℕ)) (p : Place) → AreTrees ts a → AreChunks ts cs → IsFirstBadAt ts cs p → ⊥
trees_not_bad ts a cs p x f b =
    let c = same_chunks ts 0 x.bounds cs x.chunks f in
    none_bad ts [] cs (syntaxes_of a) b.number (subst (λ d. AreParses (IsParseIn ts) [] (syntaxes_of a) d) c x.parses.parses) b.bad

-- a unit with types has no fault
fine_unit : (list : TokenList) (trees : Nodes) (found : Faulty) → AreTypedTrees (stripped list.all) trees → HasNoUnitAt list found → ⊥
fine_unit list trees found t (inl b) = trees_not_bad (stripped list.all) trees b.bounds b.place t.trees_are b.chunks b.first
fine_unit list trees found t (inr b) =
    let e = one_trees (stripped list.all) trees b.trees t.trees_are b.trees_are in
    let n : first_fault (places_of b.trees) ≡ None = subst (λ x. first_fault (places_of x) ≡ None) e t.fine in
    none_some b.fault (sym n ∙ b.first)
  where
    none_some : (f : typing.Fault) → None ≡ Some f → ⊥
    none_some f h = cc

-- a unit has one fault
one_unit_fault : (list : TokenList) (a b : Faulty) → HasNoUnitAt list a → HasNoUnitAt list b → a ≡ b
one_unit_fault list a b (inl x) (inl y) =
    let ts = stripped list.all in
    let c = same_chunks ts 0 x.bounds y.bounds x.chunks y.chunks in
    let p = one_bad_place ts y.bounds x.place y.place y.chunks (subst (λ cs. IsFirstBadAt ts cs x.place) c x.first) y.first in
    x.there ∙ ap (λ (q : Place). stands_at (without_dropped list) SyntaxFault q.token) p ∙ sym y.there
one_unit_fault list a b (inl x) (inr y) = absurd (trees_not_bad (stripped list.all) y.trees x.bounds x.place y.trees_are x.chunks x.first)
one_unit_fault list a b (inr x) (inl y) = absurd (trees_not_bad (stripped list.all) x.trees y.bounds y.place x.trees_are y.chunks y.first)
one_unit_fault list a b (inr x) (inr y) =
    let e = one_trees (stripped list.all) x.trees y.trees x.trees_are y.trees_are in
    let f : x.fault ≡ y.fault = some_is x.fault y.fault (sym x.first ∙ ap (λ t. first_fault (places_of t)) e ∙ y.first) in
    x.there ∙ ap (λ z. stands_at (without_dropped list) (of_typing z) (place_of z).token) f ∙ sym y.there

module _ (number : ℕ) (word : List ℕ) (before : List (List ℕ)) (bytes : List ℕ) (once : HasNoRepeats before) where
  -- ONE TEXT
  pub one_text : (names grown : List (List ℕ)) (t u : Text) → IsSource number word before names bytes t → IsSource number word before grown bytes u → (names ≡ grown) × (t ≡ u)
  one_text names grown t u a b =
      let l = one_list C number word before names grown bytes a.list b.list once a.tokens b.tokens in
      let s : stripped a.list.all ≡ stripped b.list.all = ap (λ x. stripped x.all) l.1 in
      let x : AreTrees (stripped b.list.all) t.trees = subst (λ ts. AreTrees ts t.trees) s a.typed.trees_are in
      let e = one_trees (stripped b.list.all) t.trees u.trees x b.typed.trees_are in
      let k : t.tokens ≡ u.tokens = a.kept ∙ s ∙ sym b.kept in
      let f : t.table ≡ u.table = a.table ∙ ap table_by e ∙ sym b.table in
      (l.0, ap (λ (n : Nodes). record t { trees = n }) e ∙ ap (λ (z : Table). record t { trees = u.trees; table = z }) f ∙ ap (λ (ts : List Token). record u { tokens = ts }) k)

  -- the tokens of a text have no fault
  pub fine_text : (names grown : List (List ℕ)) (t : Text) (found : Faulty) → IsSource number word before names bytes t → HasNoMeaning SourceFile number word before grown bytes found → ⊥
  fine_text names grown t found a (list, tokens, n) =
      let l = one_list C number word before names grown bytes a.list list once a.tokens tokens in
      fine_unit a.list t.trees found a.typed (subst (λ x. HasNoUnitAt x found) (sym l.1) n)

  -- ONE FAULT
  pub one_text_fault : (names grown : List (List ℕ)) (a b : Faulty) → HasNoMeaning SourceFile number word before names bytes a → HasNoMeaning SourceFile number word before grown bytes b → (names ≡ grown) × (a ≡ b)
  one_text_fault names grown a b (list, tokens, n) (other, tokens2, n2) =
      let e = one_list C number word before names grown bytes list other once tokens tokens2 in
      (e.0, one_unit_fault other a b (subst (λ x. HasNoUnitAt x a) e.1 n) n2)
