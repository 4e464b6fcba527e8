-- The clauses of a text that are read in turn.
use Rattle.std.proofs.Common.{◌≡◌, ℕ, ◌+◌, ◌<◌, ◌≤◌, Bool, true, false, cond, nat_eq, nat_lt, List, [], ◌∷◌, ◌++◌, length, take, drop, None, Some, ap, refl, ◌∙◌, sym, arith}
use Rattle.std.proofs.lemmas.Bool.Decides.{nat_tests}
use Rattle.std.proofs.lemmas.List.{length-map, length-drop, length-take-le, drop-drop}
use Rattle.c_tree.specs.declared.token.Token.{Token}
use Rattle.c_tree.specs.Symbol.{Symbol, symbol_of, symbols_of}
use Rattle.c_grammar.specs.Found.{if_there}
use Rattle.metal_grammar.specs.Words.{Spelling}
use Rattle.metal_grammar.specs.Written.{Clause}
use Rattle.metal_grammar.specs.Clauses.{in_front, open_behind, clauses_behind, clauses_from}
use Rattle.metal_grammar.specs.Grammar.{Before, behind_content, is_last}
use Rattle.metal_grammar.specs.Reading.{read_clause, Clauses, AllRead, Unread, with_clause, read_clauses}
use Rattle.metal_clauses.specs.Cuts.{others_in}

-- what stands before the clauses behind these
abbrev pub behind_all : Spelling → Before → List Clause → Before
behind_all s b [] = b
behind_all s b (c ∷ cs) = behind_all s (behind_content s c.content b) cs

pub behind-push : (s : Spelling) (b : Before) (cs : List Clause) (c : Clause) → behind_all s b (cs ++ (c ∷ [])) ≡ behind_content s c.content (behind_all s b cs)
behind-push s b [] c = refl
behind-push s b (d ∷ cs) c = behind-push s (behind_content s d.content b) cs c

-- these clauses, and those that follow
abbrev pub with_all : List Clause → Clauses → Clauses
with_all [] r = r
with_all (c ∷ cs) r = with_clause c (with_all cs r)

with-push : (cs : List Clause) (c : Clause) (r : Clauses) → with_all (cs ++ (c ∷ [])) r ≡ with_all cs (with_clause c r)
with-push [] c r = refl
with-push (d ∷ cs) c r = ap (with_clause d) (with-push cs c r)

with-unread : (cs : List Clause) (at : ℕ) → with_all cs (Unread at) ≡ Unread at
with-unread [] at = refl
with-unread (c ∷ cs) at = ap (with_clause c) (with-unread cs at)

with-none : (cs : List Clause) → with_all cs (AllRead []) ≡ AllRead cs
with-none [] = refl
with-none (c ∷ cs) = ap (with_clause c) (with-none cs)

-- the clauses from a token on, if there are any
abbrev pub left_clauses : Bool → ℕ → List Token → ℕ → List (List Symbol)
left_clauses false braces ts from = []
left_clauses true braces ts from = clauses_from braces (symbols_of (drop from ts))

front-some : (t : Symbol) (cs : List (List Symbol)) → is_last (in_front t cs) ≡ false
front-some t [] = refl
front-some t (c ∷ cs) = refl

agree : (x y : Bool) → (x ≡ true → y ≡ true) → (y ≡ true → x ≡ true) → x ≡ y
agree true true f g = refl
agree true false f g = sym (f refl)
agree false true f g = g refl
agree false false f g = refl

-- tests of what is left
same-end : (a b c : ℕ) → c + a ≡ b → nat_eq a b ≡ nat_eq c 0
same-end a b c h =
    agree (nat_eq a b) (nat_eq c 0)
    (λ p. let q : a ≡ b = grind (arith, nat_tests) in let r : c ≡ 0 = omega (arith, q, h) in let z : nat_eq c 0 ≡ true = grind (arith, nat_tests) in z)
    (λ p. let q : c ≡ 0 = grind (arith, nat_tests) in let r : a ≡ b = omega (arith, q, h) in let z : nat_eq a b ≡ true = grind (arith, nat_tests) in z)

same-more : (a b c : ℕ) → c + a ≡ b → nat_lt a b ≡ nat_lt 0 c
same-more a b c h =
    agree (nat_lt a b) (nat_lt 0 c)
    (λ p. let q : a < b = grind (arith, nat_tests) in let r : 0 < c = omega (arith, q, h) in let z : nat_lt 0 c ≡ true = grind (arith, nat_tests) in z)
    (λ p. let q : 0 < c = grind (arith, nat_tests) in let r : a < b = omega (arith, q, h) in let z : nat_lt a b ≡ true = grind (arith, nat_tests) in z)

-- whether other clauses follow is whether tokens do
last-here : (us : List Token) (b : Bool) → b ≡ nat_eq (length us) 0 → is_last (others_in (symbols_of us)) ≡ b
last-here [] b h = let e : nat_eq 0 0 ≡ true = grind (arith, nat_tests) in sym (h ∙ e)
last-here (u ∷ us) b h =
    let e : nat_eq (length (u ∷ us)) 0 ≡ false = grind (arith, nat_tests) in
    front-some (symbol_of u) (clauses_behind 1 (symbol_of u) (symbols_of us) (clauses_from (open_behind 1 (symbol_of u)) (symbols_of us))) ∙ sym (h ∙ e)

others-left : (us : List Token) (b : Bool) → b ≡ nat_lt 0 (length us) → others_in (symbols_of us) ≡ cond b (clauses_from 1 (symbols_of us)) []
others-left [] b h = let e : nat_lt 0 0 ≡ false = grind (arith, nat_tests) in ap (λ c. cond c (clauses_from 1 []) []) (sym (h ∙ e))
others-left (u ∷ us) b h = let e : nat_lt 0 (length (u ∷ us)) ≡ true = grind (arith, nat_tests) in ap (λ c. cond c (clauses_from 1 (symbols_of (u ∷ us))) []) (sym (h ∙ e))

left-cond : (b : Bool) (braces : ℕ) (ts : List Token) (from : ℕ) → cond b (clauses_from braces (symbols_of (drop from ts))) [] ≡ left_clauses b braces ts from
left-cond true braces ts from = refl
left-cond false braces ts from = refl

module _ (s : Spelling) (ts : List Token) where
  -- one turn: the clause in front, and those behind it
  turn : (b : Before) (is_first : Bool) (braces from n end : ℕ) (is_end more : Bool)
      → clauses_from braces (symbols_of (drop from ts)) ≡ symbols_of (take n (drop from ts)) ∷ others_in (symbols_of (drop n (drop from ts)))
      → n ≤ length (drop from ts) → end ≡ from + n → is_end ≡ nat_eq end (length ts) → more ≡ nat_lt end (length ts) → from ≤ length ts
      → read_clauses s b is_first from (clauses_from braces (symbols_of (drop from ts)))
      ≡ if_there (read_clause s b is_first is_end (symbols_of (take n (drop from ts)))) (Unread from) (λ c. with_clause c (read_clauses s (behind_content s c.content b) false end (left_clauses more 1 ts end)))
  turn b is_first braces from n end is_end more cut within at e m low =
      let rest : drop n (drop from ts) ≡ drop end ts = drop-drop n from ts ∙ ap (λ k. drop k ts) (sym at) in
      let all : length (drop from ts) + from ≡ length ts = omega (arith, length-drop from ts, low) in
      let left : length (drop end ts) + end ≡ length ts = omega (arith, length-drop end ts, all, within, at) in
      let size : length (symbols_of (take n (drop from ts))) ≡ n = length-map (take n (drop from ts)) symbol_of ∙ length-take-le n (drop from ts) within in
      let last : is_last (others_in (symbols_of (drop end ts))) ≡ is_end = last-here (drop end ts) is_end (e ∙ same-end end (length ts) (length (drop end ts)) left) in
      let others : others_in (symbols_of (drop end ts)) ≡ left_clauses more 1 ts end = others-left (drop end ts) more (m ∙ same-more end (length ts) (length (drop end ts)) left) ∙ left-cond more 1 ts end in
      let step = λ (xs : List (List Symbol)) (p : ℕ) (l : Bool). if_there (read_clause s b is_first l (symbols_of (take n (drop from ts)))) (Unread from) (λ c. with_clause c (read_clauses s (behind_content s c.content b) false p xs)) in
      ap (read_clauses s b is_first from) (cut ∙ ap (λ us. symbols_of (take n (drop from ts)) ∷ others_in (symbols_of us)) rest)
      ∙ ap (step (others_in (symbols_of (drop end ts))) (from + length (symbols_of (take n (drop from ts))))) last
      ∙ ap (λ p. step (others_in (symbols_of (drop end ts))) p is_end) (ap (λ k. from + k) size ∙ sym at)
      ∙ ap (λ xs. step xs end is_end) others

  -- in a clause that isn't the first the head is none, and none is asked for where nothing is left
  no_head : (b : Before) (more : Bool) (end : ℕ) → (more ≡ true → 0 < end) → read_clauses s b false end (left_clauses more 1 ts end) ≡ read_clauses s b (nat_eq end 0) end (left_clauses more 1 ts end)
  no_head b false end h = refl
  no_head b true end h = let p = h refl in let e : nat_eq end 0 ≡ false = grind (arith, nat_tests) in ap (λ f. read_clauses s b f end (left_clauses true 1 ts end)) (sym e)

  -- a clause is read, and joins those before
  pub turn-next : (start : Before) (cs pushed : List Clause) (c : Clause) (braces from n end : ℕ) (is_end more : Bool) (whole : Clauses)
      → clauses_from braces (symbols_of (drop from ts)) ≡ symbols_of (take n (drop from ts)) ∷ others_in (symbols_of (drop n (drop from ts)))
      → n ≤ length (drop from ts) → end ≡ from + n → is_end ≡ nat_eq end (length ts) → more ≡ nat_lt end (length ts) → from ≤ length ts → (more ≡ true → 0 < end)
      → read_clause s (behind_all s start cs) (nat_eq from 0) is_end (symbols_of (take n (drop from ts))) ≡ Some c → pushed ≡ cs ++ (c ∷ [])
      → with_all cs (read_clauses s (behind_all s start cs) (nat_eq from 0) from (left_clauses true braces ts from)) ≡ whole
      → with_all pushed (read_clauses s (behind_all s start pushed) (nat_eq end 0) end (left_clauses more 1 ts end)) ≡ whole
  turn-next start cs pushed c braces from n end is_end more whole cut within at e m low p found push w =
      let b = behind_all s start cs in
      let next = read_clauses s (behind_content s c.content b) false end (left_clauses more 1 ts end) in
      let here : read_clauses s b (nat_eq from 0) from (left_clauses true braces ts from) ≡ with_clause c next
      = turn b (nat_eq from 0) braces from n end is_end more cut within at e m low
      ∙ ap (λ o. if_there o (Unread from) (λ d. with_clause d (read_clauses s (behind_content s d.content b) false end (left_clauses more 1 ts end)))) found in
      ap (λ xs. with_all xs (read_clauses s (behind_all s start xs) (nat_eq end 0) end (left_clauses more 1 ts end))) push
      ∙ ap (λ x. with_all (cs ++ (c ∷ [])) (read_clauses s x (nat_eq end 0) end (left_clauses more 1 ts end))) (behind-push s start cs c)
      ∙ ap (with_all (cs ++ (c ∷ []))) (sym (no_head (behind_content s c.content b) more end p))
      ∙ with-push cs c next
      ∙ ap (with_all cs) (sym here)
      ∙ w

  -- a clause isn't read
  pub turn-fails : (start : Before) (cs : List Clause) (braces from n end : ℕ) (is_end : Bool) (whole : Clauses)
      → clauses_from braces (symbols_of (drop from ts)) ≡ symbols_of (take n (drop from ts)) ∷ others_in (symbols_of (drop n (drop from ts)))
      → n ≤ length (drop from ts) → end ≡ from + n → is_end ≡ nat_eq end (length ts) → from ≤ length ts
      → read_clause s (behind_all s start cs) (nat_eq from 0) is_end (symbols_of (take n (drop from ts))) ≡ None
      → with_all cs (read_clauses s (behind_all s start cs) (nat_eq from 0) from (left_clauses true braces ts from)) ≡ whole
      → whole ≡ Unread from
  turn-fails start cs braces from n end is_end whole cut within at e low found w =
      let b = behind_all s start cs in
      sym w
      ∙ ap (with_all cs) (turn b (nat_eq from 0) braces from n end is_end (nat_lt end (length ts)) cut within at e refl low
      ∙ ap (λ o. if_there o (Unread from) (λ d. with_clause d (read_clauses s (behind_content s d.content b) false end (left_clauses (nat_lt end (length ts)) 1 ts end)))) found)
      ∙ with-unread cs from

  -- all are read
  pub turn-over : (b : Before) (cs : List Clause) (is_first : Bool) (braces from : ℕ) (whole : Clauses)
      → with_all cs (read_clauses s b is_first from (left_clauses false braces ts from)) ≡ whole → whole ≡ AllRead cs
  turn-over b cs is_first braces from whole w = sym w ∙ with-none cs
