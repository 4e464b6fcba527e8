-- The loop that reads all clauses: a clause that is read joins those before, and one that isn't ends the reading.
use Rattle.std.proofs.Common.{◌≡◌, inl, inr, ℕ, suc, cond, ◌+◌, ◌-◌, ◌<◌, ◌≤◌, Bool, true, false, nat_eq, nat_lt, Bor, List, [], ◌∷◌, ◌++◌, length, take, drop, Option, None, Some, Result, Ok, Err, MatchResult, IsErrAnd, ap, refl, ◌∙◌, sym, subst, arith}
use Rattle.std.proofs.lemmas.Bool.Decides.{nat_tests}
use Rattle.std.proofs.lemmas.List.{length-drop, length-take-le, map-append}
use Rattle.c_tree.specs.declared.token.Token.{Token}
use Rattle.c_tree.specs.Symbol.{symbols_of}
use Rattle.metal_grammar.specs.Words.{Spelling}
use Rattle.metal_grammar.specs.Written as text
use Rattle.metal_grammar.specs.Clauses.{clauses_from}
use Rattle.metal_grammar.specs.Grammar.{Before, nothing_before, behind_content}
use Rattle.metal_grammar.specs.Phrases.{clause_tokens}
use Rattle.metal_grammar.specs.Reading.{read_clause, Clauses, AllRead, Unread, read_clauses, read_text}
use Rattle.metal_written.specs.declared.written.Clause.{Clause}
use Rattle.metal_written.specs.Sizes.{HasSizes, ClausesHaveSizes, size_of_all}
use Rattle.metal_written.specs.Written.{clause_view, clause_views}
use Rattle.metal_written.proofs.InSizes.{clause-size, clauses-sizes-push, total-push}
use Rattle.metal_clauses.specs.declared.fault.ClauseFault.{ClauseFault}
use Rattle.metal_clauses.specs.Cuts.{others_in}
use Rattle.metal_clauses.specs.Read.{ReadsAll, IsUnread, GivesBetween}
use Rattle.metal_clauses.proofs.InTurn.{behind_all, behind-push, with_all, left_clauses, turn-next, turn-fails, turn-over}

-- what a refusal says of the whole
refused : (whole : Clauses) (file from : ℕ) (result : Result (Bor (List Clause)) ClauseFault) (fault : ClauseFault) (found : Option text.Clause) → IsErrAnd result (λ e. e ≡ fault)
    → GivesBetween file from (Err fault) found → (found ≡ None → whole ≡ Unread from) → MatchResult result (λ cs. ReadsAll whole cs.now) (λ e. IsUnread whole file e)
refused whole file from (Ok cs) fault found i g n = absurd i
refused whole file from (Err e) fault found i (inl m) n = subst (IsUnread whole file) (sym (i ∙ m)) tt
refused whole file from (Err e) fault found i (inr p) n = subst (IsUnread whole file) (sym (i ∙ p.1)) (from, n p.0, refl)

module _ (names : Spelling) (ts : List Token) (clauses : List Clause) (depth from n : ℕ) (us : List Token) where
  abbrev before : Before
  before = behind_all names nothing_before (clause_views clauses)

  -- the clauses so far, and those from here on
  abbrev pub ReadSoFar : Bool → Type 0
  ReadSoFar more = with_all (clause_views clauses) (read_clauses names before (nat_eq from 0) from (left_clauses more depth ts from)) ≡ read_text names (symbols_of ts)

  -- so many tokens are cut off in front of those that are left
  pub record IsCut : Type 0 where
    pub behind : us ≡ drop from ts
    pub within : n ≤ length us
    pub first : clauses_from depth (symbols_of us) ≡ symbols_of (take n us) ∷ others_in (symbols_of (drop n us))
    pub low : from ≤ length ts

  same_take : take (from + n - from) (drop from ts) ≡ take n (drop from ts)
  same_take = let e : from + n - from ≡ n = omega arith in ap (λ k. take k (drop from ts)) e

  cut : IsCut → clauses_from depth (symbols_of (drop from ts)) ≡ symbols_of (take n (drop from ts)) ∷ others_in (symbols_of (drop n (drop from ts)))
  cut c = subst (λ xs. clauses_from depth (symbols_of xs) ≡ symbols_of (take n xs) ∷ others_in (symbols_of (drop n xs))) c.behind c.first

  within : IsCut → n ≤ length (drop from ts)
  within c = subst (λ xs. n ≤ length xs) c.behind c.within

  still : (more : Bool) → more ≡ true → ReadSoFar more → ReadSoFar true
  still more m w = subst ReadSoFar m w

  pub cut-bound : IsCut → from + n ≤ length ts
  cut-bound c = let w = within c in let count = length-drop from ts in let low = c.low in omega (arith, w, count, low)

  -- where more tokens follow, a clause has some
  some_cut : IsCut → (0 < length us → 0 < n) → from + n < length ts → 0 < n
  some_cut c some l =
      let size : length us ≡ length (drop from ts) = ap length c.behind in
      let count = length-drop from ts in
      some (omega (arith, l, size, count))

  -- the tokens that are left get fewer
  pub fewer-left : (more : Bool) → IsCut → (0 < length us → 0 < n) → more ≡ true → cond (nat_lt (from + n) (length ts)) (suc (length ts - (from + n))) 0 < cond more (suc (length ts - from)) 0
  fewer-left more c some m = subst (λ b. cond (nat_lt (from + n) (length ts)) (suc (length ts - (from + n))) 0 < cond b (suc (length ts - from)) 0) (sym m) (by (nat_lt (from + n) (length ts)) refl)
    where
      by : (b : Bool) → b ≡ nat_lt (from + n) (length ts) → cond b (suc (length ts - (from + n))) 0 < suc (length ts - from)
      by true h =
          let l : from + n < length ts = grind (arith, nat_tests) in
          let positive = some_cut c some l in
          omega (arith, l, positive)
      by false h = omega arith

  -- no clause is left
  pub all-read : (more : Bool) → more ≡ false → ReadSoFar more → read_text names (symbols_of ts) ≡ AllRead (clause_views clauses)
  all-read more m w = turn-over names ts before (clause_views clauses) (nat_eq from 0) depth from (read_text names (symbols_of ts)) (subst ReadSoFar m w)

  -- the clause isn't read
  pub clause-refused : (more : Bool) (file : ℕ) (result : Result (Bor (List Clause)) ClauseFault) (fault : ClauseFault) → IsCut → more ≡ true → ReadSoFar more → IsErrAnd result (λ e. e ≡ fault)
      → GivesBetween file from (Err fault) (read_clause names before (nat_eq from 0) (nat_eq (from + n) (length ts)) (symbols_of (take (from + n - from) (drop from ts))))
      → MatchResult result (λ cs. ReadsAll (read_text names (symbols_of ts)) cs.now) (λ e. IsUnread (read_text names (symbols_of ts)) file e)
  clause-refused more file result fault c m w i g =
      refused (read_text names (symbols_of ts)) file from result fault _ i g
      (λ none. turn-fails names ts nothing_before (clause_views clauses) depth from n (from + n) (nat_eq (from + n) (length ts)) (read_text names (symbols_of ts)) (cut c) (within c) refl refl c.low
      (ap (λ xs. read_clause names before (nat_eq from 0) (nat_eq (from + n) (length ts)) (symbols_of xs)) (sym same_take) ∙ none) (still more m w))

  module _ (pushed : List Clause) (clause : Clause) where
    seen : pushed ≡ clauses ++ (clause ∷ []) → clause_views pushed ≡ clause_views clauses ++ (clause_view clause ∷ [])
    seen p = ap clause_views p ∙ map-append clause_view clauses (clause ∷ [])

    abbrev IsRead : Type 0
    IsRead = read_clause names before (nat_eq from 0) (nat_eq (from + n) (length ts)) (symbols_of (take (from + n - from) (drop from ts))) ≡ Some (clause_view clause)

    -- the clause is read
    pub clause-read : (more : Bool) → IsCut → (0 < length us → 0 < n) → more ≡ true → ReadSoFar more → IsRead → pushed ≡ clauses ++ (clause ∷ [])
        → with_all (clause_views pushed) (read_clauses names (behind_all names nothing_before (clause_views pushed)) (nat_eq (from + n) 0) (from + n) (left_clauses (nat_lt (from + n) (length ts)) 1 ts (from + n))) ≡ read_text names (symbols_of ts)
    clause-read more c some m w r p =
        turn-next names ts nothing_before (clause_views clauses) (clause_views pushed) (clause_view clause) depth from n (from + n) (nat_eq (from + n) (length ts)) (nat_lt (from + n) (length ts)) (read_text names (symbols_of ts))
        (cut c) (within c) refl refl refl c.low goes_on
        (ap (λ xs. read_clause names before (nat_eq from 0) (nat_eq (from + n) (length ts)) (symbols_of xs)) (sym same_take) ∙ r) (seen p) (still more m w)
      where
        goes_on : nat_lt (from + n) (length ts) ≡ true → 0 < from + n
        goes_on h =
            let l : from + n < length ts = grind (arith, nat_tests) in
            let positive = some_cut c some l in
            omega (arith, positive)

    -- what stands before the next clause
    pub before-next : pushed ≡ clauses ++ (clause ∷ []) → behind_content names (clause_view clause).content before ≡ behind_all names nothing_before (clause_views pushed)
    before-next p = sym (ap (behind_all names nothing_before) (seen p) ∙ behind-push names nothing_before (clause_views clauses) (clause_view clause))

    -- each clause knows its size
    pub sizes-next : IsCut → IsRead → clause.size ≡ from + n - from → HasSizes clause.content → pushed ≡ clauses ++ (clause ∷ []) → ClausesHaveSizes clauses → ClausesHaveSizes pushed
    sizes-next c r s h p all =
        let whole = clause-size names before (nat_eq from 0) (nat_eq (from + n) (length ts)) (take (from + n - from) (drop from ts)) (clause_view clause) r in
        let taken : length (take (from + n - from) (drop from ts)) ≡ n = ap length same_take ∙ length-take-le n (drop from ts) (within c) in
        let size : clause.size ≡ length (clause_tokens (clause_view clause)) = omega (arith, whole, taken, s) in
        subst ClausesHaveSizes (sym p) (clauses-sizes-push clauses clause all (size, h))

    pub total-next : clause.size ≡ from + n - from → pushed ≡ clauses ++ (clause ∷ []) → size_of_all clauses ≡ from → size_of_all pushed ≡ from + n
    total-next s p t = let e = total-push clauses clause in ap size_of_all p ∙ omega (arith, e, s, t)
