-- Members are found by the table of first positions and by the lists of positions.
use Rattle.std.proofs.Common.{◌≡◌, ℕ, suc, List, [], ◌∷◌, ◌++◌, length, map, Option, None, Some, cond, nat_eq, Bool, true, false, ap, refl, ◌∙◌, sym, subst, slice_get, arith}
use Rattle.std.proofs.lemmas.Bool.Decides.{nat_tests}
use Rattle.std.specs.Option.{option_map}
use Rattle.type_rules.specs.Options.{or_else}
use Rattle.unit_typing.specs.declared.members.MemberEntry.{MemberEntry}
use Rattle.unit_typing.specs.Members.{same_key, key_of, first_named, first_position, given, given_by, positions, AreFiled, one_at, given_at}

-- the position of the first one, and that one
abbrev IsFirst : List MemberEntry → Option MemberEntry → Option ℕ → Type 0
IsFirst ms m None = m ≡ None
IsFirst ms m (Some j) = slice_get ms j ≡ m

first-step : (b : Bool) (o : Option ℕ) (found : Option MemberEntry) (m : MemberEntry) (ms : List MemberEntry) → IsFirst ms found o
    → IsFirst (m ∷ ms) (cond b (Some m) found) (cond b (Some 0) (option_map suc o))
first-step true o found m ms h = refl
first-step false (Some j) found m ms h = h
first-step false None found m ms h = h

first-is : (k : ℕ × ℕ) (ms : List MemberEntry) → IsFirst ms (first_named k ms) (first_position k ms)
unfolding first_position
first-is k [] = refl
first-is k (m ∷ ms) = first-step (same_key k (key_of m)) (first_position k ms) (first_named k ms) m ms (first-is k ms)

pub first-none : (k : ℕ × ℕ) (ms : List MemberEntry) → first_position k ms ≡ None → first_named k ms ≡ None
first-none k ms e = subst (λ (o : Option ℕ). IsFirst ms (first_named k ms) o) e (first-is k ms)

pub first-some : (k : ℕ × ℕ) (j : ℕ) (ms : List MemberEntry) → first_position k ms ≡ Some j → slice_get ms j ≡ first_named k ms
first-some k j ms e = subst (λ (o : Option ℕ). IsFirst ms (first_named k ms) o) e (first-is k ms)

-- one member more
first-behind : (b c : Bool) (j : ℕ) (o : Option ℕ) → cond b (Some 0) (option_map suc (or_else o (cond c (Some j) None))) ≡ or_else (cond b (Some 0) (option_map suc o)) (cond c (Some (suc j)) None)
first-behind true c j o = refl
first-behind false c j (Some i) = refl
first-behind false true j None = refl
first-behind false false j None = refl

first-push : (k : ℕ × ℕ) (ms : List MemberEntry) (m : MemberEntry) → first_position k (ms ++ (m ∷ [])) ≡ or_else (first_position k ms) (cond (same_key k (key_of m)) (Some (length ms)) None)
unfolding first_position
first-push k [] m = refl
first-push k (x ∷ xs) m =
    ap (λ o. cond (same_key k (key_of x)) (Some 0) (option_map suc o)) (first-push k xs m)
    ∙ first-behind (same_key k (key_of x)) (same_key k (key_of m)) (length xs) (first_position k xs)

more-behind : (c : Bool) (j : ℕ) (ps : List ℕ) → map suc (ps ++ cond c (j ∷ []) []) ≡ map suc ps ++ cond c (suc j ∷ []) []
more-behind true j [] = refl
more-behind false j [] = refl
more-behind c j (p ∷ ps) = ap (λ (qs : List ℕ). suc p ∷ qs) (more-behind c j ps)

owned-behind : (b c : Bool) (j : ℕ) (ps : List ℕ) → cond {A = List ℕ} b (0 ∷ map suc (ps ++ cond c (j ∷ []) [])) (map suc (ps ++ cond c (j ∷ []) [])) ≡ cond {A = List ℕ} b (0 ∷ map suc ps) (map suc ps) ++ cond c (suc j ∷ []) []
owned-behind true c j ps = ap (λ (qs : List ℕ). 0 ∷ qs) (more-behind c j ps)
owned-behind false c j ps = more-behind c j ps

owned-push : (n : ℕ) (ms : List MemberEntry) (m : MemberEntry) → positions n (ms ++ (m ∷ [])) ≡ positions n ms ++ cond (nat_eq m.owner n) (length ms ∷ []) []
unfolding positions
owned-push n [] m = by (nat_eq m.owner n)
  where
    by : (b : Bool) → cond {A = List ℕ} b (0 ∷ []) [] ≡ [] ++ cond b (0 ∷ []) []
    by true = refl
    by false = refl
owned-push n (x ∷ xs) m =
    ap (λ (ps : List ℕ). cond {A = List ℕ} (nat_eq x.owner n) (0 ∷ map suc ps) (map suc ps)) (owned-push n xs m)
    ∙ owned-behind (nat_eq x.owner n) (nat_eq m.owner n) (length xs) (positions n xs)

-- the members at these positions, behind one in front
given-past : (owner : ℕ) (ps : List ℕ) (m : MemberEntry) (ms : List MemberEntry) → given_at owner (map suc ps) (m ∷ ms) ≡ given_at owner ps ms
given-past owner [] m ms = refl
given-past owner (p ∷ ps) m ms = ap (λ (ns : List MemberEntry). one_at owner (slice_get ms p) ++ ns) (given-past owner ps m ms)

pub given-found : (owner n : ℕ) (ms : List MemberEntry) → given_at owner (positions n ms) ms ≡ given_by owner n ms
unfolding positions
given-found owner n [] = refl
given-found owner n (m ∷ ms) = by (nat_eq m.owner n) (given-past owner (positions n ms) m ms ∙ given-found owner n ms)
  where
    by : (b : Bool) → given_at owner (map suc (positions n ms)) (m ∷ ms) ≡ given_by owner n ms
        → given_at owner (cond b (0 ∷ map suc (positions n ms)) (map suc (positions n ms))) (m ∷ ms) ≡ cond b (given owner m ∷ given_by owner n ms) (given_by owner n ms)
    by true e = ap (λ (ns : List MemberEntry). given owner m ∷ ns) e
    by false e = e

pub filed-none : (table : ℕ × ℕ → Option ℕ) (lists : ℕ → List ℕ) (ms : List MemberEntry) → ms ≡ [] → ((k : ℕ × ℕ) → table k ≡ None) → ((n : ℕ) → lists n ≡ []) → AreFiled table lists ms
unfolding first_position positions
filed-none table lists ms e f g = rw e (record { first = λ k. f k; owned = λ n. g n })

or_none : (o : Option ℕ) → or_else o None ≡ o
or_none (Some i) = refl
or_none None = refl

turned : (k l : ℕ × ℕ) → same_key k l ≡ same_key l k
turned k l = let a : nat_eq k.0 l.0 ≡ nat_eq l.0 k.0 = grind (arith, nat_tests) in let b : nat_eq k.1 l.1 ≡ nat_eq l.1 k.1 = grind (arith, nat_tests) in rw (a, b) refl

one-key : (k l : ℕ × ℕ) → same_key k l ≡ true → k ≡ l
one-key (a, b) (c, d) e =
    let p : a ≡ c = grind (arith, nat_tests, e) in
    let q : b ≡ d = grind (arith, nat_tests, e) in
    rw (p, q) refl

owned-more : (lists longer : ℕ → List ℕ) (ms : List MemberEntry) (m : MemberEntry) (at n : ℕ) {old : ℕ × ℕ → Option ℕ} → AreFiled old lists ms → at ≡ length ms
    → ((n : ℕ) → longer n ≡ lists n ++ cond (nat_eq m.owner n) (at ∷ []) []) → longer n ≡ positions n (ms ++ (m ∷ []))
owned-more lists longer ms m at n h e l =
    l n ∙ ap (λ (ps : List ℕ). ps ++ cond (nat_eq m.owner n) (at ∷ []) []) (h.owned n)
    ∙ ap (λ i. positions n ms ++ cond (nat_eq m.owner n) (i ∷ []) []) e
    ∙ sym (owned-push n ms m)

-- one member more
pub filed-push : (old new : ℕ × ℕ → Option ℕ) (lists longer : ℕ → List ℕ) (ms : List MemberEntry) (m : MemberEntry) (at : ℕ) → AreFiled old lists ms → at ≡ length ms
    → ((n : ℕ) → longer n ≡ lists n ++ cond (nat_eq m.owner n) (at ∷ []) [])
    → ((k : ℕ × ℕ) → new k ≡ or_else (old k) (cond (same_key (key_of m) k) (Some at) None)) → AreFiled new longer (ms ++ (m ∷ []))
filed-push old new lists longer ms m at h e l w = record {
  first = λ k.
      w k ∙ ap (λ o. or_else o (cond (same_key (key_of m) k) (Some at) None)) (h.first k)
      ∙ ap (λ i. or_else (first_position k ms) (cond (same_key (key_of m) k) (Some i) None)) e
      ∙ ap (λ b. or_else (first_position k ms) (cond b (Some (length ms)) None)) (turned (key_of m) k)
      ∙ sym (first-push k ms m);
  owned = λ n. owned-more lists longer ms m at n h e l;
}

-- the table has the owner and name already
pub noted-old : (old : ℕ × ℕ → Option ℕ) (key k : ℕ × ℕ) (p j : ℕ) → old key ≡ Some j → old k ≡ or_else (old k) (cond (same_key key k) (Some p) None)
noted-old old key k p j e = by (same_key key k) refl
  where
    by : (b : Bool) → same_key key k ≡ b → old k ≡ or_else (old k) (cond b (Some p) None)
    by true s = let here = ap old (sym (one-key key k s)) ∙ e in here ∙ sym (ap (λ o. or_else o (Some p)) here)
    by false s = sym (or_none (old k))

-- it hasn't
pub noted-new : (old new : ℕ × ℕ → Option ℕ) (key k : ℕ × ℕ) (p : ℕ) → old key ≡ None → new k ≡ cond (same_key key k) (Some p) (old k)
    → new k ≡ or_else (old k) (cond (same_key key k) (Some p) None)
noted-new old new key k p e w = w ∙ by (same_key key k) refl
  where
    by : (b : Bool) → same_key key k ≡ b → cond b (Some p) (old k) ≡ or_else (old k) (cond b (Some p) None)
    by true s = sym (ap (λ o. or_else o (Some p)) (ap old (sym (one-key key k s)) ∙ e))
    by false s = sym (or_none (old k))
