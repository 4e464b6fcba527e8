-- Chunks, found from the first token to the last.
use Rattle.std.proofs.Common.{◌≡◌, ℕ, zero, suc, ◌+◌, ◌≤◌, ◌<◌, Bool, true, false, ◌&&◌, ◌||◌, eqb, List, [], ◌∷◌, ◌++◌, length, take, get_or, inl, inr, refl, ap, sym, ◌∙◌, subst, arith}
use Rattle.std.proofs.lemmas.List.{take_more}
use Rattle.std.proofs.lemmas.Bool.{cases_lt}
use Rattle.c_tree.specs.declared.token.Token.{Token}
use Rattle.c_tree.specs.declared.token.TokenKind.{TokenKind}
use Rattle.c_lexer.specs.CReading.Strip.{is_close_paren}
use Rattle.c_lexer.specs.CReading.Chunks.{is_semicolon, is_open_brace, is_close_brace, depth_behind, depth_of, depth_at, kind_at, behind_paren, begins_body, LeavesZero, EndsChunk, IsChunk, Follow}
use Rattle.c_lexer.specs.Nests.{Nests, ends_here, body_behind}
use Rattle.c_lexer.proofs.CReading.Tests.{cases, both, either, same, same_true}

pub kind_is : (is : TokenKind → Bool) (ts : List Token) (n : ℕ) (d : Token) → n < length ts → kind_at is ts n ≡ is (get_or ts n d).kind
kind_is is [] n d h = absurd (omega arith)
kind_is is (t ∷ ts) zero d h = refl
kind_is is (t ∷ ts) (suc n) d h = kind_is is ts n d (omega arith)

depth_of-push : (depth : ℕ) (ts : List Token) (t : Token) → depth_of depth (ts ++ t ∷ []) ≡ depth_behind (depth_of depth ts) t.kind
depth_of-push depth [] t = refl
depth_of-push depth (u ∷ ts) t = depth_of-push (depth_behind depth u.kind) ts t

depth_next : (ts : List Token) (n : ℕ) (d : Token) → n < length ts → depth_at ts (n + 1) ≡ depth_behind (depth_at ts n) (get_or ts n d).kind
unfolding depth_at
depth_next ts n d h = rw (take_more ts n d h) (depth_of-push 0 (take n ts) (get_or ts n d))

pub nests_first : (ts : List Token) → Nests ts 0 0 false false
unfolding depth_at
nests_first ts = record { depth_is = refl; paren_is = refl; inside = λ h. absurd (omega arith) }

paren_next : (ts : List Token) (n : ℕ) (d : Token) → n < length ts → is_close_paren (get_or ts n d).kind ≡ behind_paren ts (n + 1)
paren_next ts n d h = let e : n + 1 ≡ suc n = omega arith in rw e (sym (kind_is is_close_paren ts n d h))

-- the same bracket is still the last one that left depth 0
still : (ts : List Token) (m n : ℕ) → LeavesZero ts m n → 0 < depth_at ts (n + 1) → LeavesZero ts m (n + 1)
still ts m n l h = record {
  before = let b = l.before in omega arith;
  zero = l.zero;
  last = λ k a b. elim (cases_lt n k) as (λ _. 0 < depth_at ts k) [
    | inl c ↦ let e : k ≡ n + 1 = omega arith in rw e h
    | inr c ↦ l.last k a c
  ];
}

-- the bracket here has just left it
just_left : (ts : List Token) (n : ℕ) → depth_at ts n ≡ 0 → 0 < depth_at ts (n + 1) → LeavesZero ts n (n + 1)
just_left ts n z h = record {
  before = omega arith;
  zero = z;
  last = λ k a b. let e : k ≡ n + 1 = omega arith in rw e h;
}

pub nests_next : (ts : List Token) (n depth : ℕ) (paren body : Bool) (d : Token) → n < length ts → Nests ts n depth paren body →
    Nests ts (n + 1) (depth_behind depth (get_or ts n d).kind) (is_close_paren (get_or ts n d).kind) (body_behind depth paren body (get_or ts n d).kind)
nests_next ts n depth paren body d h s =
    let kind = (get_or ts n d).kind in
    let next : depth_behind depth kind ≡ depth_at ts (n + 1) = ap (λ x. depth_behind x kind) s.depth_is ∙ sym (depth_next ts n d h) in
    let brace : is_open_brace kind ≡ kind_at is_open_brace ts n = sym (kind_is is_open_brace ts n d h) in
    record {
      depth_is = next;
      paren_is = paren_next ts n d h;
      inside = λ p.
          let positive : 0 < depth_at ts (n + 1) = rw next at p in
          elim (cases (eqb depth 0)) as (λ _. (m : ℕ) × LeavesZero ts m (n + 1) × (body_behind depth paren body kind ≡ begins_body ts m)) [
            | inl e ↦
                let z : depth_at ts n ≡ 0 = sym s.depth_is ∙ same depth 0 e in
                (n, just_left ts n z positive, rw e (let a = s.paren_is in cc))
            | inr e ↦
                let i = s.inside (above_zero depth e) in
                (i.0, still ts i.0 n i.1 positive, rw e (i.2))
          ];
    }
  where
    above_zero : (n : ℕ) → eqb n 0 ≡ false → 0 < n
    above_zero zero k = cc
    above_zero (suc n) k = omega arith

pub ends_true : (ts : List Token) (n depth : ℕ) (paren body : Bool) (d : Token) → n < length ts → Nests ts n depth paren body → ends_here depth body (get_or ts n d).kind ≡ true → EndsChunk ts n
ends_true ts n depth paren body d h s e =
    let kind = (get_or ts n d).kind in
    elim (either (is_semicolon kind && eqb depth 0) (is_close_brace kind && (eqb depth 1 && body)) e) as (λ _. EndsChunk ts n) [
      | inl a ↦ let b = both (is_semicolon kind) (eqb depth 0) a in inl (kind_is is_semicolon ts n d h ∙ b.0, sym s.depth_is ∙ same depth 0 b.1)
      | inr a ↦
          let b = both (is_close_brace kind) (eqb depth 1 && body) a in
          let c = both (eqb depth 1) body b.1 in
          let one : depth ≡ 1 = same depth 1 c.0 in
          let i = s.inside (omega arith) in
          inr (record {
            brace = kind_is is_close_brace ts n d h ∙ b.0;
            depth = sym s.depth_is ∙ one;
            opener = i.0;
            left = i.1;
            body = sym i.2 ∙ c.1;
          })
    ]

-- one bracket last left depth 0
one_opener : (ts : List Token) (l m n : ℕ) → LeavesZero ts l n → LeavesZero ts m n → l ≡ m
one_opener ts l m n a b = elim (cases_lt l m) as (λ _. l ≡ m) [
  | inl c ↦ let p = a.last m c (let q = b.before in omega arith) in let z = b.zero in absurd (omega arith)
  | inr c ↦ elim (cases_lt m l) as (λ _. l ≡ m) [
    | inl e ↦ let p = b.last l e (let q = a.before in omega arith) in let z = a.zero in absurd (omega arith)
    | inr e ↦ omega arith
  ]
]

pub ends_false : (ts : List Token) (n depth : ℕ) (paren body : Bool) (d : Token) → n < length ts → Nests ts n depth paren body → ends_here depth body (get_or ts n d).kind ≡ false → EndsChunk ts n → ⊥
ends_false ts n depth paren body d h s e (inl c) =
    let a : is_semicolon (get_or ts n d).kind ≡ true = sym (kind_is is_semicolon ts n d h) ∙ c.0 in
    let b : eqb depth 0 ≡ true = same_true depth 0 (s.depth_is ∙ c.1) in
    clash (is_semicolon (get_or ts n d).kind) (eqb depth 0) _ a b e
  where
    clash : (x y z : Bool) → x ≡ true → y ≡ true → ((x && y) || z) ≡ false → ⊥
    clash x y z p q r = let v : ((x && y) || z) ≡ true = rw (p, q) refl in cc
ends_false ts n depth paren body d h s e (inr c) =
    let a : is_close_brace (get_or ts n d).kind ≡ true = sym (kind_is is_close_brace ts n d h) ∙ c.brace in
    let one : depth ≡ 1 = s.depth_is ∙ c.depth in
    let b : eqb depth 1 ≡ true = same_true depth 1 one in
    let i = s.inside (omega arith) in
    let m = one_opener ts i.0 c.opener n i.1 c.left in
    let k : body ≡ true = i.2 ∙ ap (begins_body ts) m ∙ c.body in
    clash (is_semicolon (get_or ts n d).kind && eqb depth 0) (is_close_brace (get_or ts n d).kind) (eqb depth 1) body a b k e
  where
    clash : (w x y z : Bool) → x ≡ true → y ≡ true → z ≡ true → (w || (x && (y && z))) ≡ false → ⊥
    clash true x y z p q r t = cc
    clash false x y z p q r t = let v : (x && (y && z)) ≡ true = rw (p, q, r) refl in cc

pub follow-push : (ts : List Token) (from mid to : ℕ) (cs : List (ℕ × ℕ)) → Follow ts from cs mid → IsChunk ts mid to → Follow ts from (cs ++ (mid, to) ∷ []) to
follow-push ts from mid to [] f c = (sym f, c, refl)
follow-push ts from mid to (x ∷ xs) f c = (f.0, f.1, follow-push ts x.1 mid to xs f.2 c)

-- ---- bounds are unique

one_end : (ts : List Token) (from a b : ℕ) → IsChunk ts from a → IsChunk ts from b → a ≤ b
one_end ts from a b c d = elim (cases_lt b a) as (λ _. a ≤ b) [
  | inl l ↦ elim (d.ends) as (λ _. a ≤ b) [
    | inl e ↦ absurd (c.inside e.0 (let s = d.some in let q = e.1 in omega arith) (let q = e.1 in omega arith) e.2)
    | inr e ↦ let w = c.within in omega arith
  ]
  | inr l ↦ omega arith
]

pair_is : (c e : ℕ × ℕ) → c.0 ≡ e.0 → c.1 ≡ e.1 → c ≡ e
pair_is c e p q = let F : ℕ → ℕ × ℕ = λ x. (x, c.1) in let G : ℕ → ℕ × ℕ = λ y. (e.0, y) in ap F p ∙ ap G q

-- the chunks of tokens are given by the tokens
pub one_chunks : (ts : List Token) (from : ℕ) (cs es : List (ℕ × ℕ)) → Follow ts from cs (length ts) → Follow ts from es (length ts) → cs ≡ es
one_chunks ts from [] [] f g = refl
one_chunks ts from [] (e ∷ es) f g = let s = g.1.some in let w = g.1.within in let q = g.0 in absurd (omega arith)
one_chunks ts from (c ∷ cs) [] f g = let s = f.1.some in let w = f.1.within in let q = f.0 in absurd (omega arith)
one_chunks ts from (c ∷ cs) (e ∷ es) f g =
    let start : c.0 ≡ e.0 = f.0 ∙ sym g.0 in
    let d : IsChunk ts c.0 e.1 = rw start (g.1) in
    let le = one_end ts c.0 c.1 e.1 f.1 d in
    let ge = one_end ts c.0 e.1 c.1 d f.1 in
    let end : c.1 ≡ e.1 = omega arith in
    let rest = one_chunks ts c.1 cs es f.2 (rw end (g.2)) in
    let first : c ≡ e = pair_is c e start end in
    cc

-- ---- the steps of a loop

-- a chunk that ends behind the token here
pub chunk_here : (ts : List Token) (start n : ℕ) → start ≤ n → n < length ts → ((k : ℕ) → start ≤ k → k < n → EndsChunk ts k → ⊥) → EndsChunk ts n → IsChunk ts start (n + 1)
chunk_here ts start n s h none e = record {
  some = omega arith;
  within = omega arith;
  inside = λ k a b. none k a (omega arith);
  ends = inl (n, refl, e);
}

-- what is left is a chunk
pub chunk_left : (ts : List Token) (start n : ℕ) → start < n → n ≡ length ts → ((k : ℕ) → start ≤ k → k < n → EndsChunk ts k → ⊥) → IsChunk ts start n
chunk_left ts start n s h none = record {
  some = s;
  within = omega arith;
  inside = λ k a b. none k a (omega arith);
  ends = inr h;
}

pub none_more : (ts : List Token) (start n : ℕ) → ((k : ℕ) → start ≤ k → k < n → EndsChunk ts k → ⊥) → (EndsChunk ts n → ⊥) → (k : ℕ) → start ≤ k → k < n + 1 → EndsChunk ts k → ⊥
none_more ts start n none here k a b e = elim (cases_lt k n) as (λ _. ⊥) [
  | inl l ↦ none k a l e
  | inr l ↦ let q : k ≡ n = omega arith in here (subst (λ x. EndsChunk ts x) q e)
]

pub nests_are : (ts : List Token) (n depth depth' : ℕ) (paren paren' body body' : Bool) → depth' ≡ depth → paren' ≡ paren → body' ≡ body → Nests ts n depth paren body → Nests ts n depth' paren' body'
nests_are ts n depth depth' paren paren' body body' d p b s = rw (d, p, b) s
