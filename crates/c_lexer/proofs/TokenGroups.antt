-- Groups in parentheses, found from the last token to the first.
use Rattle.std.proofs.Common.{◌≡◌, ℕ, zero, suc, ◌+◌, ◌-◌, ◌≤◌, ◌<◌, true, false, List, [], ◌∷◌, ◌++◌, length, drop, Option, None, Some, IfSome, slice_get, set, get_or, append_assoc, length-drop, length-set, inl, inr, refl, ap, sym, ◌∙◌, subst, arith}
use Rattle.c_tree.specs.declared.token.Token.{Token}
use Rattle.c_lexer.specs.CReading.Scans.{plus}
use Rattle.c_lexer.specs.CReading.Strip.{is_open_paren, is_close_paren, group_end, group_len, is_qualifier, asm_len, dropped_with, kept, stripped_behind}
use Rattle.c_lexer.specs.Groups.{EndsAt, AreEnds}
use Rattle.std.proofs.lemmas.List.{drop_all, drop_more, drop-drop, append-nil}
use Rattle.std.proofs.lemmas.Bool.{cases_lt}
use Rattle.c_lexer.proofs.CReading.Scans.{plus-plus}
use Rattle.c_lexer.proofs.CReading.Tests.{cases, mapped, some_is}

more : (rest : List Token) (t : Token) (d e : ℕ) (o : Option ℕ) → group_end e (t ∷ rest) ≡ plus 1 (group_end d rest) → EndsAt rest d o → EndsAt (t ∷ rest) e o
more rest t d e None h m = rw (h, m) refl
more rest t d e (Some behind) h m = (m.0 + 1, rw (h, m.1) refl, let z = m.2 in omega arith)

pub ends_none : AreEnds [] []
unfolding group_end
ends_none zero = refl
ends_none (suc d) = refl

other_end : (rest : List Token) (t : Token) (d : ℕ) → is_open_paren t.kind ≡ false → is_close_paren t.kind ≡ false → group_end d (t ∷ rest) ≡ plus 1 (group_end d rest)
unfolding group_end
other_end rest t zero o c = rw (o, c) refl
other_end rest t (suc d) o c = rw (o, c) refl

open_end : (rest : List Token) (t : Token) (d : ℕ) → is_open_paren t.kind ≡ true → group_end d (t ∷ rest) ≡ plus 1 (group_end (suc d) rest)
unfolding group_end
open_end rest t zero o = rw o refl
open_end rest t (suc d) o = rw o refl

close_first : (rest : List Token) (t : Token) → is_open_paren t.kind ≡ false → is_close_paren t.kind ≡ true → group_end 0 (t ∷ rest) ≡ Some 1
unfolding group_end
close_first rest t o c = rw (o, c) refl

close_end : (rest : List Token) (t : Token) (d : ℕ) → is_open_paren t.kind ≡ false → is_close_paren t.kind ≡ true → group_end (suc d) (t ∷ rest) ≡ plus 1 (group_end d rest)
unfolding group_end
close_end rest t d o c = rw (o, c) refl

pub ends_other : (rest : List Token) (t : Token) (ends : List ℕ) → is_open_paren t.kind ≡ false → is_close_paren t.kind ≡ false → AreEnds rest ends → AreEnds (t ∷ rest) ends
ends_other rest t ends o c m d = more rest t d d (slice_get ends d) (other_end rest t d o c) (m d)

pub ends_close : (rest : List Token) (t : Token) (ends : List ℕ) → is_open_paren t.kind ≡ false → is_close_paren t.kind ≡ true → AreEnds rest ends → AreEnds (t ∷ rest) (length rest ∷ ends)
ends_close rest t ends o c m zero = (1, close_first rest t o c, omega arith)
ends_close rest t ends o c m (suc d) = more rest t d (suc d) (slice_get ends d) (close_end rest t d o c) (m d)

pub ends_open : (rest : List Token) (t : Token) (behind : ℕ) (ends : List ℕ) → is_open_paren t.kind ≡ true → AreEnds rest (behind ∷ ends) → AreEnds (t ∷ rest) ends
ends_open rest t behind ends o m d = more rest t (suc d) d (slice_get ends d) (open_end rest t d o) (m (suc d))

pub ends_open_none : (rest : List Token) (t : Token) → is_open_paren t.kind ≡ true → AreEnds rest [] → AreEnds (t ∷ rest) []
ends_open_none rest t o m d = more rest t (suc d) d None (open_end rest t d o) (m (suc d))

pub group_len-some : (rest : List Token) (t : Token) (behind n : ℕ) (ends : List ℕ) → is_open_paren t.kind ≡ true → AreEnds rest (behind ∷ ends) → n + behind ≡ length rest + 1 → group_len (t ∷ rest) ≡ Some n
unfolding group_len
group_len-some rest t behind n ends o m h =
    let k = m 0 in
    let e : k.0 + 1 ≡ n = let z = k.2 in omega arith in
    rw (o, k.1) (ap Some e)

pub group_len-none : (rest : List Token) (t : Token) → is_open_paren t.kind ≡ true → AreEnds rest [] → group_len (t ∷ rest) ≡ None
unfolding group_len
group_len-none rest t o m = rw (o, m 0) refl

pub group_len-other : (rest : List Token) (t : Token) → is_open_paren t.kind ≡ false → group_len (t ∷ rest) ≡ None
unfolding group_len
group_len-other rest t o = rw o refl

-- ---- strip

pub stripped-drop : (n : ℕ) (ts : List Token) → stripped_behind n ts ≡ stripped_behind 0 (drop n ts)
unfolding stripped_behind
stripped-drop zero ts = refl
stripped-drop (suc n) [] = refl
stripped-drop (suc n) (t ∷ ts) = stripped-drop n ts

pub stripped-kept : (t : Token) (ts : List Token) → dropped_with t.kind ts ≡ None → stripped_behind 0 (t ∷ ts) ≡ kept t ∷ stripped_behind 0 ts
unfolding stripped_behind
stripped-kept t ts h = rw h refl

pub stripped-dropped : (t : Token) (ts : List Token) (n : ℕ) → dropped_with t.kind ts ≡ Some n → stripped_behind 0 (t ∷ ts) ≡ stripped_behind 0 (drop n ts)
unfolding stripped_behind
stripped-dropped t ts n h = rw h (stripped-drop n ts)

pub stripped-none : stripped_behind 0 [] ≡ []
unfolding stripped_behind
stripped-none = refl

pub asm_len-none : asm_len [] ≡ None
unfolding asm_len
asm_len-none = refl

pub asm_len-more : (t : Token) (ts : List Token) → is_qualifier t.kind ≡ true → asm_len (t ∷ ts) ≡ plus 1 (asm_len ts)
unfolding asm_len
asm_len-more t ts h = rw h refl

pub asm_len-group : (t : Token) (ts : List Token) → is_qualifier t.kind ≡ false → asm_len (t ∷ ts) ≡ group_len (t ∷ ts)
unfolding asm_len
asm_len-group t ts h = rw h refl

pub group_len-empty : group_len [] ≡ None
unfolding group_len
group_len-empty = refl

-- ---- groups end within their tokens

-- the ways in which a group goes on
longer : (d e : ℕ) (t : Token) (ts : List Token) (n : ℕ) → ((m : ℕ) → group_end d ts ≡ Some m → m ≤ length ts) → group_end e (t ∷ ts) ≡ plus 1 (group_end d ts) → group_end e (t ∷ ts) ≡ Some n → n ≤ length (t ∷ ts)
longer d e t ts n below h k =
    let p = mapped 1 (group_end d ts) n (sym h ∙ k) in
    let b = below p.0 p.1 in
    let q = p.2 in
    omega arith

group_end-le : (d : ℕ) (ts : List Token) (n : ℕ) → group_end d ts ≡ Some n → n ≤ length ts
group_end-le zero [] n h = absurd (empty h)
  where
    empty : group_end 0 [] ≡ Some n → ⊥
    empty k = let e : group_end 0 [] ≡ None = ends_none 0 in cc
group_end-le (suc d) [] n h = absurd (empty h)
  where
    empty : group_end (suc d) [] ≡ Some n → ⊥
    empty k = let e : group_end (suc d) [] ≡ None = ends_none (suc d) in cc
group_end-le zero (t ∷ ts) n h = elim (cases (is_open_paren t.kind)) as (λ _. n ≤ length (t ∷ ts)) [
  | inl o ↦ longer 1 0 t ts n (λ m k. group_end-le 1 ts m k) (open_end ts t 0 o) h
  | inr o ↦ elim (cases (is_close_paren t.kind)) as (λ _. n ≤ length (t ∷ ts)) [
    | inl c ↦ let e : Path (Option ℕ) (Some 1) (Some n) = sym (close_first ts t o c) ∙ h in let q : 1 ≡ n = some_is 1 n e in omega arith
    | inr c ↦ longer 0 0 t ts n (λ m k. group_end-le 0 ts m k) (other_end ts t 0 o c) h
  ]
]
group_end-le (suc d) (t ∷ ts) n h = elim (cases (is_open_paren t.kind)) as (λ _. n ≤ length (t ∷ ts)) [
  | inl o ↦ longer (suc (suc d)) (suc d) t ts n (λ m k. group_end-le (suc (suc d)) ts m k) (open_end ts t (suc d) o) h
  | inr o ↦ elim (cases (is_close_paren t.kind)) as (λ _. n ≤ length (t ∷ ts)) [
    | inl c ↦ longer d (suc d) t ts n (λ m k. group_end-le d ts m k) (close_end ts t d o c) h
    | inr c ↦ longer (suc d) (suc d) t ts n (λ m k. group_end-le (suc d) ts m k) (other_end ts t (suc d) o c) h
  ]
]

pub group_len-le : (ts : List Token) (n : ℕ) → group_len ts ≡ Some n → n ≤ length ts
unfolding group_len
group_len-le [] n h = cc
group_len-le (t ∷ ts) n h = elim (cases (is_open_paren t.kind)) as (λ _. n ≤ length (t ∷ ts)) [
  | inl o ↦
      let p = mapped 1 (group_end 0 ts) n (rw o at h) in
      let b = group_end-le 0 ts p.0 p.1 in
      let q = p.2 in
      omega arith
  | inr o ↦ let e : Path (Option ℕ) None (Some n) = rw o at h in cc
]

-- ---- the answers at a token, with the ends behind it

pub at_open : (rest : List Token) (t : Token) (ends : List ℕ) → is_open_paren t.kind ≡ true → ends ≡ [] → AreEnds rest ends → AreEnds (t ∷ rest) ends × (None ≡ group_len (t ∷ rest))
at_open rest t ends o e m =
    let n : AreEnds rest [] = subst (λ l. AreEnds rest l) e m in
    (subst (λ l. AreEnds (t ∷ rest) l) (sym e) (ends_open_none rest t o n), sym (group_len-none rest t o n))

pub at_open_group : (rest : List Token) (t : Token) (old new : List ℕ) (closer behind : ℕ) → is_open_paren t.kind ≡ true → length rest ≡ behind → old ≡ closer ∷ new → AreEnds rest old → AreEnds (t ∷ rest) new × (Some (behind + 1 - closer) ≡ group_len (t ∷ rest))
at_open_group rest t old new closer behind o h e m =
    let n : AreEnds rest (closer ∷ new) = subst (λ l. AreEnds rest l) e m in
    let k = n 0 in
    let fits : (behind + 1 - closer) + closer ≡ length rest + 1 = let z = k.2 in omega arith in
    (ends_open rest t closer new o n, sym (group_len-some rest t closer (behind + 1 - closer) new o n fits))

pub at_close : (rest : List Token) (t : Token) (old new : List ℕ) (behind : ℕ) → is_open_paren t.kind ≡ false → is_close_paren t.kind ≡ true → length rest ≡ behind → new ≡ behind ∷ old → AreEnds rest old → AreEnds (t ∷ rest) new × (None ≡ group_len (t ∷ rest))
at_close rest t old new behind o c h e m =
    let n : AreEnds (t ∷ rest) (behind ∷ old) = subst (λ k. AreEnds (t ∷ rest) (k ∷ old)) h (ends_close rest t old o c m) in
    (subst (λ l. AreEnds (t ∷ rest) l) (sym e) n, sym (group_len-other rest t o))

pub at_other : (rest : List Token) (t : Token) (ends : List ℕ) → is_open_paren t.kind ≡ false → is_close_paren t.kind ≡ false → AreEnds rest ends → AreEnds (t ∷ rest) ends × (None ≡ group_len (t ∷ rest))
at_other rest t ends o c m = (ends_other rest t ends o c m, sym (group_len-other rest t o))

-- ---- of the tokens from a number on

pub group_within : (ts : List Token) (i : ℕ) (o : Option ℕ) → i ≤ length ts → o ≡ group_len (drop i ts) → IfSome o (λ n. i + n ≤ length ts)
group_within ts i None h e = tt
group_within ts i (Some n) h e = let b = group_len-le (drop i ts) n (sym e) in let l = length-drop i ts in omega arith

pub group_past : (ts : List Token) (i : ℕ) → length ts ≤ i → None ≡ group_len (drop i ts)
group_past ts i h = rw (drop_all i ts h) (sym group_len-empty)

pub asm_more : (ts : List Token) (i k : ℕ) (d : Token) → i + k < length ts → is_qualifier (get_or ts (i + k) d).kind ≡ true → plus (k + 1) (asm_len (drop (i + (k + 1)) ts)) ≡ plus k (asm_len (drop (i + k) ts))
asm_more ts i k d h q =
    let e : i + (k + 1) ≡ (i + k) + 1 = omega arith in
    rw (e, drop_more ts (i + k) d h, asm_len-more (get_or ts (i + k) d) (drop ((i + k) + 1) ts) q) (sym (plus-plus k 1 (asm_len (drop ((i + k) + 1) ts))))

pub asm_stops : (ts : List Token) (i : ℕ) (d : Token) → i < length ts → is_qualifier (get_or ts i d).kind ≡ false → asm_len (drop i ts) ≡ group_len (drop i ts)
asm_stops ts i d h q = rw (drop_more ts i d h) (asm_len-group (get_or ts i d) (drop (i + 1) ts) q)

pub asm_past : (ts : List Token) (i : ℕ) → length ts ≤ i → asm_len (drop i ts) ≡ group_len (drop i ts)
asm_past ts i h = rw (drop_all i ts h) (asm_len-none ∙ sym group_len-empty)

pub strip_dropped : (ts : List Token) (i n : ℕ) (d : Token) → i < length ts → dropped_with (get_or ts i d).kind (drop (i + 1) ts) ≡ Some n → stripped_behind 0 (drop (i + 1 + n) ts) ≡ stripped_behind 0 (drop i ts)
strip_dropped ts i n d h e = rw (drop_more ts i d h, stripped-dropped (get_or ts i d) (drop (i + 1) ts) n e, drop-drop n (i + 1) ts) refl

pub strip_kept : (ts front : List Token) (i : ℕ) (d : Token) → i < length ts → dropped_with (get_or ts i d).kind (drop (i + 1) ts) ≡ None → (front ++ kept (get_or ts i d) ∷ []) ++ stripped_behind 0 (drop (i + 1) ts) ≡ front ++ stripped_behind 0 (drop i ts)
strip_kept ts front i d h e = rw (drop_more ts i d h, stripped-kept (get_or ts i d) (drop (i + 1) ts) e) (append_assoc front (kept (get_or ts i d) ∷ []) (stripped_behind 0 (drop (i + 1) ts)))

pub strip_end : (ts front : List Token) (i : ℕ) → length ts ≤ i → front ++ stripped_behind 0 (drop i ts) ≡ front
strip_end ts front i h = rw (drop_all i ts h, stripped-none) (append-nil front)

-- ---- a step from the last token to the first

set_here : (xs : List (Option ℕ)) (i : ℕ) (x : Option ℕ) → i < length xs → slice_get (set xs i x) i ≡ Some x
set_here [] i x h = absurd (omega arith)
set_here (y ∷ ys) zero x h = refl
set_here (y ∷ ys) (suc i) x h = set_here ys i x (omega arith)

set_there : (xs : List (Option ℕ)) (i k : ℕ) (x : Option ℕ) → (k ≡ i → ⊥) → slice_get (set xs i x) k ≡ slice_get xs k
set_there [] i k x h = refl
set_there (y ∷ ys) zero zero x h = absurd (h refl)
set_there (y ∷ ys) zero (suc k) x h = refl
set_there (y ∷ ys) (suc i) zero x h = refl
set_there (y ∷ ys) (suc i) (suc k) x h = set_there ys i k x (λ e. h (ap suc e))

pub record GroupsFrom (ts : List Token) (groups : List (Option ℕ)) (index behind : ℕ) (ends : List ℕ) : Type 0 where
  pub place : behind + index ≡ length ts
  pub count : length groups ≡ length ts
  pub each : (k : ℕ) → index ≤ k → k < length ts → slice_get groups k ≡ Some (group_len (drop k ts))
  pub ends_are : AreEnds (drop index ts) ends

pub groups_start : (ts : List Token) (groups : List (Option ℕ)) (ends : List ℕ) → length groups ≡ length ts → ends ≡ [] → GroupsFrom ts groups (length ts) 0 ends
groups_start ts groups ends n e = record {
  place = omega arith;
  count = n;
  each = λ k a b. absurd (omega arith);
  ends_are = let m : AreEnds (drop (length ts) ts) [] = rw (drop_all (length ts) ts (omega arith)) ends_none in subst (λ l. AreEnds (drop (length ts) ts) l) (sym e) m;
}

pub groups_step : (ts : List Token) (groups : List (Option ℕ)) (index behind : ℕ) (ends new : List ℕ) (group : Option ℕ) (d : Token) → 0 < index → GroupsFrom ts groups index behind ends →
    ((t : Token) (rest : List Token) → t.kind ≡ (get_or ts (index - 1) d).kind → length rest ≡ behind → AreEnds rest ends → AreEnds (t ∷ rest) new × (group ≡ group_len (t ∷ rest))) →
    GroupsFrom ts (set groups (index - 1) group) (index - 1) (behind + 1) new
groups_step ts groups index behind ends new group d p g step =
    let i = index - 1 in
    let n = g.place in
    let c = g.count in
    let rest = drop index ts in
    let size : length rest ≡ behind = length-drop index ts ∙ omega arith in
    let s = step (get_or ts i d) rest refl size g.ends_are in
    let next : i + 1 ≡ index = omega arith in
    let whole : drop i ts ≡ get_or ts i d ∷ rest = drop_more ts i d (omega arith) ∙ ap (λ k. get_or ts i d ∷ drop k ts) next in
    record {
      place = omega arith;
      count = length-set groups i group ∙ g.count;
      each = λ k a b. elim (cases_lt i k) as (λ _. slice_get (set groups i group) k ≡ Some (group_len (drop k ts))) [
        | inl l ↦ set_there groups i k group (λ e. absurd (omega arith)) ∙ g.each k (omega arith) b
        | inr l ↦
            let e : k ≡ i = omega arith in
            rw (e, whole) (set_here groups i group (omega arith) ∙ ap Some s.1)
      ];
      ends_are = rw whole (s.0);
    }
