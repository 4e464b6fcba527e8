-- The beginnings of texts.
use Rattle.std.proofs.Common.{arith, ◌≡◌, ℕ, zero, suc, ◌+◌, ◌-◌, ◌≤◌, min, List, [], ◌∷◌, ◌++◌, length, take, cond, Bool, true, false, refl, ◌∙◌, sym, ap}
use Rattle.std.specs.Prelude.{codes, nat_le}
use Rattle.std.specs.Prelude as outcome
use Rattle.std.proofs.lemmas.Bool.{true≢false}
use Rattle.std.proofs.lemmas.List.{length-take, take_all, append-nil}
use Rattle.std.proofs.lemmas.Grind.{common_steps}
use Rattle.hole_matching.specs.Message.{spaced, most_bytes, shortened}
use Rattle.hole_matcher.specs.HoleMessages.Beginnings.{after_blanks, coming, most_kept}

-- what is kept of a beginning with more behind it is kept of the whole
pub kept_on : (n : ℕ) (xs ys : List ℕ) → take n (take n xs ++ ys) ≡ take n (xs ++ ys)
kept_on zero xs ys = refl
kept_on (suc n) [] ys = refl
kept_on (suc n) (x ∷ xs) ys = ap (λ zs. x ∷ zs) (kept_on n xs ys)

take-none : (n : ℕ) → take {A = ℕ} n [] ≡ []
take-none zero = refl
take-none (suc n) = refl

take-min : (m n : ℕ) (ys : List ℕ) → length ys ≤ m → take (min m n) ys ≡ take n ys
take-min zero n [] h = take-none (min 0 n) ∙ sym (take-none n)
take-min zero n (y ∷ ys) h = absurd (omega arith)
take-min (suc m) zero ys h = let e : min (suc m) 0 ≡ 0 = grind arith in ap (λ k. take k ys) e
take-min (suc m) (suc n) [] h = let e : min (suc m) (suc n) ≡ suc (min m n) = grind arith in ap (λ (k : ℕ). take {A = ℕ} k []) e
take-min (suc m) (suc n) (y ∷ ys) h =
    let e : min (suc m) (suc n) ≡ suc (min m n) = grind arith in
    ap (λ k. take k (y ∷ ys)) e ∙ ap (λ zs. y ∷ zs) (take-min m n ys (grind arith))

-- as many as there is room for
room_kept : (n : ℕ) (xs ys : List ℕ) → length xs ≤ n → xs ++ take (n - length xs) ys ≡ take n (xs ++ ys)
room_kept n [] ys h = let e : n - 0 ≡ n = grind arith in ap (λ k. take k ys) e
room_kept zero (x ∷ xs) ys h = absurd (omega arith)
room_kept (suc n) (x ∷ xs) ys h =
    let e : suc n - suc (length xs) ≡ n - length xs = grind arith in
    ap (λ k. x ∷ (xs ++ take k ys)) e ∙ ap (λ zs. x ∷ zs) (room_kept n xs ys (grind arith))

pub kept_all : (n room fit : ℕ) (xs ys : List ℕ) → room + length xs ≡ n → fit ≡ min (length ys) room → xs ++ take fit ys ≡ take n (xs ++ ys)
kept_all n room fit xs ys h m =
    let e : room ≡ n - length xs = grind (arith, h) in
    let f : length xs ≤ n = grind (arith, h) in
    ap (λ k. xs ++ take k ys) m
    ∙ ap (λ zs. xs ++ zs) (take-min (length ys) room ys (omega arith) ∙ ap (λ k. take k ys) e)
    ∙ room_kept n xs ys f

pub all-fit : (n room fit : ℕ) (xs ys : List ℕ) → room + length xs ≡ n → fit ≡ min (length ys) room → length xs + length (take fit ys) ≤ n
all-fit n room fit xs ys h m = let k = length-take fit ys in omega (arith, h, m, k)

take-less : (n : ℕ) (xs : List ℕ) → take n (take (suc n) xs) ≡ take n xs
take-less zero xs = refl
take-less (suc n) [] = refl
take-less (suc n) (x ∷ xs) = ap (λ zs. x ∷ zs) (take-less n xs)

-- a text that is cut behind so many bytes, and then ends in this
abbrev cut : ℕ → List ℕ → List ℕ → List ℕ
cut n end text = cond (nat_le (length text) n) text (take n text ++ end)

cut-kept : (n : ℕ) (end xs : List ℕ) → cut n end (take (suc n) xs) ≡ cut n end xs
cut-kept n end xs = by (nat_le (length xs) n) refl
  where
    by : (c : Bool) → nat_le (length xs) n ≡ c → cut n end (take (suc n) xs) ≡ cut n end xs
    by true e = let h : length xs ≤ suc n = grind (arith, e) in ap (cut n end) (take_all (suc n) xs h)
    by false e =
        let k = length-take (suc n) xs in
        let f : nat_le (length (take (suc n) xs)) n ≡ false = grind (arith, e, k) in
        ap (λ b. cond b (take (suc n) xs) (take n (take (suc n) xs) ++ end)) f ∙ ap (λ zs. zs ++ end) (take-less n xs) ∙ sym (ap (λ b. cond b xs (take n xs ++ end)) e)

pub cut-alike : (n : ℕ) (end xs ys : List ℕ) → take (suc n) xs ≡ take (suc n) ys → cut n end xs ≡ cut n end ys
cut-alike n end xs ys e = sym (cut-kept n end xs) ∙ ap (cut n end) e ∙ cut-kept n end ys

spaced-on : (t : List ℕ) (rest : List (List ℕ)) → spaced (t ∷ rest) ≡ t ++ after_blanks rest
spaced-on t [] = grind (arith, common_steps)
spaced-on t (u ∷ us) = grind (arith, common_steps, spaced-on u us)

-- the first text
pub push-first : (n : ℕ) (xs t : List ℕ) (rest : List (List ℕ)) → take n (take n (xs ++ t) ++ after_blanks rest) ≡ take n (xs ++ spaced (t ∷ rest))
push-first n xs t rest = kept_on n (xs ++ t) (after_blanks rest) ∙ ap (take n) (grind (arith, common_steps, spaced-on t rest))

-- one behind others
pub push-next : (n : ℕ) (xs t : List ℕ) (rest : List (List ℕ)) → take n (take n (take n (xs ++ codes " ") ++ t) ++ after_blanks rest) ≡ take n (xs ++ after_blanks (t ∷ rest))
push-next n xs t rest =
    kept_on n (take n (xs ++ codes " ") ++ t) (after_blanks rest)
    ∙ ap (take n) (let e : (take n (xs ++ codes " ") ++ t) ++ after_blanks rest ≡ take n (xs ++ codes " ") ++ (t ++ after_blanks rest) = grind (arith, common_steps) in e)
    ∙ kept_on n (xs ++ codes " ") (t ++ after_blanks rest)
    ∙ ap (take n) (grind (arith, common_steps))

-- what is kept when the first text, or one more, has come
pub pushed : (n : ℕ) (is_first : Bool) (old before new t : List ℕ) (rest : List (List ℕ)) → before ≡ cond is_first old (take n (old ++ codes " ")) → new ≡ take n (before ++ t) → take n (new ++ after_blanks rest) ≡ take n (old ++ coming is_first (t ∷ rest))
pushed n true old before new t rest b e = ap (λ xs. take n (xs ++ after_blanks rest)) (e ∙ ap (λ ys. take n (ys ++ t)) b) ∙ push-first n old t rest
pushed n false old before new t rest b e = ap (λ xs. take n (xs ++ after_blanks rest)) (e ∙ ap (λ ys. take n (ys ++ t)) b) ∙ push-next n old t rest

pub came-first : (is_first : Bool) (xs ys zs : List ℕ) → is_first ≡ true → xs ≡ ys → xs ≡ cond is_first ys zs
came-first is_first xs ys zs e h = rw e h

pub came-next : (is_first : Bool) (xs ys zs : List ℕ) → is_first ≡ false → xs ≡ zs → xs ≡ cond is_first ys zs
came-next is_first xs ys zs e h = rw e h

-- the outcome of a step that can't fail
pub surely : {A E : Type 0} (r : outcome.Result A E) (P Q : Type 0) → (P → outcome.IsOk r) → P → outcome.OnOk r Q → Q
surely (outcome.Ok x) P Q f p h = h
surely (outcome.Err e) P Q f p h = absurd (true≢false (sym (f p)))

nothing-comes : (n : ℕ) (is_first : Bool) (xs : List ℕ) → take n (xs ++ coming is_first []) ≡ take n xs
nothing-comes n true xs = ap (take n) (append-nil xs)
nothing-comes n false xs = ap (take n) (append-nil xs)

-- where nothing more comes, all is there
pub all-there : (n : ℕ) (is_first : Bool) (xs bytes : List ℕ) → bytes ≡ xs → length bytes ≤ n → bytes ≡ take n (xs ++ coming is_first [])
all-there n is_first xs bytes e h = sym (take_all n bytes h) ∙ ap (take n) e ∙ sym (nothing-comes n is_first xs)

pub none-behind : (texts : List (List ℕ)) → texts ++ [] ≡ texts
none-behind texts = append-nil texts

-- what is shortened is told by what is kept
pub shortened-kept : (kept text : List ℕ) → kept ≡ take most_kept text → shortened kept ≡ shortened text
shortened-kept kept text e = ap shortened e ∙ cut-kept most_bytes (codes "...") text
