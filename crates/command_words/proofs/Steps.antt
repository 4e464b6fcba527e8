-- One step of the loops over words.
use Rattle.std.proofs.Common.{◌≡◌, ℕ, suc, ◌+◌, ◌<◌, ◌≤◌, Bool, true, false, cond, ◌||◌, List, [], ◌∷◌, length, get_or, drop, map, None, ap, sym, ◌∙◌, add-one, drop-cons, arith}
use Rattle.std.proofs.lemmas.List.{drop_all}
use Rattle.std.specs.List.{list_any}
use Rattle.mx_io.specs.Bytes.{Bytes, Words}
use Rattle.command_words.specs.Words.{is_option, counted}
use Rattle.command_words.specs.Ways.Reading.{Chosen, Next, File, End, Wrong, turn_of, turned, finished, plainly_finished, reading}

-- the word with a number, and those behind it
pub word_next : {X : Type 0} (f : X → Bytes) (xs : List X) (i : ℕ) (x : X) (w : Bytes) → i < length xs → x ≡ get_or xs i x → w ≡ f x → map f (drop i xs) ≡ w ∷ map f (drop (i + 1) xs)
word_next f xs i x w h e p =
    ap (map f) (drop-cons xs i x h) ∙ ap (λ y. f y ∷ map f (drop (suc i) xs)) (sym e) ∙ ap (λ v. v ∷ map f (drop (suc i) xs)) (sym p)
    ∙ ap (λ j. w ∷ map f (drop j xs)) (sym (add-one i))

pub no_words : {X : Type 0} (f : X → Bytes) (xs : List X) (i : ℕ) → length xs ≤ i → map f (drop i xs) ≡ []
no_words f xs i h = ap (map f) (drop_all i xs h)

-- one more word is counted
pub counted_next : (test : Bytes → Bool) (xs ys : Words) (w : Bytes) (b : Bool) (n m all : ℕ) → xs ≡ w ∷ ys → b ≡ test w → m ≡ n + cond b 1 0
    → counted test xs + n ≡ all → counted test ys + m ≡ all
counted_next test xs ys w b n m all e t p h =
    let s : counted test xs ≡ cond b 1 0 + counted test ys = ap (counted test) e ∙ ap (λ c. cond c 1 0 + counted test ys) (sym t) in
    omega (arith, s, p, h)

pub counted_end : (test : Bytes → Bool) (xs : Words) (n all : ℕ) → xs ≡ [] → counted test xs + n ≡ all → n ≡ all
counted_end test xs n all e h =
    let s : counted test xs ≡ 0 = ap (counted test) e in
    omega (arith, s, h)

pub one_or_none : (b : Bool) → cond b 1 0 ≤ 1
one_or_none true = omega arith
one_or_none false = omega arith

pub any_here : (xs ys : Words) (w : Bytes) → xs ≡ w ∷ ys → is_option w ≡ true → list_any is_option xs ≡ true
any_here xs ys w e h = ap (list_any is_option) e ∙ ap (λ b. b || list_any is_option ys) h

pub any_next : (xs ys : Words) (w : Bytes) → xs ≡ w ∷ ys → is_option w ≡ false → list_any is_option ys ≡ list_any is_option xs
any_next xs ys w e h = sym (ap (list_any is_option) e ∙ ap (λ b. b || list_any is_option ys) h)

pub read_next : (c n : Chosen) (xs ys : Words) (w : Bytes) → xs ≡ w ∷ ys → Next n ≡ turn_of c w → reading n ys ≡ reading c xs
read_next c n xs ys w e t = sym (ap (reading c) e ∙ ap (turned (λ m. reading m ys) c w ys) (sym t))

pub read_file : (c : Chosen) (xs ys : Words) (w : Bytes) → xs ≡ w ∷ ys → File ≡ turn_of c w → plainly_finished c xs ≡ reading c xs
read_file c xs ys w e t = sym (ap (reading c) e ∙ ap (turned (λ m. reading m ys) c w ys) (sym t) ∙ sym (ap (plainly_finished c) e))

pub read_end : (c : Chosen) (xs ys : Words) (w : Bytes) → xs ≡ w ∷ ys → End ≡ turn_of c w → finished c ys ≡ reading c xs
read_end c xs ys w e t = sym (ap (reading c) e ∙ ap (turned (λ m. reading m ys) c w ys) (sym t))

pub read_wrong : (c : Chosen) (xs ys : Words) (w : Bytes) → xs ≡ w ∷ ys → Wrong ≡ turn_of c w → None ≡ reading c xs
read_wrong c xs ys w e t = sym (ap (reading c) e ∙ ap (turned (λ m. reading m ys) c w ys) (sym t))

pub read_over : (c : Chosen) (xs : Words) → xs ≡ [] → None ≡ reading c xs
read_over c xs e = sym (ap (reading c) e)
