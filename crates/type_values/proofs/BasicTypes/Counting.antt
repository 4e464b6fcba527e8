-- Keywords that are counted one after the other.
use Rattle.std.proofs.Common.{◌≡◌, ℕ, suc, ◌+◌, ◌<◌, ◌≤◌, Bool, true, false, cond, ◌&&◌, ◌||◌, nat_eq, List, [], ◌∷◌, Bor, length, get_or, drop, ap, refl, ◌∙◌, sym, add-one, drop-cons, arith}
use Rattle.std.proofs.lemmas.List.{drop_all}
use Rattle.c_tree.specs.declared.keyword.Keyword.{Keyword}
use Rattle.c_grammar.specs.Symbols.{same_keyword}
use Rattle.c_grammar.specs.Specifiers.{occurrences, as_often, same_words, is_among}
use Rattle.type_values.specs.BasicTypes.Basics.{words_of}
use Rattle.type_values.specs.declared.basic_types.basic.Basic.{Basic}

passed : {A B : Type 0} (f : List A → B) (ts : List A) (i : ℕ) (d : A) → i < length ts → f (drop i ts) ≡ f (get_or ts i d ∷ drop (i + 1) ts)
passed f ts i d h = ap f (drop-cons ts i d h) ∙ ap (λ j. f (get_or ts i d ∷ drop j ts)) (sym (add-one i))

occurrences-more : (k l : Keyword) (ls : List Keyword) → occurrences k (l ∷ ls) ≡ cond (same_keyword k l) 1 0 + occurrences k ls
unfolding occurrences
occurrences-more k l ls = refl

occurrences-none : (k : Keyword) → occurrences k [] ≡ 0
unfolding occurrences
occurrences-none k = refl

pub occurrences-drop : (k : Keyword) (ls : List Keyword) (i : ℕ) (d : Keyword) → i < length ls
    → occurrences k (drop i ls) ≡ cond (same_keyword k (get_or ls i d)) 1 0 + occurrences k (drop (i + 1) ls)
occurrences-drop k ls i d h = passed (occurrences k) ls i d h ∙ occurrences-more k (get_or ls i d) (drop (i + 1) ls)

pub occurrences-end : (k : Keyword) (ls : List Keyword) (i : ℕ) → length ls ≤ i → occurrences k (drop i ls) ≡ 0
occurrences-end k ls i h = ap (occurrences k) (drop_all i ls h) ∙ occurrences-none k

pub occurrences-bound : (k : Keyword) (ls : List Keyword) → occurrences k ls ≤ length ls
unfolding occurrences
occurrences-bound k [] = omega arith
occurrences-bound k (l ∷ ls) = by (same_keyword k l) (occurrences-bound k ls)
  where
    by : (b : Bool) → occurrences k ls ≤ length ls → cond b 1 0 + occurrences k ls ≤ suc (length ls)
    by true h = omega (arith, h)
    by false h = omega (arith, h)

as_often-more : (k : Keyword) (ks a b : List Keyword) → as_often (k ∷ ks) a b ≡ (nat_eq (occurrences k a) (occurrences k b) && as_often ks a b)
unfolding as_often
as_often-more k ks a b = refl

as_often-none : (a b : List Keyword) → as_often [] a b ≡ true
unfolding as_often
as_often-none a b = refl

pub as_often-drop : (ks a b : List Keyword) (i : ℕ) (d : Keyword) → i < length ks
    → as_often (drop i ks) a b ≡ (nat_eq (occurrences (get_or ks i d) a) (occurrences (get_or ks i d) b) && as_often (drop (i + 1) ks) a b)
as_often-drop ks a b i d h = passed (λ ls. as_often ls a b) ks i d h ∙ as_often-more (get_or ks i d) (drop (i + 1) ks) a b

pub as_often-differ : (ks a b : List Keyword) (i : ℕ) (d : Keyword) → i < length ks → (occurrences (get_or ks i d) a ≡ occurrences (get_or ks i d) b → ⊥) → as_often (drop i ks) a b ≡ false
as_often-differ ks a b i d h n =
    let e : nat_eq (occurrences (get_or ks i d) a) (occurrences (get_or ks i d) b) ≡ false = grind (arith, n) in
    as_often-drop ks a b i d h ∙ ap (λ x. x && as_often (drop (i + 1) ks) a b) e

pub as_often-agree : (ks a b : List Keyword) (i : ℕ) (d : Keyword) → i < length ks → occurrences (get_or ks i d) a ≡ occurrences (get_or ks i d) b → as_often (drop (i + 1) ks) a b ≡ as_often (drop i ks) a b
as_often-agree ks a b i d h n =
    let e : nat_eq (occurrences (get_or ks i d) a) (occurrences (get_or ks i d) b) ≡ true = grind (arith, n) in
    sym (as_often-drop ks a b i d h ∙ ap (λ x. x && as_often (drop (i + 1) ks) a b) e)

pub as_often-end : (ks a b : List Keyword) (i : ℕ) → length ks ≤ i → as_often (drop i ks) a b ≡ true
as_often-end ks a b i h = ap (λ ls. as_often ls a b) (drop_all i ks h) ∙ as_often-none a b

is_among-more : (ks line : List Keyword) (lines : List (List Keyword)) → is_among ks (line ∷ lines) ≡ (same_words ks line || is_among ks lines)
unfolding is_among
is_among-more ks line lines = refl

is_among-none : (ks : List Keyword) → is_among ks [] ≡ false
unfolding is_among
is_among-none ks = refl

pub is_among-drop : (ks : List Keyword) (table : List (Bor (List Keyword) × Basic)) (i : ℕ) (d : Bor (List Keyword) × Basic) → i < length table
    → is_among ks (words_of (drop i table)) ≡ (same_words ks (get_or table i d).0.now || is_among ks (words_of (drop (i + 1) table)))
is_among-drop ks table i d h = passed (λ ls. is_among ks (words_of ls)) table i d h ∙ is_among-more ks (get_or table i d).0.now (words_of (drop (i + 1) table))

pub is_among-end : (ks : List Keyword) (table : List (Bor (List Keyword) × Basic)) (i : ℕ) → length table ≤ i → is_among ks (words_of (drop i table)) ≡ false
is_among-end ks table i h = ap (λ ls. is_among ks (words_of ls)) (drop_all i table h) ∙ is_among-none ks
