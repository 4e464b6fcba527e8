-- Types that begin with words of basic types, and those that don't.
use Rattle.std.proofs.Common.{◌≡◌, ℕ, ◌==◌, ◌&&◌, Bool, true, false, cond, List, [], ◌∷◌, length, filter_map, Option, None, Some, ap, refl, ◌∙◌, sym, arith}
use Rattle.c_tree.specs.declared.punctuator.Punctuator.TheVariants as marks
use Rattle.c_tree.specs.declared.token.Token.{Token}
use Rattle.c_tree.specs.Symbol.{Symbol, symbols_of}
use Rattle.c_grammar.specs.Symbols.{is_sign, take_symbol, run_of, after_run}
use Rattle.c_grammar.specs.Found.{if_there}
use Rattle.metal_grammar.specs.Written.{WrittenType, BasicType}
use Rattle.metal_grammar.specs.Ways.Steps.{is_type_symbol, keyword_in, type_with_stars, read_type}
use Rattle.metal_tree.specs.MetalMachines.Kept.{all_of}
use Rattle.metal_clauses.specs.Ways.Steps.{named_type}

-- each symbol of a run is one of it
run-all : (is : Symbol → Bool) (ts : List Symbol) → all_of is (run_of is ts) ≡ true
unfolding run_of
run-all is [] = refl
run-all is (t ∷ ts) = by (is t) refl (run-all is ts)
  where
    by : (b : Bool) → b ≡ is t → all_of is (run_of is ts) ≡ true → all_of is (cond b (t ∷ run_of is ts) []) ≡ true
    by true h e = ap (λ b. b && all_of is (run_of is ts)) (sym h) ∙ e
    by false h e = refl

pub words-typed : (ts words : List Symbol) → words ≡ run_of is_type_symbol ts → all_of is_type_symbol words ≡ true
words-typed ts words w = ap (all_of is_type_symbol) w ∙ run-all is_type_symbol ts

run-none : (is : Symbol → Bool) (ts : List Symbol) → run_of is ts ≡ [] → take_symbol is ts ≡ None
unfolding run_of
run-none is [] h = refl
run-none is (t ∷ ts) h = by (is t) h
  where
    by : (b : Bool) → cond b (t ∷ run_of is ts) [] ≡ [] → cond {A = Option (Symbol × List Symbol)} b (Some (t, ts)) None ≡ None
    by true e = cc
    by false e = refl

run-some : (is : Symbol → Bool) (ts : List Symbol) (w : Symbol) (ws : List Symbol) → w ∷ ws ≡ run_of is ts → (x : Symbol × List Symbol) × (take_symbol is ts ≡ Some x)
unfolding run_of
run-some is [] w ws h = cc
run-some is (t ∷ ts) w ws h = by (is t) h
  where
    by : (b : Bool) → w ∷ ws ≡ cond b (t ∷ run_of is ts) [] → (x : Symbol × List Symbol) × (cond {A = Option (Symbol × List Symbol)} b (Some (t, ts)) None ≡ Some x)
    by true e = ((t, ts), refl)
    by false e = cc

-- a type of words and stars
abbrev words_and_stars : List Symbol → Option (WrittenType × List Symbol)
words_and_stars ts = type_with_stars (BasicType (filter_map keyword_in (run_of is_type_symbol ts))) (after_run is_type_symbol ts)

-- no word stands in front
pub type-named : (ts : List Symbol) (words : List Token) → symbols_of words ≡ run_of is_type_symbol ts → (length words == 0) ≡ true → read_type ts ≡ named_type ts
type-named ts [] w z = ap (λ o. if_there o (named_type ts) (λ _. words_and_stars ts)) (run-none is_type_symbol ts (sym w))
type-named ts (x ∷ words) w z = let e : (length (x ∷ words) == 0) ≡ false = grind arith in cc

-- words stand in front
pub type-basic : (ts behind rest : List Symbol) (words : List Token) (stars : ℕ) → symbols_of words ≡ run_of is_type_symbol ts → (length words == 0) ≡ false
    → behind ≡ after_run is_type_symbol ts → stars ≡ length (run_of (is_sign marks.Star) behind) → rest ≡ after_run (is_sign marks.Star) behind
    → Some (BasicType (filter_map keyword_in (symbols_of words)) stars, rest) ≡ read_type ts
type-basic ts behind rest [] stars w z b n r = let e : (length {A = Token} [] == 0) ≡ true = grind arith in cc
type-basic ts behind rest (x ∷ words) stars w z b n r =
    let found = run-some is_type_symbol ts _ _ w in
    ap (λ k. Some (BasicType (filter_map keyword_in (symbols_of (x ∷ words))) k, rest)) (n ∙ ap (λ us. length (run_of (is_sign marks.Star) us)) b)
    ∙ ap (λ us. Some (BasicType (filter_map keyword_in (symbols_of (x ∷ words))) (length (run_of (is_sign marks.Star) (after_run is_type_symbol ts))), us)) (r ∙ ap (after_run (is_sign marks.Star)) b)
    ∙ ap (λ ks. type_with_stars (BasicType (filter_map keyword_in ks)) (after_run is_type_symbol ts)) w
    ∙ sym (ap (λ o. if_there o (named_type ts) (λ _. words_and_stars ts)) found.1)
