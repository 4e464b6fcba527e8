-- Going over the tokens of a text for the place of a rule.
use Rattle.std.proofs.Common.{◌≡◌, ℕ, zero, suc, ◌+◌, ◌<◌, ◌≤◌, Bool, true, false, cond, nat_eq, ◌&&◌, List, ◌∷◌, length, get_or, drop, Option, None, Some, ap, refl, ◌∙◌, sym, arith}
use Rattle.std.specs.Option.{option_map}
use Rattle.c_tree.specs.declared.punctuator.Punctuator.TheVariants as marks
use Rattle.c_tree.specs.declared.token.Token.{Token}
use Rattle.c_tree.specs.Symbol.{Symbol, symbol_of, symbols_of}
use Rattle.c_grammar.specs.Symbols.{is_sign}
use Rattle.c_grammar.proofs.Options.{both}
use Rattle.metal_grammar.specs.Words.{Spelling}
use Rattle.metal_grammar.specs.Written.{Clause}
use Rattle.metal_grammar.specs.Clauses.{less, open_behind}
use Rattle.metal_grammar.specs.Grammar.{IsText}
use Rattle.metal_grammar.specs.Rules.{rules_of, rule_position}
use Rattle.metal_clauses.specs.Places.{place_in}
use Rattle.metal_written.proofs.Any.{mapped-drop, mapped-end}
use Rattle.metal_reader.specs.MetalPositions.Positions.{begins_behind, beginnings, position_with}
use Rattle.metal_reader.proofs.MetalPositions.Counting.{rules_are_counted}

-- what is found in the rest of the tokens
abbrev pub found_from : ℕ → ℕ → ℕ → List Token → ℕ → Option ℕ
found_from depth before number all i = position_with before number (beginnings depth i (symbols_of (drop i all)))

less-low : (n : ℕ) → less n ≤ n
less-low zero = omega arith
less-low (suc n) = omega arith

depth-step : (a b : Bool) (depth : ℕ) → cond a (suc depth) (cond b (less depth) depth) ≤ depth + 1
depth-step true b depth = omega arith
depth-step false true depth = let h = less-low depth in omega (arith, h)
depth-step false false depth = omega arith

-- a token opens one brace at most
depth_low : (depth : ℕ) (t : Symbol) → open_behind depth t ≤ depth + 1
depth_low depth t = depth-step (is_sign marks.OpenBrace t) (is_sign marks.CloseBrace t) depth

pub depth_next : (depth behind : ℕ) (all : List Token) (i : ℕ) (d : Token) → behind ≡ open_behind depth (symbol_of (get_or all i d)) → behind ≤ depth + 1
depth_next depth behind all i d e = let h = depth_low depth (symbol_of (get_or all i d)) in omega (arith, e, h)

count-step : (b : Bool) (before : ℕ) → cond b (before + 1) before ≤ before + 1
count-step true before = omega arith
count-step false before = omega arith

pub count_next : (b : Bool) (before count : ℕ) → count ≡ cond b (before + 1) before → count ≤ before + 1
count_next b before count e = let h = count-step b before in omega (arith, e, h)

-- what is found behind a token, and from it on, where a rule begins behind it or not
abbrev later : ℕ → List Token → ℕ → Token → List ℕ
later depth all i t = beginnings (open_behind depth (symbol_of t)) (i + 1) (symbols_of (drop (i + 1) all))

abbrev turned : ℕ → ℕ → ℕ → List Token → ℕ → Token → Bool → Option ℕ
turned depth before number all i t b = position_with before number (cond b ((i + 1) ∷ later depth all i t) (later depth all i t))

step : (depth before number : ℕ) (all : List Token) (i : ℕ) (d : Token) → i < length all → found_from depth before number all i ≡ turned depth before number all i (get_or all i d) (begins_behind depth (symbol_of (get_or all i d)))
step depth before number all i d h = ap (λ ts. position_with before number (beginnings depth i ts)) (mapped-drop symbol_of all i d h)

turn-step : (depth before number : ℕ) (all : List Token) (i : ℕ) (t : Token) (b : Bool) → (b && nat_eq (before + 1) number) ≡ false
    → turned depth before number all i t b ≡ found_from (open_behind depth (symbol_of t)) (cond b (before + 1) before) number all (i + 1)
turn-step depth before number all i t true n = ap (λ y. cond y (Some (i + 1)) (position_with (before + 1) number (later depth all i t))) n
turn-step depth before number all i t false n = refl

-- the rule doesn't begin behind this token
pub found_turn : (depth before number : ℕ) (all : List Token) (i : ℕ) (d : Token) (b : Bool) (behind count : ℕ) → i < length all → b ≡ begins_behind depth (symbol_of (get_or all i d))
    → (b && nat_eq (before + 1) number) ≡ false → behind ≡ open_behind depth (symbol_of (get_or all i d)) → count ≡ cond b (before + 1) before
    → found_from behind count number all (i + 1) ≡ found_from depth before number all i
found_turn depth before number all i d b behind count h s n o k =
    let t = get_or all i d in
    ap (λ x. found_from x count number all (i + 1)) o ∙ ap (λ x. found_from (open_behind depth (symbol_of t)) x number all (i + 1)) k
    ∙ sym (step depth before number all i d h ∙ ap (turned depth before number all i t) (sym s) ∙ turn-step depth before number all i t b n)

-- the rule begins behind it
pub found_here : (depth before number : ℕ) (all : List Token) (i : ℕ) (d : Token) (b : Bool) → i < length all → b ≡ begins_behind depth (symbol_of (get_or all i d)) → (b && nat_eq (before + 1) number) ≡ true
    → found_from depth before number all i ≡ Some (i + 1)
found_here depth before number all i d b h s n =
    let t = get_or all i d in
    let w = both b (nat_eq (before + 1) number) n in
    step depth before number all i d h ∙ ap (turned depth before number all i t) (sym s ∙ w.0)
    ∙ ap (λ x. cond x (Some (i + 1)) (position_with (before + 1) number (later depth all i t))) w.1

pub found_end : (depth before number : ℕ) (all : List Token) (i : ℕ) → length all ≤ i → found_from depth before number all i ≡ None
found_end depth before number all i h = ap (λ ts. position_with before number (beginnings depth i ts)) (mapped-end symbol_of all i h)

-- what is found is the place of the rule
pub place_found : (spelling : Spelling) (cs : List Clause) (all list : List Token) (file number : ℕ) (found : Option ℕ) → all ≡ list → IsText spelling cs (symbols_of list) → found ≡ found_from 0 0 number all 0
    → option_map (place_in file) found ≡ option_map (place_in file) (rule_position number (rules_of cs))
place_found spelling cs all list file number found a w e =
    ap (option_map (place_in file)) (e ∙ ap (λ ts. found_from 0 0 number ts 0) a ∙ sym (rules_are_counted spelling (symbols_of list) cs number w))
