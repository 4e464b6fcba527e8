-- The equations of the steps that read expressions in a loop.
use Rattle.std.proofs.Common.{◌≡◌, ℕ, zero, suc, ◌+◌, ◌-◌, ◌<◌, true, false, ◌&&◌, nat_eq, List, [], ◌∷◌, length, None, Some, ap, refl, ◌∙◌, sym, subst, arith}
use Rattle.c_tree.specs.declared.token.Token.{Token}
use Rattle.c_tree.specs.declared.tree.Tree.{Tree}
use Rattle.c_tree.specs.declared.tree.Trees.{Trees, out-Trees}
use Rattle.c_tree.specs.declared.punctuator.Punctuator.TheVariants as marks
use Rattle.c_tree.specs.Symbol.{Symbol, Sign, symbols_of}
use Rattle.c_tree.specs.Forget.{list_view, view_all}
use Rattle.c_tree.specs.Syntax.{Syntax}
use Rattle.c_grammar.specs.Symbols.{begins, is_string, run_of, after_run, is_sign, after_sign}
use Rattle.c_grammar.specs.Grammar.{is_pointer_word, is_nothing}
use Rattle.c_grammar.specs.Ways.DeclaratorSteps.{pointers_of, after_pointers}
use Rattle.c_grammar.specs.Names.{Names}
use Rattle.c_grammar.specs.Found.{◌>>=◌, Reader}
use Rattle.c_grammar.specs.Ways.ExpressionSteps.{begins_postfix, read_postfix_operators, read_cast, take_binary, read_chain, read_binary}
use Rattle.c_grammar.proofs.Steps.{read-zero, read-some, read_postfix_operators-zero, read_postfix_operators-some, read_chain-zero, read_chain-some, read_binary-zero, read_binary-some, run_of-more, after_run-more}
use Rattle.c_grammar.proofs.Front.{is_sign-true}
use Rattle.c_grammar.proofs.Options.{when}
use Rattle.c_expr.proofs.Items.{list_out}

pub read_chain-end : (inner : Reader) (m : ℕ) (names : Names) (level f : ℕ) (left : Syntax) (ts : List Symbol) → take_binary level ts ≡ None → read_chain inner m names level f left ts ≡ Some (left, ts)
unfolding read_chain
read_chain-end inner m names level zero left ts h = rw h refl
read_chain-end inner m names level (suc f) left ts h = rw h refl

pub read_postfix_operators-end : (inner : Reader) (m : ℕ) (names : Names) (f : ℕ) (operand : Syntax) (ts : List Symbol) → begins begins_postfix ts ≡ false → read_postfix_operators inner m names f operand ts ≡ Some (operand, ts)
unfolding read_postfix_operators
read_postfix_operators-end inner m names zero operand ts h = rw h refl
read_postfix_operators-end inner m names (suc f) operand ts h = rw h refl

-- where the first operand is missing, so is all
pub read_binary-none : (inner : Reader) (m : ℕ) (names : Names) (k : ℕ) (ts : List Symbol) → read_cast inner m names ts ≡ None → read_binary inner m names k ts ≡ None
unfolding read_binary
read_binary-none inner m names zero ts h = h
read_binary-none inner m names (suc k) ts h = rw (read_binary-none inner m names k ts h) refl

-- and where it is at a lower level
pub read_binary-lost : (inner : Reader) (m : ℕ) (names : Names) (k more : ℕ) (ts : List Symbol) → read_binary inner m names k ts ≡ None → read_binary inner m names (k + more) ts ≡ None
read_binary-lost inner m names k zero ts h = ap (λ n. read_binary inner m names n ts) (omega arith) ∙ h
read_binary-lost inner m names k (suc more) ts h =
    let e : k + suc more ≡ (k + more) + 1 = omega arith in
    let p : (k + more) + 1 - 1 ≡ k + more = omega arith in
    ap (λ n. read_binary inner m names n ts) e
    ∙ read_binary-some inner m names ((k + more) + 1) ts (omega arith)
    ∙ ap (λ n. read_binary inner m names n ts >>= λ left. read_chain inner m names (n + 3) m left.0 left.1) p
    ∙ rw (read_binary-lost inner m names k more ts h) refl

pub read_binary-next : (inner : Reader) (m : ℕ) (names : Names) (k : ℕ) (ts r : List Symbol) (left : Syntax) → read_binary inner m names k ts ≡ Some (left, r) → read_binary inner m names (k + 1) ts ≡ read_chain inner m names (k + 3) m left r
read_binary-next inner m names k ts r left h =
    let p : k + 1 - 1 ≡ k = omega arith in
    read_binary-some inner m names (k + 1) ts (omega arith)
    ∙ ap (λ n. read_binary inner m names n ts >>= λ left. read_chain inner m names (n + 3) m left.0 left.1) p
    ∙ rw h refl

-- where reading goes wrong at one of the levels, it does at all above
pub read_binary-fails : (inner : Reader) (m : ℕ) (names : Names) (k levels : ℕ) (ts r : List Symbol) (left : Syntax) → k < levels → read_binary inner m names k ts ≡ Some (left, r) → read_chain inner m names (k + 3) m left r ≡ None → read_binary inner m names levels ts ≡ None
read_binary-fails inner m names k levels ts r left l h n =
    let e : levels ≡ (k + 1) + (levels - (k + 1)) = omega (arith, l) in
    ap (λ n. read_binary inner m names n ts) e ∙ read_binary-lost inner m names (k + 1) (levels - (k + 1)) ts (read_binary-next inner m names k ts r left h ∙ n)

run_some : (t : Symbol) (rest : List Symbol) (run : List Token) → is_string t ≡ true → symbols_of run ≡ run_of is_string (t ∷ rest) → 0 < length run
run_some t rest [] s e = let a : [] ≡ t ∷ run_of is_string rest = e ∙ run_of-more is_string t rest ∙ rw s refl in cc
run_some t rest (x ∷ run) s e = omega arith

-- string literals in front are some
pub run_taken : (ts : List Symbol) (run : List Token) → begins is_string ts ≡ true → symbols_of run ≡ run_of is_string ts → 0 < length run
run_taken [] run b e = cc
run_taken (t ∷ ts) run b e = run_some t ts run b e

pub pointer_run : (ts r : List Symbol) → after_sign marks.Star ts ≡ Some r → (run_of is_pointer_word ts ≡ pointers_of ts) × (after_run is_pointer_word ts ≡ after_pointers ts)
pointer_run [] r h = cc
pointer_run (t ∷ ts) r h =
    let e = is_sign-true marks.Star t (when (is_sign marks.Star t) (Some ts) r h).0 in
    subst (λ t. (run_of is_pointer_word (t ∷ ts) ≡ pointers_of (t ∷ ts)) × (after_run is_pointer_word (t ∷ ts) ≡ after_pointers (t ∷ ts))) (sym e) (run_of-more is_pointer_word (Sign marks.Star) ts, after_run-more is_pointer_word (Sign marks.Star) ts)

-- an empty list of tokens, and an empty list of trees
pub nothing_told : (ps : List Token) (trees : Trees) → is_nothing (symbols_of ps) (list_view trees) ≡ (nat_eq (length ps) 0 && nat_eq (length (out-Trees trees).all.now) 0)
nothing_told ps trees = ap (is_nothing (symbols_of ps)) (list_out trees) ∙ by ps (out-Trees trees).all.now
  where
    by : (ps : List Token) (ts : List Tree) → is_nothing (symbols_of ps) (view_all ts) ≡ (nat_eq (length ps) 0 && nat_eq (length ts) 0)
    by [] [] = refl
    by [] (t ∷ ts) = grind arith
    by (p ∷ ps) ts = grind arith

pub ruleset reads = (read-zero, read-some)

pub ruleset chains = (read_chain-zero, read_chain-some, read_chain-end)

pub ruleset levels = (read_binary-zero, read_binary-none, read_binary-next)

pub ruleset postfixes = (read_postfix_operators-zero, read_postfix_operators-some, read_postfix_operators-end)

pub ruleset runs = (run_of-more, after_run-more)
