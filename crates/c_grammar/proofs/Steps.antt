-- The equations of the steps that go on: with nothing left, and with one less.
use Rattle.std.proofs.Common.{◌≡◌, ℕ, zero, suc, ◌+◌, ◌-◌, ◌<◌, Bool, true, false, cond, ◌||◌, List, [], ◌∷◌, Option, None, Some, ap, refl, arith}
use Rattle.c_tree.specs.declared.punctuator.Punctuator.TheVariants as marks
use Rattle.c_tree.specs.Symbol.{Symbol}
use Rattle.c_tree.specs.Syntax.{Syntax, Operation, Binary, no_more, more}
use Rattle.c_grammar.specs.Symbols.{after_sign, begins, take_symbol, run_of, after_run}
use Rattle.c_grammar.specs.Levels.{assignment_level}
use Rattle.c_grammar.specs.Names.{Names, with_param}
use Rattle.c_grammar.specs.Specifiers.{goes_on, types}
use Rattle.c_grammar.specs.Nonterminal.{Nonterminal, Expression, Parameter}
use Rattle.c_grammar.specs.Found.{◌>>=◌, if_there, Found, made, Reader}
use Rattle.c_grammar.specs.Ways.SpecifierSteps.{read_item, read_items}
use Rattle.c_grammar.specs.Ways.DeclaratorSteps.{read_params, begins_suffix, read_suffix, read_suffixes}
use Rattle.c_grammar.specs.Ways.ExpressionSteps.{read_designator, read_path, read_more_arguments, begins_postfix, read_postfix_operator, read_postfix_operators, read_cast, take_binary, read_chain, read_binary}
use Rattle.c_grammar.specs.Reading.{read_part, read}

pred : (n : ℕ) → n ≡ suc n - 1
pred n = omega arith

pub read-zero : (nonterminal : Nonterminal) (names : Names) (ts : List Symbol) → read 0 nonterminal names ts ≡ None
unfolding read
read-zero nonterminal names ts = refl

pub read-some : (n : ℕ) (nonterminal : Nonterminal) (names : Names) (ts : List Symbol) → 0 < n → read n nonterminal names ts ≡ read_part (read (n - 1)) n nonterminal names ts
unfolding read
read-some zero nonterminal names ts h = absurd (omega arith)
read-some (suc n) nonterminal names ts h = ap (λ x. read_part (read x) (suc n) nonterminal names ts) (pred n)

pub read_items-zero : (tagged : List Symbol → Option Found) (names : Names) (typed : Bool) (ts : List Symbol) → read_items tagged names 0 typed ts ≡ if_there (take_symbol (goes_on names typed) ts) (Some (no_more, ts)) (λ _. None)
unfolding read_items
read_items-zero tagged names typed ts = refl

pub read_items-some : (tagged : List Symbol → Option Found) (names : Names) (f : ℕ) (typed : Bool) (ts : List Symbol) → 0 < f → read_items tagged names f typed ts ≡ if_there (take_symbol (goes_on names typed) ts) (Some (no_more, ts)) (λ t. read_item tagged t.0 t.1 >>= λ e. read_items tagged names (f - 1) (typed || types e.0) e.1 >>= λ es. Some (more e.0 es.0, es.1))
unfolding read_items
read_items-some tagged names zero typed ts h = absurd (omega arith)
read_items-some tagged names (suc f) typed ts h = ap (λ x. if_there (take_symbol (goes_on names typed) ts) (Some (no_more, ts)) (λ t. read_item tagged t.0 t.1 >>= λ e. read_items tagged names x (typed || types e.0) e.1 >>= λ es. Some (more e.0 es.0, es.1))) (pred f)

pub read_params-zero : (inner : Reader) (names : Names) (ts : List Symbol) → read_params inner names 0 ts ≡ None
unfolding read_params
read_params-zero inner names ts = refl

pub read_params-some : (inner : Reader) (names : Names) (f : ℕ) (ts : List Symbol) → 0 < f → read_params inner names f ts ≡ (inner Parameter names ts >>= λ p. if_there (after_sign marks.Comma p.1) (after_sign marks.CloseParen p.1 >>= λ rest. Some (more p.0 no_more, false, rest)) (λ others. if_there (after_sign marks.Ellipsis others) (read_params inner (with_param p.0 names) (f - 1) others >>= λ ps. Some (more p.0 ps.0, ps.1, ps.2)) (λ end. after_sign marks.CloseParen end >>= λ rest. Some (more p.0 no_more, true, rest))))
unfolding read_params
read_params-some inner names zero ts h = absurd (omega arith)
read_params-some inner names (suc f) ts h = ap (λ x. (inner Parameter names ts >>= λ p. if_there (after_sign marks.Comma p.1) (after_sign marks.CloseParen p.1 >>= λ rest. Some (more p.0 no_more, false, rest)) (λ others. if_there (after_sign marks.Ellipsis others) (read_params inner (with_param p.0 names) x others >>= λ ps. Some (more p.0 ps.0, ps.1, ps.2)) (λ end. after_sign marks.CloseParen end >>= λ rest. Some (more p.0 no_more, true, rest))))) (pred f)

pub read_suffixes-zero : (inner : Reader) (names : Names) (ts : List Symbol) → read_suffixes inner names 0 ts ≡ cond (begins begins_suffix ts) None (Some (no_more, ts))
unfolding read_suffixes
read_suffixes-zero inner names ts = refl

pub read_suffixes-some : (inner : Reader) (names : Names) (f : ℕ) (ts : List Symbol) → 0 < f → read_suffixes inner names f ts ≡ cond (begins begins_suffix ts) (read_suffix inner names ts >>= λ e. read_suffixes inner names (f - 1) e.1 >>= λ es. Some (more e.0 es.0, es.1)) (Some (no_more, ts))
unfolding read_suffixes
read_suffixes-some inner names zero ts h = absurd (omega arith)
read_suffixes-some inner names (suc f) ts h = ap (λ x. cond (begins begins_suffix ts) (read_suffix inner names ts >>= λ e. read_suffixes inner names x e.1 >>= λ es. Some (more e.0 es.0, es.1)) (Some (no_more, ts))) (pred f)

pub read_path-zero : (inner : Reader) (names : Names) (ts : List Symbol) → read_path inner names 0 ts ≡ None
unfolding read_path
read_path-zero inner names ts = refl

pub read_path-some : (inner : Reader) (names : Names) (f : ℕ) (ts : List Symbol) → 0 < f → read_path inner names f ts ≡ if_there (after_sign marks.CloseParen ts) (read_designator inner names ts >>= λ e. read_path inner names (f - 1) e.1 >>= λ es. Some (more e.0 es.0, es.1)) (λ rest. Some (no_more, rest))
unfolding read_path
read_path-some inner names zero ts h = absurd (omega arith)
read_path-some inner names (suc f) ts h = ap (λ x. if_there (after_sign marks.CloseParen ts) (read_designator inner names ts >>= λ e. read_path inner names x e.1 >>= λ es. Some (more e.0 es.0, es.1)) (λ rest. Some (no_more, rest))) (pred f)

pub read_more_arguments-zero : (inner : Reader) (names : Names) (ts : List Symbol) → read_more_arguments inner names 0 ts ≡ None
unfolding read_more_arguments
read_more_arguments-zero inner names ts = refl

pub read_more_arguments-some : (inner : Reader) (names : Names) (f : ℕ) (ts : List Symbol) → 0 < f → read_more_arguments inner names f ts ≡ (inner (Expression assignment_level) names ts >>= λ e. if_there (after_sign marks.Comma e.1) (after_sign marks.CloseParen e.1 >>= λ rest. Some (more e.0 no_more, rest)) (λ others. read_more_arguments inner names (f - 1) others >>= λ es. Some (more e.0 es.0, es.1)))
unfolding read_more_arguments
read_more_arguments-some inner names zero ts h = absurd (omega arith)
read_more_arguments-some inner names (suc f) ts h = ap (λ x. (inner (Expression assignment_level) names ts >>= λ e. if_there (after_sign marks.Comma e.1) (after_sign marks.CloseParen e.1 >>= λ rest. Some (more e.0 no_more, rest)) (λ others. read_more_arguments inner names x others >>= λ es. Some (more e.0 es.0, es.1)))) (pred f)

pub read_postfix_operators-zero : (inner : Reader) (m : ℕ) (names : Names) (operand : Syntax) (ts : List Symbol) → read_postfix_operators inner m names 0 operand ts ≡ cond (begins begins_postfix ts) None (Some (operand, ts))
unfolding read_postfix_operators
read_postfix_operators-zero inner m names operand ts = refl

pub read_postfix_operators-some : (inner : Reader) (m : ℕ) (names : Names) (f : ℕ) (operand : Syntax) (ts : List Symbol) → 0 < f → read_postfix_operators inner m names f operand ts ≡ cond (begins begins_postfix ts) (read_postfix_operator inner m names operand ts >>= λ e. read_postfix_operators inner m names (f - 1) e.0 e.1) (Some (operand, ts))
unfolding read_postfix_operators
read_postfix_operators-some inner m names zero operand ts h = absurd (omega arith)
read_postfix_operators-some inner m names (suc f) operand ts h = ap (λ x. cond (begins begins_postfix ts) (read_postfix_operator inner m names operand ts >>= λ e. read_postfix_operators inner m names x e.0 e.1) (Some (operand, ts))) (pred f)

pub read_chain-zero : (inner : Reader) (m : ℕ) (names : Names) (level : ℕ) (left : Syntax) (ts : List Symbol) → read_chain inner m names level 0 left ts ≡ if_there (take_binary level ts) (Some (left, ts)) (λ _. None)
unfolding read_chain
read_chain-zero inner m names level left ts = refl

pub read_chain-some : (inner : Reader) (m : ℕ) (names : Names) (level : ℕ) (f : ℕ) (left : Syntax) (ts : List Symbol) → 0 < f → read_chain inner m names level f left ts ≡ if_there (take_binary level ts) (Some (left, ts)) (λ op. inner (Expression (level - 1)) names op.1 >>= λ right. made m (Operation (Binary op.0 left right.0)) right.1 >>= λ e. read_chain inner m names level (f - 1) e.0 e.1)
unfolding read_chain
read_chain-some inner m names level zero left ts h = absurd (omega arith)
read_chain-some inner m names level (suc f) left ts h = ap (λ x. if_there (take_binary level ts) (Some (left, ts)) (λ op. inner (Expression (level - 1)) names op.1 >>= λ right. made m (Operation (Binary op.0 left right.0)) right.1 >>= λ e. read_chain inner m names level x e.0 e.1)) (pred f)

pub read_binary-zero : (inner : Reader) (m : ℕ) (names : Names) (ts : List Symbol) → read_binary inner m names 0 ts ≡ read_cast inner m names ts
unfolding read_binary
read_binary-zero inner m names ts = refl

pub read_binary-some : (inner : Reader) (m : ℕ) (names : Names) (k : ℕ) (ts : List Symbol) → 0 < k → read_binary inner m names k ts ≡ (read_binary inner m names (k - 1) ts >>= λ left. read_chain inner m names ((k - 1) + 3) m left.0 left.1)
unfolding read_binary
read_binary-some inner m names zero ts h = absurd (omega arith)
read_binary-some inner m names (suc k) ts h = ap (λ x. (read_binary inner m names x ts >>= λ left. read_chain inner m names (x + 3) m left.0 left.1)) (pred k)

pub run_of-more : (is : Symbol → Bool) (t : Symbol) (ts : List Symbol) → run_of is (t ∷ ts) ≡ cond (is t) (t ∷ run_of is ts) []
unfolding run_of
run_of-more is t ts = refl

pub after_run-more : (is : Symbol → Bool) (t : Symbol) (ts : List Symbol) → after_run is (t ∷ ts) ≡ cond (is t) (after_run is ts) (t ∷ ts)
unfolding after_run
after_run-more is t ts = refl
