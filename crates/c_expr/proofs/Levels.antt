-- What an expression of a level is read by, and the levels of binary operators.
use Rattle.std.proofs.Common.{◌≡◌, ℕ, ◌+◌, ◌-◌, ◌<◌, ◌≤◌, Bool, true, false, cond, nat_le, List, None, Some, Result, Ok, Err, IsErrAnd, ap, refl, ◌∙◌, sym, arith}
use Rattle.c_tree.specs.declared.operator.BinaryOp.{BinaryOp}
use Rattle.c_tree.specs.Symbol.{Symbol}
use Rattle.c_tree.specs.Syntax.{Syntax, Operation, Binary}
use Rattle.c_grammar.specs.Levels.{unary_level, cast_level, conditional_level, assignment_level, comma_level}
use Rattle.c_grammar.specs.Names.{Names}
use Rattle.c_grammar.specs.Nonterminal.{Expression}
use Rattle.c_grammar.specs.Found.{Reader, made}
use Rattle.c_grammar.specs.Ways.ExpressionSteps.{read_commas, read_assignment, read_conditional, read_binary, read_unary, read_postfix, read_chain, take_binary}
use Rattle.c_grammar.specs.Reading.{read}
use Rattle.c_grammar.proofs.Options.{low}
use Rattle.c_grammar.proofs.Steps.{read-some, read_chain-some}
use Rattle.c_expr.specs.Gives.{Gives}
use Rattle.c_expr.specs.declared.fault.ExprFault.{ExprFault}
use Rattle.c_expr.specs.declared.fault.ExprFault.TheVariants.{NoTree}
use Rattle.c_expr.specs.declared.nodes.Read.{Read}
use Rattle.c_expr.proofs.Steps.{read_binary-fails}

high : (a b : ℕ) → b < a → nat_le a b ≡ false
high a b h = grind arith

third : {A : Type 0} (a b c : Bool) (v w x y : A) → a ≡ false → b ≡ false → c ≡ true → cond a v (cond b w (cond c x y)) ≡ x
third a b c v w x y h i j = rw (h, i, j) refl

fifth : {A : Type 0} (a b c d e : Bool) (t u v w x y : A) → a ≡ false → b ≡ false → c ≡ false → d ≡ false → e ≡ true → cond a t (cond b u (cond c v (cond d w (cond e x y)))) ≡ x
fifth a b c d e t u v w x y h i j k l = rw (h, i, j, k, l) refl

last : {A : Type 0} (a b c d e : Bool) (t u v w x y : A) → a ≡ false → b ≡ false → c ≡ false → d ≡ false → e ≡ false → cond a t (cond b u (cond c v (cond d w (cond e x y)))) ≡ y
last a b c d e t u v w x y h i j k l = rw (h, i, j, k, l) refl

pub at_conditional : (m level : ℕ) (names : Names) (ts : List Symbol) → 0 < m → level < 14 → 13 ≤ level → read m (Expression level) names ts ≡ read_conditional (read (m - 1)) m names ts
at_conditional m level names ts p a b =
    read-some m (Expression level) names ts p
    ∙ third (nat_le comma_level level) (nat_le assignment_level level) (nat_le conditional_level level)
    (read_commas (read (m - 1)) m names ts) (read_assignment (read (m - 1)) m names ts) (read_conditional (read (m - 1)) m names ts)
    (cond (nat_le cast_level level) (read_binary (read (m - 1)) m names (level - cast_level) ts) (cond (nat_le unary_level level) (read_unary (read (m - 1)) m names ts) (read_postfix (read (m - 1)) m names ts)))
    (high 15 level (omega arith)) (high 14 level (omega arith)) (low 13 level b)

pub at_unary : (m level : ℕ) (names : Names) (ts : List Symbol) → 0 < m → level < 2 → 1 ≤ level → read m (Expression level) names ts ≡ read_unary (read (m - 1)) m names ts
at_unary m level names ts p a b =
    read-some m (Expression level) names ts p
    ∙ fifth (nat_le comma_level level) (nat_le assignment_level level) (nat_le conditional_level level) (nat_le cast_level level) (nat_le unary_level level)
    (read_commas (read (m - 1)) m names ts) (read_assignment (read (m - 1)) m names ts) (read_conditional (read (m - 1)) m names ts)
    (read_binary (read (m - 1)) m names (level - cast_level) ts) (read_unary (read (m - 1)) m names ts) (read_postfix (read (m - 1)) m names ts)
    (high 15 level (omega arith)) (high 14 level (omega arith)) (high 13 level (omega arith)) (high 2 level a) (low 1 level b)

pub at_postfix : (m level : ℕ) (names : Names) (ts : List Symbol) → 0 < m → level < 1 → read m (Expression level) names ts ≡ read_postfix (read (m - 1)) m names ts
at_postfix m level names ts p a =
    read-some m (Expression level) names ts p
    ∙ last (nat_le comma_level level) (nat_le assignment_level level) (nat_le conditional_level level) (nat_le cast_level level) (nat_le unary_level level)
    (read_commas (read (m - 1)) m names ts) (read_assignment (read (m - 1)) m names ts) (read_conditional (read (m - 1)) m names ts)
    (read_binary (read (m - 1)) m names (level - cast_level) ts) (read_unary (read (m - 1)) m names ts) (read_postfix (read (m - 1)) m names ts)
    (high 15 level (omega arith)) (high 14 level (omega arith)) (high 13 level (omega arith)) (high 2 level (omega arith)) (high 1 level a)

-- a fault at one level is the fault of all
pub gives-fails : (result : Result Read ExprFault) (fault : ExprFault) (inner : Reader) (m : ℕ) (names a : Names) (k levels : ℕ) (ts r : List Symbol) (left : Syntax)
    → IsErrAnd result (λ e. e ≡ fault) → k < levels → a ≡ names → read_binary inner m names k ts ≡ Some (left, r) → (fault ≡ NoTree → read_chain inner m a (k + 3) m left r ≡ None)
    → Gives result (read_binary inner m names levels ts)
gives-fails (Ok x) fault inner m names a k levels ts r left i l s b n = absurd i
gives-fails (Err e) fault inner m names a k levels ts r left i l s b n = λ h.
    read_binary-fails inner m names k levels ts r left l b (sym (ap (λ x. read_chain inner m x (k + 3) m left r) s) ∙ n (sym i ∙ h))

-- one more operator
pub chain-next : (inner : Reader) (m : ℕ) (names a : Names) (level f : ℕ) (op : BinaryOp) (left right e : Syntax) (ts r s u : List Symbol)
    → 0 < f → a ≡ names → take_binary level ts ≡ Some (op, r) → inner (Expression (level - 1)) a r ≡ Some (right, s) → made m (Operation (Binary op left right)) s ≡ Some (e, u)
    → read_chain inner m names level (f - 1) e u ≡ read_chain inner m names level f left ts
chain-next inner m names a level f op left right e ts r s u p n t i h = sym (read_chain-some inner m names level f left ts p ∙ rw (t, sym n, i, h) refl)
