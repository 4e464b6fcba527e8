-- What stands in front of a list of symbols.
use Rattle.std.proofs.Common.{◌≡◌, ℕ, Bool, true, false, cond, nat_eq, List, [], ◌∷◌, ◌++◌, Option, None, Some, ap, refl, ◌∙◌, sym, subst, arith}
use Rattle.c_tree.specs.declared.keyword.Keyword.{Keyword}
use Rattle.c_tree.specs.declared.punctuator.Punctuator.{Punctuator}
use Rattle.c_tree.specs.declared.punctuator.Punctuator.TheVariants as marks
use Rattle.c_tree.specs.declared.operator.AssignOp.{AssignOp}
use Rattle.c_tree.specs.declared.operator.AssignOp.TheVariants as assign
use Rattle.c_tree.specs.declared.operator.BinaryOp.{BinaryOp}
use Rattle.c_tree.specs.declared.operator.BinaryOp.TheVariants as binary
use Rattle.c_tree.specs.Symbol.{Symbol, Reserved, Sign}
use Rattle.c_tree.specs.Tokens.{binary_sign, assign_sign}
use Rattle.c_grammar.specs.Symbols.{is_sign, is_keyword, after, after_sign, after_keyword, begins, take_symbol, run_of, after_run, AreAll}
use Rattle.c_grammar.specs.Levels.{level_of, binary_of, assign_of}
use Rattle.c_grammar.specs.Found.{◌>>=◌}
use Rattle.c_grammar.specs.Ways.ExpressionSteps.{take_binary, take_assign}
use Rattle.c_tree.proofs.Codes.{keyword_by_code, punctuator_by_code}
use Rattle.c_grammar.proofs.Options.{same, when, parts, bound}

pub is_sign-self : (p : Punctuator) → is_sign p (Sign p) ≡ true
is_sign-self p = grind arith

pub is_keyword-self : (k : Keyword) → is_keyword k (Reserved k) ≡ true
is_keyword-self k = grind arith

pub is_sign-true : (p : Punctuator) (t : Symbol) → is_sign p t ≡ true → t ≡ Sign p
is_sign-true p (Sign q) h = ap Sign (sym (punctuator_by_code p q h))
is_sign-true p _ h = cc

pub is_keyword-true : (k : Keyword) (t : Symbol) → is_keyword k t ≡ true → t ≡ Reserved k
is_keyword-true k (Reserved l) h = ap Reserved (sym (keyword_by_code k l h))
is_keyword-true k _ h = cc

pub take_symbol_some : (is : Symbol → Bool) (ts : List Symbol) (t : Symbol) (r : List Symbol) → take_symbol is ts ≡ Some (t, r) → (ts ≡ t ∷ r) × (is t ≡ true)
take_symbol_some is [] t r h = cc
take_symbol_some is (s ∷ ts) t r h =
    let k = when (is s) (Some (s, ts)) (t, r) h in
    let p = parts (s, ts) (t, r) k.1 in
    (ap (λ x. x ∷ ts) p.0 ∙ ap (λ x. t ∷ x) p.1, subst (λ x. is x ≡ true) p.0 k.0)

pub take_symbol_here : (is : Symbol → Bool) (t : Symbol) (ts : List Symbol) → is t ≡ true → take_symbol is (t ∷ ts) ≡ Some (t, ts)
take_symbol_here is t ts h = let F : Bool → Option (Symbol × List Symbol) = λ b. cond b (Some (t, ts)) None in ap F h

pub take_symbol_none : (is : Symbol → Bool) (ts : List Symbol) → begins is ts ≡ false → take_symbol is ts ≡ None
take_symbol_none is [] h = refl
take_symbol_none is (t ∷ ts) h = let F : Bool → Option (Symbol × List Symbol) = λ b. cond b (Some (t, ts)) None in ap F h

none_by : {A : Type 0} (b : Bool) (x : A) → cond b (Some x) None ≡ None → b ≡ false
none_by true x h = cc
none_by false x h = refl

pub none_begins : (is : Symbol → Bool) (ts : List Symbol) → take_symbol is ts ≡ None → begins is ts ≡ false
none_begins is [] h = refl
none_begins is (t ∷ ts) h = none_by (is t) (t, ts) h

after_some : (is : Symbol → Bool) (ts r : List Symbol) → after is ts ≡ Some r → (t : Symbol) × (ts ≡ t ∷ r) × (is t ≡ true)
after_some is [] r h = cc
after_some is (t ∷ ts) r h = let k = when (is t) (Some ts) r h in (t, ap (λ x. t ∷ x) (cc k.1), k.0)

pub after_none : (is : Symbol → Bool) (ts : List Symbol) → begins is ts ≡ false → after is ts ≡ None
after_none is [] h = refl
after_none is (t ∷ ts) h = ap (λ b. cond b (Some ts) None) h

-- a punctuator or a keyword that was found stands in front
pub taken : (p : Punctuator) (ts r : List Symbol) → after_sign p ts ≡ Some r → ts ≡ Sign p ∷ r
taken p ts r h = let a = after_some (is_sign p) ts r h in a.1 ∙ ap (λ x. x ∷ r) (is_sign-true p a.0 a.2)

pub taken_keyword : (k : Keyword) (ts r : List Symbol) → after_keyword k ts ≡ Some r → ts ≡ Reserved k ∷ r
taken_keyword k ts r h = let a = after_some (is_keyword k) ts r h in a.1 ∙ ap (λ x. x ∷ r) (is_keyword-true k a.0 a.2)

pub sign_here : (p : Punctuator) (ts : List Symbol) → after_sign p (Sign p ∷ ts) ≡ Some ts
sign_here p ts = ap (λ b. cond b (Some ts) None) (is_sign-self p)

run_step : (b : Bool) (t : Symbol) (ts front behind : List Symbol) → ts ≡ front ++ behind → t ∷ ts ≡ cond b (t ∷ front) [] ++ cond b behind (t ∷ ts)
run_step true t ts front behind h = ap (λ x. t ∷ x) h
run_step false t ts front behind h = refl

-- a run and what follows it are the list
pub run-all : (is : Symbol → Bool) (ts : List Symbol) → ts ≡ run_of is ts ++ after_run is ts
unfolding run_of after_run
run-all is [] = refl
run-all is (t ∷ ts) = run_step (is t) t ts (run_of is ts) (after_run is ts) (run-all is ts)

has_step : (is : Symbol → Bool) (b : Bool) (t : Symbol) (front : List Symbol) → is t ≡ b → AreAll is front → AreAll is (cond b (t ∷ front) [])
has_step is true t front h w = (h, w)
has_step is false t front h w = tt

pub run-has : (is : Symbol → Bool) (ts : List Symbol) → AreAll is (run_of is ts)
unfolding run_of
run-has is [] = tt
run-has is (t ∷ ts) = has_step is (is t) t (run_of is ts) refl (run-has is ts)

ends_step : (is : Symbol → Bool) (b : Bool) (t : Symbol) (ts behind : List Symbol) → is t ≡ b → begins is behind ≡ false → begins is (cond b behind (t ∷ ts)) ≡ false
ends_step is true t ts behind h w = w
ends_step is false t ts behind h w = h

pub run-ends : (is : Symbol → Bool) (ts : List Symbol) → begins is (after_run is ts) ≡ false
unfolding after_run
run-ends is [] = refl
run-ends is (t ∷ ts) = ends_step is (is t) t ts (after_run is ts) refl (run-ends is ts)

-- a run before what doesn't go on with it is found whole
pub run_of-here : (is : Symbol → Bool) (xs ts : List Symbol) → AreAll is xs → begins is ts ≡ false → run_of is (xs ++ ts) ≡ xs
unfolding run_of
run_of-here is [] [] w h = refl
run_of-here is [] (t ∷ ts) w h = ap (λ b. cond b (t ∷ run_of is ts) []) h
run_of-here is (x ∷ xs) ts w h = ap (λ b. cond b (x ∷ run_of is (xs ++ ts)) []) w.0 ∙ ap (λ y. x ∷ y) (run_of-here is xs ts w.1 h)

pub after_run-here : (is : Symbol → Bool) (xs ts : List Symbol) → AreAll is xs → begins is ts ≡ false → after_run is (xs ++ ts) ≡ ts
unfolding after_run
after_run-here is [] [] w h = refl
after_run-here is [] (t ∷ ts) w h = ap (λ b. cond b (after_run is ts) (t ∷ ts)) h
after_run-here is (x ∷ xs) ts w h = ap (λ b. cond b (after_run is (xs ++ ts)) (x ∷ (xs ++ ts))) w.0 ∙ after_run-here is xs ts w.1 h

-- the symbols of operators
pub binary_of-some : (t : Symbol) (op : BinaryOp) → binary_of t ≡ Some op → t ≡ Sign (binary_sign op)
binary_of-some (Sign marks.Star) op h = ap (λ o. Sign (binary_sign o)) (same binary.Multiply op h)
binary_of-some (Sign marks.Slash) op h = ap (λ o. Sign (binary_sign o)) (same binary.Divide op h)
binary_of-some (Sign marks.Percent) op h = ap (λ o. Sign (binary_sign o)) (same binary.Remainder op h)
binary_of-some (Sign marks.Plus) op h = ap (λ o. Sign (binary_sign o)) (same binary.Add op h)
binary_of-some (Sign marks.Minus) op h = ap (λ o. Sign (binary_sign o)) (same binary.Subtract op h)
binary_of-some (Sign marks.ShiftLeft) op h = ap (λ o. Sign (binary_sign o)) (same binary.ShiftLeft op h)
binary_of-some (Sign marks.ShiftRight) op h = ap (λ o. Sign (binary_sign o)) (same binary.ShiftRight op h)
binary_of-some (Sign marks.Less) op h = ap (λ o. Sign (binary_sign o)) (same binary.Less op h)
binary_of-some (Sign marks.Greater) op h = ap (λ o. Sign (binary_sign o)) (same binary.Greater op h)
binary_of-some (Sign marks.LessEqual) op h = ap (λ o. Sign (binary_sign o)) (same binary.LessEqual op h)
binary_of-some (Sign marks.GreaterEqual) op h = ap (λ o. Sign (binary_sign o)) (same binary.GreaterEqual op h)
binary_of-some (Sign marks.Equal) op h = ap (λ o. Sign (binary_sign o)) (same binary.Equal op h)
binary_of-some (Sign marks.NotEqual) op h = ap (λ o. Sign (binary_sign o)) (same binary.NotEqual op h)
binary_of-some (Sign marks.Ampersand) op h = ap (λ o. Sign (binary_sign o)) (same binary.BitAnd op h)
binary_of-some (Sign marks.Caret) op h = ap (λ o. Sign (binary_sign o)) (same binary.BitXor op h)
binary_of-some (Sign marks.Bar) op h = ap (λ o. Sign (binary_sign o)) (same binary.BitOr op h)
binary_of-some (Sign marks.AndAnd) op h = ap (λ o. Sign (binary_sign o)) (same binary.LogAnd op h)
binary_of-some (Sign marks.OrOr) op h = ap (λ o. Sign (binary_sign o)) (same binary.LogOr op h)
binary_of-some (Sign marks.Comma) op h = ap (λ o. Sign (binary_sign o)) (same binary.Comma op h)
binary_of-some _ op h = cc

pub binary_of-sign : (op : BinaryOp) → binary_of (Sign (binary_sign op)) ≡ Some op
binary_of-sign binary.Multiply = refl
binary_of-sign binary.Divide = refl
binary_of-sign binary.Remainder = refl
binary_of-sign binary.Add = refl
binary_of-sign binary.Subtract = refl
binary_of-sign binary.ShiftLeft = refl
binary_of-sign binary.ShiftRight = refl
binary_of-sign binary.Less = refl
binary_of-sign binary.Greater = refl
binary_of-sign binary.LessEqual = refl
binary_of-sign binary.GreaterEqual = refl
binary_of-sign binary.Equal = refl
binary_of-sign binary.NotEqual = refl
binary_of-sign binary.BitAnd = refl
binary_of-sign binary.BitXor = refl
binary_of-sign binary.BitOr = refl
binary_of-sign binary.LogAnd = refl
binary_of-sign binary.LogOr = refl
binary_of-sign binary.Comma = refl

pub assign_of-some : (t : Symbol) (op : AssignOp) → assign_of t ≡ Some op → t ≡ Sign (assign_sign op)
assign_of-some (Sign marks.Assign) op h = ap (λ o. Sign (assign_sign o)) (same assign.Plain op h)
assign_of-some (Sign marks.StarAssign) op h = ap (λ o. Sign (assign_sign o)) (same assign.Multiply op h)
assign_of-some (Sign marks.SlashAssign) op h = ap (λ o. Sign (assign_sign o)) (same assign.Divide op h)
assign_of-some (Sign marks.PercentAssign) op h = ap (λ o. Sign (assign_sign o)) (same assign.Remainder op h)
assign_of-some (Sign marks.PlusAssign) op h = ap (λ o. Sign (assign_sign o)) (same assign.Add op h)
assign_of-some (Sign marks.MinusAssign) op h = ap (λ o. Sign (assign_sign o)) (same assign.Subtract op h)
assign_of-some (Sign marks.ShiftLeftAssign) op h = ap (λ o. Sign (assign_sign o)) (same assign.ShiftLeft op h)
assign_of-some (Sign marks.ShiftRightAssign) op h = ap (λ o. Sign (assign_sign o)) (same assign.ShiftRight op h)
assign_of-some (Sign marks.AmpersandAssign) op h = ap (λ o. Sign (assign_sign o)) (same assign.BitAnd op h)
assign_of-some (Sign marks.CaretAssign) op h = ap (λ o. Sign (assign_sign o)) (same assign.BitXor op h)
assign_of-some (Sign marks.BarAssign) op h = ap (λ o. Sign (assign_sign o)) (same assign.BitOr op h)
assign_of-some _ op h = cc

pub assign_of-sign : (op : AssignOp) → assign_of (Sign (assign_sign op)) ≡ Some op
assign_of-sign assign.Plain = refl
assign_of-sign assign.Multiply = refl
assign_of-sign assign.Divide = refl
assign_of-sign assign.Remainder = refl
assign_of-sign assign.Add = refl
assign_of-sign assign.Subtract = refl
assign_of-sign assign.ShiftLeft = refl
assign_of-sign assign.ShiftRight = refl
assign_of-sign assign.BitAnd = refl
assign_of-sign assign.BitXor = refl
assign_of-sign assign.BitOr = refl

pub take_binary-some : (level : ℕ) (ts : List Symbol) (op : BinaryOp) (r : List Symbol) → take_binary level ts ≡ Some (op, r) → (ts ≡ Sign (binary_sign op) ∷ r) × (level_of op ≡ level)
take_binary-some level [] op r h = cc
take_binary-some level (t ∷ ts) op r h =
    let b = bound (binary_of t) _ _ h in
    let k = when (nat_eq (level_of b.0) level) (Some (b.0, ts)) (op, r) b.2 in
    let p = parts (b.0, ts) (op, r) k.1 in
    let e : level_of b.0 ≡ level = grind (arith, k.0) in
    (ap (λ x. x ∷ ts) (binary_of-some t b.0 b.1) ∙ ap (λ o. Sign (binary_sign o) ∷ ts) p.0 ∙ ap (λ x. Sign (binary_sign op) ∷ x) p.1, ap level_of (sym p.0) ∙ e)

pub take_binary-here : (op : BinaryOp) (ts : List Symbol) → take_binary (level_of op) (Sign (binary_sign op) ∷ ts) ≡ Some (op, ts)
take_binary-here op ts =
    let F : Option BinaryOp → Option (BinaryOp × List Symbol) = λ o. o >>= λ x. cond (nat_eq (level_of x) (level_of op)) (Some (x, ts)) None in
    let G : Bool → Option (BinaryOp × List Symbol) = λ b. cond b (Some (op, ts)) None in
    let e : nat_eq (level_of op) (level_of op) ≡ true = grind arith in
    ap F (binary_of-sign op) ∙ ap G e

pub take_assign-some : (ts : List Symbol) (op : AssignOp) (r : List Symbol) → take_assign ts ≡ Some (op, r) → ts ≡ Sign (assign_sign op) ∷ r
take_assign-some [] op r h = cc
take_assign-some (t ∷ ts) op r h =
    let b = bound (assign_of t) _ _ h in
    let p = parts (b.0, ts) (op, r) b.2 in
    ap (λ x. x ∷ ts) (assign_of-some t b.0 b.1) ∙ ap (λ o. Sign (assign_sign o) ∷ ts) p.0 ∙ ap (λ x. Sign (assign_sign op) ∷ x) p.1

pub take_assign-here : (op : AssignOp) (ts : List Symbol) → take_assign (Sign (assign_sign op) ∷ ts) ≡ Some (op, ts)
take_assign-here op ts = let F : Option AssignOp → Option (AssignOp × List Symbol) = λ o. o >>= λ x. Some (x, ts) in ap F (assign_of-sign op)
