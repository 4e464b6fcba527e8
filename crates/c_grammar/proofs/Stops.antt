-- What stops an expression at a level, and what ends a declarator.
use Rattle.std.proofs.Common.{◌≡◌, ℕ, ◌<◌, ◌≤◌, Bool, true, false, cond, ◌&&◌, ◌||◌, nat_eq, is_some, List, [], ◌∷◌, Option, None, Some, ap, refl, ◌∙◌, arith}
use Rattle.c_tree.specs.declared.operator.AssignOp.{AssignOp}
use Rattle.c_tree.specs.declared.operator.AssignOp.TheVariants as assign
use Rattle.c_tree.specs.declared.operator.BinaryOp.{BinaryOp}
use Rattle.c_tree.specs.declared.operator.BinaryOp.TheVariants as binary
use Rattle.c_tree.specs.declared.punctuator.Punctuator.TheVariants as marks
use Rattle.c_tree.specs.Symbol.{Symbol, Word, Reserved, Sign}
use Rattle.c_tree.specs.Tokens.{binary_sign, assign_sign}
use Rattle.c_grammar.specs.Symbols.{is_sign, is_word, is_string, after_sign, begins}
use Rattle.c_grammar.specs.Levels.{postfix_level, cast_level, conditional_level, assignment_level, level_of, binary_of, assign_of}
use Rattle.c_grammar.specs.Names.{Names}
use Rattle.c_grammar.specs.Specifiers.{is_storage, is_inline, is_qualifier, is_type_word, is_tag_word, goes_on}
use Rattle.c_grammar.specs.Nonterminal.{Form, may_name}
use Rattle.c_grammar.specs.Grammar.{is_pointer_word}
use Rattle.c_grammar.specs.Ways.DeclaratorSteps.{begins_suffix, begins_declarator}
use Rattle.c_grammar.specs.Found.{◌>>=◌}
use Rattle.c_grammar.specs.Ways.ExpressionSteps.{begins_postfix, take_binary, take_assign}
use Rattle.c_grammar.specs.Following.{operator_weight, weight, Stops, goes_on_declaring}
use Rattle.c_grammar.proofs.Options.{neither}
use Rattle.c_grammar.proofs.Front.{binary_of-some, assign_of-some}
use Rattle.c_grammar.proofs.Begins.{narrower, level_above}

pub stops-lower : (j k : ℕ) (ts : List Symbol) → j ≤ k → Stops k ts → Stops j ts
stops-lower j k [] h s = tt
stops-lower j k (t ∷ ts) h s = omega arith

pub binary_weighs : (op : BinaryOp) → weight (Sign (binary_sign op)) ≡ level_of op
binary_weighs binary.Multiply = refl
binary_weighs _ = refl

pub assign_weighs : (op : AssignOp) → weight (Sign (assign_sign op)) ≡ assignment_level
assign_weighs assign.Plain = refl
assign_weighs _ = refl

-- no symbol goes on with a unary expression or a cast alone
other_weight : (a b : Bool) → 2 < cond a 13 (cond b 14 16)
other_weight true b = omega arith
other_weight false true = omega arith
other_weight false false = omega arith

no_unary_weight : (a : Bool) (o : Option BinaryOp) (t : Symbol) → 0 < cond a 0 (operator_weight o t) → 2 < cond a 0 (operator_weight o t)
no_unary_weight true o t h = absurd (omega arith)
no_unary_weight false (Some op) t h = level_above op
no_unary_weight false None t h = other_weight (is_sign marks.Question t) (is_some (assign_of t))

pub stops-cast : (ts : List Symbol) → Stops postfix_level ts → Stops cast_level ts
stops-cast [] s = tt
stops-cast (t ∷ ts) s = no_unary_weight (is_string t || begins_postfix t) (binary_of t) t s

tight : (a : Bool) (k n : ℕ) → k < cond a 0 n → a ≡ false
tight true k n h = absurd (omega arith)
tight false k n h = refl

tight_symbol : (k : ℕ) (t : Symbol) → k < weight t → (is_string t ≡ false) × (begins_postfix t ≡ false)
tight_symbol k t h = neither (is_string t) (begins_postfix t) (tight (is_string t || begins_postfix t) k (operator_weight (binary_of t) t) h)

pub stops-string : (k : ℕ) (ts : List Symbol) → Stops k ts → begins is_string ts ≡ false
stops-string k [] s = refl
stops-string k (t ∷ ts) s = (tight_symbol k t s).0

pub stops-postfix : (k : ℕ) (ts : List Symbol) → Stops k ts → begins begins_postfix ts ≡ false
stops-postfix k [] s = refl
stops-postfix k (t ∷ ts) s = (tight_symbol k t s).1

other_level : (op : BinaryOp) (level : ℕ) (ts : List Symbol) → level < level_of op → cond {A = Option (BinaryOp × List Symbol)} (nat_eq (level_of op) level) (Some (op, ts)) None ≡ None
other_level op level ts h = let b : nat_eq (level_of op) level ≡ false = grind arith in let F : Bool → Option (BinaryOp × List Symbol) = λ b. cond b (Some (op, ts)) None in ap F b

pub stops-binary : (level : ℕ) (ts : List Symbol) → Stops level ts → take_binary level ts ≡ None
stops-binary level [] s = refl
stops-binary level (t ∷ ts) s = by level t ts s (binary_of t) refl
  where
    by : (level : ℕ) (t : Symbol) (ts : List Symbol) → level < weight t → (o : Option BinaryOp) → binary_of t ≡ o → take_binary level (t ∷ ts) ≡ None
    by level t ts s None e =
        let F : Option BinaryOp → Option (BinaryOp × List Symbol) = λ o. o >>= λ op. cond (nat_eq (level_of op) level) (Some (op, ts)) None in
        ap F e
    by level t ts s (Some op) e =
        let F : Option BinaryOp → Option (BinaryOp × List Symbol) = λ o. o >>= λ op. cond (nat_eq (level_of op) level) (Some (op, ts)) None in
        let q : weight t ≡ level_of op = ap weight (binary_of-some t op e) ∙ binary_weighs op in
        ap F e ∙ other_level op level ts (omega arith)

pub stops-question : (ts : List Symbol) → Stops conditional_level ts → after_sign marks.Question ts ≡ None
stops-question [] s = refl
stops-question (Sign marks.Question ∷ ts) s = absurd (omega arith)
stops-question (_ ∷ ts) s = refl

pub stops-assign : (ts : List Symbol) → Stops assignment_level ts → take_assign ts ≡ None
stops-assign [] s = refl
stops-assign (t ∷ ts) s = by t ts s (assign_of t) refl
  where
    by : (t : Symbol) (ts : List Symbol) → 14 < weight t → (o : Option AssignOp) → assign_of t ≡ o → take_assign (t ∷ ts) ≡ None
    by t ts s None e = let F : Option AssignOp → Option (AssignOp × List Symbol) = λ o. o >>= λ op. Some (op, ts) in ap F e
    by t ts s (Some op) e = let q : weight t ≡ 14 = ap weight (assign_of-some t op e) ∙ assign_weighs op in absurd (omega arith)

-- what follows a declarator goes on with no part of it
four : (a b c d : Bool) → (a || b || c || d) ≡ false → (a ≡ false) × (b ≡ false) × (c ≡ false) × (d ≡ false)
four false false false false h = (refl, refl, refl, refl)
four true b c d h = cc
four false true c d h = cc
four false false true d h = cc
four false false false true h = cc

ends : (names : Names) (t : Symbol) → goes_on_declaring names t ≡ false → (goes_on names true t ≡ false) × (is_word t ≡ false) × (is_sign marks.Star t ≡ false) × (begins_suffix t ≡ false)
ends names t h = four (goes_on names true t) (is_word t) (is_sign marks.Star t) (begins_suffix t) h

pub ends_specifiers : (names : Names) (r : List Symbol) → begins (goes_on_declaring names) r ≡ false → begins (goes_on names true) r ≡ false
ends_specifiers names r h = narrower (goes_on_declaring names) (goes_on names true) r (λ t x. (ends names t x).0) h

pub ends_word : (names : Names) (r : List Symbol) → begins (goes_on_declaring names) r ≡ false → begins is_word r ≡ false
ends_word names r h = narrower (goes_on_declaring names) is_word r (λ t x. (ends names t x).1) h

pub ends_suffix : (names : Names) (r : List Symbol) → begins (goes_on_declaring names) r ≡ false → begins begins_suffix r ≡ false
ends_suffix names r h = narrower (goes_on_declaring names) begins_suffix r (λ t x. (ends names t x).3) h

no_pointer_word : (names : Names) (t : Symbol) → goes_on_declaring names t ≡ false → is_pointer_word t ≡ false
no_pointer_word names (Reserved k) h =
    let a = (ends names (Reserved k) h).0 in
    let b = neither (is_storage k || is_inline k || is_qualifier k || is_type_word k) (is_tag_word k) a in
    (four (is_storage k) (is_inline k) (is_qualifier k) (is_type_word k) b.0).2
no_pointer_word names (Word name) h = (ends names (Word name) h).2
no_pointer_word names (Sign p) h = (ends names (Sign p) h).2
no_pointer_word names _ h = refl

pub ends_pointers : (names : Names) (r : List Symbol) → begins (goes_on_declaring names) r ≡ false → begins is_pointer_word r ≡ false
ends_pointers names r h = narrower (goes_on_declaring names) is_pointer_word r (no_pointer_word names) h

no_declarator : (form : Form) (names : Names) (t : Symbol) → goes_on_declaring names t ≡ false → begins_declarator form t ≡ false
no_declarator form names t h =
    let a = ends names t h in
    none (is_sign marks.Star t) (begins_suffix t) (may_name form) (is_word t) a.2 a.3 a.1
  where
    none : (a b c d : Bool) → a ≡ false → b ≡ false → d ≡ false → (a || b || (c && d)) ≡ false
    none false false true false x y z = refl
    none false false false d x y z = refl
    none true b c d x y z = x
    none false true c d x y z = y
    none false false true true x y z = z

pub ends_declarator : (form : Form) (names : Names) (r : List Symbol) → begins (goes_on_declaring names) r ≡ false → begins (begins_declarator form) r ≡ false
ends_declarator form names r h = narrower (goes_on_declaring names) (begins_declarator form) r (no_declarator form names) h

pub no_star : (t : Symbol) → is_pointer_word t ≡ false → is_sign marks.Star t ≡ false
no_star (Reserved k) h = refl
no_star (Sign p) h = h
no_star _ h = refl
