-- What may follow a tree: a symbol that doesn't go on with it.
use Rattle.std.specs.Prelude.{◌≡◌, ℕ, ◌<◌, Bool, true, false, cond, ◌||◌, is_some, List, [], ◌∷◌, Option, None, Some}
use Rattle.c_tree.specs.declared.operator.BinaryOp.{BinaryOp}
use Rattle.c_tree.specs.declared.punctuator.Punctuator.TheVariants as marks
use Rattle.c_tree.specs.Symbol.{Symbol}
use Rattle.c_grammar.specs.Symbols.{begins, is_sign, is_word, is_string}
use Rattle.c_grammar.specs.Levels.{postfix_level, conditional_level, assignment_level, level_of, binary_of, assign_of}
use Rattle.c_grammar.specs.Names.{Names}
use Rattle.c_grammar.specs.Specifiers.{goes_on}
use Rattle.c_grammar.specs.Nonterminal.{Nonterminal, Expression, Specifiers, NameOfType, DeclaratorIn, Parameter}
use Rattle.c_grammar.specs.Ways.DeclaratorSteps.{begins_suffix}
use Rattle.c_grammar.specs.Ways.ExpressionSteps.{begins_postfix}

abbrev pub operator_weight : Option BinaryOp → Symbol → ℕ
operator_weight (Some op) t = level_of op
operator_weight None t = cond (is_sign marks.Question t) conditional_level (cond (is_some (assign_of t)) assignment_level 16)

-- the lowest level at which an expression goes on with this symbol, and 16 where none does
abbrev pub weight : Symbol → ℕ
weight t = cond (is_string t || begins_postfix t) postfix_level (operator_weight (binary_of t) t)

-- these symbols don't go on with an expression of this level
abbrev pub Stops : ℕ → List Symbol → Type 0
Stops level [] = Unit {0}
Stops level (t ∷ ts) = level < weight t

-- this symbol goes on with specifiers that have a type, or with a declarator
abbrev pub goes_on_declaring : Names → Symbol → Bool
goes_on_declaring names t = goes_on names true t || is_word t || is_sign marks.Star t || begins_suffix t

abbrev pub Ends : Nonterminal → Names → List Symbol → Type 0
Ends (Expression level) names ts = Stops level ts
Ends (Specifiers place) names ts = begins (goes_on names true) ts ≡ false
Ends NameOfType names ts = begins (goes_on_declaring names) ts ≡ false
Ends (DeclaratorIn form) names ts = begins (goes_on_declaring names) ts ≡ false
Ends Parameter names ts = begins (goes_on_declaring names) ts ≡ false
