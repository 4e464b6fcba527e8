-- Equal to the step of the plain reader that reads postfix operators, by operators.
-- What a postfix expression becomes by the operator behind it, one operator each.
use Rattle.std.specs.Prelude.{ℕ, List, Option}
use Rattle.c_tree.specs.declared.punctuator.Punctuator.TheVariants as marks
use Rattle.c_tree.specs.Symbol.{Symbol}
use Rattle.c_tree.specs.Syntax.{Syntax, Operation, Index, Call, Member, Arrow}
use Rattle.c_grammar.specs.Symbols.{after_sign, take_symbol, is_word}
use Rattle.c_grammar.specs.Levels.{comma_level}
use Rattle.c_grammar.specs.Names.{Names}
use Rattle.c_grammar.specs.Nonterminal.{Expression}
use Rattle.c_grammar.specs.Found.{◌>>=◌, Found, Reader, made}
use Rattle.c_grammar.specs.Ways.ExpressionSteps.{read_arguments}

abbrev pub indexed : Reader → ℕ → Names → Syntax → List Symbol → Option Found
indexed inner m names operand inside = inner (Expression comma_level) names inside >>= λ e. after_sign marks.CloseBracket e.1 >>= λ rest. made m (Operation (Index operand e.0)) rest

abbrev pub called : Reader → ℕ → Names → Syntax → List Symbol → Option Found
called inner m names operand inside = read_arguments inner names inside >>= λ es. made m (Operation (Call operand es.0)) es.1

abbrev pub member_of : ℕ → Syntax → List Symbol → Option Found
member_of m operand rest = take_symbol is_word rest >>= λ name. made m (Operation (Member operand name.0)) name.1

abbrev pub arrow_of : ℕ → Syntax → List Symbol → Option Found
arrow_of m operand rest = take_symbol is_word rest >>= λ name. made m (Operation (Arrow operand name.0)) name.1
