-- The grammar of statements (ISO 9899:1990, 6.6) as a predicate on finished trees, under the names in force.
use Rattle.std.specs.Prelude.{◌≡◌, Bool, true, false, ◌⊎◌}
use Rattle.c_tree.specs.Syntax.{Syntax, Statement, Iteration, Jump, StatementSyntax, IterationSyntax, JumpSyntax, Block, ExprStmt, If, Switch, Case, Default, Label, While, Do, For, Goto, Continue, Break, Return, ForDeclaration, MaybeSyntax, absent, present, Syntaxes, no_more, more}
use Rattle.c_grammar.specs.Symbols.{is_word}
use Rattle.c_grammar.specs.Names.{Names}
use Rattle.c_grammar.specs.Grammar.{IsExpr}
use Rattle.c_grammar.specs.UnitGrammar.Names.{declared}
use Rattle.c_grammar.specs.UnitGrammar.Declarations.{IsConstant, IsDeclaration}

abbrev pub IsMaybeExpr : Names → MaybeSyntax → Type 0
IsMaybeExpr names absent = Unit {0}
IsMaybeExpr names (present e) = IsExpr names e

-- An `else` behind this statement would belong to an `if` in it: the nearest that has none (6.6.4.1).
abbrev mutual
  pub takes_else : Syntax → Bool
  takes_else (Statement k) = plain_takes_else k
  takes_else (Iteration k) = iteration_takes_else k
  takes_else _ = false

  pub plain_takes_else : StatementSyntax → Bool
  plain_takes_else (If condition then otherwise) = last_takes_else otherwise
  plain_takes_else (Switch value body) = takes_else body
  plain_takes_else (Case value body) = takes_else body
  plain_takes_else (Default body) = takes_else body
  plain_takes_else (Label label body) = takes_else body
  plain_takes_else _ = false

  pub iteration_takes_else : IterationSyntax → Bool
  iteration_takes_else (While condition body) = takes_else body
  iteration_takes_else (For first condition step body) = takes_else body
  iteration_takes_else (ForDeclaration declaration condition step body) = takes_else body
  iteration_takes_else _ = false

  pub last_takes_else : MaybeSyntax → Bool
  last_takes_else absent = true
  last_takes_else (present e) = takes_else e

-- A label is any name, a type's too, for labels have a name space of their own (6.1.2.3).
abbrev mutual
  pub IsStatement : Names → Syntax → Type 0
  IsStatement names (Statement k) = IsPlain names k
  IsStatement names (Iteration k) = IsIteration names k
  IsStatement names (Jump k) = IsJump names k
  IsStatement names _ = ⊥

  pub IsPlain : Names → StatementSyntax → Type 0
  IsPlain names (Block items) = AreBlockItems names items
  IsPlain names (ExprStmt value) = IsMaybeExpr names value
  IsPlain names (If condition then otherwise) = IsExpr names condition × IsStatement names then × IsElse names (takes_else then) otherwise
  IsPlain names (Switch value body) = IsExpr names value × IsStatement names body
  IsPlain names (Case value body) = IsConstant names value × IsStatement names body
  IsPlain names (Default body) = IsStatement names body
  IsPlain names (Label label body) = (is_word label ≡ true) × IsStatement names body

  pub IsElse : Names → Bool → MaybeSyntax → Type 0
  IsElse names taken absent = Unit {0}
  IsElse names taken (present e) = (taken ≡ false) × IsStatement names e

  pub IsIteration : Names → IterationSyntax → Type 0
  IsIteration names (While condition body) = IsExpr names condition × IsStatement names body
  IsIteration names (Do body condition) = IsStatement names body × IsExpr names condition
  IsIteration names (For first condition step body) = IsMaybeExpr names first × IsMaybeExpr names condition × IsMaybeExpr names step × IsStatement names body
  IsIteration names _ = ⊥

  pub IsJump : Names → JumpSyntax → Type 0
  IsJump names (Goto label) = is_word label ≡ true
  IsJump names Continue = Unit {0}
  IsJump names Break = Unit {0}
  IsJump names (Return value) = IsMaybeExpr names value

  -- Declarations, and then statements (6.6.2). Behind the block the names are as before it.
  pub AreBlockItems : Names → Syntaxes → Type 0
  AreBlockItems names no_more = Unit {0}
  AreBlockItems names (more e es) = (IsDeclaration names e × AreBlockItems (declared e names) es) ⊎ (IsStatement names e × AreStatements names es)

  pub AreStatements : Names → Syntaxes → Type 0
  AreStatements names no_more = Unit {0}
  AreStatements names (more e es) = IsStatement names e × AreStatements names es
