-- What a checker is from its tokens on: a machine, which the grammar of checkers defines, or its first fault, and the token at which that stands.
use Rattle.std.specs.Prelude.{◌≡◌, ℕ, List, ◌++◌, length, Some}
use Rattle.c_tree.specs.declared.token.Token.{Token}
use Rattle.c_tree.specs.Symbol.{Symbol, symbols_of}
use Rattle.c_lexer.specs.Tokens.{TokenList}
use Rattle.metal_grammar.specs.Words.{Spelling}
use Rattle.metal_grammar.specs.Written.{Clause}
use Rattle.metal_grammar.specs.Grammar.{IsText}
use Rattle.metal_grammar.specs.Rules.{rules_of, rule_position}
use Rattle.metal_grammar.specs.FirstFault as text
use Rattle.metal_grammar.specs.Definition.{IsFirstFault}
use Rattle.request_files.specs.declared.front_end.refusal.Faulty.{Faulty}
use Rattle.request_files.specs.FrontEnd.Faults.{of_text}
use Rattle.request_files.specs.FrontEnd.Found.{stands_first}

-- the symbols are a text, in which the rule with this number begins behind so many of them
pub record IsRuleAt (names : Spelling) (ts : List Symbol) (rule before : ℕ) : Type 0 where
  pub clauses : List Clause
  pub text : IsText names clauses ts
  pub here : rule_position rule (rules_of clauses) ≡ Some before

-- so many symbols stand before the fault's place, which is its own, or where the rule begins that it is of
abbrev pub IsPlaceOf : Spelling → List Symbol → text.Fault → ℕ → Type 0
IsPlaceOf names ts (text.SyntaxAt at) before = before ≡ at
IsPlaceOf names ts (text.TooMany what at) before = before ≡ at
IsPlaceOf names ts (text.Twice name at) before = before ≡ at
IsPlaceOf names ts (text.UnknownCallout name at) before = before ≡ at
IsPlaceOf names ts (text.TwoVariables rule) before = IsRuleAt names ts rule before
IsPlaceOf names ts (text.BadSplit rule) before = IsRuleAt names ts rule before
IsPlaceOf names ts (text.BadSource rule) before = IsRuleAt names ts rule before
IsPlaceOf names ts (text.VariableMissing rule) before = IsRuleAt names ts rule before
IsPlaceOf names ts (text.BadFormat rule) before = IsRuleAt names ts rule before

-- the tokens are no machine, and this is their first fault. It stands at a token, the one that follows those before its place, or at the end of
-- the file where none does
pub record HasNoMachine (names : Spelling) (list : TokenList) (found : Faulty) : Type 0 where
  pub fault : text.Fault
  pub first : IsFirstFault names (symbols_of list.all) fault
  pub before : List Token
  pub behind : List Token
  pub parts : list.all ≡ before ++ behind
  pub place : IsPlaceOf names (symbols_of list.all) fault (length before)
  pub there : found ≡ stands_first (of_text fault) behind list.end
