-- Expressions without type names, whose names and constants aren't keywords or punctuators.
use Rattle.std.specs.Prelude.{List, [], ◌∷◌, ⊤}
use Rattle.c_tree.specs.declared.token.Token.{Token}
use Rattle.c_tree.specs.declared.token.TokenKind.{TokenKind}
use Rattle.c_tree.specs.declared.token.TokenKind.TheVariants as kinds
use Rattle.c_tree.specs.Node.{Node, node, Primary, Operation, PrimaryShape, OperationShape, Ident, Constant, StrConst, Paren, Index, Call, Member, Arrow, Unary, Binary, Cond, Assign, Nodes, no_more, more}

-- a token that is told by its spelling
abbrev pub IsSpelled : TokenKind → Type 0
IsSpelled (kinds.Keyword k) = ⊥
IsSpelled (kinds.Punct p) = ⊥
IsSpelled _ = ⊤

abbrev pub AreSpelled : List Token → Type 0
AreSpelled [] = ⊤
AreSpelled (t ∷ ts) = IsSpelled t.kind × AreSpelled ts

abbrev mutual
  pub IsPlain : Node → Type 0
  IsPlain (node i p (Primary k)) = IsPlainPrimary k
  IsPlain (node i p (Operation k)) = IsPlainOperation k
  IsPlain _ = ⊥

  pub IsPlainPrimary : PrimaryShape → Type 0
  IsPlainPrimary (Ident name) = IsSpelled name.kind
  IsPlainPrimary (Constant token) = IsSpelled token.kind
  IsPlainPrimary (StrConst literals) = AreSpelled literals
  IsPlainPrimary (Paren inner) = IsPlain inner
  IsPlainPrimary _ = ⊥

  pub IsPlainOperation : OperationShape → Type 0
  IsPlainOperation (Index array index) = IsPlain array × IsPlain index
  IsPlainOperation (Call callee paren arguments) = IsPlain callee × ArePlain arguments
  IsPlainOperation (Member operand member) = IsPlain operand × IsSpelled member.kind
  IsPlainOperation (Arrow operand member) = IsPlain operand × IsSpelled member.kind
  IsPlainOperation (Unary op operand) = IsPlain operand
  IsPlainOperation (Binary op left right) = IsPlain left × IsPlain right
  IsPlainOperation (Cond condition then otherwise) = IsPlain condition × IsPlain then × IsPlain otherwise
  IsPlainOperation (Assign op left right) = IsPlain left × IsPlain right
  IsPlainOperation _ = ⊥

  pub ArePlain : Nodes → Type 0
  ArePlain no_more = ⊤
  ArePlain (more e es) = IsPlain e × ArePlain es
