-- Which jumps and labels may stand in a function's body (ISO 9899:1990, 6.6.1, 6.6.4.2, 6.6.6).
use Rattle.std.specs.Prelude.{ℕ, ◌+◌, Bool, true, false, not, ◌||◌, ◌&&◌, nat_le, nat_eq, List, [], ◌∷◌, ◌++◌, Option, None, Some}
use Rattle.c_tree.specs.Syntax.{Syntax, Statement, Iteration, Jump, StatementSyntax, IterationSyntax, JumpSyntax, Block, If, Switch, Case, Default, Label, While, Do, For, ForDeclaration, Goto, Continue, Break, MaybeSyntax, absent, present, Syntaxes, no_more, more}
use Rattle.c_grammar.specs.Names.{name_in}

abbrev pub one_name : Option ℕ → List ℕ
one_name None = []
one_name (Some name) = name ∷ []

-- the labels in a statement
abbrev mutual
  pub labels : Syntax → List ℕ
  labels (Statement k) = plain_labels k
  labels (Iteration k) = iteration_labels k
  labels _ = []

  pub plain_labels : StatementSyntax → List ℕ
  plain_labels (Block items) = all_labels items
  plain_labels (If condition then otherwise) = labels then ++ else_labels otherwise
  plain_labels (Switch value body) = labels body
  plain_labels (Case value body) = labels body
  plain_labels (Default body) = labels body
  plain_labels (Label label body) = one_name (name_in label) ++ labels body
  plain_labels _ = []

  pub iteration_labels : IterationSyntax → List ℕ
  iteration_labels (While condition body) = labels body
  iteration_labels (Do body condition) = labels body
  iteration_labels (For first condition step body) = labels body
  iteration_labels (ForDeclaration declaration condition step body) = labels body

  pub else_labels : MaybeSyntax → List ℕ
  else_labels absent = []
  else_labels (present e) = labels e

  pub all_labels : Syntaxes → List ℕ
  all_labels no_more = []
  all_labels (more e es) = labels e ++ all_labels es

-- how many `default` belong to the `switch` around a statement, and not to one in it
abbrev mutual
  pub defaults : Syntax → ℕ
  defaults (Statement k) = plain_defaults k
  defaults (Iteration k) = iteration_defaults k
  defaults _ = 0

  pub plain_defaults : StatementSyntax → ℕ
  plain_defaults (Block items) = all_defaults items
  plain_defaults (If condition then otherwise) = defaults then + else_defaults otherwise
  plain_defaults (Case value body) = defaults body
  plain_defaults (Default body) = defaults body + 1
  plain_defaults (Label label body) = defaults body
  plain_defaults _ = 0

  pub iteration_defaults : IterationSyntax → ℕ
  iteration_defaults (While condition body) = defaults body
  iteration_defaults (Do body condition) = defaults body
  iteration_defaults (For first condition step body) = defaults body
  iteration_defaults (ForDeclaration declaration condition step body) = defaults body

  pub else_defaults : MaybeSyntax → ℕ
  else_defaults absent = 0
  else_defaults (present e) = defaults e

  pub all_defaults : Syntaxes → ℕ
  all_defaults no_more = 0
  all_defaults (more e es) = defaults e + all_defaults es

abbrev pub has_name : ℕ → List ℕ → Bool
has_name name [] = false
has_name name (other ∷ others) = nat_eq name other || has_name name others

unfoldable pub are_different : List ℕ → Bool
are_different [] = true
are_different (name ∷ names) = not (has_name name names) && are_different names

abbrev pub is_label_of : List ℕ → Option ℕ → Bool
is_label_of known None = false
is_label_of known (Some name) = has_name name known

-- Where a statement stands: in a loop, in a `switch`, in a function with these labels.
pub record Surroundings : Type 0 where
  pub loop : Bool
  pub switch : Bool
  pub known : List ℕ

abbrev pub in_loop : Surroundings → Surroundings
in_loop s = record { loop = true; switch = s.switch; known = s.known }

abbrev pub in_switch : Surroundings → Surroundings
in_switch s = record { loop = s.loop; switch = true; known = s.known }

-- `continue` stands in a loop, `break` in a loop or a `switch`, `case` and `default` in a `switch`, which has at most one
-- `default`; the label of a `goto` is there.
abbrev mutual
  pub may_stand : Surroundings → Syntax → Bool
  may_stand s (Statement k) = plain_may_stand s k
  may_stand s (Iteration k) = iteration_may_stand s k
  may_stand s (Jump k) = jump_may_stand s k
  may_stand s _ = true

  pub plain_may_stand : Surroundings → StatementSyntax → Bool
  plain_may_stand s (Block items) = all_may_stand s items
  plain_may_stand s (If condition then otherwise) = may_stand s then && else_may_stand s otherwise
  plain_may_stand s (Switch value body) = nat_le (defaults body) 1 && may_stand (in_switch s) body
  plain_may_stand s (Case value body) = s.switch && may_stand s body
  plain_may_stand s (Default body) = s.switch && may_stand s body
  plain_may_stand s (Label label body) = may_stand s body
  plain_may_stand s _ = true

  pub iteration_may_stand : Surroundings → IterationSyntax → Bool
  iteration_may_stand s (While condition body) = may_stand (in_loop s) body
  iteration_may_stand s (Do body condition) = may_stand (in_loop s) body
  iteration_may_stand s (For first condition step body) = may_stand (in_loop s) body
  iteration_may_stand s (ForDeclaration declaration condition step body) = may_stand (in_loop s) body

  pub jump_may_stand : Surroundings → JumpSyntax → Bool
  jump_may_stand s (Goto label) = is_label_of s.known (name_in label)
  jump_may_stand s Continue = s.loop
  jump_may_stand s Break = s.loop || s.switch
  jump_may_stand s _ = true

  pub else_may_stand : Surroundings → MaybeSyntax → Bool
  else_may_stand s absent = true
  else_may_stand s (present e) = may_stand s e

  pub all_may_stand : Surroundings → Syntaxes → Bool
  all_may_stand s no_more = true
  all_may_stand s (more e es) = may_stand s e && all_may_stand s es

-- the body of a function, in which all labels differ
abbrev pub is_controlled : Syntax → Bool
is_controlled body = are_different (labels body) && may_stand (record { loop = false; switch = false; known = labels body }) body
