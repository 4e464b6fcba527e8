-- What the readers give, seen by the reader over lists of symbols.
use Rattle.std.specs.Prelude.{◌≡◌, ℕ, ◌+◌, ◌*◌, ◌<◌, ◌≤◌, ◌^◌, List, [], length, Option, None, Some, Result, Ok, Err}
use Rattle.std.specs.Borrow.{Bor}
use Rattle.std.specs.Option.{option_map}
use Rattle.c_tree.specs.declared.token.Token.{Token}
use Rattle.c_tree.specs.Symbol.{Symbol, symbol_of, symbols_of}
use Rattle.c_grammar.specs.Names.{Names}
use Rattle.c_expr.specs.declared.fault.ExprFault.{ExprFault}
use Rattle.c_expr.specs.declared.fault.ExprFault.TheVariants.{NoTree}

abbrev pub same : {A : Type 0} → A → A
same x = x

abbrev pub token_symbol : Bor Token → Symbol
token_symbol t = symbol_of t.now

-- what was read, and the symbols behind it
abbrev pub and_rest : {A B : Type 0} → (A → B) → (A × Bor (List Token)) → (B × List Symbol)
and_rest view r = (view r.0, symbols_of r.1.now)

-- The step finds just this, or nothing.
abbrev pub Finds : {A B : Type 0} → (A → B) → Option (A × Bor (List Token)) → Option (B × List Symbol) → Type 0
Finds view result found = option_map (and_rest view) result ≡ found

-- The same of what takes memory; where memory runs out, nothing is said.
abbrev pub Gives : {A B : Type 0} → (A → B) → Result (A × Bor (List Token)) ExprFault → Option (B × List Symbol) → Type 0
Gives view (Ok r) found = found ≡ Some (and_rest view r)
Gives view (Err e) found = e ≡ NoTree → found ≡ None

-- No name is a type, and there are numbers for the nodes of so many tokens.
abbrev pub IsReady : Names → ℕ → ℕ → Type 0
IsReady types next tokens = (types ≡ []) × (next + 16 * tokens < 2 ^ 32)

-- Names are as before, and so many tokens cost at most sixteen numbers each.
abbrev pub KeepsReady : Names → Names → ℕ → ℕ → ℕ → Type 0
KeepsReady old new next_old next_new tokens = (new ≡ old) × (next_old ≤ next_new) × (next_new ≤ next_old + 16 * tokens)

-- the tokens that are left
abbrev pub left : {A : Type 0} → Result (A × Bor (List Token)) ExprFault → ℕ
left (Ok r) = length r.1.now
left (Err e) = 0

-- The same, where some of the tokens are left.
abbrev pub StaysReady : {A : Type 0} → Names → Names → ℕ → ℕ → ℕ → Result (A × Bor (List Token)) ExprFault → Type 0
StaysReady old new next_old next_new tokens result = (new ≡ old) × (next_old ≤ next_new) × (next_new + 16 * left result ≤ next_old + 16 * tokens)
