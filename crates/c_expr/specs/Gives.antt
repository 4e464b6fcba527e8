-- What the reader in the arena gives, seen by the reader over lists of symbols.
use Rattle.std.specs.Prelude.{◌≡◌, ℕ, ◌+◌, ◌*◌, ◌≤◌, List, [], ◌∷◌, Option, None, Some, Result, Ok, Err, length}
use Rattle.c_tree.specs.declared.tree.Tree.{Tree}
use Rattle.c_tree.specs.Symbol.{Symbol, symbols_of}
use Rattle.c_tree.specs.Syntax.{Syntaxes, no_more, more}
use Rattle.c_tree.specs.Height.{height_of, height_in}
use Rattle.c_tree.specs.Forget.{view, list_view}
use Rattle.c_grammar.specs.Found.{Found}
use Rattle.c_grammar.specs.Scopes.{Scopes}
use Rattle.c_expr.specs.declared.fault.ExprFault.{ExprFault}
use Rattle.c_expr.specs.declared.fault.ExprFault.TheVariants.{NoTree}
use Rattle.c_expr.specs.declared.nodes.Read.{Read}
use Rattle.c_expr.specs.declared.nodes.ReadList.{ReadList}

-- a tree and what follows it, or no tree; where memory runs out, nothing is said
abbrev pub Gives : Result Read ExprFault → Option Found → Type 0
Gives (Ok r) found = (found ≡ Some (view r.tree.now, symbols_of r.rest.now)) × (r.height ≡ height_of (view r.tree.now))
Gives (Err e) found = e ≡ NoTree → found ≡ None

abbrev pub GivesList : Result ReadList ExprFault → Option (Syntaxes × List Symbol) → Type 0
GivesList (Ok r) found = (found ≡ Some (list_view r.trees, symbols_of r.rest.now)) × (r.height ≡ height_in (list_view r.trees))
GivesList (Err e) found = e ≡ NoTree → found ≡ None

-- The names are as before.
abbrev pub AsBefore : Scopes → Scopes → Type 0
AsBefore new old = (new.now ≡ old.now) × (new.saved ≡ old.saved)

-- the tokens that are left
abbrev pub left : Result Read ExprFault → ℕ
left (Ok r) = length r.rest.now
left (Err e) = 0

-- 1 for what is read
abbrev pub done : Result Read ExprFault → ℕ
done (Ok r) = 1
done (Err e) = 0

abbrev pub left_by_list : Result ReadList ExprFault → ℕ
left_by_list (Ok r) = length r.rest.now
left_by_list (Err e) = 0

-- how many nodes stand side by side
abbrev pub count_in : Syntaxes → ℕ
count_in no_more = 0
count_in (more e es) = count_in es + 1

abbrev pub count_of : Result ReadList ExprFault → ℕ
count_of (Ok r) = count_in (list_view r.trees)
count_of (Err e) = 0

-- what is found, behind these
abbrev pub before : List Tree → Syntaxes → Syntaxes
before [] es = es
before (t ∷ ts) es = more (view t) (before ts es)

abbrev pub ending_with : List Tree → Option (Syntaxes × List Symbol) → Option (Syntaxes × List Symbol)
ending_with all None = None
ending_with all (Some es) = Some (before all es.0, es.1)

-- Numbers are given to nodes, no more than sixteen for each token that is read.
abbrev pub Spends : (old new before after : ℕ) → Type 0
Spends old new before after = (old ≤ new) × (new + 16 * after ≤ old + 16 * before)
