-- What a list of changes says, the newest in front.
use Rattle.std.specs.Prelude.{◌≡◌, ℕ, Bool, nat_eq, List, [], ◌∷◌, Option}
use Rattle.std.specs.Map.{lookup}
use Rattle.c_grammar.specs.Names.{Names}
use Rattle.c_grammar.specs.Scopes.{Scopes}
use Rattle.c_grammar.specs.declared.type_names.Change.{Change}
use Rattle.c_grammar.specs.declared.type_names.Change.TheVariants.{Open, Name}

-- the first of these comes last, and those behind them follow
unfoldable pub onto : List Change → List Change → List Change
onto [] behind = behind
onto (change ∷ changes) behind = onto changes (change ∷ behind)

-- the names in force
abbrev pub now_of : List Change → Names
now_of [] = []
now_of (Open ∷ log) = now_of log
now_of (Name name is_type before ∷ log) = (name, is_type) ∷ now_of log

-- those at the beginning of each open scope
abbrev pub saved_of : List Change → List Names
saved_of [] = []
saved_of (Open ∷ log) = now_of log ∷ saved_of log
saved_of (Name name is_type before ∷ log) = saved_of log

abbrev pub scopes_of : List Change → Scopes
scopes_of log = record { now = now_of log; saved = saved_of log }

-- the declaration in force of a name
abbrev pub in_force : Names → ℕ → Option Bool
in_force names name = lookup (nat_eq name) names

-- each declaration comes with what was in force before it
abbrev pub Undoes : List Change → Type 0
Undoes [] = Unit {0}
Undoes (Open ∷ log) = Undoes log
Undoes (Name name is_type before ∷ log) = (before ≡ in_force (now_of log) name) × Undoes log

-- the table has the declaration in force of each name, and the changes can be taken back
pub record IsKept (table : ℕ → Option Bool) (log : List Change) : Type 0 where
  pub newest : (name : ℕ) → table name ≡ in_force (now_of log) name
  pub undoes : Undoes log
