-- What a reader of symbols gives: nothing, or something and the symbols behind it.
use Rattle.std.specs.Prelude.{ℕ, cond, nat_le, List, Option, None, Some}
pub use Rattle.c_tree.specs.Tables.{if_there}
use Rattle.c_tree.specs.Symbol.{Symbol}
use Rattle.c_tree.specs.Syntax.{Syntax}
use Rattle.c_tree.specs.Height.{height_of}
use Rattle.c_grammar.specs.Names.{Names}
use Rattle.c_grammar.specs.Nonterminal.{Nonterminal}

infixl 10 ◌>>=◌
abbrev pub ◌>>=◌ : {A B : Type 0} → Option A → (A → Option B) → Option B
None >>= f = None
(Some x) >>= f = f x

-- a tree and the symbols behind it
abbrev pub Found : Type 0
Found = Syntax × List Symbol

-- a tree of height at most m
abbrev pub made : ℕ → Syntax → List Symbol → Option Found
made m e ts = cond (nat_le (height_of e) m) (Some (e, ts)) None

-- Each step takes a reader of lower trees, which reads the parts of its own tree.
abbrev pub Reader : Type 0
Reader = Nonterminal → Names → List Symbol → Option Found
