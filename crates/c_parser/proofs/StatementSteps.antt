-- The declarations and statements of a block, which are read in two loops.
use Rattle.std.proofs.Common.{◌≡◌, ℕ, ◌-◌, ◌<◌, false, List, [], ◌∷◌, ◌++◌, Option, None, Some, ap, refl, ◌∙◌, sym}
use Rattle.c_tree.specs.declared.tree.Tree.{Tree}
use Rattle.c_tree.specs.declared.punctuator.Punctuator.TheVariants as marks
use Rattle.c_tree.specs.Symbol.{Symbol}
use Rattle.c_tree.specs.Syntax.{Syntaxes}
use Rattle.c_tree.specs.Forget.{view}
use Rattle.c_grammar.specs.Symbols.{after_sign}
use Rattle.c_grammar.specs.Names.{Names}
use Rattle.c_grammar.specs.UnitGrammar.Construct.{OneStatement, ConstructReader}
use Rattle.c_grammar.specs.Ways.StatementSteps.{begins_declaration, read_statements, read_block_items}
use Rattle.c_expr.specs.Gives.{ending_with}
use Rattle.c_expr.proofs.Items.{before-none}
use Rattle.c_parser.proofs.Equations.{read-zero, read-some, read_statements-zero, read_statements-some, read_block_items-zero, read_block_items-some, read_block_items-end}
use Rattle.c_parser.proofs.ListSteps.{statements-next}

-- a statement; the names behind it are those before it
pub statements-on : (inner : ConstructReader) (a b : Names) (f : ℕ) (ts r : List Symbol) (all pushed : List Tree) (t : Tree) (whole : Option (Syntaxes × List Symbol))
    → 0 < f → b ≡ a → after_sign marks.CloseBrace ts ≡ None → inner OneStatement a ts ≡ Some (view t, r) → pushed ≡ all ++ (t ∷ [])
    → ending_with all (read_statements inner a f ts) ≡ whole → ending_with pushed (read_statements inner b (f - 1) r) ≡ whole
statements-on inner a b f ts r all pushed t whole p k c h n w =
    ap (λ x. ending_with pushed (read_statements inner x (f - 1) r)) k ∙ statements-next inner a a f ts r all pushed t whole p refl c h n w

-- behind the declarations
pub statements-start : (inner : ConstructReader) (names : Names) (f : ℕ) (ts : List Symbol) (all : List Tree) (whole : Option (Syntaxes × List Symbol)) → begins_declaration names ts ≡ false
    → ending_with all (read_block_items inner names f ts) ≡ whole → ending_with all (read_statements inner names f ts) ≡ whole
statements-start inner names f ts all whole b w = sym (ap (ending_with all) (read_block_items-end inner names f ts b)) ∙ w

pub ruleset reads = (read-zero, read-some)

pub ruleset blocks = (read_statements-zero, read_statements-some, read_block_items-zero, read_block_items-some, before-none)
