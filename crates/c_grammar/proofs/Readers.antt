-- What is asked of a reader of lower trees, and what each step then gives.
use Rattle.std.proofs.Common.{◌≡◌, ℕ, ◌≤◌, List, Some, ap, ◌∙◌, subst}
use Rattle.c_tree.specs.Symbol.{Symbol}
use Rattle.c_tree.specs.Syntax.{Syntax}
use Rattle.c_tree.specs.Height.{height_of}
use Rattle.c_tree.specs.Tokens.{tokens_then}
use Rattle.c_grammar.specs.Names.{Names}
use Rattle.c_grammar.specs.Nonterminal.{Nonterminal}
use Rattle.c_grammar.specs.Grammar.{IsOf}
use Rattle.c_grammar.specs.Found.{Reader, made}
use Rattle.c_grammar.specs.Following.{Ends}
use Rattle.c_grammar.proofs.Options.{made_some}

-- the tree stands in front of r, and is at most m high
pub record Stands (m : ℕ) (nonterminal : Nonterminal) (names : Names) (ts : List Symbol) (e : Syntax) (r : List Symbol) : Type 0 where
  pub tokens : ts ≡ tokens_then e r
  pub well : IsOf nonterminal names e
  pub height : height_of e ≤ m

-- what the reader finds stands there
abbrev pub IsSound : Reader → ℕ → Type 0
IsSound inner n = (nonterminal : Nonterminal) (names : Names) (ts : List Symbol) (e : Syntax) (r : List Symbol)
    → inner nonterminal names ts ≡ Some (e, r) → Stands n nonterminal names ts e r

-- the reader finds each tree of height at most n
abbrev pub Knows : Reader → ℕ → Type 0
Knows inner n = (nonterminal : Nonterminal) (names : Names) (e : Syntax) (r : List Symbol)
    → IsOf nonterminal names e → height_of e ≤ n → Ends nonterminal names r → inner nonterminal names (tokens_then e r) ≡ Some (e, r)

-- a step that ends with a tree of its own
pub finish : (m : ℕ) (nonterminal : Nonterminal) (names : Names) (ts : List Symbol) (x : Syntax) (t : List Symbol) (e : Syntax) (r : List Symbol)
    → made m x t ≡ Some (e, r) → ts ≡ tokens_then x t → IsOf nonterminal names x → Stands m nonterminal names ts e r
finish m nonterminal names ts x t e r h k w =
    let q = made_some m x e t r h in
    subst (λ y. Stands m nonterminal names ts y r) q.1 (record { tokens = k ∙ ap (tokens_then x) q.2; well = w; height = q.0 })
