-- The table by which bodies are found.
use Rattle.std.specs.Prelude.{◌≡◌, ℕ, List, Option, Bool, not, ◌&&◌, nat_eq}
pub use Rattle.c_tree.specs.Tables.{same_key}
use Rattle.type_rules.specs.Functions.{Defined}
use Rattle.call_graph.specs.OfPrograms.Bodies.{is_in_file, is_external, first_position}

-- The tables have the first position of each name in each file, by file and name, and of each name with external linkage.
pub record AreFiled (in_file : ℕ × ℕ → Option ℕ) (external : ℕ → Option ℕ) (fs : List Defined) : Type 0 where
  pub own : (k : ℕ × ℕ) → in_file k ≡ first_position (is_in_file k.0 k.1) fs
  pub shared : (n : ℕ) → external n ≡ first_position (is_external n) fs

-- a definition of this name, with external linkage, under that name
abbrev pub is_shared : Bool → ℕ → ℕ → Bool
is_shared own name n = not own && nat_eq name n
