-- The last position of a number in a list.
use Rattle.std.specs.Prelude.{◌≡◌, ℕ, suc, List, [], ◌∷◌, ◌++◌, map, Option, None, Some, cond, nat_eq}
use Rattle.std.specs.Option.{option_map}
use Rattle.type_rules.specs.Options.{or_else}
use Rattle.unit_typing.specs.declared.number_stack.Link.{Link}

unfoldable pub last_position : ℕ → List ℕ → Option ℕ
last_position n [] = None
last_position n (k ∷ ks) = or_else (option_map suc (last_position n ks)) (cond (nat_eq k n) (Some 0) None)

abbrev pub numbers_of : List Link → List ℕ
numbers_of links = map (λ k. k.number) links

-- The table has the last position of each number, and each link that of its number before it.
pub record IsIndexed (table : ℕ → Option ℕ) (links : List Link) : Type 0 where
  pub last : (n : ℕ) → table n ≡ last_position n (numbers_of links)
  pub linked : (k : Link) (before after : List Link) → links ≡ before ++ (k ∷ after) → k.before ≡ last_position k.number (numbers_of before)
