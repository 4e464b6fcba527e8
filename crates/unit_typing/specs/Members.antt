-- Members by owner and name, and the members of an owner.
use Rattle.std.specs.Prelude.{◌≡◌, ℕ, suc, List, [], ◌∷◌, ◌++◌, map, Option, None, Some, cond, nat_eq, slice_get}
use Rattle.std.specs.Option.{option_map}
pub use Rattle.c_tree.specs.Tables.{same_key}
use Rattle.unit_typing.specs.declared.members.MemberEntry.{MemberEntry}

-- an owner and a name
abbrev pub key_of : MemberEntry → ℕ × ℕ
key_of m = (m.owner, m.name)

abbrev pub first_named : ℕ × ℕ → List MemberEntry → Option MemberEntry
first_named k [] = None
first_named k (m ∷ ms) = cond (same_key k (key_of m)) (Some m) (first_named k ms)

unfoldable pub first_position : ℕ × ℕ → List MemberEntry → Option ℕ
first_position k [] = None
first_position k (m ∷ ms) = cond (same_key k (key_of m)) (Some 0) (option_map suc (first_position k ms))

abbrev pub given : ℕ → MemberEntry → MemberEntry
given owner m = record { owner = owner; name = m.name; place = m.place; ty = m.ty }

-- the members of this number, as members of that owner
abbrev pub given_by : ℕ → ℕ → List MemberEntry → List MemberEntry
given_by owner n [] = []
given_by owner n (m ∷ ms) = cond (nat_eq m.owner n) (given owner m ∷ given_by owner n ms) (given_by owner n ms)

-- their positions
unfoldable pub positions : ℕ → List MemberEntry → List ℕ
positions n [] = []
positions n (m ∷ ms) = cond (nat_eq m.owner n) (0 ∷ map suc (positions n ms)) (map suc (positions n ms))

-- The table has the first position of each owner and name, and the lists have the positions of each owner's members.
pub record AreFiled (table : ℕ × ℕ → Option ℕ) (lists : ℕ → List ℕ) (ms : List MemberEntry) : Type 0 where
  pub first : (k : ℕ × ℕ) → table k ≡ first_position k ms
  pub owned : (n : ℕ) → lists n ≡ positions n ms

-- the members at these positions, as members of that owner
abbrev pub one_at : ℕ → Option MemberEntry → List MemberEntry
one_at owner None = []
one_at owner (Some m) = given owner m ∷ []

abbrev pub given_at : ℕ → List ℕ → List MemberEntry → List MemberEntry
given_at owner [] ms = []
given_at owner (p ∷ ps) ms = one_at owner (slice_get ms p) ++ given_at owner ps ms
