-- NUMBERS of the items of a list: from 1 on, in their order. The number 0 is that of no item.
use Rattle.std.specs.Prelude.{ℕ, ◌-◌, nat_eq, Bool, false, List, cond, Option, None, slice_get}
use Rattle.std.specs.Option.{option_map_or}

-- THE ITEM OF A NUMBER: none for 0, and past the end
abbrev pub item_numbered : {A : Type 0} → List A → ℕ → Option A
item_numbered xs n = cond (nat_eq n 0) None (slice_get xs (n - 1))

-- WHETHER AN OBJECT IS THE FUNCTION'S OWN, one of its local variables or reached from one: for each number that is said in turn; no object isn't
abbrev pub is_own : List Bool → ℕ → Bool
is_own own n = option_map_or (λ b. b) (item_numbered own n) false
