-- NUMBERS of the items of a list: from 1 on, in their order. The number 0 is that of no item.
use Rattle.std.specs.Prelude.{ℕ, ◌+◌, nat_eq, Bool, List, cond, Option, None, Some, position}
use Rattle.std.specs.Option.{option_map_or}

-- THE NUMBER OF AN ITEM, by a test for equal ones: 0 where the list hasn't got it
abbrev pub number_by : {A : Type 0} → (A → A → Bool) → List A → A → ℕ
number_by eq xs x = option_map_or (λ i. i + 1) (position (eq x) xs) 0

-- a number but 0
abbrev pub if_numbered : ℕ → Option ℕ
if_numbered n = cond (nat_eq n 0) None (Some n)
