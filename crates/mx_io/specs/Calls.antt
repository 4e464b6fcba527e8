-- Calls that are counted, from 0, and those of them that are to fail.
use Rattle.std.specs.Prelude.{ℕ, Bool, ◌+◌, ◌-◌, ◌^◌, ◌==◌, min, List}
use Rattle.std.specs.List.{list_any}

-- one more, up to the greatest `u64`
abbrev pub raised : ℕ → ℕ
raised count = min (count + 1) (2 ^ 64 - 1)

-- whether the call with this number is to fail
abbrev pub is_due : List ℕ → ℕ → Bool
is_due fails number = list_any (λ n. n == number) fails
