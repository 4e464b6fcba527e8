-- A place that is found further on.
use Rattle.std.specs.Prelude.{ℕ, ◌+◌, Option, None, Some}

-- the number, if it is there, and k more
abbrev pub plus : ℕ → Option ℕ → Option ℕ
plus k None = None
plus k (Some n) = Some (n + k)
