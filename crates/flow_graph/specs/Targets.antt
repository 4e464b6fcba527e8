-- New targets of ends, as a list by the numbers of blocks.
use Rattle.std.specs.Prelude.{ℕ, List, get_or}

-- what stands in place of a block: the block itself, if the list has nothing for it
abbrev pub target_of : List ℕ → ℕ → ℕ
target_of targets b = get_or targets b b
