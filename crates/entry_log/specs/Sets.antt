-- What a contract sees of a set of entries: which of them are there.
use Rattle.std.specs.Prelude.{ℕ, Bool}
use Rattle.std.specs.declared.cmp.PartialEq.{Ghosts as Equality}
use Rattle.std.specs.declared.hash.Hash.{Ghosts as Hashing}
use Rattle.entry_log.specs.Bits.{has_bit}
use Rattle.entry_log.specs.declared.sets.EntrySet.{EntrySet}

-- the block is there for the key
abbrev pub is_in : {K : Type 0} {equality : Equality K} {hashing : Hashing K} → (K → K → Bool) → EntrySet K equality hashing → K → ℕ → Bool
is_in eq s k b = has_bit eq s.keys.keys s.rows.items k b
