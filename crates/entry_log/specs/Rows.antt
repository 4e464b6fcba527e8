-- How a log is kept: the key of each row, rows of bits, and places in order.
use Rattle.std.specs.Prelude.{◌≡◌, ℕ, ◌<◌, Bool, not, ◌&&◌, List, [], ◌∷◌, Option, Some, None, Vec, length, nat_eq, slice_get}
use Rattle.std.specs.List.{list_any, AllByRecursion, IsDistinct}
use Rattle.indexmap.specs.IndexSet.{insert_key}
use Rattle.entry_log.specs.Bits.{is_set_in}
use Rattle.entry_log.specs.Entries.{same_entry}
use Rattle.entry_log.specs.declared.entries.Place.{Place}

abbrev pub before : {K : Type 0} → Option K → ℕ → List (K × ℕ) → List (K × ℕ)
before None block es = es
before (Some k) block es = (k, block) ∷ es

-- The entries that the places stand for.
abbrev pub entries_at : {K : Type 0} → List K → List Place → List (K × ℕ)
entries_at keys [] = []
entries_at keys (p ∷ ps) = before (slice_get keys p.row) p.block (entries_at keys ps)

abbrev pub place : ℕ → ℕ → Place
place row block = record { row = row; block = block }

-- A place is that of a row and a block.
abbrev pub is_at : ℕ → ℕ → Place → Bool
is_at row block p = nat_eq row p.row && nat_eq block p.block

abbrev pub same_place : Place → Place → Bool
same_place p q = is_at p.row p.block q

-- Just the bits of the places are set.
abbrev pub Agree : {A : Type 0} → List (Vec ℕ A) → List Place → Type 0
Agree rows order = (row block : ℕ) → is_set_in rows row block ≡ list_any (is_at row block) order

-- What holds of each log.
pub record Holds {K A : Type 0} (eq : K → K → Bool) (keys : List K) (rows : List (Vec ℕ A)) (order : List Place) : Type 0 where
  pub distinct : IsDistinct eq keys
  pub within : AllByRecursion (λ (p : Place). p.row < length keys) order
  pub agree : Agree rows order
  pub once : IsDistinct (same_entry eq) (entries_at keys order)

-- The places after that of a row and a block was put last, unless it was there.
pub record Puts (old new : List Place) (row block : ℕ) (added : Bool) : Type 0 where
  pub added_if_new : added ≡ not (list_any (is_at row block) old)
  pub last : new ≡ insert_key same_place old (place row block)
