-- THE EDGES WITH WHICH ROOTS BEGIN, by number.
use Rattle.std.specs.Prelude.{◌≡◌, ◌≤◌, ℕ, List, length, Some, slice_get}
use Rattle.numbered_engine.specs.declared.edges.NumberedEdge.{NumberedEdge}
use Rattle.numbered_program.specs.declared.numbers.Numbers.{Numbers}
use Rattle.row_flows.specs.declared.tuples.NumberedTuple.{NumberedTuple}

-- in `start`, with the object with a number, unknown; 0 is no object
abbrev pub begun_with : ℕ → NumberedTuple
begun_with k = record { global = 0; state = 0; object = k }

-- at the first block of the function with a number
abbrev pub begun_at : ℕ → ℕ → NumberedEdge
begun_at n k = record { context = record { function = n; entry = begun_with k }; block = 0; tuple = begun_with k }

-- with no object, or with one of so many
abbrev pub BeginsWith : ℕ → ℕ → NumberedEdge → Type 0
BeginsWith n count e = (k : ℕ) × (k ≤ count) × (begun_at n k ≡ e)

-- of the function with a number, where it has numbers
abbrev pub BeginsIn : List Numbers → ℕ → NumberedEdge → Type 0
BeginsIn numbers n e = (x : Numbers) × (slice_get numbers n ≡ Some x) × BeginsWith n (length x.numbering.objects.now.keys) e
