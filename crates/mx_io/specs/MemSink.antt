-- A sink in memory: when a write fails, how many bytes it takes otherwise, and what it leaves.
use Rattle.std.specs.Prelude.{ℕ, Bool, ◌||◌, ◌-◌, ◌==◌, min, List, [], ◌∷◌, ◌++◌, length, take, if◌then◌else◌}
use Rattle.mx_io.specs.Bytes.{Bytes}
use Rattle.mx_io.specs.Calls.{raised, is_due}

-- the most bytes of one write, the numbers of the writes that are to fail, the bytes that still fit,
-- the number of the next write, the bytes taken, and how many writes failed
pub record SinkView : Type 0 where
  pub most : ℕ
  pub fails : List ℕ
  pub room : ℕ
  pub calls : ℕ
  pub taken : Bytes
  pub faults : ℕ

-- a sink that has taken nothing
abbrev pub empty_sink : ℕ → List ℕ → ℕ → SinkView
empty_sink most fails room = record { most = most; fails = fails; room = room; calls = 0; taken = []; faults = 0 }

-- whether the next write fails
abbrev pub fails_now : SinkView → Bool
fails_now s = (s.room == 0) || is_due s.fails s.calls

-- how many bytes it surely takes still, in whatever pieces: the room that is left, where no write is to fail
abbrev pub sure_of : List ℕ → ℕ → ℕ
sure_of [] room = room
sure_of (number ∷ numbers) room = 0

abbrev pub sure_room : SinkView → ℕ
sure_room s = sure_of s.fails s.room

-- how many bytes it takes if it does not
abbrev pub count_now : SinkView → Bytes → ℕ
count_now s piece = min (min (length piece) s.most) s.room

-- what a write leaves
abbrev pub after_write : SinkView → Bytes → SinkView
after_write s piece = if fails_now s
    then record s { calls = raised s.calls; faults = raised s.faults }
    else record s {
      calls = raised s.calls;
      room = s.room - count_now s piece;
      taken = s.taken ++ take (count_now s piece) piece;
    }
