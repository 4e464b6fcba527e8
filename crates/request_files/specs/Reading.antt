-- THE FILES OF A REQUEST, read and judged in turn: which were read and have no fault, and which fault comes first. Which bytes stand in a
-- file is said by a word that is handed in (`Telling.antt`).
use Rattle.std.specs.Prelude.{◌≡◌, ℕ, ◌-◌, ◌≤◌, min, List, [], ◌∷◌, ◌++◌, length, slice_get, Some}
use Rattle.mx_io.specs.Bytes.{Bytes, Words}
use Rattle.request_files.specs.Faults.{Before, Located, HasFault, before_file, file_limit, total_limit}
use Rattle.request_files.specs.Meanings.{IsFine}
use Rattle.request_files.specs.Turns.{Turn}

-- before the first file there is no name
abbrev pub at_first : Before
at_first = before_file total_limit []

-- a file without fault, and what it leaves for the next one
pub record IsSound (b : Before) (t : Turn) (bytes : Bytes) (next : Before) : Type 0 where
  pub fits : length bytes ≤ min file_limit b.left
  pub fine : IsFine t.kind t.number t.word b.names next.names bytes
  pub left : next.left ≡ b.left - length bytes

-- the first files of these turns are such, one after the other
abbrev pub AreSoundFrom : Before → List Turn → List Bytes → Before → Type 0
AreSoundFrom b turns [] end = end ≡ b
AreSoundFrom b [] (x ∷ xs) end = ⊥
AreSoundFrom b (t ∷ ts) (x ∷ xs) end = (next : Before) × IsSound b t x next × AreSoundFrom next ts xs end

-- these bytes are in the first files of these turns
abbrev pub Agree : (Bytes → Bytes → Type 0) → List Turn → List Bytes → Type 0
Agree Holds turns [] = Unit {0}
Agree Holds [] (b ∷ bs) = ⊥
Agree Holds (t ∷ ts) (b ∷ bs) = Holds t.word b × Agree Holds ts bs

-- the first files were read, and hold these bytes, without a fault; this is what they leave
pub record AreSound (Holds : Bytes → Bytes → Type 0) (b : Before) (turns : List Turn) (contents : List Bytes) (end : Before) : Type 0 where
  pub agree : Agree Holds turns contents
  pub sound : AreSoundFrom b turns contents end

-- the turn of a file has come: the files before it were read, and have no fault
pub record IsTurn (Holds : Bytes → Bytes → Type 0) (b : Before) (turns : List Turn) (position : ℕ) : Type 0 where
  pub contents : List Bytes
  pub here : Before
  pub before : AreSound Holds b turns contents here
  pub count : length contents ≡ position
  pub turn : Turn
  pub is : slice_get turns position ≡ Some turn

-- its read failed, and no other
pub record FailedAt (Holds : Bytes → Bytes → Type 0) (b : Before) (turns : List Turn) (old new : Words) (position : ℕ) : Type 0 where
  pub is_turn : IsTurn Holds b turns position
  pub grew : new ≡ old ++ is_turn.turn.word ∷ []

-- it was read, and has a fault
pub record FaultyAt (Holds : Bytes → Bytes → Type 0) (b : Before) (turns : List Turn) (position : ℕ) (fault : Located) : Type 0 where
  pub is_turn : IsTurn Holds b turns position
  pub bytes : Bytes
  pub holds : Holds is_turn.turn.word bytes
  pub faulty : HasFault is_turn.here is_turn.turn bytes fault

-- it isn't sound
pub record UnsoundAt (Holds : Bytes → Bytes → Type 0) (b : Before) (turns : List Turn) (position : ℕ) : Type 0 where
  pub is_turn : IsTurn Holds b turns position
  pub bytes : Bytes
  pub holds : Holds is_turn.turn.word bytes
  pub unsound : (next : Before) → IsSound is_turn.here is_turn.turn bytes next → ⊥
