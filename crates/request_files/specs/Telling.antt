-- WHAT IS TOLD OF FILES: what may stand in them, and what surely does.
use Rattle.std.specs.Prelude.{◌≡◌, true, List, [], ◌∷◌, Some}
use Rattle.mx_io.specs.Bytes.{Bytes, Readable, Told}
use Rattle.mx_io.specs.Reads.{Stands}
use Rattle.request_files.specs.Turns.{Turn}

-- any bytes, where nothing is told
abbrev pub may_hold : Told → Bytes → Bytes → Type 0
may_hold told word bytes = Stands (told word) bytes

-- only what is told
abbrev pub surely_holds : Told → Bytes → Bytes → Type 0
surely_holds told word bytes = told word ≡ Some bytes

-- the contents of all these files are told, and these are they
abbrev pub Tells : Told → List Turn → List Bytes → Type 0
Tells told [] [] = Unit {0}
Tells told [] (b ∷ bs) = ⊥
Tells told (t ∷ ts) [] = ⊥
Tells told (t ∷ ts) (b ∷ bs) = (told t.word ≡ Some b) × Tells told ts bs

-- all these files are readable
abbrev pub AreReadable : Readable → List Turn → Type 0
AreReadable readable [] = Unit {0}
AreReadable readable (t ∷ ts) = (readable t.word ≡ true) × AreReadable readable ts
