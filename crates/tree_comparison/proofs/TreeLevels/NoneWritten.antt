-- Where there are no tokens.
use Rattle.std.proofs.Common.{arith, ◌≡◌, ◌<◌, List, [], ◌∷◌, length, Bool}
use Rattle.std.specs.Prelude.{◌==◌}
use Rattle.c_tree.specs.declared.token.Token.{Token}
use Rattle.c_tree.specs.Symbol.{symbols_of}
use Rattle.hole_matching.specs.Pattern.{same_names}
use Rattle.hole_matching.specs.Subjects.{names_of}
use Rattle.hole_matching.specs.Written.{spellings}

pub none_written : (ts ps : List Token) (b : Bool) → length ts < 1 → b ≡ (length ps == 0) → b ≡ same_names (names_of ts) (spellings (symbols_of ps))
none_written [] [] b h e = grind (arith, e)
none_written [] (p ∷ ps) b h e = grind (arith, e)
none_written (t ∷ ts) ps b h e = absurd (omega arith)

pub none_same : (ts ps : List Token) (b : Bool) → length ts < 1 → b ≡ (length ps == 0) → b ≡ same_names (names_of ts) (names_of ps)
none_same [] [] b h e = grind (arith, e)
none_same [] (p ∷ ps) b h e = grind (arith, e)
none_same (t ∷ ts) ps b h e = absurd (omega arith)
