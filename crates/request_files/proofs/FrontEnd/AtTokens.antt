-- The token behind so many others, and the line on which what stands behind these begins.
use Rattle.std.proofs.Common.{◌≡◌, ℕ, zero, suc, List, [], ◌∷◌, ◌++◌, length, drop, Option, Some, None, slice_get, refl, ap, sym, ◌∙◌}
use Rattle.std.proofs.Math.Seq.{drop-append_seam}
use Rattle.c_tree.specs.declared.token.Token.{Token}
use Rattle.c_lexer.specs.declared.fault.Spot.{Spot}
use Rattle.request_files.specs.FrontEnd.Found.{line_of_first}

-- it is the token's
pub line_there : (ts : List Token) (end : Spot) (before : ℕ) (t : Token) → slice_get ts before ≡ Some t → line_of_first (drop before ts) end ≡ (t.source, t.line)
line_there [] end before t e = cc
line_there (x ∷ ts) end zero t e = let same : x ≡ t = cc in ap (λ y. line_of_first (y ∷ ts) end) same
line_there (x ∷ ts) end (suc n) t e = line_there ts end n t e

-- and that of the end where there is none
pub line_of_end : (ts : List Token) (end : Spot) (before : ℕ) → slice_get ts before ≡ None → line_of_first (drop before ts) end ≡ (end.source, end.line)
line_of_end [] end zero e = refl
line_of_end [] end (suc n) e = refl
line_of_end (x ∷ ts) end zero e = cc
line_of_end (x ∷ ts) end (suc n) e = line_of_end ts end n e

-- what stands behind so many tokens is given
pub one_behind : (all before behind front rest : List Token) → all ≡ before ++ behind → all ≡ front ++ rest → length before ≡ length front → behind ≡ rest
one_behind all before behind front rest a b n =
    sym (drop-append_seam before behind) ∙ ap (drop (length before)) (sym a ∙ b) ∙ ap (λ k. drop k (front ++ rest)) n ∙ drop-append_seam front rest
