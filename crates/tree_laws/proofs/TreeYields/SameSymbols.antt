-- What `same_symbol` answers.
use Rattle.std.proofs.Common.{◌≡◌, Bool, true, false, ap, refl, ◌∙◌, arith}
use Rattle.std.specs.Bool.{Decides}
use Rattle.std.proofs.lemmas.Bool.Decides.{Decides-eqb, Decides-like, Decides-and}
use Rattle.c_tree.specs.declared.token.FloatEnd.{FloatEnd}
use Rattle.c_tree.specs.declared.token.FloatEnd.TheVariants as ends
use Rattle.c_tree.specs.Codes.{keyword_code, punctuator_code}
use Rattle.c_tree.specs.Symbol.{Symbol, Integer, Word, Reserved, Sign, IntLiteral, FloatLiteral, CharLiteral, StringLiteral}
use Rattle.c_tree.proofs.Codes.{same_keyword, same_punctuator}
use Rattle.tree_laws.specs.Ways.After.{same_bool, end_code, same_integer, same_symbol}

same_end : (d e : FloatEnd) → end_code d ≡ end_code e → d ≡ e
same_end ends.Double ends.Double h = refl
same_end ends.F ends.F h = refl
same_end ends.L ends.L h = refl
same_end _ _ h = grind arith

same_bool-decides : (b c : Bool) → Decides (same_bool b c) (b ≡ c)
same_bool-decides true true = (λ h. refl, λ h. refl)
same_bool-decides false false = (λ h. refl, λ h. refl)
same_bool-decides true false = (λ h. cc, λ h. cc)
same_bool-decides false true = (λ h. cc, λ h. cc)

integer_from : (i j : Integer) → i.value ≡ j.value → i.decimal ≡ j.decimal → i.unsigned ≡ j.unsigned → i.longs ≡ j.longs → i ≡ j
integer_from i j v d u l =
    ap (λ x. record { value = x; decimal = i.decimal; unsigned = i.unsigned; longs = i.longs }) v
    ∙ ap (λ x. record { value = j.value; decimal = x; unsigned = i.unsigned; longs = i.longs }) d
    ∙ ap (λ x. record { value = j.value; decimal = j.decimal; unsigned = x; longs = i.longs }) u
    ∙ ap (λ x. record { value = j.value; decimal = j.decimal; unsigned = j.unsigned; longs = x }) l

same_integer-decides : (i j : Integer) → Decides (same_integer i j) (i ≡ j)
same_integer-decides i j =
    Decides-like _ (λ h. integer_from i j h.0.0.0 h.0.0.1 h.0.1 h.1)
    (λ e. (((ap (λ k. k.value) e, ap (λ k. k.decimal) e), ap (λ k. k.unsigned) e), ap (λ k. k.longs) e))
    (Decides-and _ _ (Decides-and _ _ (Decides-and _ _ (Decides-eqb i.value j.value) (same_bool-decides i.decimal j.decimal)) (same_bool-decides i.unsigned j.unsigned)) (Decides-eqb i.longs j.longs))

pub same_symbol-decides : (s t : Symbol) → Decides (same_symbol s t) (s ≡ t)
same_symbol-decides (Word m) (Word n) = Decides-like _ (λ h. ap Word h) (λ e. cc) (Decides-eqb m n)
same_symbol-decides (Reserved v) (Reserved w) =
    Decides-like _ (λ h. ap Reserved (same_keyword v w h)) (λ e. let k : v ≡ w = cc in ap keyword_code k) (Decides-eqb _ _)
same_symbol-decides (Sign p) (Sign q) =
    Decides-like _ (λ h. ap Sign (same_punctuator p q h)) (λ e. let k : p ≡ q = cc in ap punctuator_code k) (Decides-eqb _ _)
same_symbol-decides (IntLiteral i m) (IntLiteral j n) =
    Decides-like _ (λ h. let v = h.0 in let w = h.1 in cc) (λ e. (cc, cc)) (Decides-and _ _ (same_integer-decides i j) (Decides-eqb m n))
same_symbol-decides (FloatLiteral d m) (FloatLiteral e n) =
    Decides-like _ (λ h. let v = same_end d e h.0 in let w = h.1 in cc) (λ q. let k : d ≡ e = cc in (ap end_code k, cc)) (Decides-and _ _ (Decides-eqb _ _) (Decides-eqb m n))
same_symbol-decides (CharLiteral v m) (CharLiteral w n) =
    Decides-like _ (λ h. let x = h.0 in let y = h.1 in cc) (λ e. (cc, cc)) (Decides-and _ _ (same_bool-decides v w) (Decides-eqb m n))
same_symbol-decides (StringLiteral v m) (StringLiteral w n) =
    Decides-like _ (λ h. let x = h.0 in let y = h.1 in cc) (λ e. (cc, cc)) (Decides-and _ _ (same_bool-decides v w) (Decides-eqb m n))
same_symbol-decides _ _ = (λ h. cc, λ e. cc)
