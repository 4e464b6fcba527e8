-- Names that grow as a reading goes on stay without repeats, and keep their numbers.
use Rattle.std.proofs.Common.{◌≡◌, Bool, true, false, cond, ℕ, zero, suc, List, [], ◌∷◌, ◌++◌, ◌||◌, Option, Some, None, slice_get, refl, sym, ◌∙◌, subst}
use Rattle.std.specs.List.{list_any, IsDistinct, AllByRecursion}
use Rattle.std.specs.Str.{bytes_eq}
use Rattle.std.proofs.lemmas.Bool.{false≢true}
use Rattle.std.proofs.lemmas.Slice.Eq.{bytes_eq-Decides}
use Rattle.mx_base.specs.Names.{names_after, HasNoRepeats}
use Rattle.c_tree.specs.Symbol.{Symbol, Word, Reserved, Sign, IntLiteral, FloatLiteral, CharLiteral, StringLiteral}
use Rattle.c_lexer.specs.CReading.Pieces.{Piece}
use Rattle.c_lexer.specs.Tokens.{TokenList}
use Rattle.c_lexer.specs.declared.c_reading.mode.Mode.{Mode}
use Rattle.c_lexer.specs.Naming.{text_named, with_name, named_by}
use Rattle.metal_grammar.specs.Words.{contents_of}
use Rattle.request_files.specs.Lexed.{AreTokensOf}
use Rattle.metal_written.specs.Strings.{with_string, with_strings}

turned : (a b : List ℕ) → bytes_eq a b ≡ false → bytes_eq b a ≡ false
turned a b h = by (bytes_eq b a) refl
  where
    by : (x : Bool) → bytes_eq b a ≡ x → bytes_eq b a ≡ false
    by false e = e
    by true e =
        let s : b ≡ a = (bytes_eq-Decides b a).0 e in
        let t : bytes_eq a b ≡ true = (bytes_eq-Decides a b).1 (sym s) in
        absurd (false≢true (sym h ∙ t))

left_false : (a b : Bool) → (a || b) ≡ false → a ≡ false
left_false false b h = refl
left_false true b h = h

right_false : (a b : Bool) → (a || b) ≡ false → b ≡ false
right_false false b h = h
right_false true b h = cc

none_last : (x t : List ℕ) (names : List (List ℕ)) → AllByRecursion (λ y. bytes_eq x y ≡ false) names → bytes_eq x t ≡ false → AllByRecursion (λ y. bytes_eq x y ≡ false) (names ++ t ∷ [])
none_last x t [] a h = (h, tt)
none_last x t (y ∷ ys) a h = (a.0, none_last x t ys a.1 h)

pushed : (names : List (List ℕ)) (t : List ℕ) → list_any (bytes_eq t) names ≡ false → HasNoRepeats names → HasNoRepeats (names ++ t ∷ [])
unfolding IsDistinct
pushed [] t n h = (tt, tt)
pushed (x ∷ xs) t n h =
    (none_last x t xs h.0 (turned t x (left_false (bytes_eq t x) (list_any (bytes_eq t) xs) n)), pushed xs t (right_false (bytes_eq t x) (list_any (bytes_eq t) xs) n) h.1)

pub distinct_after : (names : List (List ℕ)) (t : List ℕ) → HasNoRepeats names → HasNoRepeats (names_after names t)
distinct_after names t h = by (list_any (bytes_eq t) names) refl
  where
    by : (b : Bool) → list_any (bytes_eq t) names ≡ b → HasNoRepeats (cond b names (names ++ t ∷ []))
    by true e = h
    by false e = pushed names t e h

distinct_with : (names : List (List ℕ)) (o : Option (List ℕ)) → HasNoRepeats names → HasNoRepeats (with_name names o)
distinct_with names None h = h
distinct_with names (Some t) h = distinct_after names t h

pub distinct_named : (names : List (List ℕ)) (ps : List Piece) → HasNoRepeats names → HasNoRepeats (named_by names ps)
distinct_named names [] h = h
distinct_named names (p ∷ ps) h = distinct_named (with_name names (text_named p)) ps (distinct_with names (text_named p) h)

distinct_string : (names : List (List ℕ)) (s : Symbol) → HasNoRepeats names → HasNoRepeats (with_string names s)
distinct_string names (Word x) h = h
distinct_string names (Reserved x) h = h
distinct_string names (Sign x) h = h
distinct_string names (IntLiteral x y) h = h
distinct_string names (FloatLiteral x y) h = h
distinct_string names (CharLiteral x y) h = h
distinct_string names (StringLiteral wide x) h = distinct_after names (contents_of names (record { wide = wide; name = x })) h

pub distinct_strings : (names : List (List ℕ)) (ss : List Symbol) → HasNoRepeats names → HasNoRepeats (with_strings names ss)
distinct_strings names [] h = h
distinct_strings names (s ∷ ss) h = distinct_strings (with_string names s) ss (distinct_string names s h)

pub none_once : HasNoRepeats []
unfolding IsDistinct
none_once = tt

-- ---- numbers

-- the names of the first table have the same numbers in the second
abbrev pub AreKept : List (List ℕ) → List (List ℕ) → Type 0
AreKept names grown = (n : ℕ) (x : List ℕ) → slice_get names n ≡ Some x → slice_get grown n ≡ Some x

kept-behind : (names more : List (List ℕ)) → AreKept names (names ++ more)
kept-behind [] more n x e = cc
kept-behind (y ∷ names) more zero x e = e
kept-behind (y ∷ names) more (suc n) x e = kept-behind names more n x e

kept-after : (names : List (List ℕ)) (t : List ℕ) → AreKept names (names_after names t)
kept-after names t = by (list_any (bytes_eq t) names)
  where
    by : (b : Bool) → AreKept names (cond b names (names ++ t ∷ []))
    by true = λ n x e. e
    by false = kept-behind names (t ∷ [])

kept-with : (names : List (List ℕ)) (o : Option (List ℕ)) → AreKept names (with_name names o)
kept-with names None = λ n x e. e
kept-with names (Some t) = kept-after names t

kept-named : (names : List (List ℕ)) (ps : List Piece) → AreKept names (named_by names ps)
kept-named names [] = λ n x e. e
kept-named names (p ∷ ps) = λ n x e. kept-named (with_name names (text_named p)) ps n x (kept-with names (text_named p) n x e)

-- the names before a file have the same numbers behind it
pub tokens_keep : (mode : Mode) (number : ℕ) (word : List ℕ) (before names : List (List ℕ)) (bytes : List ℕ) (list : TokenList) → AreTokensOf mode number word before names bytes list → AreKept before names
tokens_keep mode number word before names bytes list a =
    subst (AreKept before) (sym a.named) (λ n x e. kept-named (names_after before word) a.pieces n x (kept-after before word n x e))
