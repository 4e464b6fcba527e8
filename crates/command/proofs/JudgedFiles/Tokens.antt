-- The tokens of a file: they are of this file, and their presumed files are names.
use Rattle.std.proofs.Common.{◌≡◌, ℕ, zero, suc, ◌+◌, List, [], ◌∷◌, length, Contains, Option, None, Some, slice_get, refl, ap}
use Rattle.c_tree.specs.declared.token.Token.{Token}
use Rattle.c_lexer.specs.CReading.Reading.{Lexeme}
use Rattle.c_lexer.specs.CReading.Strip.{stripped, stripped_behind, if_dropped, dropped_with, kept}
use Rattle.c_lexer.specs.Tokens.{AreTokens}
use Rattle.command.proofs.JudgedFiles.Defining.{Each, each-among}

-- of the file with this number, presumed in a file that names have
abbrev pub IsOf : ℕ → List (List ℕ) → Token → Type 0
IsOf number names t = (t.place.file ≡ number) × ((file : List ℕ) × (slice_get names t.source ≡ Some file))

pub tokens_of : (number : ℕ) (names : List (List ℕ)) (before : ℕ) (ls : List Lexeme) (ts : List Token) → AreTokens number names before ls ts → Each (IsOf number names) ts
tokens_of number names before [] [] a = tt
tokens_of number names before [] (t ∷ ts) a = absurd a
tokens_of number names before (l ∷ ls) [] a = absurd a
tokens_of number names before (l ∷ ls) (t ∷ ts) a = ((a.0.file, (l.here.file, a.0.source)), tokens_of number names (before + 1) ls ts a.1)

pub tokens_few : (number : ℕ) (names : List (List ℕ)) (before : ℕ) (ls : List Lexeme) (ts : List Token) → AreTokens number names before ls ts → length ts ≡ length ls
tokens_few number names before [] [] a = refl
tokens_few number names before [] (t ∷ ts) a = absurd a
tokens_few number names before (l ∷ ls) [] a = absurd a
tokens_few number names before (l ∷ ls) (t ∷ ts) a = ap suc (tokens_few number names (before + 1) ls ts a.1)

-- those that are kept
each-kept : (P : Token → Type 0) → ((t : Token) → P t → P (kept t)) → (n : ℕ) (ts : List Token) → Each P ts → Each P (stripped_behind n ts)
unfolding stripped_behind
each-kept P same n [] h = tt
each-kept P same (suc n) (t ∷ ts) h = each-kept P same n ts h.1
each-kept P same zero (t ∷ ts) h = by (dropped_with t.kind ts) (λ n. each-kept P same n ts h.1)
  where
    by : (d : Option ℕ) → ((n : ℕ) → Each P (stripped_behind n ts)) → Each P (if_dropped d (kept t ∷ stripped_behind 0 ts) (λ n. stripped_behind n ts))
    by None below = (same t h.0, below 0)
    by (Some n) below = below n

pub kept_of : (number : ℕ) (names : List (List ℕ)) (ts : List Token) → Each (IsOf number names) ts → Each (IsOf number names) (stripped ts)
kept_of number names ts h = each-kept (IsOf number names) (λ t x. x) 0 ts h

-- what holds of each holds of each beside that it is one
pub among_each : (P : Token → Type 0) (ts : List Token) → Each P ts → Each (λ t. Contains ts t × P t) ts
among_each P ts h = both (Contains ts) P ts (each-among ts) h
  where
    both : (P Q : Token → Type 0) (ts : List Token) → Each P ts → Each Q ts → Each (λ t. P t × Q t) ts
    both P Q [] h k = tt
    both P Q (t ∷ ts) h k = ((h.0, k.0), both P Q ts h.1 k.1)
