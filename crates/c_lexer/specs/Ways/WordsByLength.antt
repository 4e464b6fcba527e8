-- Equal to `special_words` of `CReading/Words`, by the length of a word.
-- Equal to `special_words`, by the length of a word: a way to look one up.
use Rattle.std.specs.Prelude.{ℕ, cond, List, [], ◌∷◌, length, ◌==◌, if◌then◌else◌}
use Rattle.c_lexer.specs.CReading.Words.{Words, special_words}

-- those texts of a table that have so many bytes
abbrev pub of_length : {K : Type 0} → ℕ → List (List ℕ × K) → List (List ℕ × K)
of_length n [] = []
of_length n (e ∷ es) = cond (length e.0 == n) (e ∷ of_length n es) (of_length n es)

-- the words of a length
unfoldable pub words_of : ℕ → Words
words_of n =
    if n == 2 then of_length 2 special_words
    else (if n == 3 then of_length 3 special_words
    else (if n == 4 then of_length 4 special_words
    else (if n == 5 then of_length 5 special_words
    else (if n == 6 then of_length 6 special_words
    else (if n == 7 then of_length 7 special_words
    else (if n == 8 then of_length 8 special_words
    else (if n == 9 then of_length 9 special_words
    else (if n == 10 then of_length 10 special_words
    else (if n == 11 then of_length 11 special_words
    else (if n == 12 then of_length 12 special_words
    else (if n == 13 then of_length 13 special_words
    else (if n == 16 then of_length 16 special_words
    else (if n == 17 then of_length 17 special_words
    else (if n == 18 then of_length 18 special_words
    else (if n == 19 then of_length 19 special_words
    else [])))))))))))))))
