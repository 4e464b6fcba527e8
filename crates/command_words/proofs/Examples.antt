-- What some lists of words stand for.
use Rattle.std.specs.Prelude.{[], ◌∷◌, ◌++◌, true, false, None, Some, codes, replicate}
use Rattle.std.proofs.Common.{refl}
use Rattle.mx_io.specs.Bytes.{Words}
use Rattle.command_words.specs.Words.{Request, IsRequest}
use Rattle.command_words.specs.Ways.Reading.{asked}
use Rattle.command_words.proofs.Sound.{found, refused}

abbrev a_c : Words
a_c = codes "a.c" ∷ []

-- there is no request for these words
abbrev NoRequest : Words → Type 0
NoRequest words = (r : Request) → IsRequest words r → ⊥

depth_in_a_word : IsRequest (codes "--depth" ∷ codes "4" ∷ a_c) (asked 4 None false a_c)
depth_in_a_word = found _ _ refl

depth_behind_equals : IsRequest (codes "--depth=8" ∷ a_c) (asked 8 None false a_c)
depth_behind_equals = found _ _ refl

no_depth_is_4 : IsRequest a_c (asked 4 None false a_c)
no_depth_is_4 = found _ _ refl

depth_past_8 : NoRequest (codes "--depth=9" ∷ a_c)
depth_past_8 = refused _ refl

depth_of_two_digits : NoRequest (codes "--depth" ∷ codes "04" ∷ a_c)
depth_of_two_digits = refused _ refl

depth_below_0 : NoRequest (codes "--depth" ∷ codes "-1" ∷ a_c)
depth_below_0 = refused _ refl

depth_without_value : NoRequest (codes "--depth" ∷ [])
depth_without_value = refused _ refl

depth_behind_a_file : NoRequest (a_c ++ (codes "--depth" ∷ codes "4" ∷ []))
depth_behind_a_file = refused _ refl

depth_twice : NoRequest (codes "--depth=1" ∷ codes "--depth" ∷ codes "1" ∷ a_c)
depth_twice = refused _ refl

minus_sign_behind_the_end : IsRequest (codes "--" ∷ codes "-x.c" ∷ []) (asked 4 None false (codes "-x.c" ∷ []))
minus_sign_behind_the_end = found _ _ refl

end_behind_the_end : IsRequest (codes "--" ∷ codes "--" ∷ codes "--stats" ∷ []) (asked 4 None false (codes "--" ∷ codes "--stats" ∷ []))
end_behind_the_end = found _ _ refl

minus_sign_alone : IsRequest (codes "-" ∷ []) (asked 4 None false (codes "-" ∷ []))
minus_sign_alone = found _ _ refl

minus_sign_alone_twice : IsRequest (codes "-" ∷ codes "a.c" ∷ codes "-" ∷ []) (asked 4 None false (codes "-" ∷ codes "a.c" ∷ codes "-" ∷ []))
minus_sign_alone_twice = found _ _ refl

minus_sign_behind_a_file : NoRequest (codes "a.c" ∷ codes "-x" ∷ [])
minus_sign_behind_a_file = refused _ refl

end_behind_a_file : NoRequest (codes "a.c" ∷ codes "--" ∷ codes "b.c" ∷ [])
end_behind_a_file = refused _ refl

end_alone : NoRequest (codes "--" ∷ [])
end_alone = refused _ refl

no_words : NoRequest []
no_words = refused _ refl

only_a_checker : NoRequest (codes "free.metal" ∷ [])
only_a_checker = refused _ refl

only_the_ending : IsRequest (codes ".metal" ∷ codes "metal" ∷ []) (asked 4 None false (codes ".metal" ∷ codes "metal" ∷ []))
only_the_ending = found _ _ refl

files_64 : IsRequest (replicate 64 (codes "a.c")) (asked 4 None false (replicate 64 (codes "a.c")))
files_64 = found _ _ refl

files_65 : NoRequest (replicate 65 (codes "a.c"))
files_65 = refused _ refl

checkers_16 : IsRequest (replicate 16 (codes "x.metal") ++ a_c) (asked 4 None false (replicate 16 (codes "x.metal") ++ a_c))
checkers_16 = found _ _ refl

checkers_17 : NoRequest (replicate 17 (codes "x.metal") ++ a_c)
checkers_17 = refused _ refl

statistics : IsRequest (codes "--stats" ∷ a_c) (asked 4 None true a_c)
statistics = found _ _ refl

statistics_twice : NoRequest (codes "--stats" ∷ codes "--stats" ∷ a_c)
statistics_twice = refused _ refl

format_in_a_word : IsRequest (codes "--format" ∷ codes "json" ∷ codes "x.metal" ∷ a_c) (asked 4 (Some (codes "json")) false (codes "x.metal" ∷ a_c))
format_in_a_word = found _ _ refl

format_without_a_name : IsRequest (codes "--format=" ∷ a_c) (asked 4 (Some []) false a_c)
format_without_a_name = found _ _ refl

format_with_a_minus_sign : NoRequest (codes "--format" ∷ codes "-json" ∷ a_c)
format_with_a_minus_sign = refused _ refl

all_three : IsRequest (codes "--stats" ∷ codes "--format=table" ∷ codes "--depth" ∷ codes "0" ∷ codes "--" ∷ a_c) (asked 0 (Some (codes "table")) true a_c)
all_three = found _ _ refl

help : NoRequest (codes "--help" ∷ [])
help = refused _ refl
