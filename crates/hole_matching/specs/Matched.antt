-- The match as a plain function: it goes through the pattern and the subject in the order of the text, and fills slots.
use Rattle.std.specs.Prelude.{ℕ, zero, suc, List, [], ◌∷◌, replicate, Bool, false, cond, Option, None, Some}
use Rattle.c_objects.specs.Facts.{Facts}
use Rattle.type_rules.specs.Options.{if_there, ◌>?◌}
use Rattle.hole_matching.specs.ComparedSubjects.{compared, compared_all}
use Rattle.metal_tree.specs.MetalMachines.Limits.{most_holes}
use Rattle.hole_matching.specs.Holes.{Setting, may_take, takes_rest}
use Rattle.hole_matching.specs.Matching.{Taken, One, Many, Binding, slot, Seat, Argument, first_seat, next_seat}
use Rattle.hole_matching.specs.Pattern.{Head, Pattern, hole, likewise, other, Patterns, no_more, more, same_head, same_pattern, same_patterns}
use Rattle.c_tree.specs.PathSubjects.Subjects.{Subject}
use Rattle.hole_matching.specs.Subjects.{inner, head_of, parts_of}

abbrev pub nothing_taken : Binding
nothing_taken = replicate most_holes None

-- the slot of this number is filled
abbrev pub put : ℕ → Taken → Binding → Binding
put n x [] = []
put zero x (y ∷ ys) = Some x ∷ ys
put (suc n) x (y ∷ ys) = y ∷ put n x ys

abbrev pub are_equal : Facts → Taken → Taken → Bool
are_equal u (One s) (One t) = same_pattern (compared u s) (compared u t)
are_equal u (Many ss) (Many ts) = same_patterns (compared_all u ss) (compared_all u ts)
are_equal u _ _ = false

-- an empty slot is filled, and one that is full holds what is equal
abbrev pub bound_in : Facts → ℕ → Taken → Binding → Option Taken → Option Binding
bound_in u n x b None = Some (put n x b)
bound_in u n x b (Some y) = cond (are_equal u y x) (Some b) None

abbrev pub bound : Facts → ℕ → Taken → Binding → Option Binding
bound u n x b = bound_in u n x b (slot n b)

-- the hole for arguments that a pattern is, if it stands last among the arguments of a call
abbrev pub rest_hole : Setting → Seat → Pattern → Patterns → Option ℕ
rest_hole g Argument (hole n) no_more = cond (takes_rest g n) (Some n) None
rest_hole g _ _ _ = None

abbrev pub is_head : Option Head → Head → Bool
is_head None h = false
is_head (Some k) h = same_head k h

-- the binding behind a pattern, from the one before
abbrev mutual
  pub matched : Setting → Pattern → Subject → Binding → Option Binding
  matched g (hole n) s b = cond (may_take g n (inner s)) (bound g.facts n (One (inner s)) b) None
  matched g (likewise h ps) s b = cond (is_head (head_of g.facts (inner s)) h) (matched_all g (first_seat h) ps (parts_of (inner s)) b) None
  matched g other s b = None

  pub matched_all : Setting → Seat → Patterns → List Subject → Binding → Option Binding
  matched_all g seat no_more [] b = Some b
  matched_all g seat no_more (s ∷ ss) b = None
  matched_all g seat (more p ps) [] b = rest_hole g seat p ps >? λ n. bound g.facts n (Many []) b
  matched_all g seat (more p ps) (s ∷ ss) b = if_there (rest_hole g seat p ps) (matched g p s b >? matched_all g (next_seat seat) ps ss) (λ n. bound g.facts n (Many (s ∷ ss)) b)
