-- Equal to `HandedObjects/Handed`, by one candidate for each formal.
-- How they are found: one candidate for each formal, and the object itself; those are kept that take its state.
use Rattle.std.specs.Prelude.{ℕ, List, [], ◌∷◌, ◌++◌, Bool, false, cond, not, ◌&&◌, Option, None, Some}
use Rattle.std.specs.List.{list_any}
use Rattle.c_objects.specs.Objects.{Object, path}
use Rattle.c_objects.specs.Paths.{rebase}
use Rattle.c_objects.specs.Replaced.{replaced}
use Rattle.type_rules.specs.Options.{◌>?◌}
use Rattle.type_rules.specs.Vars.{CVar}
use Rattle.path_model.specs.CheckerModel.Calls.{behind_first, into, out, first_actual}
use Rattle.path_model.specs.CheckerModel.Happenings.{Site}
use Rattle.refine_restore.specs.declared.handed_objects.ends.End.{End}
use Rattle.refine_restore.specs.declared.handed_objects.ends.End.TheVariants as end
use Rattle.objects.specs.Equality.{same_object}

-- the object whose state another one takes at an end of a call
abbrev pub origin : End → ℕ → Site → Object → Option Object
origin end.Entry depth s q = into depth s q
origin end.Return depth s q = out depth s q

abbrev pub is_this : Object → Option Object → Bool
is_this o None = false
is_this o (Some q) = same_object q o

abbrev pub is_taker : End → ℕ → Site → Object → Object → Bool
is_taker e depth s o q = is_this o (origin e depth s q)

-- what an object is behind a formal and its actual, seen from the other end
abbrev pub behind_formal : End → ℕ → Object → CVar → Object → Option Object
behind_formal end.Entry depth o x a = replaced depth (path x []) a o
behind_formal end.Return depth o x a = rebase depth o (path x []) a

abbrev pub candidate : End → ℕ → Object → Option CVar → Option Object → Option Object
candidate e depth o x a = x >? λ v. a >? behind_formal e depth o v

abbrev pub candidates : End → ℕ → Object → List (Option CVar) → List (Option Object) → List (Option Object)
candidates e depth o [] actuals = []
candidates e depth o (x ∷ xs) actuals = candidate e depth o x (first_actual actuals) ∷ candidates e depth o xs (behind_first actuals)

abbrev pub is_listed : List Object → Object → Bool
is_listed qs q = list_any (λ p. same_object p q) qs

-- one more, if it passes and isn't there
abbrev pub with_one : (Object → Bool) → List Object → Option Object → List Object
with_one test qs None = qs
with_one test qs (Some q) = cond (test q && not (is_listed qs q)) (qs ++ (q ∷ [])) qs

-- those of them that pass, each once
abbrev pub gathered : (Object → Bool) → List Object → List (Option Object) → List Object
gathered test qs [] = qs
gathered test qs (c ∷ cs) = gathered test (with_one test qs c) cs

-- THE TAKERS of an object's state at an end of a call
abbrev pub takers : End → ℕ → Site → Object → List Object
takers e depth s o = gathered (is_taker e depth s o) [] (Some o ∷ candidates e depth o s.formals s.actuals)
