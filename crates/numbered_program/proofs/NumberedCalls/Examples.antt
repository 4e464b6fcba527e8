-- Tables of a worked example, by computation: the caller's local p is passed for the formal q, w and r are locals of the two functions, and g is
-- a variable of both.
use Rattle.std.proofs.Common.{◌≡◌, List, [], ◌∷◌, true, false, None, Some, refl}
use Rattle.c_objects.specs.Objects.{Object, Deref, path}
use Rattle.numbered_program.specs.NumberedCalls.Rows.{entered_rows, handed_rows, saved_flags}
use Rattle.numbered_program.specs.NumberedTuples.FollowedObjects.{row_of}
use Rattle.path_model.specs.CheckerModel.Happenings.{Site}
use Rattle.type_rules.specs.Vars.{CVar, Extern, Local, Param}

abbrev p : CVar
p = Local 0 11 1

abbrev w : CVar
w = Local 0 12 2

abbrev q : CVar
q = Param 0 50 20

abbrev r : CVar
r = Local 0 54 22

abbrev g : CVar
g = Extern 3

abbrev call : Site
call = record { callee = None; formals = Some q ∷ []; actuals = Some (path p []) ∷ [] }

-- p, *p, w and g are followed in the caller
abbrev here : List Object
here = path p [] ∷ path p (Deref ∷ []) ∷ path w [] ∷ path g [] ∷ []

-- g, q, *q and r in the callee
abbrev there : List Object
there = path g [] ∷ path q [] ∷ path q (Deref ∷ []) ∷ path r [] ∷ []

-- each object of the callee has a row: r begins unknown
entered : entered_rows 4 call here there ≡ row_of 1 4 ∷ row_of 2 1 ∷ row_of 3 2 ∷ row_of 4 0 ∷ []
entered = refl

-- all but w have their states from the callee
handed : handed_rows 4 call here there ≡ row_of 1 2 ∷ row_of 2 3 ∷ row_of 4 1 ∷ []
handed = refl

saved : saved_flags 4 call here there ≡ false ∷ false ∷ true ∷ false ∷ []
saved = refl

-- what isn't followed gives no state, and has none
entered_of_few : entered_rows 4 call (path w [] ∷ path p (Deref ∷ []) ∷ []) there ≡ row_of 1 0 ∷ row_of 2 0 ∷ row_of 3 2 ∷ row_of 4 0 ∷ []
entered_of_few = refl

handed_to_few : handed_rows 4 call here (path q [] ∷ []) ≡ row_of 1 1 ∷ []
handed_to_few = refl

saved_by_few : saved_flags 4 call here (path q [] ∷ []) ≡ false ∷ true ∷ true ∷ true ∷ []
saved_by_few = refl
