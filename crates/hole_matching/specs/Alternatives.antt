-- Alternatives of a rule: base patterns that are matched with one subject and one joint binding, and callouts on it; and those
-- that are asked at the end of a function, where there is no subject.
use Rattle.std.specs.Prelude.{◌≡◌, ℕ, List, [], ◌∷◌, ◌++◌, true, false, Bool, cond, ◌&&◌, Option, None, Some}
use Rattle.c_objects.specs.Objects.{Object}
use Rattle.type_rules.specs.Options.{◌>?◌}
use Rattle.metal_tree.specs.MetalMachines.Machine.{Item, Base, Holds, EndOfPath}
use Rattle.hole_matching.specs.Callouts.{holds}
use Rattle.hole_matching.specs.Holes.{Setting}
use Rattle.hole_matching.specs.Matched.{matched, nothing_taken}
use Rattle.hole_matching.specs.Matching.{Taking, Taken, One, Many, Binding, slot, Stands, IsBinding}
use Rattle.c_tree.specs.PathSubjects.Subjects.{Subject}
use Rattle.hole_matching.specs.Subjects.{subject_object}
use Rattle.hole_matching.specs.Written.{pattern_of}

-- all base patterns stand over the subject; what their holes take, in the order of the text
abbrev pub BasesStand : Setting → List Item → Subject → List Taking → Type 0
BasesStand g [] s ts = ts ≡ []
BasesStand g (Base e ∷ items) s ts = (xs : List Taking) × (ys : List Taking) × (ts ≡ (xs ++ ys)) × Stands g (pattern_of e) s xs × BasesStand g items s ys
BasesStand g (item ∷ items) s ts = BasesStand g items s ts

abbrev pub all_hold : Setting → List Item → Binding → Bool
all_hold g [] b = true
all_hold g (Holds c ∷ items) b = holds g c b && all_hold g items b
all_hold g (item ∷ items) b = all_hold g items b

-- AN ALTERNATIVE MATCHES a subject with a binding. `$end_of_path$` asks nothing here; an alternative that has it is none for
-- subjects, so whoever asks alternatives of a subject asks the plain ones (IsPlainAlternative).
pub record Matches (g : Setting) (items : List Item) (s : Subject) (b : Binding) : Type 0 where
  pub takings : List Taking
  pub bases : BasesStand g items s takings
  pub joint : IsBinding g.facts takings b
  pub conditions : all_hold g items b ≡ true

-- the binding of the base patterns, from the one before
abbrev pub matched_bases : Setting → List Item → Subject → Binding → Option Binding
matched_bases g [] s b = Some b
matched_bases g (Base e ∷ items) s b = matched g (pattern_of e) s b >? matched_bases g items s
matched_bases g (item ∷ items) s b = matched_bases g items s b

-- the binding with which an alternative matches
abbrev pub matched_alternative : Setting → List Item → Subject → Option Binding
matched_alternative g items s = matched_bases g items s nothing_taken >? λ b. cond (all_hold g items b) (Some b) None

abbrev pub has_end_of_path : List Item → Bool
has_end_of_path [] = false
has_end_of_path (EndOfPath ∷ items) = true
has_end_of_path (item ∷ items) = has_end_of_path items

-- an alternative that is asked of subjects alone
abbrev pub IsPlainAlternative : List Item → Type 0
IsPlainAlternative items = has_end_of_path items ≡ false

-- AN ALTERNATIVE APPLIES AT THE END of a function: it has `$end_of_path$`, and its callouts hold where no hole has taken
-- anything. Of which objects it is asked there is no matter of the alternative.
pub record AppliesAtEnd (g : Setting) (items : List Item) : Type 0 where
  pub end : has_end_of_path items ≡ true
  pub conditions : all_hold g items nothing_taken ≡ true

abbrev pub object_taken : Setting → Option Taken → Option Object
object_taken g None = None
object_taken g (Some (One s)) = subject_object g.facts g.depth s
object_taken g (Some (Many ss)) = None

-- the object that a state variable is bound to
abbrev pub bound_object : Setting → ℕ → Binding → Option Object
bound_object g variable b = object_taken g (slot variable b)
