-- The rules of a machine over subjects, by computation.
use Rattle.std.proofs.Common.{◌≡◌, ℕ, true, false, [], ◌∷◌, Option, None, Some, refl}
use Rattle.std.specs.Prelude.{is_some}
use Rattle.c_objects.specs.Objects.{Object, path}
use Rattle.c_objects.proofs.Building.{p, name, paren, star}
use Rattle.metal_tree.specs.MetalMachines.Machine.{InFunction, NeverHolds, AnyExpr, FromGlobal, FromObject, ToObject, ToUnknown, Always, Base, Holds, EndOfPath, Machine}
use Rattle.hole_matching.specs.MachineMatches.{RuleAppliesAtEnd, matched_rule, object_bound}
use Rattle.c_tree.specs.PathSubjects.Subjects.{Subject, Tree, DerefOf}
use Rattle.hole_matching.proofs.Building.{some_facts, hole, named, calling, starred, call_of}

-- `start: { g(v) } ==> v.freed; v.freed: { *v } && ${ mc_in_function("..") } || { g(v) } ==> v.stop
-- | $end_of_path$ && ${ mc_in_function("..") } || $end_of_path$ && ${ 0 } ==> v.stop;`, where the text is name 20
abbrev machine : Machine
machine = record {
  name = 21;
  variables = 1;
  holes = record { name = 22; of = AnyExpr } ∷ [];
  globals = [];
  states = (23 ∷ []) ∷ [];
  rules =
      (record { number = 1; position = 9; source = FromGlobal 0; alternatives = (Base (calling (named 6) (hole 0 ∷ [])) ∷ []) ∷ []; dest = Always (ToObject 0 0); action = None })
      ∷ (record { number = 2; position = 24; source = FromObject 0 0; alternatives = (Base (starred (hole 0)) ∷ Holds (record { negated = false; row = InFunction; hole = 0; text = 20 }) ∷ []) ∷ (Base (calling (named 6) (hole 0 ∷ [])) ∷ []) ∷ []; dest = Always (ToUnknown 0); action = None })
      ∷ (record { number = 3; position = 50; source = FromObject 0 0; alternatives = (EndOfPath ∷ Holds (record { negated = false; row = InFunction; hole = 0; text = 20 }) ∷ []) ∷ (EndOfPath ∷ Holds (record { negated = false; row = NeverHolds; hole = 0; text = 0 }) ∷ []) ∷ []; dest = Always (ToUnknown 0); action = None })
      ∷ [];
}

abbrev object : ℕ → ℕ → ℕ → ℕ → Subject → Option Object
object number k depth function s = object_bound machine number k some_facts depth function s 0

-- g(p), g((p)), the `*p` in `p->f`
first_rule : object 1 0 4 20 (Tree (call_of (name 6) (name 0 ∷ []))) ≡ Some (path p [])
first_rule = refl

first_rule_in_parentheses : object 1 0 4 20 (Tree (call_of (name 6) (paren (name 0) ∷ []))) ≡ Some (path p [])
first_rule_in_parentheses = refl

second_alternative : object 2 1 4 20 (Tree (call_of (name 6) (name 0 ∷ []))) ≡ Some (path p [])
second_alternative = refl

first_alternative : object 2 0 4 20 (DerefOf (name 0)) ≡ Some (path p [])
first_alternative = refl

-- not in another function, not by another alternative, and no third one
other_function : object 2 0 4 19 (Tree (star (name 0))) ≡ None
other_function = refl

other_alternative : object 2 1 4 20 (Tree (star (name 0))) ≡ None
other_alternative = refl

no_alternative : is_some (matched_rule machine 2 2 some_facts 4 20 (Tree (star (name 0)))) ≡ false
no_alternative = refl

no_rule : is_some (matched_rule machine 4 0 some_facts 4 20 (Tree (star (name 0)))) ≡ false
no_rule = refl

-- the object of `*q` has one selector: a state variable takes it at depth 1 and not at 0
at_depth_1 : is_some (object 1 0 1 20 (Tree (call_of (name 6) (star (name 5) ∷ [])))) ≡ true
at_depth_1 = refl

at_depth_0 : is_some (matched_rule machine 1 0 some_facts 0 20 (Tree (call_of (name 6) (star (name 5) ∷ [])))) ≡ false
at_depth_0 = refl

-- the third rule at the end of a function: by its first alternative in this function, in no other, and never by its second
first_at_end : RuleAppliesAtEnd machine 3 0 some_facts 4 20
first_at_end = (_, refl, record { end = refl; conditions = refl })

not_at_other_end : RuleAppliesAtEnd machine 3 0 some_facts 4 19 → ⊥
not_at_other_end (items, given, applies) = cc

second_at_end : RuleAppliesAtEnd machine 3 1 some_facts 4 20 → ⊥
second_at_end (items, given, applies) = cc

-- an alternative without `$end_of_path$` doesn't apply there
pattern_at_end : RuleAppliesAtEnd machine 2 1 some_facts 4 20 → ⊥
pattern_at_end (items, given, applies) = cc
