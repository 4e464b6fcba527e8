-- NUMBERS OF OBJECTS: those that are followed have one.
use Rattle.std.proofs.Common.{◌≡◌, ◌∙◌, refl, sym, ap, ℕ, ◌+◌, ◌<◌, Bool, true, false, not, cond, List, Option, None, Some, arith}
use Rattle.std.specs.Option.{option_map}
use Rattle.std.specs.Prelude.{◌↔◌, is_none, is_some}
use Rattle.block_flows.proofs.TupleFlows.Followed.{in-contains}
use Rattle.block_flows.specs.TupleFlows.Facts.{is_in}
use Rattle.c_objects.specs.Objects.{Object}
use Rattle.least_set.proofs.Growing.{place_of}
use Rattle.least_set.specs.Logs.{IsOnce}
use Rattle.masked_paths.specs.StrictFlows.Among.{if_followed, of_followed}
use Rattle.numbered_program.proofs.NumberedTuples.Numbers.{item_at, no_number, number_exact}
use Rattle.numbered_program.specs.NumberedTuples.FollowedObjects.{number_of}
use Rattle.objects.specs.Equality.{same_object, same_object-refl, same_object-true}
use Rattle.row_flows.specs.Numbers.{item_numbered}
use Rattle.type_rules.specs.Options.{if_there}

module _ (objects : List Object) where
  -- the number that an object of the list has
  pub has_number : (o : Object) → is_in objects o ≡ true → (n : ℕ) × (0 < n) × (item_numbered objects n ≡ Some o)
  has_number o h =
      let p = place_of objects o (in-contains objects o h) in
      (p.0 + 1, omega arith, item_at objects (p.0 + 1) p.0 refl ∙ p.2)

  -- its number has it
  pub number_there : IsOnce objects → (o : Object) → is_in objects o ≡ true → item_numbered objects (number_of objects o) ≡ Some o
  number_there once o h =
      let n = has_number o h in
      ap (item_numbered objects) ((number_exact same_object same_object-true same_object-refl objects n.0 o once n.1).1 n.2) ∙ n.2

  -- ---- the number of an object, if it is followed

  abbrev if_any : Object → Bool → Option ℕ
  if_any o b = cond b (Some (number_of objects o)) None

  pub none_followed : (o : Object) (n : ℕ) → ((k : ℕ) → 0 < k → (n ≡ k) ↔ (item_numbered objects k ≡ Some o)) → n ≡ 0 → None ≡ cond (is_in objects o) (Some (number_of objects o)) None
  none_followed o n exact e = by (is_in objects o) refl
    where
      by : (b : Bool) → is_in objects o ≡ b → None ≡ if_any o b
      by false h = refl
      by true h = let k = has_number o h in absurd (omega (arith, e, k.1, (exact k.0 k.1).1 k.2))

  pub some_followed : (o : Object) (n : ℕ) → n ≡ number_of objects o → (n ≡ 0 → ⊥) → Some n ≡ cond (is_in objects o) (Some (number_of objects o)) None
  some_followed o n e some = by (is_in objects o) refl
    where
      by : (b : Bool) → is_in objects o ≡ b → Some n ≡ if_any o b
      by true h = ap Some e
      by false h = absurd (some (e ∙ no_number same_object objects o h))

  -- of one that there is
  pub handing_some : (z : Option Object) (o : Object) → z ≡ Some o → cond (is_in objects o) (Some (number_of objects o)) None ≡ option_map (number_of objects) (if_followed (is_in objects) z)
  handing_some z o e = by (is_in objects o) ∙ ap (λ w. option_map (number_of objects) (if_followed (is_in objects) w)) (sym e)
    where
      by : (b : Bool) → if_any o b ≡ option_map (number_of objects) (cond b (Some o) None)
      by true = refl
      by false = refl

  pub handing_none : (z : Option Object) → z ≡ None → None ≡ option_map (number_of objects) (if_followed (is_in objects) z)
  handing_none z e = ap (λ w. option_map (number_of objects) (if_followed (is_in objects) w)) (sym e)

  -- ---- of one that is followed in the other function

  pub source_followed : (own : Bool) (z : Option Object) → own ≡ true → if_there z 0 (number_of objects) ≡ if_there (of_followed own (if_followed (is_in objects) z)) 0 (number_of objects)
  source_followed own z h = by z ∙ ap (λ b. if_there (of_followed b (if_followed (is_in objects) z)) 0 (number_of objects)) (sym h)
    where
      there : (o : Object) (b : Bool) → is_in objects o ≡ b → number_of objects o ≡ if_there (cond b (Some o) None) 0 (number_of objects)
      there o true e = refl
      there o false e = no_number same_object objects o e

      by : (z : Option Object) → if_there z 0 (number_of objects) ≡ if_there (if_followed (is_in objects) z) 0 (number_of objects)
      by None = refl
      by (Some o) = there o (is_in objects o) refl

-- a test for what is mapped
module _ {A B : Type 0} (f : A → B) where
  pub none_mapped : (z : Option A) (r : Option B) (b : Bool) → r ≡ option_map f z → is_some r ≡ not b → b ≡ is_none z
  none_mapped z r b e h = by z b (sym (ap is_some e) ∙ h)
    where
      by : (z : Option A) (b : Bool) → is_some (option_map f z) ≡ not b → b ≡ is_none z
      by None true k = refl
      by None false k = k
      by (Some x) true k = k
      by (Some x) false k = refl
