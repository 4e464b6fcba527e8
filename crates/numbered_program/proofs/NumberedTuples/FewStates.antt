-- Rules name few states of objects, and each of them once gives fewer.
use Rattle.std.proofs.Common.{◌≡◌, ℕ, ◌+◌, ◌*◌, ◌≤◌, ◌<◌, List, [], ◌∷◌, ◌++◌, Contains, length, get_or, take, map, Bool, true, false, ◌&&◌, nat_eq, arith, sym, ap, subst, ◌∙◌, if◌then◌else◌}
use Rattle.std.specs.List.{list_any}
use Rattle.std.proofs.lemmas.Bool.{eqb-true}
use Rattle.std.proofs.lemmas.Bool.Decides.{nat_tests}
use Rattle.std.proofs.lemmas.List.{length-append, take_more}
use Rattle.std.proofs.lemmas.List.Elements.{Contains-append_left, Contains-push, Contains-push_cases}
use Rattle.indexmap.specs.IndexSet.{insert_key}
use Rattle.least_set.specs.Logs.{Adds}
use Rattle.least_set.specs.Ways.Same.{same_pair}
use Rattle.least_set.proofs.Growing.{adds_one, adds_both}
use Rattle.metal_tree.specs.MetalMachines.Machine.{Source, FromGlobal, FromObject, Target, ToGlobal, ToObject, ToUnknown, Dest, Always, ByTruth, Rule}
use Rattle.numbered_program.specs.NumberedTuples.ObjectStates.{state_of_source, state_of_target, states_of_dest, states_of_rule, states_of_rules}
use Rattle.path_model.specs.CheckerModel.Choices.{State}
use Rattle.state_tuples.specs.Ways.Equality.{states_agree}

few_together : {A : Type 0} (xs ys : List A) (n m : ℕ) → length xs ≤ n → length ys ≤ m → length (xs ++ ys) ≤ n + m
few_together xs ys n m h k = omega (arith, h, k, length-append xs ys)

few_of_source : (s : Source) → length (state_of_source s) ≤ 1
few_of_source (FromGlobal q) = let h : 0 ≤ 1 = omega arith in h
few_of_source (FromObject v q) = let h : 1 ≤ 1 = omega arith in h

few_of_target : (t : Target) → length (state_of_target t) ≤ 1
few_of_target (ToGlobal q) = let h : 0 ≤ 1 = omega arith in h
few_of_target (ToObject v q) = let h : 1 ≤ 1 = omega arith in h
few_of_target (ToUnknown v) = let h : 0 ≤ 1 = omega arith in h

few_of_dest : (d : Dest) → length (states_of_dest d) ≤ 2
few_of_dest (Always t) = let h : length (state_of_target t) ≤ 1 = few_of_target t in let k : length (state_of_target t) ≤ 2 = omega (arith, h) in k
few_of_dest (ByTruth on_true on_false) = few_together (state_of_target on_true) (state_of_target on_false) 1 1 (few_of_target on_true) (few_of_target on_false)

few_of_rule : (r : Rule) → length (states_of_rule r) ≤ 3
few_of_rule r = few_together (state_of_source r.source) (states_of_dest r.dest) 1 2 (few_of_source r.source) (few_of_dest r.dest)

-- a rule names three at most
pub few_states : (rules : List Rule) → length (states_of_rules rules) ≤ 3 * length rules
few_states [] = let h : 0 ≤ 0 = omega arith in h
few_states (r ∷ rules) =
    let h : length (states_of_rules (r ∷ rules)) ≤ 3 + 3 * length rules = few_together (states_of_rule r) (states_of_rules rules) 3 (3 * length rules) (few_of_rule r) (few_states rules) in
    omega (arith, h)

module _ {A : Type 0} (eq : A → A → Bool) where
  length-insert : (ks : List A) (x : A) → length (insert_key eq ks x) ≤ length ks + 1
  length-insert ks x = by (list_any (eq x) ks)
    where
      by : (b : Bool) → length (if b then ks else ks ++ x ∷ []) ≤ length ks + 1
      by true = let h : length ks ≤ length ks + 1 = omega arith in h
      by false = let h : length (ks ++ x ∷ []) ≤ length ks + 1 = omega (arith, length-append ks (x ∷ [])) in h

  -- one more of a list was added to a set
  pub distinct_more : ((x y : A) → eq x y ≡ true → x ≡ y) → (xs : List A) (i : ℕ) (d : A) (old new : List A) → i < length xs → Adds (Contains (take i xs)) [] old
      → new ≡ insert_key eq old (get_or xs i d) → Adds (Contains (take (i + 1) xs)) [] new
  distinct_more same xs i d old new h a e =
      let x = get_or xs i d in
      subst (Adds (Contains (take (i + 1) xs)) []) (sym e)
      (adds_both a (adds_one eq same old x)
      (λ y w. Contains-push_cases (take i xs) x y (subst (λ l. Contains l y) (take_more xs i d h) w))
      (λ y w. subst (λ l. Contains l y) (sym (take_more xs i d h)) (Contains-append_left (take i xs) (x ∷ []) y w))
      (λ y w. subst (λ l. Contains l y) (sym (take_more xs i d h)) (subst (Contains (take i xs ++ x ∷ [])) w (Contains-push (take i xs) x))))

  pub fewer_more : (i : ℕ) (x : A) (old new : List A) → length old ≤ i → new ≡ insert_key eq old x → length new ≤ i + 1
  fewer_more i x old new h e = omega (arith, ap length e, length-insert old x)

-- ---- states as keys

pub same_state : (x y : State) → states_agree x y ≡ true → x ≡ y
same_state x y h = same_pair nat_eq nat_eq eqb-true eqb-true x y h

itself : (n : ℕ) → nat_eq n n ≡ true
itself n = grind (arith, nat_tests)

pub state_itself : (x : State) → states_agree x x ≡ true
state_itself x = λ i. itself x.0 i && itself x.1 i
