-- The latest entry of a name stands at the last position of it.
use Rattle.std.proofs.Common.{◌≡◌, ℕ, suc, List, [], ◌∷◌, map, Option, None, Some, cond, nat_eq, Bool, true, false, ap, refl, ◌∙◌, sym, subst, slice_get}
use Rattle.std.specs.Option.{option_map}
use Rattle.type_rules.specs.Options.{or_else}
use Rattle.unit_typing.specs.NumberStack.{last_position}
use Rattle.unit_typing.specs.Entries.{latest_by}

abbrev IsAt : {T : Type 0} → List T → Option T → Option ℕ → Type 0
IsAt {T} ks p None = p ≡ None
IsAt {T} ks p (Some j) = (x : T) × (slice_get ks j ≡ Some x) × (p ≡ Some x)

step : {T : Type 0} (b : Bool) (o : Option ℕ) (p : Option T) (k : T) (ks : List T) → IsAt ks p o
    → IsAt (k ∷ ks) (or_else p (cond b (Some k) None)) (or_else (option_map suc o) (cond b (Some 0) None))
step {T} b (Some j) p k ks h = (h.0, h.1, ap (λ (q : Option T). or_else q (cond b (Some k) None)) h.2)
step {T} true None p k ks h = (k, refl, ap (λ (q : Option T). or_else q (Some k)) h)
step {T} false None p k ks h = ap (λ (q : Option T). or_else q None) h

at : {T : Type 0} (name_of : T → ℕ) (n : ℕ) (ks : List T) → IsAt ks (latest_by name_of n ks) (last_position n (map name_of ks))
unfolding last_position
at {T} name_of n [] = refl
at {T} name_of n (k ∷ ks) = step (nat_eq (name_of k) n) (last_position n (map name_of ks)) (latest_by name_of n ks) k ks (at name_of n ks)

pub latest-none : {T : Type 0} (name_of : T → ℕ) (n : ℕ) (ks : List T) → last_position n (map name_of ks) ≡ None → latest_by name_of n ks ≡ None
latest-none {T} name_of n ks e = subst (λ (o : Option ℕ). IsAt ks (latest_by name_of n ks) o) e (at name_of n ks)

pub latest-some : {T : Type 0} (name_of : T → ℕ) (n j : ℕ) (ks : List T) → last_position n (map name_of ks) ≡ Some j → slice_get ks j ≡ latest_by name_of n ks
latest-some {T} name_of n j ks e = let h = subst (λ (o : Option ℕ). IsAt ks (latest_by name_of n ks) o) e (at name_of n ks) in h.1 ∙ sym h.2
