-- What is found among the program's entries is what is found among those that they are.
use Rattle.std.proofs.Common.{◌≡◌, ℕ, suc, List, [], ◌∷◌, map, Option, None, Some, cond, nat_eq, ◌&&◌, ◌||◌, Bool, true, false, ap, refl, ◌∙◌, arith}
use Rattle.std.specs.Option.{option_map, is_some}
use Rattle.std.proofs.lemmas.Bool.Decides.{nat_tests}
use Rattle.type_rules.specs.Moves.{given_to}
use Rattle.type_rules.specs.Options.{or_else}
use Rattle.type_rules.specs.Scopes.{Member, latest, latest_tag, member_of, is_among}
use Rattle.unit_typing.specs.declared.members.MemberEntry.{MemberEntry}
use Rattle.unit_typing.specs.declared.names.NameEntry.{NameEntry}
use Rattle.unit_typing.specs.declared.tags.TagEntry.{TagEntry}
use Rattle.unit_typing.specs.Entries.{latest_by}
use Rattle.unit_typing.specs.Members.{first_named, given, given_by}
use Rattle.unit_typing.specs.NumberStack.{last_position}
use Rattle.unit_typing.specs.Views.{name_entry, tag_entry, member_entry}

later : {A B : Type 0} (f : A → B) (b : Bool) (o : Option A) (x : A) → option_map f (or_else o (cond b (Some x) None)) ≡ or_else (option_map f o) (cond b (Some (f x)) None)
later f b (Some y) x = refl
later f true None x = refl
later f false None x = refl

pub latest-seen : (n : ℕ) (ks : List NameEntry) → option_map name_entry (latest_by (λ k. k.name) n ks) ≡ latest n (map name_entry ks)
latest-seen n [] = refl
latest-seen n (k ∷ ks) = later name_entry (nat_eq k.name n) (latest_by (λ k. k.name) n ks) k ∙ ap (λ o. or_else o (cond (nat_eq k.name n) (Some (name_entry k)) None)) (latest-seen n ks)

pub tag-seen : (n : ℕ) (gs : List TagEntry) → option_map tag_entry (latest_by (λ g. g.name) n gs) ≡ latest_tag n (map tag_entry gs)
tag-seen n [] = refl
tag-seen n (g ∷ gs) = later tag_entry (nat_eq g.name n) (latest_by (λ g. g.name) n gs) g ∙ ap (λ o. or_else o (cond (nat_eq g.name n) (Some (tag_entry g)) None)) (tag-seen n gs)

pub member-seen : (o n : ℕ) (ms : List MemberEntry) → option_map member_entry (first_named (o, n) ms) ≡ member_of o n (map member_entry ms)
member-seen o n [] = refl
member-seen o n (m ∷ ms) =
    let a : nat_eq o m.owner ≡ nat_eq m.owner o = grind (arith, nat_tests) in
    let b : nat_eq n m.name ≡ nat_eq m.name n = grind (arith, nat_tests) in
    rw (a, b) (by (nat_eq m.owner o && nat_eq m.name n) (member-seen o n ms))
  where
    by : (b : Bool) → option_map member_entry (first_named (o, n) ms) ≡ member_of o n (map member_entry ms)
        → option_map member_entry (cond b (Some m) (first_named (o, n) ms)) ≡ cond b (Some (member_entry m)) (member_of o n (map member_entry ms))
    by true e = refl
    by false e = e

pub given-seen : (owner n : ℕ) (ms : List MemberEntry) → map member_entry (given_by owner n ms) ≡ given_to owner n (map member_entry ms)
given-seen owner n [] = refl
given-seen owner n (m ∷ ms) = by (nat_eq m.owner n) (given-seen owner n ms)
  where
    by : (b : Bool) → map member_entry (given_by owner n ms) ≡ given_to owner n (map member_entry ms)
        → map member_entry (cond b (given owner m ∷ given_by owner n ms) (given_by owner n ms)) ≡ cond b (member_entry (given owner m) ∷ given_to owner n (map member_entry ms)) (given_to owner n (map member_entry ms))
    by true e = ap (λ (ks : List Member). member_entry (given owner m) ∷ ks) e
    by false e = e

pub among-seen : (n : ℕ) (ks : List ℕ) → is_some (last_position n ks) ≡ is_among n ks
unfolding last_position
among-seen n [] = refl
among-seen n (k ∷ ks) = let a : nat_eq k n ≡ nat_eq n k = grind (arith, nat_tests) in rw a (by (nat_eq n k) (last_position n ks)) ∙ ap (λ b. nat_eq n k || b) (among-seen n ks)
  where
    by : (b : Bool) (o : Option ℕ) → is_some (or_else (option_map suc o) (cond b (Some 0) None)) ≡ b || is_some o
    by true (Some j) = refl
    by false (Some j) = refl
    by true None = refl
    by false None = refl
