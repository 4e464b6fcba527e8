-- Last positions in a list that grows and shrinks at its end.
use Rattle.std.proofs.Common.{◌≡◌, ℕ, suc, List, [], ◌∷◌, ◌++◌, length, Option, None, Some, cond, nat_eq, Bool, true, false, ap, refl, ◌∙◌, sym, arith, append_assoc, ◌⊎◌, inl, inr}
use Rattle.std.proofs.lemmas.List.{map-append, length-map}
use Rattle.std.specs.Option.{option_map}
use Rattle.type_rules.specs.Options.{or_else}
use Rattle.unit_typing.specs.declared.number_stack.Link.{Link}
use Rattle.unit_typing.specs.NumberStack.{last_position, numbers_of, IsIndexed}

behind : (b : Bool) (j : ℕ) (o x : Option ℕ) → or_else (option_map suc (cond b (Some j) o)) x ≡ cond b (Some (suc j)) (or_else (option_map suc o) x)
behind true j o x = refl
behind false j o x = refl

-- the last position behind one more number
pub position-push : (n : ℕ) (ks : List ℕ) (k : ℕ) → last_position n (ks ++ (k ∷ [])) ≡ cond (nat_eq k n) (Some (length ks)) (last_position n ks)
unfolding last_position
position-push n [] k = refl
position-push n (x ∷ xs) k =
    ap (λ o. or_else (option_map suc o) (cond (nat_eq x n) (Some 0) None)) (position-push n xs k)
    ∙ behind (nat_eq k n) (length xs) (last_position n xs) (cond (nat_eq x n) (Some 0) None)

numbers-push : (ls : List Link) (l : Link) → numbers_of (ls ++ (l ∷ [])) ≡ numbers_of ls ++ (l.number ∷ [])
numbers-push ls l = map-append (λ k. k.number) ls (l ∷ [])

numbers-length : (ls : List Link) → length (numbers_of ls) ≡ length ls
numbers-length ls = length-map ls (λ k. k.number)

pub none-last : (n : ℕ) → last_position n [] ≡ None
unfolding last_position
none-last n = refl

-- a list with one more at the end, parted at one place
parted : (ls : List Link) (l k : Link) (before after : List Link) → ls ++ (l ∷ []) ≡ before ++ (k ∷ after) → ((rest : List Link) × (ls ≡ before ++ (k ∷ rest))) ⊎ ((before ≡ ls) × (k ≡ l))
parted [] l k [] after e = inr (refl, cc)
parted [] l k (b ∷ []) after e = cc
parted [] l k (b ∷ (d ∷ before)) after e = cc
parted (x ∷ ls) l k [] after e = inl (ls, cc)
parted (x ∷ ls) l k (b ∷ before) after e =
    let t : ls ++ (l ∷ []) ≡ before ++ (k ∷ after) = cc in
    let h : x ≡ b = cc in
    elim (parted ls l k before after t) [ inl r ↦ inl (r.0, let q = r.1 in cc) | inr r ↦ inr (let q = r.0 in cc, r.1) ]

-- the stack with one more number on top
pub indexed-push : (old new : ℕ → Option ℕ) (ls : List Link) (l : Link) (at : ℕ) → IsIndexed old ls → l.before ≡ old l.number → at ≡ length ls
    → ((q : ℕ) → new q ≡ cond (nat_eq l.number q) (Some at) (old q)) → IsIndexed new (ls ++ (l ∷ []))
indexed-push old new ls l at h b e w = record {
  last = λ q.
      w q ∙ ap (cond (nat_eq l.number q) (Some at)) (h.last q)
      ∙ ap (λ j. cond (nat_eq l.number q) (Some j) (last_position q (numbers_of ls))) (e ∙ sym (numbers-length ls))
      ∙ sym (position-push q (numbers_of ls) l.number) ∙ sym (ap (last_position q) (numbers-push ls l));
  linked = λ k before after q. elim (parted ls l k before after q) [ inl r ↦ h.linked k before r.0 r.1 | inr r ↦ (let x = r.0 in let y = r.1 in let z = b ∙ h.last l.number in cc) ];
}

-- the stack without the number on top
pub indexed-pop : (old new : ℕ → Option ℕ) (ls : List Link) (l : Link) → IsIndexed old (ls ++ (l ∷ []))
    → ((q : ℕ) → new q ≡ cond (nat_eq l.number q) l.before (old q)) → IsIndexed new ls
indexed-pop old new ls l h w = record {
  last = λ q. w q ∙ by (nat_eq l.number q) q refl;
  linked = λ k before after e. h.linked k before (after ++ (l ∷ [])) (ap (λ x. x ++ (l ∷ [])) e ∙ append_assoc before (k ∷ after) (l ∷ []));
}
  where
    by : (b : Bool) (q : ℕ) → nat_eq l.number q ≡ b → cond b l.before (old q) ≡ last_position q (numbers_of ls)
    by true q e = let same : l.number ≡ q = grind (arith, e) in h.linked l ls [] refl ∙ ap (λ m. last_position m (numbers_of ls)) same
    by false q e = h.last q ∙ ap (last_position q) (numbers-push ls l) ∙ position-push q (numbers_of ls) l.number ∙ ap (λ b. cond b (Some (length (numbers_of ls))) (last_position q (numbers_of ls))) e

-- the number on top stands in the table
pub indexed-top : (table : ℕ → Option ℕ) (ls : List Link) (l : Link) → IsIndexed table (ls ++ (l ∷ [])) → table l.number ≡ Some (length ls)
indexed-top table ls l h =
    let same : nat_eq l.number l.number ≡ true = grind arith in
    h.last l.number ∙ ap (last_position l.number) (numbers-push ls l) ∙ position-push l.number (numbers_of ls) l.number
    ∙ ap (λ b. cond b (Some (length (numbers_of ls))) (last_position l.number (numbers_of ls))) same ∙ ap Some (numbers-length ls)

-- no numbers
pub indexed-none : (table : ℕ → Option ℕ) (ls : List Link) → ls ≡ [] → ((q : ℕ) → table q ≡ None) → IsIndexed table ls
indexed-none table ls e h = rw e (record { last = λ q. h q ∙ sym (none-last q); linked = λ k before after e. absurd (by k before after e) })
  where
    by : (k : Link) (before after : List Link) → [] ≡ before ++ (k ∷ after) → ⊥
    by k [] after e = cc
    by k (b ∷ before) after e = cc
