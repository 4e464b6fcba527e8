-- The bytes and pieces of messages, one byte after the other.
use Rattle.std.proofs.Common.{◌≡◌, ℕ, suc, ◌+◌, ◌<◌, ◌≤◌, Bool, true, false, cond, not, nat_eq, ◌&&◌, ◌||◌, List, [], ◌∷◌, ◌++◌, length, get_or, drop, map, flat_map, Option, None, Some, ap, refl, ◌∙◌, sym, add-one, drop-cons}
use Rattle.std.proofs.lemmas.List.{drop_all}
use Rattle.metal_grammar.specs.Message.{push, unescaped, behind_backslash}
use Rattle.metal_written.specs.Messages.{is_bad, counts, unescaped_from}
use Rattle.metal_written.proofs.Any.{mapped-drop, mapped-end}

append_none : (xs : List ℕ) → xs ++ [] ≡ xs
append_none [] = refl
append_none (x ∷ xs) = ap (λ ys. x ∷ ys) (append_none xs)

append_three : (xs ys zs : List ℕ) → (xs ++ ys) ++ zs ≡ xs ++ (ys ++ zs)
append_three [] ys zs = refl
append_three (x ∷ xs) ys zs = ap (λ ws. x ∷ ws) (append_three xs ys zs)

-- the contents of one more literal
pub joined-next : {A B : Type 0} (f : B → List ℕ) (view : A → B) (xs : List A) (i : ℕ) (d : A) (bytes pushed whole : List ℕ) → i < length xs
    → pushed ≡ bytes ++ f (view (get_or xs i d)) → bytes ++ flat_map f (map view (drop i xs)) ≡ whole → pushed ++ flat_map f (map view (drop (i + 1) xs)) ≡ whole
joined-next f view xs i d bytes pushed whole h n w =
    ap (λ p. p ++ flat_map f (map view (drop (i + 1) xs))) n
    ∙ append_three bytes (f (view (get_or xs i d))) (flat_map f (map view (drop (i + 1) xs)))
    ∙ sym (ap (λ ys. bytes ++ flat_map f ys) (mapped-drop view xs i d h)) ∙ w

pub joined-end : {A B : Type 0} (f : B → List ℕ) (view : A → B) (xs : List A) (i : ℕ) (bytes whole : List ℕ) → length xs ≤ i → bytes ++ flat_map f (map view (drop i xs)) ≡ whole → bytes ≡ whole
joined-end f view xs i bytes whole h w = sym (append_none bytes) ∙ sym (ap (λ ys. bytes ++ flat_map f ys) (mapped-end view xs i h)) ∙ w

-- these bytes, and those that follow
abbrev pub behind_bytes : List ℕ → Option (List ℕ) → Option (List ℕ)
behind_bytes bytes None = None
behind_bytes bytes (Some more) = Some (bytes ++ more)

pub bytes-start : (o : Option (List ℕ)) → behind_bytes [] o ≡ o
bytes-start None = refl
bytes-start (Some bs) = refl

-- whether it is a backslash before another byte
abbrev pub is_escape : Bool → ℕ → Bool
is_escape behind b = not behind && nat_eq b 92

pushed-one : (bytes : List ℕ) (b : ℕ) (o : Option (List ℕ)) → behind_bytes bytes (push b o) ≡ behind_bytes (bytes ++ (b ∷ [])) o
pushed-one bytes b None = refl
pushed-one bytes b (Some bs) = ap Some (sym (append_three bytes (b ∷ []) bs))

one-byte : (behind : Bool) (b : ℕ) (rest bytes : List ℕ) → is_bad behind b ≡ false
    → behind_bytes bytes (unescaped_from behind (b ∷ rest)) ≡ behind_bytes (cond (counts behind b) (bytes ++ (b ∷ [])) bytes) (unescaped_from (is_escape behind b) rest)
one-byte true b rest bytes h = by (nat_eq b 92) (nat_eq b 34) h
  where
    by : (x y : Bool) → (true && not x && not y) ≡ false
        → behind_bytes bytes (cond (x || y) (push b (unescaped rest)) None) ≡ behind_bytes (bytes ++ (b ∷ [])) (unescaped rest)
    by true y e = pushed-one bytes b (unescaped rest)
    by false true e = pushed-one bytes b (unescaped rest)
    by false false e = cc
one-byte false b rest bytes h = by (nat_eq b 92)
  where
    by : (x : Bool) → behind_bytes bytes (cond x (behind_backslash rest) (push b (unescaped rest))) ≡ behind_bytes (cond (false || not x) (bytes ++ (b ∷ [])) bytes) (unescaped_from (not false && x) rest)
    by true = refl
    by false = pushed-one bytes b (unescaped rest)

pub byte-next : (behind : Bool) (text : List ℕ) (i d : ℕ) (bytes pushed : List ℕ) (whole : Option (List ℕ)) → i < length text → is_bad behind (get_or text i d) ≡ false
    → pushed ≡ cond (counts behind (get_or text i d)) (bytes ++ (get_or text i d ∷ [])) bytes
    → behind_bytes bytes (unescaped_from behind (drop i text)) ≡ whole → behind_bytes pushed (unescaped_from (is_escape behind (get_or text i d)) (drop (i + 1) text)) ≡ whole
byte-next behind text i d bytes pushed whole h g n w =
    ap (λ p. behind_bytes p (unescaped_from (is_escape behind (get_or text i d)) (drop (i + 1) text))) n
    ∙ ap (λ j. behind_bytes (cond (counts behind (get_or text i d)) (bytes ++ (get_or text i d ∷ [])) bytes) (unescaped_from (is_escape behind (get_or text i d)) (drop j text))) (add-one i)
    ∙ sym (ap (λ xs. behind_bytes bytes (unescaped_from behind xs)) (drop-cons text i d h) ∙ one-byte behind (get_or text i d) (drop (suc i) text) bytes g) ∙ w

pub byte-bad : (behind : Bool) (text : List ℕ) (i d : ℕ) (bytes : List ℕ) (whole : Option (List ℕ)) → i < length text → is_bad behind (get_or text i d) ≡ true
    → behind_bytes bytes (unescaped_from behind (drop i text)) ≡ whole → whole ≡ None
byte-bad behind text i d bytes whole h g w =
    sym w ∙ ap (λ xs. behind_bytes bytes (unescaped_from behind xs)) (drop-cons text i d h) ∙ by behind (nat_eq (get_or text i d) 92) (nat_eq (get_or text i d) 34) refl refl g
  where
    by : (c x y : Bool) → x ≡ nat_eq (get_or text i d) 92 → y ≡ nat_eq (get_or text i d) 34 → (c && not x && not y) ≡ true → behind_bytes bytes (unescaped_from c (get_or text i d ∷ drop (suc i) text)) ≡ None
    by false x y e f k = cc
    by true true y e f k = cc
    by true false true e f k = cc
    by true false false e f k = rw (← e, ← f) refl

pub bytes-end : (behind : Bool) (text : List ℕ) (i : ℕ) (bytes : List ℕ) (whole : Option (List ℕ)) → length text ≤ i
    → behind_bytes bytes (unescaped_from behind (drop i text)) ≡ whole → whole ≡ cond behind None (Some bytes)
bytes-end behind text i bytes whole h w = sym w ∙ ap (λ xs. behind_bytes bytes (unescaped_from behind xs)) (drop_all i text h) ∙ by behind
  where
    by : (c : Bool) → behind_bytes bytes (unescaped_from c []) ≡ cond c None (Some bytes)
    by true = refl
    by false = ap Some (append_none bytes)
