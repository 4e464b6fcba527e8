-- What a mask does to the state of one object, said of options and tests alone.
-- All here are by cases, and no model stands in them.
use Rattle.std.proofs.Common.{◌≡◌, Bool, true, false, not, cond, IsTrue, Option, Some, None, refl, sym, ◌∙◌, ap, option_and_then, true≢false}
use Rattle.path_theory.specs.Origins.{handed}
use Rattle.masked_paths.specs.Masked.{alike, within}

-- what is within the mask is there without it, on the same side
cond_some : {O : Type 0} (l x y : Bool) (b c : O) → cond (alike l x y) (Some b) None ≡ Some c → (b ≡ c) × (x ≡ y)
cond_some l true true b c d = (cc, refl)
cond_some l true false b c d = cc
cond_some true false true b c d = cc
cond_some false false true b c d = cc
cond_some true false false b c d = (cc, refl)
cond_some false false false b c d = cc

pub within_some : {O : Type 0} (l x : Bool) (a : O → Bool) (z : Option O) (b : O) → within l x a z ≡ Some b
    → (z ≡ Some b) × (x ≡ a b)
within_some l x a None b d = cc
within_some l x a (Some c) b d = let w = cond_some l x (a c) c b d in (ap Some w.0, w.1 ∙ ap a w.0)

-- where only what is followed may have a state, it is
pub within_strict : {O : Type 0} (l x : Bool) (a : O → Bool) (z : Option O) (b : O) → within l x a z ≡ Some b
    → l ≡ false → x ≡ true
within_strict l true a z b d e = refl
within_strict l false a None b d e = cc
within_strict l false a (Some c) b d e = none_some (sym (ap (λ k. cond (cond k (not (a c)) false) (Some c) None) e) ∙ d)
  where
    none_some : None ≡ Some b → false ≡ true
    none_some i = cc

-- and what is there on the same side is within
pub within_kept : {O : Type 0} (l x : Bool) (a : O → Bool) (z : Option O) (b : O) → z ≡ Some b → x ≡ a b
    → alike l x x ≡ true → within l x a z ≡ Some b
within_kept l x a z b d e i =
    ap (within l x a) d ∙ ap (λ y. cond (alike l x y) (Some b) None) (sym e) ∙ ap (λ y. cond y (Some b) None) i

pub alike_followed : (l x : Bool) → x ≡ true → alike l x x ≡ true
alike_followed l x d = ap (λ y. alike l y y) d

pub alike_loose : (l x : Bool) → l ≡ true → alike l x x ≡ true
alike_loose l true d = refl
alike_loose l false d = ap (λ y. cond y true false) d ∙ refl

pub within_none : {O : Type 0} (l x : Bool) (a : O → Bool) (z : Option O) → z ≡ None → within l x a z ≡ None
within_none l x a z d = ap (within l x a) d

-- where an object is followed, and so is that from which it has its state, nothing is masked
pub within_all : {O : Type 0} (l x : Bool) (a : O → Bool) (z : Option O) → x ≡ true → ((b : O) → z ≡ Some b → a b ≡ true)
    → within l x a z ≡ z
within_all l x a None i h = refl
within_all l x a (Some b) i h = within_kept l x a (Some b) b refl (i ∙ sym (h b refl)) (alike_followed l x i)

-- nothing is known of what nothing can be known of
pub unknown : {S : Type 0} (z : Option S) (t : Bool) → ((y : S) → z ≡ Some y → IsTrue t) → t ≡ false → z ≡ None
unknown None t h d = refl
unknown (Some y) t h d = absurd (true≢false (sym (h y refl) ∙ d))

module _ {O S : Type 0} (l : Bool) (a : O → Bool) (m n : O → Option S) (same : (o : O) → n o ≡ m o)
    (known : (o : O) (x : S) → m o ≡ Some x → IsTrue (a o)) where
  -- two maps that agree, of which nothing is known outside the mask, at an object that is followed
  from_one : (t : Bool) (b : O) → a b ≡ t → option_and_then n (cond t (Some b) None) ≡ m b
  from_one true b d = same b
  from_one false b d = sym (unknown (m b) (a b) (known b) d)

  pub from_within : (t : Bool) (z : Option O) → t ≡ true → option_and_then n (within l t a z) ≡ option_and_then m z
  from_within t None d = refl
  from_within t (Some b) d = ap (λ x. option_and_then n (cond (alike l x (a b)) (Some b) None)) d ∙ from_one (a b) b refl

  -- and at one that isn't
  from_other : (k t : Bool) (b : O) → a b ≡ t → option_and_then n (cond (cond k (not t) false) (Some b) None) ≡ None
  from_other true true b d = refl
  from_other true false b d = same b ∙ unknown (m b) (a b) (known b) d
  from_other false t b d = refl

  pub from_without : (t : Bool) (z : Option O) → t ≡ false → option_and_then n (within l t a z) ≡ None
  from_without t None d = refl
  from_without t (Some b) d = ap (λ x. option_and_then n (cond (alike l x (a b)) (Some b) None)) d ∙ from_other l (a b) b refl

  -- so the state before a choice is the same, or there is none and the choice is left out
  pub same_choice : (t : Bool) (z : Option O) (v : Option S) (f : Option S → Option S) → v ≡ option_and_then m z
      → ((x : S) → f v ≡ Some x → IsTrue t)
      → cond t (f (option_and_then n (within l t a z))) (option_and_then n (within l t a z)) ≡ f v
  same_choice true z v f d h = ap f (from_within true z refl ∙ sym d)
  same_choice false z v f d h = from_without false z refl ∙ sym (unknown (f v) false h refl)

  pub same_passed : (t : Bool) (z : Option O) (v : Option S) → v ≡ option_and_then m z
      → ((x : S) → v ≡ Some x → IsTrue t) → option_and_then n (within l t a z) ≡ v
  same_passed true z v d h = from_within true z refl ∙ sym d
  same_passed false z v d h = from_without false z refl ∙ sym (unknown v false h refl)

  -- behind a call: x and y are the states of the object at the call, with the mask and without it
  back_one : (t : Bool) (c : O) (x : Option S) → IsTrue t → handed (cond t (Some c) None) n x ≡ m c
  back_one true c x i = same c
  back_one false c x i = absurd (true≢false (sym i))

  back_other : (k t : Bool) (c : O) (x : Option S) → a c ≡ t → x ≡ None
      → handed (cond (cond k (not t) false) (Some c) None) n x ≡ None
  back_other true true c x d e = e
  back_other true false c x d e = same c ∙ unknown (m c) (a c) (known c) d
  back_other false t c x d e = e

  pub same_back : (t : Bool) (z : Option O) (x y v : Option S) → v ≡ handed z m y → x ≡ y
      → ((s : S) → y ≡ Some s → IsTrue t) → ((s : S) → v ≡ Some s → IsTrue t)
      → ((c : O) → z ≡ Some c → IsTrue t → IsTrue (a c)) → handed (within l t a z) n x ≡ v
  same_back t None x y v d e i j h = e ∙ sym d
  same_back true (Some c) x y v d e i j h = back_one (a c) c x (h c refl refl) ∙ sym d
  same_back false (Some c) x y v d e i j h =
      back_other l (a c) c x refl (e ∙ unknown y false i refl) ∙ sym (unknown v false j refl)
