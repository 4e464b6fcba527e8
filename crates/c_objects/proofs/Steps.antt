-- Steps behind objects, and what depth does to them.
use Rattle.std.proofs.Common.{arith, ◌≡◌, ℕ, ◌≤◌, ◌<◌, List, [], ◌∷◌, ◌++◌, length, Bool, true, false, Option, None, Some, refl, ◌∙◌, sym, ap, nat_le, cond}
use Rattle.c_objects.specs.Objects.{Selector, Deref, Field, At, AtVar, Object, path, up_to}
use Rattle.c_objects.specs.Paths.{joined, append}
use Rattle.type_rules.specs.Options.{◌>?◌}
use Rattle.type_rules.specs.Vars.{CVar}

pub bind-bind : {A B C : Type 0} (o : Option A) (f : A → Option B) (g : B → Option C) → ((o >? f) >? g) ≡ (o >? λ x. f x >? g)
bind-bind None f g = refl
bind-bind (Some x) f g = refl

pub bind-same : {A B : Type 0} (o : Option A) (f g : A → Option B) → ((x : A) → f x ≡ g x) → (o >? f) ≡ (o >? g)
bind-same None f g h = refl
bind-same (Some x) f g h = h x

pub in-row : (ss r s : List Selector) → ((ss ++ r) ++ s) ≡ (ss ++ (r ++ s))
in-row [] r s = refl
in-row (t ∷ ss) r s = ap (λ l. t ∷ l) (in-row ss r s)

pub longer : (ss r : List Selector) → length ss ≤ length (ss ++ r)
longer [] r = grind arith
longer (t ∷ ss) r = let h = longer ss r in grind arith

joined-by : (b : Bool) (v : CVar) (ss r s : List Selector) → (joined (record { address = b; base = v; selectors = ss }) r >? λ q. joined q s) ≡ joined (record { address = b; base = v; selectors = ss }) (r ++ s)
joined-by false v ss r s = ap (λ l. Some (path v l)) (in-row ss r s)
joined-by true v ss [] s = refl
joined-by true v ss (Deref ∷ r) s = ap (λ l. Some (path v l)) (in-row ss r s)
joined-by true v ss (Field f ∷ r) s = refl
joined-by true v ss (At n ∷ r) s = refl
joined-by true v ss (AtVar i ∷ r) s = refl

pub joined-joined : (o : Object) (r s : List Selector) → (joined o r >? λ q. joined q s) ≡ joined o (r ++ s)
joined-joined o r s = joined-by o.address o.base o.selectors r s

some-joined : (q t : Object) → Some q ≡ Some t → length q.selectors ≤ length t.selectors
some-joined q t h = grind arith

grows-by : (b : Bool) (v : CVar) (ss r : List Selector) (t : Object) → joined (record { address = b; base = v; selectors = ss }) r ≡ Some t → length ss ≤ length t.selectors
grows-by false v ss r t h = let l = longer ss r in grind arith
grows-by true v ss [] t h = grind arith
grows-by true v ss (Deref ∷ r) t h = let l = longer ss r in grind arith
grows-by true v ss (Field f ∷ r) t h = cc
grows-by true v ss (At n ∷ r) t h = cc
grows-by true v ss (AtVar i ∷ r) t h = cc

-- steps never shorten
pub grows : (o : Object) (r : List Selector) (t : Object) → joined o r ≡ Some t → length o.selectors ≤ length t.selectors
grows o r t h = grows-by o.address o.base o.selectors r t h

pub short-up_to : (depth : ℕ) (o : Object) → length o.selectors ≤ depth → up_to depth o ≡ Some o
short-up_to depth o h = let e : nat_le (length o.selectors) depth ≡ true = grind arith in ap (λ b. cond b (Some o) None) e

pub long-up_to : (depth : ℕ) (o : Object) → depth < length o.selectors → up_to depth o ≡ None
long-up_to depth o h = let e : nat_le (length o.selectors) depth ≡ false = grind arith in ap (λ b. cond b (Some o) None) e

-- it is short or long
short-or-long : {P : Type 0} (n depth : ℕ) (b : Bool) → nat_le n depth ≡ b → (n ≤ depth → P) → (depth < n → P) → P
short-or-long n depth true e s l = s (grind arith)
short-or-long n depth false e s l = l (grind arith)

pub by-length : {P : Type 0} (depth : ℕ) (o : Object) → (length o.selectors ≤ depth → P) → (depth < length o.selectors → P) → P
by-length depth o s l = short-or-long (length o.selectors) depth (nat_le (length o.selectors) depth) refl s l

too-long : (depth : ℕ) (o : Object) (r : List Selector) (j : Option Object) → joined o r ≡ j → depth < length o.selectors → (j >? up_to depth) ≡ None
too-long depth o r None e h = refl
too-long depth o r (Some t) e h = let g = grows o r t e in long-up_to depth t (grind arith)

-- what is too long already has no steps behind it
pub cut-first : (depth : ℕ) (o : Object) (r : List Selector) → (up_to depth o >? λ q. append depth q r) ≡ append depth o r
cut-first depth o r = by-length depth o
    (λ h. ap (λ x. x >? λ q. append depth q r) (short-up_to depth o h))
    (λ h. ap (λ x. x >? λ q. append depth q r) (long-up_to depth o h) ∙ sym (too-long depth o r (joined o r) refl h))

pub append-append : (depth : ℕ) (o : Object) (r s : List Selector) → (append depth o r >? λ q. append depth q s) ≡ append depth o (r ++ s)
append-append depth o r s =
    bind-bind (joined o r) (up_to depth) (λ q. append depth q s)
    ∙ bind-same (joined o r) (λ q. up_to depth q >? λ x. append depth x s) (λ q. append depth q s) (λ q. cut-first depth q s)
    ∙ sym (bind-bind (joined o r) (λ q. joined q s) (up_to depth))
    ∙ ap (λ x. x >? up_to depth) (joined-joined o r s)

-- the smaller depth decides
pub cut-twice : (depth more : ℕ) (o : Object) → depth ≤ more → (up_to more o >? up_to depth) ≡ up_to depth o
cut-twice depth more o m = by-length depth o
    (λ h. ap (λ x. x >? up_to depth) (short-up_to more o (grind arith)))
    (λ h. by-length more o
    (λ k. ap (λ x. x >? up_to depth) (short-up_to more o k))
    (λ k. ap (λ x. x >? up_to depth) (long-up_to more o k) ∙ sym (long-up_to depth o h)))

pub append-cut : (depth more : ℕ) (o : Object) (r : List Selector) → depth ≤ more → (append more o r >? up_to depth) ≡ append depth o r
append-cut depth more o r m =
    bind-bind (joined o r) (up_to more) (up_to depth)
    ∙ bind-same (joined o r) (λ q. up_to more q >? up_to depth) (up_to depth) (λ q. cut-twice depth more q m)
