-- The way back from `rebase`: the object that is found for another becomes it, and no other does.
use Rattle.std.proofs.Common.{◌≡◌, ◌↔◌, ℕ, ◌≤◌, List, [], ◌∷◌, ◌++◌, length, Bool, true, false, Option, None, Some, refl, ◌∙◌, sym, ap, subst, cond, not, ◌&&◌, ◌||◌}
use Rattle.std.proofs.lemmas.List.{append-nil}
use Rattle.c_objects.specs.Objects.{Selector, Deref, Field, At, AtVar, Object, IsObject, path, address_of, up_to, same_var, ends_in_star}
use Rattle.c_objects.specs.Paths.{append, addressed, behind, rest, has_access, rebased_address, rebase}
use Rattle.c_objects.proofs.Begins.{behind-some, rest-itself}
use Rattle.c_objects.proofs.Steps.{short-up_to, long-up_to, by-length}
use Rattle.c_objects.proofs.Vars.{same_var-true}
use Rattle.type_rules.specs.Options.{◌>?◌, if_there}
use Rattle.type_rules.specs.Vars.{CVar}
use Rattle.c_objects.specs.Replaced.{pointed, replaced}
use Rattle.c_objects.proofs.Cuts.{address-cut}

-- THE SAME by the steps to the object, whatever its depth
-- The steps behind the path by which what is put there comes to an object: `&P` comes to what goes on behind `P` by `*` first.
abbrev steps_to : Object → Object → Option (List Selector)
steps_to a o = rest o (path a.base a.selectors) >? λ r. Some (cond a.address (Deref ∷ r) r)

-- the path with these steps behind it, or its address, which is taken of what lies behind `*` or an index
abbrev behind_path : Object → Bool → List Selector → Option Object
behind_path l false r = Some (path l.base (l.selectors ++ r))
behind_path l true r = cond (has_access r && not (ends_in_star (l.selectors ++ r))) (Some (address_of l.base (l.selectors ++ r))) None

abbrev is_whole : List Selector → Bool
is_whole [] = true
is_whole _ = false

-- what is put there is the address `&P` and the object too
abbrev is_itself : Object → Object → Bool
is_itself a o = a.address && o.address && if_there (rest o (path a.base a.selectors)) false is_whole

abbrev found : Object → Object → Object → Option Object
found l a o = cond (is_itself a o) (Some (path l.base l.selectors)) (steps_to a o >? behind_path l o.address)

abbrev pub object : Bool → CVar → List Selector → Object
object b v ss = record { address = b; base = v; selectors = ss }

pub rest-some : (o : Object) (base : CVar) (ps r : List Selector) → rest o (path base ps) ≡ Some r → (base ≡ o.base) × (o.selectors ≡ (ps ++ r))
rest-some o base ps r h = by (same_var base o.base) refl h
  where
    by : (b : Bool) → same_var base o.base ≡ b → cond b (behind ps o.selectors) None ≡ Some r → (base ≡ o.base) × (o.selectors ≡ (ps ++ r))
    by true e k = (same_var-true base o.base e, behind-some ps o.selectors r k)
    by false e k = cc

-- an object behind a path is the path with the steps
pub rest-is : (o : Object) (base : CVar) (ps r : List Selector) → rest o (path base ps) ≡ Some r → o ≡ object o.address base (ps ++ r)
rest-is o base ps r h = let same = rest-some o base ps r h in ap (λ v. object o.address v o.selectors) (sym same.0) ∙ ap (object o.address base) same.1

star-last : (ps : List Selector) → ends_in_star (ps ++ (Deref ∷ [])) ≡ true
star-last [] = refl
star-last (Deref ∷ []) = refl
star-last (Field f ∷ []) = refl
star-last (At n ∷ []) = refl
star-last (AtVar i ∷ []) = refl
star-last (Deref ∷ p ∷ ps) = star-last (p ∷ ps)
star-last (Field f ∷ p ∷ ps) = star-last (p ∷ ps)
star-last (At n ∷ p ∷ ps) = star-last (p ∷ ps)
star-last (AtVar i ∷ p ∷ ps) = star-last (p ∷ ps)

-- what comes through a test of length is short, and what stands before it
pub kept : (depth : ℕ) (q o : Object) → up_to depth q ≡ Some o → (q ≡ o) × (length o.selectors ≤ depth)
kept depth q o h = by-length depth q (λ short. by short (sym (short-up_to depth q short) ∙ h)) (λ long. no (sym (long-up_to depth q long) ∙ h))
  where
    by : length q.selectors ≤ depth → Some q ≡ Some o → (q ≡ o) × (length o.selectors ≤ depth)
    by short e = let same : q ≡ o = cc in (same, subst (λ z. length z.selectors ≤ depth) same short)

    no : None ≡ Some o → (q ≡ o) × (length o.selectors ≤ depth)
    no e = cc

-- over a path, by its variable and its steps
module _ (depth : ℕ) (x : CVar) (ls : List Selector) where
  abbrev target : Object
  target = path x ls

  -- what becomes of an object behind the path
  abbrev becomes : Bool → List Selector → Object → Option Object
  becomes b r a = cond b (rebased_address depth a r) (append depth a r)

  rebase-behind : (b : Bool) (r : List Selector) (a : Object) → rebase depth (object b x (ls ++ r)) target a ≡ becomes b r a
  rebase-behind b r a = ap (λ k. k >? λ s. cond b (rebased_address depth a s) (append depth a s)) (rest-itself x ls r b)

  appended : (v : CVar) (ps r : List Selector) → length (ps ++ r) ≤ depth → append depth (object false v ps) r ≡ Some (path v (ps ++ r))
  appended v ps r h = short-up_to depth (path v (ps ++ r)) h

  starred : (v : CVar) (ps r : List Selector) → length (ps ++ r) ≤ depth → append depth (object true v ps) (Deref ∷ r) ≡ Some (path v (ps ++ r))
  starred v ps r h = short-up_to depth (path v (ps ++ r)) h

  itself : (v : CVar) (ps : List Selector) → length ps ≤ depth → append depth (object true v ps) [] ≡ Some (object true v ps)
  itself v ps h = short-up_to depth (object true v ps) h

  -- the address of what stands behind by way of `*` or an index
  addressed-of : (a : Object) (v : CVar) (r ss : List Selector) → has_access r ≡ true → append depth a r ≡ Some (path v ss) → ends_in_star ss ≡ false → rebased_address depth a r ≡ Some (address_of v ss)
  addressed-of a v r ss h e n =
      ap (λ b. cond b (append depth a r >? addressed) None) h ∙ ap (λ q. q >? addressed) e ∙ ap (λ b. cond b None (Some (address_of v ss))) n

  pub record Becomes (a o c : Object) : Type 0 where
    pub object : IsObject depth c
    pub same : rebase depth c target a ≡ Some o

  -- an address behind a path goes by way of `*` or an index, and is one
  address-behind : (r : List Selector) (c : Object) → behind_path target true r ≡ Some c → (has_access r ≡ true) × (ends_in_star (ls ++ r) ≡ false) × (Some (address_of x (ls ++ r)) ≡ Some c)
  address-behind r c h = by (has_access r) (ends_in_star (ls ++ r)) refl refl h
    where
      by : (b d : Bool) → has_access r ≡ b → ends_in_star (ls ++ r) ≡ d → cond (b && not d) (Some (address_of x (ls ++ r))) None ≡ Some c → (has_access r ≡ true) × (ends_in_star (ls ++ r) ≡ false) × (Some (address_of x (ls ++ r)) ≡ Some c)
      by true false e f k = (e, f, k)
      by true true e f k = cc
      by false d e f k = cc

  gives : (a o : Object) (b : Bool) (r : List Selector) (c d : Object) → Some (object b x (ls ++ r)) ≡ Some c → up_to depth c ≡ Some d → (b ≡ true → ends_in_star (ls ++ r) ≡ false) → becomes b r a ≡ Some o → Becomes a o d
  gives a o b r c d h k plain same =
      let here : object b x (ls ++ r) ≡ c = cc in
      let p = kept depth c d k in
      let whole : object b x (ls ++ r) ≡ d = here ∙ p.0 in
      subst (Becomes a o) whole (record {
        object = record { short = subst (λ z. length z.selectors ≤ depth) (sym whole) p.1; plain = plain };
        same = rebase-behind b r a ∙ same;
      })

  no-address : {P : Type 0} → false ≡ true → P
  no-address h = cc

  -- what is found for an object becomes it
  found-becomes : (aa oa : Bool) (v : CVar) (ps r : List Selector) (c d : Object) → IsObject depth (object aa v ps) → IsObject depth (object oa v (ps ++ r))
      → cond (aa && oa && is_whole r) (Some (path x ls)) (behind_path target oa (cond aa (Deref ∷ r) r)) ≡ Some c → up_to depth c ≡ Some d → Becomes (object aa v ps) (object oa v (ps ++ r)) d
  found-becomes false false v ps r c d ia io h k = gives (object false v ps) (object false v (ps ++ r)) false r c d h k (λ q. no-address q) (appended v ps r io.short)
  found-becomes false true v ps r c d ia io h k =
      let f = address-behind r c h in
      gives (object false v ps) (object true v (ps ++ r)) true r c d f.2 k (λ q. f.1) (addressed-of (object false v ps) v r (ps ++ r) f.0 (appended v ps r io.short) (io.plain refl))
  found-becomes true false v ps r c d ia io h k = gives (object true v ps) (object false v (ps ++ r)) false (Deref ∷ r) c d h k (λ q. no-address q) (starred v ps r io.short)
  found-becomes true true v ps [] c d ia io h k =
      gives (object true v ps) (object true v (ps ++ [])) false [] c d (ap (λ l. Some (object false x l)) (append-nil ls) ∙ h) k (λ q. no-address q)
      (itself v ps ia.short ∙ ap (λ l. Some (object true v l)) (sym (append-nil ps)))
  found-becomes true true v ps (s ∷ r) c d ia io h k =
      let f = address-behind (Deref ∷ s ∷ r) c h in
      gives (object true v ps) (object true v (ps ++ s ∷ r)) true (Deref ∷ s ∷ r) c d f.2 k (λ q. f.1)
      (addressed-of (object true v ps) v (Deref ∷ s ∷ r) (ps ++ s ∷ r) f.0 (starred v ps (s ∷ r) io.short) (io.plain refl))

  -- what is found where an object goes on behind that of `a` by these steps, or doesn't
  abbrev found_by : Bool → Bool → Option (List Selector) → Option Object
  found_by aa oa k = cond (aa && oa && if_there k false is_whole) (Some (path x ls)) ((k >? λ r. Some (cond aa (Deref ∷ r) r)) >? behind_path target oa)

  none-found : (aa oa : Bool) → found_by aa oa None ≡ None
  none-found true true = refl
  none-found true false = refl
  none-found false oa = refl

  found-gives : (a o d : Object) → IsObject depth a → IsObject depth o → (found target a o >? up_to depth) ≡ Some d → Becomes a o d
  found-gives a o d ia io h = by (rest o (path a.base a.selectors)) refl h
    where
      none≢some : None ≡ Some d → ⊥
      none≢some q = cc

      moved : (r : List Selector) (c : Object) → o ≡ object o.address a.base (a.selectors ++ r) → found_by a.address o.address (Some r) ≡ Some c → up_to depth c ≡ Some d → Becomes a o d
      moved r c same f k = subst (λ q. Becomes a q d) (sym same) (found-becomes a.address o.address a.base a.selectors r c d ia (subst (IsObject depth) same io) f k)

      some : (r : List Selector) (q : Option Object) → o ≡ object o.address a.base (a.selectors ++ r) → found_by a.address o.address (Some r) ≡ q → (q >? up_to depth) ≡ Some d → Becomes a o d
      some r None same f k = absurd (none≢some k)
      some r (Some c) same f k = moved r c same f k

      by : (k : Option (List Selector)) → rest o (path a.base a.selectors) ≡ k → ((found_by a.address o.address (rest o (path a.base a.selectors))) >? up_to depth) ≡ Some d → Becomes a o d
      by None e k = absurd (none≢some (sym (ap (λ q. q >? up_to depth) (ap (found_by a.address o.address) e ∙ none-found a.address o.address)) ∙ k))
      by (Some r) e k = some r (found_by a.address o.address (Some r)) (rest-is o a.base a.selectors r e) refl (sym (ap (λ q. (found_by a.address o.address q) >? up_to depth) e) ∙ k)

  address-some : (v : CVar) (ss : List Selector) (o : Object) → (up_to depth (path v ss) >? addressed) ≡ Some o → address_of v ss ≡ o
  address-some v ss o h = by-length depth (path v ss)
      (λ short. by (ends_in_star ss) (sym (ap (λ q. q >? addressed) (short-up_to depth (path v ss) short)) ∙ h))
      (λ long. no (sym (ap (λ q. q >? addressed) (long-up_to depth (path v ss) long)) ∙ h))
    where
      by : (b : Bool) → cond (false || b) None (Some (address_of v ss)) ≡ Some o → address_of v ss ≡ o
      by true e = cc
      by false e = cc

      no : None ≡ Some o → address_of v ss ≡ o
      no e = cc

  if-access : (b : Bool) (q : Option Object) (o : Object) → cond b q None ≡ Some o → (b ≡ true) × (q ≡ Some o)
  if-access true q o h = (refl, h)
  if-access false q o h = cc

  no-more : (b : Bool) (o : Object) → cond b None None ≡ Some o → ⊥
  no-more true o h = cc
  no-more false o h = cc

  found-behind : (aa oa : Bool) (v : CVar) (ps r : List Selector) → found target (object aa v ps) (object oa v (ps ++ r)) ≡ found_by aa oa (Some r)
  found-behind aa oa v ps r = ap (found_by aa oa) (rest-itself v ps r oa)

  address-found : (r : List Selector) → has_access r ≡ true → ends_in_star (ls ++ r) ≡ false → behind_path target true r ≡ Some (address_of x (ls ++ r))
  address-found r h e = ap (λ b. cond (b && not (ends_in_star (ls ++ r))) (Some (address_of x (ls ++ r))) None) h ∙ ap (λ b. cond (not b) (Some (address_of x (ls ++ r))) None) e

  finish : (a q o c : Object) → q ≡ o → IsObject depth c → found target a q ≡ Some c → (found target a o >? up_to depth) ≡ Some c
  finish a q o c same ic t = ap (λ z. z >? up_to depth) (ap (found target a) (sym same) ∙ t) ∙ short-up_to depth c ic.short

  back : (aa b : Bool) (v : CVar) (ps r : List Selector) (o : Object) → IsObject depth (object b x (ls ++ r)) → becomes b r (object aa v ps) ≡ Some o
      → (found target (object aa v ps) o >? up_to depth) ≡ Some (object b x (ls ++ r))
  back false false v ps r o ic h = finish (object false v ps) (path v (ps ++ r)) o (object false x (ls ++ r)) (kept depth (path v (ps ++ r)) o h).0 ic (found-behind false false v ps r)
  back true false v ps [] o ic h =
      finish (object true v ps) (object true v (ps ++ [])) o (object false x (ls ++ [])) (ap (object true v) (append-nil ps) ∙ (kept depth (object true v ps) o h).0) ic
      (found-behind true true v ps [] ∙ ap (λ l. Some (object false x l)) (sym (append-nil ls)))
  back true false v ps (Deref ∷ r) o ic h = finish (object true v ps) (path v (ps ++ r)) o (object false x (ls ++ Deref ∷ r)) (kept depth (path v (ps ++ r)) o h).0 ic (found-behind true false v ps r)
  back true false v ps (Field f ∷ r) o ic h = cc
  back true false v ps (At n ∷ r) o ic h = cc
  back true false v ps (AtVar i ∷ r) o ic h = cc
  back false true v ps r o ic h =
      let f = if-access (has_access r) (append depth (object false v ps) r >? addressed) o h in
      finish (object false v ps) (address_of v (ps ++ r)) o (object true x (ls ++ r)) (address-some v (ps ++ r) o f.1) ic (found-behind false true v ps r ∙ address-found r f.0 (ic.plain refl))
  back true true v ps [] o ic h = cc
  back true true v ps (Deref ∷ []) o ic h = let e = ic.plain refl in let s = star-last ls in cc
  back true true v ps (Deref ∷ s ∷ r) o ic h =
      finish (object true v ps) (address_of v (ps ++ s ∷ r)) o (object true x (ls ++ Deref ∷ s ∷ r)) (address-some v (ps ++ s ∷ r) o h) ic
      (found-behind true true v ps (s ∷ r) ∙ address-found (Deref ∷ s ∷ r) refl (ic.plain refl))
  back true true v ps (Field f ∷ r) o ic h = absurd (no-more (has_access r) o h)
  back true true v ps (At n ∷ r) o ic h = cc
  back true true v ps (AtVar i ∷ r) o ic h = cc

  gives-found : (a o c : Object) → IsObject depth c → rebase depth c target a ≡ Some o → (found target a o >? up_to depth) ≡ Some c
  gives-found a o c ic same = by (rest c target) refl same
    where
      by : (k : Option (List Selector)) → rest c target ≡ k → (k >? λ r. cond c.address (rebased_address depth a r) (append depth a r)) ≡ Some o → (found target a o >? up_to depth) ≡ Some c
      by None e k = cc
      by (Some r) e k =
          let whole = rest-is c x ls r e in
          back a.address c.address a.base a.selectors r o (subst (IsObject depth) whole ic) k ∙ ap Some (sym whole)

  -- what is addressed and short is short and addressed
  addressed-short : (ss : List Selector) → (up_to depth (path x ss) >? addressed) ≡ (cond (not (ends_in_star ss)) (Some (address_of x ss)) None >? up_to depth)
  addressed-short ss = address-cut depth (Some (path x ss)) ∙ ap (λ q. q >? up_to depth) (by (ends_in_star ss))
    where
      by : (b : Bool) → cond (false || b) None (Some (address_of x ss)) ≡ cond (not b) (Some (address_of x ss)) None
      by true = refl
      by false = refl

  abbrev replaced-by : Bool → Bool → Object → Option (List Selector) → Option Object
  replaced-by aa oa l k = cond aa (k >? pointed depth l oa) (k >? λ r. cond oa (rebased_address depth l r) (append depth l r))

  replaced-found : (aa oa : Bool) (k : Option (List Selector)) → replaced-by aa oa target k ≡ (found_by aa oa k >? up_to depth)
  replaced-found false oa None = refl
  replaced-found true true None = refl
  replaced-found true false None = refl
  replaced-found false false (Some r) = refl
  replaced-found false true (Some r) = by (has_access r)
    where
      by : (b : Bool) → cond b (up_to depth (path x (ls ++ r)) >? addressed) None ≡ (cond (b && not (ends_in_star (ls ++ r))) (Some (address_of x (ls ++ r))) None >? up_to depth)
      by true = addressed-short (ls ++ r)
      by false = refl
  replaced-found true false (Some r) = refl
  replaced-found true true (Some []) = refl
  replaced-found true true (Some (s ∷ r)) = addressed-short (ls ++ Deref ∷ s ∷ r)

  replaced-is : (a o : Object) → replaced depth target a o ≡ (found target a o >? up_to depth)
  replaced-is a o = replaced-found a.address o.address (rest o (path a.base a.selectors))

  pub replaced-becomes : (a o d : Object) → IsObject depth a → IsObject depth o → replaced depth target a o ≡ Some d → Becomes a o d
  replaced-becomes a o d ia io h = found-gives a o d ia io (sym (replaced-is a o) ∙ h)

  pub becomes-replaced : (a o c : Object) → IsObject depth c → rebase depth c target a ≡ Some o → replaced depth target a o ≡ Some c
  becomes-replaced a o c ic same = replaced-is a o ∙ gives-found a o c ic same

pub replaces : (depth : ℕ) (l a o q : Object) → l.address ≡ false → IsObject depth a → IsObject depth o
    → (replaced depth l a o ≡ Some q) ↔ (IsObject depth q × (rebase depth q l a ≡ Some o))
replaces depth l a o q n ia io =
    let is : l ≡ path l.base l.selectors = ap (λ b. object b l.base l.selectors) n in (
      λ h. let b = replaced-becomes depth l.base l.selectors a o q ia io (sym (ap (λ z. replaced depth z a o) is) ∙ h) in (b.object, ap (λ z. rebase depth q z a) is ∙ b.same),
      λ b. ap (λ z. replaced depth z a o) is ∙ becomes-replaced depth l.base l.selectors a o q b.0 (sym (ap (λ z. rebase depth q z a) is) ∙ b.1),
    )
