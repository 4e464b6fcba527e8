-- Objects with the number of their function, put behind others.
use Rattle.std.proofs.Common.{◌≡◌, inl, inr, ℕ, List, [], ◌∷◌, ◌++◌, Contains, ◌+◌, ◌<◌, length, take, get_or, refl, ◌∙◌, sym, ap, subst, append_assoc}
use Rattle.std.proofs.lemmas.List.Elements.{Contains-append_right}
use Rattle.c_objects.specs.Objects.{Object}
use Rattle.flow_graph.specs.CPaths.Membership.{Among}
use Rattle.least_set.specs.Logs.{IsExactly, Adds, SomeGives}
use Rattle.least_set.proofs.Growing.{adds_none, adds_same, adds_both, adds_next}
use Rattle.relevant.proofs.LinkedObjects.Listed.{among-contains, contains-among}
use Rattle.relevant.specs.LinkedObjects.Linked.{AreLinkedOver}
use Rattle.refine_restore.specs.Sites.{site_of}
use Rattle.relevant.specs.RelevantObjects.Links.{LinksInto, LinksBack, LinksOver}
use Rattle.path_model.specs.CheckerGraphs.Members.{Member, members}
use Rattle.relevant.specs.declared.relevant_objects.rows.FollowedCall.{FollowedCall}

members-push : (n : ℕ) (os : List Object) (o : Object) → members n (os ++ (o ∷ [])) ≡ members n os ++ ((n, o) ∷ [])
members-push n [] o = refl
members-push n (p ∷ os) o = ap (λ ms. (n, p) ∷ ms) (members-push n os o)

-- one more of them was put behind
pub pushed-member : (n : ℕ) (os : List Object) (o : Object) (old mid new : List Member) → mid ≡ old ++ members n os → new ≡ mid ++ ((n, o) ∷ []) → new ≡ old ++ members n (os ++ (o ∷ []))
pushed-member n os o old mid new e f =
    f ∙ ap (λ l. l ++ ((n, o) ∷ [])) e ∙ append_assoc old (members n os) ((n, o) ∷ []) ∙ ap (λ l. old ++ l) (sym (members-push n os o))

among-members : (n : ℕ) (os : List Object) (o : Object) → Among o os → Among (n, o) (members n os)
among-members n [] o h = absurd h
among-members n (p ∷ os) o (inl e) = inl (ap (λ q. (n, q)) e)
among-members n (p ∷ os) o (inr h) = inr (among-members n os o h)

members-among : (n : ℕ) (os : List Object) (y : Member) → Among y (members n os) → (n ≡ y.0) × Among y.1 os
members-among n [] y h = absurd h
members-among n (p ∷ os) y (inl e) = (sym (ap (λ z. z.0) e), inl (ap (λ z. z.1) e))
members-among n (p ∷ os) y (inr h) = let k = members-among n os y h in (k.0, inr k.1)

-- objects of which P holds, of the function n
pub members-added : (P : Object → Type 0) (n : ℕ) (os : List Object) (old new : List Member) → IsExactly os P → new ≡ old ++ members n os → Adds (λ y. (n ≡ y.0) × P y.1) old new
members-added P n os old new is e = record {
  more = members n os;
  whole = e;
  added = λ y h.
      let o : Contains (members n os) (n, y.1) = among-contains (members n os) (n, y.1) (among-members n os y.1 (contains-among os y.1 (is.1 y.1 h.1))) in
      let same : (n, y.1) ≡ y = λ i. (h.0 i, y.1) in
      subst (λ l. Contains l y) (sym e) (Contains-append_right old (members n os) y (subst (Contains (members n os)) same o));
  only = λ y h. let k = members-among n os y (contains-among (members n os) y h) in (k.0, is.0 y.1 (among-contains os y.1 k.1));
}

-- into the callee
pub into-added : (depth : ℕ) (x : Member) (k : FollowedCall) (os : List Object) (old new : List Member) → k.caller ≡ x.0 → IsExactly os (λ c. AreLinkedOver depth (site_of depth k.site) x.1 c) → new ≡ old ++ members k.callee os
    → Adds (LinksInto depth x k) old new
into-added depth x k os old new from is e =
    adds_same (members-added (λ c. AreLinkedOver depth (site_of depth k.site) x.1 c) k.callee os old new is e) (λ y h. (from, h.0, h.1)) (λ y h. (h.1, h.2))

pub into-none : (depth : ℕ) (x : Member) (k : FollowedCall) (old : List Member) → (k.caller ≡ x.0 → ⊥) → Adds (LinksInto depth x k) old old
into-none depth x k old away = adds_none old (λ y h. away h.0)

-- back to the caller
pub back-added : (depth : ℕ) (x : Member) (k : FollowedCall) (os : List Object) (old new : List Member) → k.callee ≡ x.0 → IsExactly os (λ o. AreLinkedOver depth (site_of depth k.site) o x.1) → new ≡ old ++ members k.caller os
    → Adds (LinksBack depth x k) old new
back-added depth x k os old new from is e =
    adds_same (members-added (λ o. AreLinkedOver depth (site_of depth k.site) o x.1) k.caller os old new is e) (λ y h. (from, h.0, h.1)) (λ y h. (h.1, h.2))

pub back-none : (depth : ℕ) (x : Member) (k : FollowedCall) (old : List Member) → (k.callee ≡ x.0 → ⊥) → Adds (LinksBack depth x k) old old
back-none depth x k old away = adds_none old (λ y h. away h.0)

-- both ways of a call
pub over-added : (depth : ℕ) (x : Member) (k : FollowedCall) (old mid new : List Member) → Adds (LinksInto depth x k) old mid → Adds (LinksBack depth x k) mid new → Adds (LinksOver depth x k) old new
over-added depth x k old mid new v w = adds_both {R = LinksOver depth x k} v w (λ y s. s) (λ y p. inl p) (λ y q. inr q)

-- one more of a list gave what it gives
pub next-added : {T : Type 0} (G : T → Member → Type 0) (xs : List T) (i : ℕ) (x : T) (old mid new : List Member) → i < length xs → x ≡ get_or xs i x → Adds (SomeGives G (take i xs)) old mid → Adds (G x) mid new → Adds (SomeGives G (take (i + 1) xs)) old new
next-added G xs i x old mid new h e v w = adds_next G xs i x h v (subst (λ z. Adds (G z) mid new) e w)
