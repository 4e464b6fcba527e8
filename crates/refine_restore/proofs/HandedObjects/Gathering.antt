-- What is gathered of candidates: those that pass, each once.
use Rattle.std.proofs.Common.{◌≡◌, ◌⊎◌, inl, inr, List, [], ◌∷◌, ◌++◌, Bool, true, false, Option, None, Some, refl, ◌∙◌, sym, ap, subst, cond, not, ◌&&◌, ◌||◌}
use Rattle.c_objects.specs.Objects.{Object}
use Rattle.flow_graph.specs.CPaths.Membership.{Among}
use Rattle.path_model.specs.CheckerModel.Distinct.{AreDistinct}
use Rattle.refine_restore.specs.Ways.Takers.{is_listed, with_one, gathered}
use Rattle.objects.specs.Equality.{same_object, same_object-true, same_object-refl}

-- ---- one of a list

listed-among : (qs : List Object) (q : Object) → is_listed qs q ≡ true → Among q qs
listed-among [] q h = cc
listed-among (p ∷ qs) q h = by (listed-among qs q) (same_object p q) refl h
  where
    by : (is_listed qs q ≡ true → Among q qs) → (b : Bool) → same_object p q ≡ b → (b || is_listed qs q) ≡ true → Among q (p ∷ qs)
    by later true e k = inl (sym (same_object-true p q e))
    by later false e k = inr (later k)

among-listed : (qs : List Object) (q : Object) → Among q qs → is_listed qs q ≡ true
among-listed [] q h = absurd h
among-listed (p ∷ qs) q (inl h) = ap (λ b. b || is_listed qs q) (ap (same_object p) h ∙ same_object-refl p)
among-listed (p ∷ qs) q (inr h) = by (among-listed qs q h) (same_object p q)
  where
    by : is_listed qs q ≡ true → (b : Bool) → (b || is_listed qs q) ≡ true
    by later true = refl
    by later false = later

-- one more at the end
front : (qs : List Object) (q c : Object) → Among c qs → Among c (qs ++ (q ∷ []))
front [] q c h = absurd h
front (p ∷ qs) q c (inl h) = inl h
front (p ∷ qs) q c (inr h) = inr (front qs q c h)

last : (qs : List Object) (q : Object) → Among q (qs ++ (q ∷ []))
last [] q = inl refl
last (p ∷ qs) q = inr (last qs q)

either : (qs : List Object) (q c : Object) → Among c (qs ++ (q ∷ [])) → Among c qs ⊎ (c ≡ q)
either [] q c (inl h) = inr h
either [] q c (inr h) = absurd h
either (p ∷ qs) q c (inl h) = inl (inl h)
either (p ∷ qs) q c (inr h) = by (either qs q c h)
  where
    by : Among c qs ⊎ (c ≡ q) → Among c (p ∷ qs) ⊎ (c ≡ q)
    by (inl k) = inl (inr k)
    by (inr k) = inr k

one-more : (qs : List Object) (q : Object) → AreDistinct qs → (Among q qs → ⊥) → AreDistinct (qs ++ (q ∷ []))
one-more [] q d n = ((λ h. h), tt)
one-more (p ∷ qs) q d n = ((λ h. by (either qs q p h)), one-more qs q d.1 (λ h. n (inr h)))
  where
    by : Among p qs ⊎ (p ≡ q) → ⊥
    by (inl k) = d.0 k
    by (inr k) = n (inl (sym k))

-- ---- candidates

module _ (test : Object → Bool) where
  -- all of a list pass, and each stands there once
  pub record AreKept (qs : List Object) : Type 0 where
    pub pass : (c : Object) → Among c qs → test c ≡ true
    pub distinct : AreDistinct qs

  pub none-kept : AreKept []
  none-kept = record { pass = λ c h. absurd h; distinct = tt }

  add-kept : (qs : List Object) (q : Object) (b l : Bool) → test q ≡ b → is_listed qs q ≡ l → AreKept qs → AreKept (cond (b && not l) (qs ++ (q ∷ [])) qs)
  add-kept qs q true false e f k = record {
    pass = λ c h. by c (either qs q c h);
    distinct = one-more qs q k.distinct (λ h. absent (sym (among-listed qs q h) ∙ f));
  }
    where
      by : (c : Object) → Among c qs ⊎ (c ≡ q) → test c ≡ true
      by c (inl h) = k.pass c h
      by c (inr h) = ap test h ∙ e

      absent : true ≡ false → ⊥
      absent h = cc
  add-kept qs q true true e f k = k
  add-kept qs q false l e f k = k

  with-kept : (qs : List Object) (c : Option Object) → AreKept qs → AreKept (with_one test qs c)
  with-kept qs None k = k
  with-kept qs (Some q) k = add-kept qs q (test q) (is_listed qs q) refl refl k

  pub gathered-kept : (cs : List (Option Object)) (qs : List Object) → AreKept qs → AreKept (gathered test qs cs)
  gathered-kept [] qs k = k
  gathered-kept (c ∷ cs) qs k = gathered-kept cs (with_one test qs c) (with-kept qs c k)

  with-old : (qs : List Object) (c : Option Object) (q : Object) → Among q qs → Among q (with_one test qs c)
  with-old qs None q h = h
  with-old qs (Some p) q h = by (test p && not (is_listed qs p))
    where
      by : (b : Bool) → Among q (cond b (qs ++ (p ∷ [])) qs)
      by true = front qs p q h
      by false = h

  gathered-old : (cs : List (Option Object)) (qs : List Object) (q : Object) → Among q qs → Among q (gathered test qs cs)
  gathered-old [] qs q h = h
  gathered-old (c ∷ cs) qs q h = gathered-old cs (with_one test qs c) q (with-old qs c q h)

  with-new : (qs : List Object) (q : Object) (l : Bool) → test q ≡ true → is_listed qs q ≡ l → Among q (with_one test qs (Some q))
  with-new qs q true e f = with-old qs (Some q) q (listed-among qs q f)
  with-new qs q false e f = subst (λ b. Among q (cond b (qs ++ (q ∷ [])) qs)) (sym (ap (λ b. b && not (is_listed qs q)) e ∙ ap not f)) (last qs q)

  -- a candidate that passes is gathered
  pub gathered-new : (cs : List (Option Object)) (qs : List Object) (q : Object) → test q ≡ true → Among (Some q) cs → Among q (gathered test qs cs)
  gathered-new [] qs q e h = absurd h
  gathered-new (c ∷ cs) qs q e (inl h) = gathered-old cs (with_one test qs c) q (subst (λ z. Among q (with_one test qs z)) h (with-new qs q (is_listed qs q) e refl))
  gathered-new (c ∷ cs) qs q e (inr h) = gathered-new cs (with_one test qs c) q e h
