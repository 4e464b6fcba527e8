-- A pattern without holes stands over exactly the subjects that are compared by it.
use Rattle.std.proofs.Common.{◌≡◌, List, [], ◌∷◌, ◌++◌, inl, inr, Option, None, Some, refl, ◌∙◌, sym, ap, subst}
use Rattle.hole_matching.specs.ComparedSubjects.{with_parts, compared, compared_all}
use Rattle.hole_matching.specs.Holes.{Setting}
use Rattle.hole_matching.specs.Matching.{Taking, Seat, Callee, Argument, Elsewhere, first_seat, next_seat, TakesRest, Stands, StandAll}
use Rattle.hole_matching.specs.Pattern.{Head, Pattern, hole, likewise, other, Patterns, no_more, more}
use Rattle.c_tree.specs.PathSubjects.Subjects.{Subject}
use Rattle.hole_matching.specs.Subjects.{inner, head_of, parts_of}
use Rattle.hole_matching.specs.Theorems.{IsWithoutHoles, AreWithoutHoles}
use Rattle.hole_matching.proofs.Levels.{level}

no-rest : {P : Type 0} (g : Setting) (seat : Seat) (p : Pattern) (ps : Patterns) (ss : List Subject) (ts : List Taking) → IsWithoutHoles p → TakesRest g seat p ps ss ts → P
no-rest g Callee p ps ss ts w h = absurd h
no-rest g Elsewhere p ps ss ts w h = absurd h
no-rest g Argument (hole n) ps ss ts w h = absurd w
no-rest g Argument (likewise k qs) ps ss ts w h = absurd h
no-rest g Argument other ps ss ts w h = absurd h

none-both : (xs ys ts : List Taking) → ts ≡ (xs ++ ys) → xs ≡ [] → ys ≡ [] → ts ≡ []
none-both xs ys ts e x y = e ∙ ap (λ z. z ++ ys) x ∙ y

mutual
  pub equal-where-stands : (g : Setting) (p : Pattern) (s : Subject) (ts : List Taking) → IsWithoutHoles p → Stands g p s ts → (compared g.facts s ≡ p) × (ts ≡ [])
  equal-where-stands g (hole n) s ts w h = absurd w
  equal-where-stands g (likewise k ps) s ts w h =
      let a = equal-where-stand g (first_seat k) ps (parts_of (inner s)) ts w h.1 in
      (level g.facts s ∙ ap (λ o. with_parts o (compared_all g.facts (parts_of (inner s)))) h.0 ∙ ap (likewise k) a.0, a.1)
  equal-where-stands g other s ts w h = absurd h

  equal-where-stand : (g : Setting) (seat : Seat) (ps : Patterns) (ss : List Subject) (ts : List Taking) → AreWithoutHoles ps → StandAll g seat ps ss ts → (compared_all g.facts ss ≡ ps) × (ts ≡ [])
  equal-where-stand g seat no_more ss ts w h = (ap (compared_all g.facts) h.0, h.1)
  equal-where-stand g seat (more p ps) ss ts w h = elim h [
    | inl r ↦ no-rest g seat p ps ss ts w.0 r
    | inr r ↦
        let a = equal-where-stands g p r.0 r.2 w.0 r.6 in
        let b = equal-where-stand g (next_seat seat) ps r.1 r.3 w.1 r.7 in
        (ap (compared_all g.facts) r.4 ∙ ap (λ x. more x (compared_all g.facts r.1)) a.0 ∙ ap (more p) b.0, none-both r.2 r.3 ts r.5 a.1 b.1)
  ]

head-known : (o : Option Head) (k : Head) (qs ps : Patterns) → with_parts o qs ≡ likewise k ps → (o ≡ Some k) × (qs ≡ ps)
head-known None k qs ps h = cc
head-known (Some l) k qs ps h = (ap Some (same-heads l k qs ps h), same-parts l k qs ps h)
  where
    same-heads : (x y : Head) (xs ys : Patterns) → likewise x xs ≡ likewise y ys → x ≡ y
    same-heads x y xs ys e = cc

    same-parts : (x y : Head) (xs ys : Patterns) → likewise x xs ≡ likewise y ys → xs ≡ ys
    same-parts x y xs ys e = cc

first-known : (p q : Pattern) (ps qs : Patterns) → more p ps ≡ more q qs → p ≡ q
first-known p q ps qs h = cc

rest-known : (p q : Pattern) (ps qs : Patterns) → more p ps ≡ more q qs → ps ≡ qs
rest-known p q ps qs h = cc

mutual
  pub stands-where-equal : (g : Setting) (p : Pattern) (s : Subject) → IsWithoutHoles p → compared g.facts s ≡ p → Stands g p s []
  stands-where-equal g (hole n) s w h = absurd w
  stands-where-equal g (likewise k ps) s w h =
      let a = head-known (head_of g.facts (inner s)) k (compared_all g.facts (parts_of (inner s))) ps (sym (level g.facts s) ∙ h) in
      (a.0, stand-where-equal g (first_seat k) ps (parts_of (inner s)) w a.1)
  stands-where-equal g other s w h = absurd w

  stand-where-equal : (g : Setting) (seat : Seat) (ps : Patterns) (ss : List Subject) → AreWithoutHoles ps → compared_all g.facts ss ≡ ps → StandAll g seat ps ss []
  stand-where-equal g seat no_more [] w h = (refl, refl)
  stand-where-equal g seat no_more (s ∷ ss) w h = cc
  stand-where-equal g seat (more p ps) [] w h = cc
  stand-where-equal g seat (more p ps) (s ∷ ss) w h = inr (
    s,
    ss,
    [],
    [],
    refl,
    refl,
    stands-where-equal g p s w.0 (first-known (compared g.facts s) p (compared_all g.facts ss) ps h),
    stand-where-equal g (next_seat seat) ps ss w.1 (rest-known (compared g.facts s) p (compared_all g.facts ss) ps h),
  )

pub stands-equal : (g : Setting) (p : Pattern) (s : Subject) (ts : List Taking) → IsWithoutHoles p → (compared g.facts s ≡ p) × (ts ≡ []) → Stands g p s ts
stands-equal g p s ts w h = subst (λ (z : List Taking). Stands g p s z) (sym h.1) (stands-where-equal g p s w h.0)
