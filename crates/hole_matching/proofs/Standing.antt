-- Where a pattern stands over a subject, the match fills the slots with what its holes take; and it fills them only there.
use Rattle.std.proofs.Common.{arith, ◌≡◌, ℕ, ◌<◌, List, [], ◌∷◌, ◌++◌, inl, inr, Bool, true, false, Option, None, Some, refl, ◌∙◌, sym, ap, subst, cond, nat_lt, not, ◌&&◌, ◌||◌, is_some}
use Rattle.std.specs.Prelude.{slice_get}
use Rattle.c_objects.specs.Facts.{Facts}
use Rattle.type_rules.specs.Options.{if_there, ◌>?◌}
use Rattle.type_rules.specs.Types.{CType}
use Rattle.metal_tree.specs.MetalMachines.Machine.{HoleType, AnyExpr, AnyScalar, AnyPointer, AnyArguments, AnyFnCall, Named}
use Rattle.metal_tree.specs.MetalMachines.Limits.{most_holes}
use Rattle.hole_matching.specs.Holes.{Setting, has_slot, takes_type, is_rest_type, is_variable, may_take, takes_rest}
use Rattle.hole_matching.specs.Matched.{bound, rest_hole, is_head, matched, matched_all}
use Rattle.hole_matching.specs.Matching.{Taken, One, Many, Taking, taking, Binding, Seat, Callee, Argument, Elsewhere, first_seat, next_seat, TakesRest, Stands, StandAll}
use Rattle.hole_matching.specs.Pattern.{Head, Pattern, hole, likewise, other, Patterns, no_more, more}
use Rattle.c_tree.specs.PathSubjects.Subjects.{Subject}
use Rattle.hole_matching.specs.Subjects.{inner, is_expression, subject_type, subject_object, head_of, parts_of}
use Rattle.hole_matching.proofs.Bindings.{bound_all, bound_all-append, HaveSlots, slots-append}
use Rattle.hole_matching.proofs.Heads.{and-left, same_head-true, same_head-refl}

bound-one : (u : Facts) (n : ℕ) (x : Taken) (b : Binding) → bound_all u (taking n x ∷ []) b ≡ bound u n x b
bound-one u n x b = then-itself (bound u n x b)
  where
    then-itself : (o : Option Binding) → (o >? λ c. Some c) ≡ o
    then-itself None = refl
    then-itself (Some c) = refl

-- a hole that takes a subject takes no rest
type-not-rest : (u : Facts) (h : HoleType) (t : CType) → takes_type u h t ≡ true → is_rest_type h ≡ false
type-not-rest u AnyExpr t e = refl
type-not-rest u AnyScalar t e = refl
type-not-rest u AnyPointer t e = refl
type-not-rest u AnyArguments t e = cc
type-not-rest u AnyFnCall t e = refl
type-not-rest u (Named n) t e = refl

hole-not-rest : (u : Facts) (o : Option HoleType) (t : CType) (a b c d e : Bool) → (a && b && if_there o false (λ h. takes_type u h t) && c) ≡ true → (a && if_there o false is_rest_type) ≡ false
hole-not-rest u None t true b c d e h = refl
hole-not-rest u None t false b c d e h = refl
hole-not-rest u (Some k) t false b c d e h = refl
hole-not-rest u (Some k) t true false c d e h = cc
hole-not-rest u (Some k) t true true c d e h = type-not-rest u k t (and-left (takes_type u k t) c h)

one-not-rest : (g : Setting) (n : ℕ) (s : Subject) → may_take g n s ≡ true → takes_rest g n ≡ false
one-not-rest g n s h = hole-not-rest g.facts (slice_get g.holes n) (subject_type g.facts s) (has_slot n) (is_expression s) (not (is_variable g n) || is_some (subject_object g.facts g.depth s)) true true h

stands-not-rest : (g : Setting) (seat : Seat) (p : Pattern) (ps : Patterns) (s : Subject) (ts : List Taking) → Stands g p s ts → rest_hole g seat p ps ≡ None
stands-not-rest g Callee p ps s ts h = refl
stands-not-rest g Elsewhere p ps s ts h = refl
stands-not-rest g Argument (hole n) no_more s ts h = ap (λ c. cond c (Some n) None) (one-not-rest g n (inner s) h.0)
stands-not-rest g Argument (hole n) (more p ps) s ts h = refl
stands-not-rest g Argument (likewise k qs) ps s ts h = refl
stands-not-rest g Argument other ps s ts h = absurd h

-- a hole that takes the rest
rest-matched : (g : Setting) (seat : Seat) (p : Pattern) (ps : Patterns) (ss : List Subject) (ts : List Taking) (b : Binding) → TakesRest g seat p ps ss ts → matched_all g seat (more p ps) ss b ≡ bound_all g.facts ts b
rest-matched g Callee p ps ss ts b h = absurd h
rest-matched g Elsewhere p ps ss ts b h = absurd h
rest-matched g Argument (hole n) no_more [] ts b h =
    ap (λ c. cond c (Some n) None >? λ m. bound g.facts m (Many []) b) h.0
    ∙ sym (bound-one g.facts n (Many []) b) ∙ ap (λ z. bound_all g.facts z b) (sym h.1)
rest-matched g Argument (hole n) no_more (s ∷ ss) ts b h =
    ap (λ c. if_there (cond c (Some n) None) (matched g (hole n) s b >? matched_all g Argument no_more ss) (λ m. bound g.facts m (Many (s ∷ ss)) b)) h.0
    ∙ sym (bound-one g.facts n (Many (s ∷ ss)) b) ∙ ap (λ z. bound_all g.facts z b) (sym h.1)
rest-matched g Argument (hole n) (more q qs) ss ts b h = absurd h
rest-matched g Argument (likewise k qs) ps ss ts b h = absurd h
rest-matched g Argument other ps ss ts b h = absurd h

then-on-all : {A : Type 0} (z : Option A) (f h : A → Option A) → ((x : A) → f x ≡ h x) → (z >? f) ≡ (z >? h)
then-on-all None f h k = refl
then-on-all (Some x) f h k = k x

pub then-same : {A : Type 0} (o p : Option A) (f h : A → Option A) → o ≡ p → ((x : A) → f x ≡ h x) → (o >? f) ≡ (p >? h)
then-same o p f h e k = ap (λ z. z >? f) e ∙ then-on-all p f h k

mutual
  pub stands-matched : (g : Setting) (p : Pattern) (s : Subject) (ts : List Taking) (b : Binding) → Stands g p s ts → matched g p s b ≡ bound_all g.facts ts b
  stands-matched g (hole n) s ts b h =
      ap (λ c. cond c (bound g.facts n (One (inner s)) b) None) h.0
      ∙ sym (bound-one g.facts n (One (inner s)) b) ∙ ap (λ z. bound_all g.facts z b) (sym h.1)
  stands-matched g (likewise k ps) s ts b h =
      ap (λ z. cond (is_head z k) (matched_all g (first_seat k) ps (parts_of (inner s)) b) None) h.0
      ∙ ap (λ c. cond c (matched_all g (first_seat k) ps (parts_of (inner s)) b) None) (same_head-refl k)
      ∙ stand-matched g (first_seat k) ps (parts_of (inner s)) ts b h.1
  stands-matched g other s ts b h = absurd h

  pub stand-matched : (g : Setting) (seat : Seat) (ps : Patterns) (ss : List Subject) (ts : List Taking) (b : Binding) → StandAll g seat ps ss ts → matched_all g seat ps ss b ≡ bound_all g.facts ts b
  stand-matched g seat no_more ss ts b h = ap (λ z. matched_all g seat no_more z b) h.0 ∙ ap (λ z. bound_all g.facts z b) (sym h.1)
  stand-matched g seat (more p ps) ss ts b h = elim h [
    | inl r ↦ rest-matched g seat p ps ss ts b r
    | inr r ↦
        ap (λ z. matched_all g seat (more p ps) z b) r.4
        ∙ ap (λ z. if_there z (matched g p r.0 b >? matched_all g (next_seat seat) ps r.1) (λ n. bound g.facts n (Many (r.0 ∷ r.1)) b)) (stands-not-rest g seat p ps r.0 r.2 r.6)
        ∙ then-same (matched g p r.0 b) (bound_all g.facts r.2 b) (matched_all g (next_seat seat) ps r.1) (bound_all g.facts r.3) (stands-matched g p r.0 r.2 b r.6) (λ c. stand-matched g (next_seat seat) ps r.1 r.3 c r.7)
        ∙ sym (bound_all-append g.facts r.2 r.3 b)
        ∙ ap (λ z. bound_all g.facts z b) (sym r.5)
  ]

-- each hole that takes something has a slot
below : (n : ℕ) → nat_lt n most_holes ≡ true → n < most_holes
below n h = grind arith

first-of-four : (a b c d : Bool) → (a && b && c && d) ≡ true → a ≡ true
first-of-four true b c d h = refl
first-of-four false b c d h = cc

slot-of : (g : Setting) (n : ℕ) (s : Subject) → may_take g n s ≡ true → n < most_holes
slot-of g n s h = below n (first-of-four (has_slot n) (is_expression s) (if_there (slice_get g.holes n) false (λ k. takes_type g.facts k (subject_type g.facts s))) (not (is_variable g n) || is_some (subject_object g.facts g.depth s)) h)

rest-slots : (g : Setting) (seat : Seat) (p : Pattern) (ps : Patterns) (ss : List Subject) (ts : List Taking) → TakesRest g seat p ps ss ts → HaveSlots ts
rest-slots g Callee p ps ss ts h = absurd h
rest-slots g Elsewhere p ps ss ts h = absurd h
rest-slots g Argument (hole n) no_more ss ts h = subst HaveSlots (sym h.1) (below n (and-left (has_slot n) (if_there (slice_get g.holes n) false is_rest_type) h.0), tt)
rest-slots g Argument (hole n) (more q qs) ss ts h = absurd h
rest-slots g Argument (likewise k qs) ps ss ts h = absurd h
rest-slots g Argument other ps ss ts h = absurd h

mutual
  pub stands-slots : (g : Setting) (p : Pattern) (s : Subject) (ts : List Taking) → Stands g p s ts → HaveSlots ts
  stands-slots g (hole n) s ts h = subst HaveSlots (sym h.1) (slot-of g n (inner s) h.0, tt)
  stands-slots g (likewise k ps) s ts h = stand-slots g (first_seat k) ps (parts_of (inner s)) ts h.1
  stands-slots g other s ts h = absurd h

  pub stand-slots : (g : Setting) (seat : Seat) (ps : Patterns) (ss : List Subject) (ts : List Taking) → StandAll g seat ps ss ts → HaveSlots ts
  stand-slots g seat no_more ss ts h = subst HaveSlots (sym h.1) tt
  stand-slots g seat (more p ps) ss ts h = elim h [
    | inl r ↦ rest-slots g seat p ps ss ts r
    | inr r ↦ subst HaveSlots (sym r.5) (slots-append r.2 r.3 (stands-slots g p r.0 r.2 r.6) (stand-slots g (next_seat seat) ps r.1 r.3 r.7))
  ]

-- The match finds what holes take.
rest-found : (g : Setting) (seat : Seat) (p : Pattern) (ps : Patterns) (ss : List Subject) (n : ℕ) → rest_hole g seat p ps ≡ Some n → TakesRest g seat p ps ss (taking n (Many ss) ∷ [])
rest-found g Callee p ps ss n h = cc
rest-found g Elsewhere p ps ss n h = cc
rest-found g Argument (hole m) no_more ss n h = by-rest (takes_rest g m) refl h
  where
    by-rest : (c : Bool) → takes_rest g m ≡ c → cond c (Some m) None ≡ Some n → (takes_rest g m ≡ true) × ((taking n (Many ss) ∷ []) ≡ (taking m (Many ss) ∷ []))
    by-rest true e q = (e, sym (ap (λ z. taking z (Many ss) ∷ []) (some-same m n q)))
      where
        some-same : (x y : ℕ) → Some x ≡ Some y → x ≡ y
        some-same x y w = cc
    by-rest false e q = cc
rest-found g Argument (hole m) (more q qs) ss n h = cc
rest-found g Argument (likewise k qs) ps ss n h = cc
rest-found g Argument other ps ss n h = cc

abbrev Found : Setting → Pattern → Subject → Type 0
Found g p s = (ts : List Taking) × Stands g p s ts

abbrev FoundAll : Setting → Seat → Patterns → List Subject → Type 0
FoundAll g seat ps ss = (ts : List Taking) × StandAll g seat ps ss ts

hole-found : (g : Setting) (n : ℕ) (s : Subject) (m : Bool) (o : Option Binding) (c : Binding) → may_take g n (inner s) ≡ m → cond m o None ≡ Some c → Found g (hole n) s
hole-found g n s true o c e h = (taking n (One (inner s)) ∷ [], (e, refl))
hole-found g n s false o c e h = cc

head-found : (g : Setting) (k : Head) (ps : Patterns) (s : Subject) (o : Option Head) (a : Bool) (r : Option Binding) (c : Binding)
    → head_of g.facts (inner s) ≡ o → is_head o k ≡ a → cond a r None ≡ Some c → (r ≡ Some c → FoundAll g (first_seat k) ps (parts_of (inner s))) → Found g (likewise k ps) s
head-found g k ps s None a r c e q h f = cc
head-found g k ps s (Some l) true r c e q h f = let t = f h in (t.0, (e ∙ ap Some (same_head-true l k q), t.1))
head-found g k ps s (Some l) false r c e q h f = cc

pub then-found : (o : Option Binding) (f : Binding → Option Binding) (c : Binding) → (o >? f) ≡ Some c → (d : Binding) × (o ≡ Some d) × (f d ≡ Some c)
then-found None f c h = cc
then-found (Some d) f c h = (d, refl, h)

first-found : (g : Setting) (seat : Seat) (p : Pattern) (ps : Patterns) (s : Subject) (ss : List Subject) → Found g p s → FoundAll g (next_seat seat) ps ss → FoundAll g seat (more p ps) (s ∷ ss)
first-found g seat p ps s ss h k = (h.0 ++ k.0, inr (s, ss, h.0, k.0, refl, refl, h.1, k.1))

last-found : (g : Setting) (seat : Seat) (p : Pattern) (ps : Patterns) (o : Option ℕ) (f : ℕ → Option Binding) (c : Binding) → rest_hole g seat p ps ≡ o → (o >? f) ≡ Some c → FoundAll g seat (more p ps) []
last-found g seat p ps None f c e h = cc
last-found g seat p ps (Some n) f c e h = (taking n (Many []) ∷ [], inl (rest-found g seat p ps [] n e))

either-found : (g : Setting) (seat : Seat) (p : Pattern) (ps : Patterns) (s : Subject) (ss : List Subject) (o : Option ℕ) (r : Option Binding) (f : ℕ → Option Binding) (c : Binding)
    → rest_hole g seat p ps ≡ o → if_there o r f ≡ Some c → (r ≡ Some c → FoundAll g seat (more p ps) (s ∷ ss)) → FoundAll g seat (more p ps) (s ∷ ss)
either-found g seat p ps s ss None r f c e h k = k h
either-found g seat p ps s ss (Some n) r f c e h k = (taking n (Many (s ∷ ss)) ∷ [], inl (rest-found g seat p ps (s ∷ ss) n e))

mutual
  pub matched-stands : (g : Setting) (p : Pattern) (s : Subject) (b c : Binding) → matched g p s b ≡ Some c → Found g p s
  matched-stands g (hole n) s b c h = hole-found g n s (may_take g n (inner s)) (bound g.facts n (One (inner s)) b) c refl h
  matched-stands g (likewise k ps) s b c h =
      head-found g k ps s (head_of g.facts (inner s)) (is_head (head_of g.facts (inner s)) k) (matched_all g (first_seat k) ps (parts_of (inner s)) b) c refl refl h
      (λ q. matched-stand g (first_seat k) ps (parts_of (inner s)) b c q)
  matched-stands g other s b c h = cc

  pub matched-stand : (g : Setting) (seat : Seat) (ps : Patterns) (ss : List Subject) (b c : Binding) → matched_all g seat ps ss b ≡ Some c → FoundAll g seat ps ss
  matched-stand g seat no_more [] b c h = ([], (refl, refl))
  matched-stand g seat no_more (s ∷ ss) b c h = cc
  matched-stand g seat (more p ps) [] b c h = last-found g seat p ps (rest_hole g seat p ps) (λ n. bound g.facts n (Many []) b) c refl h
  matched-stand g seat (more p ps) (s ∷ ss) b c h =
      either-found g seat p ps s ss (rest_hole g seat p ps) (matched g p s b >? matched_all g (next_seat seat) ps ss) (λ n. bound g.facts n (Many (s ∷ ss)) b) c refl h
      (λ q. let d = then-found (matched g p s b) (matched_all g (next_seat seat) ps ss) c q in
      first-found g seat p ps s ss (matched-stands g p s b d.0 d.1) (matched-stand g (next_seat seat) ps ss d.0 c d.2))
