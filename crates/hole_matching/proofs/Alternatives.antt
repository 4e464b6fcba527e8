-- The match of a pattern and of an alternative is exactly the relation, and its binding is the only one.
use Rattle.std.proofs.Common.{◌≡◌, List, [], ◌∷◌, ◌++◌, Bool, true, false, None, Some, refl, ◌∙◌, sym, ap, subst, cond}
use Rattle.type_rules.specs.Options.{◌>?◌}
use Rattle.metal_tree.specs.MetalMachines.Machine.{Item, Base, Holds, EndOfPath}
use Rattle.hole_matching.specs.Alternatives.{BasesStand, all_hold, Matches, matched_bases, matched_alternative}
use Rattle.hole_matching.specs.Holes.{Setting}
use Rattle.hole_matching.specs.Matched.{matched, nothing_taken}
use Rattle.hole_matching.specs.Matching.{Taking, Binding, Stands, IsBinding}
use Rattle.hole_matching.specs.Pattern.{Pattern}
use Rattle.c_tree.specs.PathSubjects.Subjects.{Subject}
use Rattle.hole_matching.specs.Written.{pattern_of}
use Rattle.hole_matching.proofs.Bindings.{bound_all, bound_all-append, all-bound, bound-all, at-first, HaveSlots, slots-append}
use Rattle.hole_matching.proofs.Standing.{then-same, then-found, stands-matched, stands-slots, matched-stands}

pub pattern-sound : (g : Setting) (p : Pattern) (s : Subject) (b : Binding) → matched g p s nothing_taken ≡ Some b → (ts : List Taking) × Stands g p s ts × IsBinding g.facts ts b
pattern-sound g p s b h =
    let f = matched-stands g p s nothing_taken b h in
    (f.0, f.1, all-bound g.facts [] f.0 nothing_taken b (stands-slots g p s f.0 f.1) (at-first g.facts) (sym (stands-matched g p s f.0 nothing_taken f.1) ∙ h))

pub pattern-complete : (g : Setting) (p : Pattern) (s : Subject) (b : Binding) → (ts : List Taking) × Stands g p s ts × IsBinding g.facts ts b → matched g p s nothing_taken ≡ Some b
pattern-complete g p s b h =
    stands-matched g p s h.0 nothing_taken h.1
    ∙ bound-all g.facts [] h.0 nothing_taken b (stands-slots g p s h.0 h.1) (at-first g.facts) h.2

bases-matched : (g : Setting) (items : List Item) (s : Subject) (ts : List Taking) (b : Binding) → BasesStand g items s ts → matched_bases g items s b ≡ bound_all g.facts ts b
bases-matched g [] s ts b h = ap (λ z. bound_all g.facts z b) (sym h)
bases-matched g (Base e ∷ items) s ts b h =
    then-same (matched g (pattern_of e) s b) (bound_all g.facts h.0 b) (matched_bases g items s) (bound_all g.facts h.1) (stands-matched g (pattern_of e) s h.0 b h.3) (λ c. bases-matched g items s h.1 c h.4)
    ∙ sym (bound_all-append g.facts h.0 h.1 b)
    ∙ ap (λ z. bound_all g.facts z b) (sym h.2)
bases-matched g (Holds c ∷ items) s ts b h = bases-matched g items s ts b h
bases-matched g (EndOfPath ∷ items) s ts b h = bases-matched g items s ts b h

bases-slots : (g : Setting) (items : List Item) (s : Subject) (ts : List Taking) → BasesStand g items s ts → HaveSlots ts
bases-slots g [] s ts h = subst HaveSlots (sym h) tt
bases-slots g (Base e ∷ items) s ts h = subst HaveSlots (sym h.2) (slots-append h.0 h.1 (stands-slots g (pattern_of e) s h.0 h.3) (bases-slots g items s h.1 h.4))
bases-slots g (Holds c ∷ items) s ts h = bases-slots g items s ts h
bases-slots g (EndOfPath ∷ items) s ts h = bases-slots g items s ts h

bases-found : (g : Setting) (items : List Item) (s : Subject) (b c : Binding) → matched_bases g items s b ≡ Some c → (ts : List Taking) × BasesStand g items s ts
bases-found g [] s b c h = ([], refl)
bases-found g (Base e ∷ items) s b c h =
    let d = then-found (matched g (pattern_of e) s b) (matched_bases g items s) c h in
    let x = matched-stands g (pattern_of e) s b d.0 d.1 in
    let y = bases-found g items s d.0 c d.2 in
    (x.0 ++ y.0, (x.0, y.0, refl, x.1, y.1))
bases-found g (Holds k ∷ items) s b c h = bases-found g items s b c h
bases-found g (EndOfPath ∷ items) s b c h = bases-found g items s b c h

held : (b c : Binding) (a : Bool) → cond a (Some b) None ≡ Some c → (b ≡ c) × (a ≡ true)
held b c true h = (some-one b c h, refl)
  where
    some-one : (x y : Binding) → Some x ≡ Some y → x ≡ y
    some-one x y w = cc
held b c false h = cc

pub alternative-sound : (g : Setting) (items : List Item) (s : Subject) (b : Binding) → matched_alternative g items s ≡ Some b → Matches g items s b
alternative-sound g items s b h =
    let d = then-found (matched_bases g items s nothing_taken) (λ c. cond (all_hold g items c) (Some c) None) b h in
    let k = held d.0 b (all_hold g items d.0) d.2 in
    let f = bases-found g items s nothing_taken d.0 d.1 in
    let j = all-bound g.facts [] f.0 nothing_taken d.0 (bases-slots g items s f.0 f.1) (at-first g.facts) (sym (bases-matched g items s f.0 nothing_taken f.1) ∙ d.1) in
    subst (λ (z : Binding). Matches g items s z) k.0 (record { takings = f.0; bases = f.1; joint = j; conditions = k.1 })

pub alternative-complete : (g : Setting) (items : List Item) (s : Subject) (b : Binding) → Matches g items s b → matched_alternative g items s ≡ Some b
alternative-complete g items s b m =
    ap (λ z. z >? λ c. cond (all_hold g items c) (Some c) None)
    (bases-matched g items s m.takings nothing_taken m.bases
    ∙ bound-all g.facts [] m.takings nothing_taken b (bases-slots g items s m.takings m.bases) (at-first g.facts) m.joint)
    ∙ ap (λ z. cond z (Some b) None) m.conditions

pub one-match : (g : Setting) (items : List Item) (s : Subject) (b c : Binding) → Matches g items s b → Matches g items s c → b ≡ c
one-match g items s b c h k = some-one b c (sym (alternative-complete g items s b h) ∙ alternative-complete g items s c k)
  where
    some-one : (x y : Binding) → Some x ≡ Some y → x ≡ y
    some-one x y w = cc
