-- The steps of a walk over a pattern.
use Rattle.std.proofs.Common.{◌≡◌, ℕ, List, [], ◌∷◌, Bool, true, false, Option, None, Some, refl, ◌∙◌, sym, ap, cond}
use Rattle.c_tree.specs.Node.{Nodes}
use Rattle.c_tree.specs.Node as nodes
use Rattle.c_tree.specs.Syntax.{Syntaxes}
use Rattle.c_tree.specs.Syntax as syntax
use Rattle.type_rules.specs.Options.{if_there, ◌>?◌}
use Rattle.tree_comparison.specs.declared.tree_levels.heads.One.{One}
use Rattle.tree_comparison.specs.declared.tree_levels.heads.One.TheVariants as one
use Rattle.tree_comparison.specs.declared.tree_levels.heads.Two.{Two}
use Rattle.tree_comparison.specs.declared.tree_levels.heads.Two.TheVariants as two
use Rattle.tree_comparison.specs.declared.tree_levels.heads.Front.{Front}
use Rattle.tree_comparison.specs.declared.tree_levels.heads.Front.TheVariants as front
use Rattle.tree_comparison.specs.TreeLevels.Levels.{Opened, opened, one_head, two_head, front_head}
use Rattle.hole_matcher.specs.Ways.Walks.{hole_in, matched_opened, seat_of, behind_it}
use Rattle.hole_matcher.specs.declared.seat.Seat as code
use Rattle.hole_matcher.specs.declared.seat.Seat.TheVariants as seats
use Rattle.hole_matching.specs.Holes.{Setting, may_take, takes_rest}
use Rattle.hole_matching.specs.Matched.{bound, rest_hole, is_head, matched, matched_all}
use Rattle.hole_matching.specs.Matching as taking
use Rattle.hole_matching.specs.Matching.{Many, Binding, Seat, Callee, Argument, Elsewhere, first_seat, next_seat}
use Rattle.hole_matching.specs.Pattern.{Head, Pattern, hole, likewise, other, Patterns, no_more, more}
use Rattle.hole_matching.specs.Subjects.{inner, head_of, parts_of, trees, trees_then}
use Rattle.hole_matching.specs.Written.{pattern_of, patterns_of, patterns_then, one_part, two_parts}
use Rattle.c_tree.specs.PathSubjects.Subjects.{Subject, Tree}

-- a pattern that is no hole
pub by_level : (g : Setting) (p : Pattern) (s : Subject) (b : Binding) (x : Option Opened)
    → hole_in p ≡ None → x ≡ opened (head_of g.facts (inner s)) (parts_of (inner s)) → matched_opened g p x b ≡ matched g p s b
by_level g (hole n) s b x h e = cc
by_level g (likewise k ps) s b x h e = ap (λ z. matched_opened g (likewise k ps) z b) e ∙ by (head_of g.facts (inner s))
  where
    by : (o : Option Head) → matched_opened g (likewise k ps) (opened o (parts_of (inner s))) b ≡ cond (is_head o k) (matched_all g (first_seat k) ps (parts_of (inner s)) b) None
    by None = refl
    by (Some l) = refl
by_level g other s b x h e = refl

-- one that has this head
pub by_likewise : (g : Setting) (h : Head) (ps : Patterns) (s : Subject) (b : Binding) (x : Option Opened)
    → x ≡ opened (head_of g.facts (inner s)) (parts_of (inner s)) → matched_opened g (likewise h ps) x b ≡ matched g (likewise h ps) s b
by_likewise g h ps s b x e = by_level g (likewise h ps) s b x refl e

-- a pattern that is this hole
pub by_hole : (g : Setting) (p : Pattern) (s : Subject) (b : Binding) (n : ℕ)
    → hole_in p ≡ Some n → cond (may_take g n (inner s)) (bound g.facts n (taking.One (inner s)) b) None ≡ matched g p s b
by_hole g (hole m) s b n h = ap (λ k. cond (may_take g k (inner s)) (bound g.facts k (taking.One (inner s)) b) None) (sym (some-same m n h))
  where
    some-same : (x y : ℕ) → Some x ≡ Some y → x ≡ y
    some-same x y w = cc
by_hole g (likewise k ps) s b n h = cc
by_hole g other s b n h = cc

-- a hole that may take the rest
pub rest_of : (g : Setting) (p : Pattern) → (hole_in p >? λ n. cond (takes_rest g n) (Some n) None) ≡ rest_hole g Argument p no_more
rest_of g (hole n) = refl
rest_of g (likewise k ps) = refl
rest_of g other = refl

pub then-some : {A : Type 0} (o : Option A) → (o >? λ c. Some c) ≡ o
then-some None = refl
then-some (Some c) = refl

pub then-same : {A : Type 0} (o : Option A) (f g : A → Option A) → ((c : A) → f c ≡ g c) → (o >? f) ≡ (o >? g)
then-same None f g h = refl
then-same (Some c) f g h = h c

then-none : {A : Type 0} (o : Option A) (f : A → Option A) → ((c : A) → f c ≡ None) → (o >? f) ≡ None
then-none None f h = refl
then-none (Some c) f h = h c

then-joined : {A : Type 0} (o : Option A) (f g h : A → Option A) → ((c : A) → f c ≡ (g c >? h)) → (o >? f) ≡ ((o >? g) >? h)
then-joined None f g h k = refl
then-joined (Some c) f g h k = k c

-- parts under a head that is no call
pub one_seat : (h : One) → first_seat (one_head h) ≡ Elsewhere
one_seat (one.Member n) = refl
one_seat (one.Unary op) = refl
one_seat one.SizeofType = refl
one_seat one.IndexDesignator = refl

pub two_seat : (h : Two) → first_seat (two_head h) ≡ Elsewhere
two_seat two.VaArg = refl
two_seat two.Index = refl
two_seat two.CompoundLit = refl
two_seat two.Cast = refl
two_seat (two.Binary op) = refl
two_seat (two.Assign op) = refl

pub one_matched : (g : Setting) (h : One) (p : Pattern) (s : Subject) (b : Binding) → matched_all g (first_seat (one_head h)) (one_part p) (s ∷ []) b ≡ matched g p s b
one_matched g h p s b = ap (λ z. matched_all g z (one_part p) (s ∷ []) b) (one_seat h) ∙ then-some (matched g p s b)

pub two_matched : (g : Setting) (h : Two) (p q : Pattern) (s t : Subject) (b : Binding) → matched_all g (first_seat (two_head h)) (two_parts p q) (s ∷ t ∷ []) b ≡ (matched g p s b >? matched g q t)
two_matched g h p q s t b = ap (λ z. matched_all g z (two_parts p q) (s ∷ t ∷ []) b) (two_seat h) ∙ then-same (matched g p s b) (λ c. matched g q t c >? matched_all g Elsewhere no_more []) (matched g q t) (λ c. then-some (matched g q t c))

pub front_matched : (g : Setting) (h : Front) (p : Pattern) (ps : Patterns) (s : Subject) (ss : List Subject) (b : Binding)
    → matched_all g (first_seat (front_head h)) (more p ps) (s ∷ ss) b ≡ (matched g p s b >? matched_all g (next_seat (first_seat (front_head h))) ps ss)
front_matched g front.Call p ps s ss b = refl
front_matched g (front.Offsetof n) p ps s ss b = refl

-- one more behind both lists
some-left : (g : Setting) (ts : Nodes) (x : Subject) (b : Binding) → matched_all g Elsewhere no_more (trees_then ts (x ∷ [])) b ≡ None
some-left g nodes.no_more x b = refl
some-left g (nodes.more t ts) x b = refl

some-right : (g : Setting) (ps : Syntaxes) (q : Pattern) (b : Binding) → matched_all g Elsewhere (patterns_then ps (one_part q)) [] b ≡ None
some-right g syntax.no_more q b = refl
some-right g (syntax.more p ps) q b = refl

pub last-matched : (g : Setting) (ps : Syntaxes) (ts : Nodes) (q : Pattern) (x : Subject) (b : Binding)
    → (matched_all g Elsewhere (patterns_of ps) (trees ts) b >? matched g q x) ≡ matched_all g Elsewhere (patterns_then ps (one_part q)) (trees_then ts (x ∷ [])) b
last-matched g syntax.no_more nodes.no_more q x b = sym (then-some (matched g q x b))
last-matched g syntax.no_more (nodes.more t ts) q x b = sym (then-none (matched g q (Tree t) b) (matched_all g Elsewhere no_more (trees_then ts (x ∷ []))) (λ c. some-left g ts x c))
last-matched g (syntax.more p ps) nodes.no_more q x b = sym (then-none (matched g (pattern_of p) x b) (matched_all g Elsewhere (patterns_then ps (one_part q)) []) (λ c. some-right g ps q c))
last-matched g (syntax.more p ps) (nodes.more t ts) q x b =
    sym (then-joined (matched g (pattern_of p) (Tree t) b) (matched_all g Elsewhere (patterns_then ps (one_part q)) (trees_then ts (x ∷ []))) (matched_all g Elsewhere (patterns_of ps) (trees ts)) (matched g q x)
    (λ c. sym (last-matched g ps ts q x c)))

-- lists, one by one
pub same-seat : (s : code.Seat) → next_seat (seat_of s) ≡ seat_of s
same-seat seats.Argument = refl
same-seat seats.Elsewhere = refl

pub rest_behind : (g : Setting) (s : Seat) (p q : Pattern) (qs : Patterns) → rest_hole g s p (more q qs) ≡ None
rest_behind g Callee p q qs = refl
rest_behind g Elsewhere p q qs = refl
rest_behind g Argument (hole n) q qs = refl
rest_behind g Argument (likewise k ps) q qs = refl
rest_behind g Argument other q qs = refl

pub list-rest : (g : Setting) (s : Seat) (p : Pattern) (ps : Patterns) (ss : List Subject) (b : Binding) (n : ℕ) → rest_hole g s p ps ≡ Some n → bound g.facts n (Many ss) b ≡ matched_all g s (more p ps) ss b
list-rest g s p ps [] b n h = ap (λ o. o >? λ m. bound g.facts m (Many []) b) (sym h)
list-rest g s p ps (x ∷ xs) b n h = ap (λ o. if_there o (matched g p x b >? matched_all g (next_seat s) ps xs) (λ m. bound g.facts m (Many (x ∷ xs)) b)) (sym h)

pub list-end : (g : Setting) (s : Seat) (p : Pattern) (ps : Patterns) (b : Binding) → rest_hole g s p ps ≡ None → matched_all g s (more p ps) [] b ≡ None
list-end g s p ps b h = ap (λ o. o >? λ m. bound g.facts m (Many []) b) h

pub list-step : (g : Setting) (s : Seat) (p : Pattern) (ps : Patterns) (x : Subject) (xs : List Subject) (b : Binding) → rest_hole g s p ps ≡ None → matched_all g s (more p ps) (x ∷ xs) b ≡ (matched g p x b >? matched_all g (next_seat s) ps xs)
list-step g s p ps x xs b h = ap (λ o. if_there o (matched g p x b >? matched_all g (next_seat s) ps xs) (λ m. bound g.facts m (Many (x ∷ xs)) b)) h
