-- A list of patterns and one of trees, one by one.
use Rattle.std.proofs.Common.{arith, ◌≡◌, ◌<◌, ◌≤◌, ℕ, zero, suc, ◌+◌, List, [], ◌∷◌, ◌-◌, length, get_or, drop, take, Bool, true, false, cond, Option, None, Some, refl, ◌∙◌, sym, ap}
use Rattle.std.specs.Prelude.{◌==◌}
use Rattle.std.proofs.lemmas.List.{drop_all, length-drop, take_all}
use Rattle.c_tree.proofs.Rows.{nodes_drop}
use Rattle.c_tree.specs.declared.tree.Tree.{Tree}
use Rattle.c_tree.specs.Forget.{view, view_all, syntaxes_of}
use Rattle.c_tree.specs.Views.{node_of, nodes_in}
use Rattle.type_rules.specs.Options.{◌>?◌}
use Rattle.hole_matcher.proofs.WalkSteps.{rest_behind, list-rest, list-end, list-step}
use Rattle.hole_matcher.specs.Ways.Walks.{behind_it}
use Rattle.hole_matching.specs.Holes.{Setting}
use Rattle.hole_matching.specs.Matched.{bound, rest_hole, matched, matched_all}
use Rattle.hole_matching.specs.Matching.{Many, Binding, Seat, next_seat}
use Rattle.hole_matching.specs.Pattern.{Pattern, Patterns, other, no_more, more}
use Rattle.hole_matching.specs.Subjects.{trees}
use Rattle.hole_matching.specs.Written.{pattern_of, patterns_of}
use Rattle.c_tree.specs.PathSubjects.Subjects as subjects

abbrev are_none : List Tree → Bool
are_none [] = true
are_none (t ∷ ts) = false

none-behind : (all : List Tree) (i : ℕ) → i < length all → (i + 1 == length all) ≡ are_none (drop (i + 1) all)
none-behind [] i h = absurd (omega arith)
none-behind (x ∷ []) zero h = grind arith
none-behind (x ∷ y ∷ ys) zero h = grind arith
none-behind (x ∷ xs) (suc i) h =
    let e : (suc i + 1 == suc (length xs)) ≡ (i + 1 == length xs) = grind arith in
    let f : suc i + 1 ≡ suc (i + 1) = grind arith in
    e ∙ none-behind xs i (omega arith) ∙ ap (λ k. are_none (drop k (x ∷ xs))) (sym f)

last-left : (g : Setting) (s : Seat) (p : Pattern) (ts : List Tree) → rest_hole g s p (behind_it (are_none ts)) ≡ rest_hole g s p (patterns_of (view_all ts))
last-left g s p [] = refl
last-left g s p (t ∷ ts) = rest_behind g s p other no_more ∙ sym (rest_behind g s p (pattern_of (view t)) (patterns_of (view_all ts)))

-- the hole for the rest, by whether a pattern is the last one
pub rest-at : (g : Setting) (s : Seat) (p : Pattern) (all : List Tree) (i : ℕ) (last : Bool) → i < length all → last ≡ (i + 1 == length all)
    → rest_hole g s p (behind_it last) ≡ rest_hole g s p (patterns_of (view_all (drop (i + 1) all)))
rest-at g s p all i last h e = ap (λ b. rest_hole g s p (behind_it b)) (e ∙ none-behind all i h) ∙ last-left g s p (drop (i + 1) all)

pub patterns-at : (all : List Tree) (i : ℕ) (d : Tree) → i < length all → patterns_of (view_all (drop i all)) ≡ more (pattern_of (view (get_or all i d))) (patterns_of (view_all (drop (i + 1) all)))
patterns-at all i d h = ap (λ ns. patterns_of (syntaxes_of ns)) (nodes_drop all i d h)

pub trees-at : (given : List Tree) (i : ℕ) (d : Tree) → i < length given → trees (nodes_in (drop i given)) ≡ (subjects.Tree (node_of (get_or given i d)) ∷ trees (nodes_in (drop (i + 1) given)))
trees-at given i d h = ap trees (nodes_drop given i d h)

pub trees-end : (given : List Tree) (i : ℕ) → length given ≤ i → trees (nodes_in (drop i given)) ≡ []
trees-end given i h = ap (λ ts. trees (nodes_in ts)) (drop_all i given h)

pub patterns-end : (all : List Tree) (i : ℕ) → length all ≤ i → patterns_of (view_all (drop i all)) ≡ no_more
patterns-end all i h = ap (λ ts. patterns_of (view_all ts)) (drop_all i all h)

-- the last hole takes what is left
pub list-takes : (g : Setting) (s : Seat) (all given : List Tree) (i : ℕ) (d : Tree) (b : Binding) (n : ℕ) (last : Bool) → i < length all → last ≡ (i + 1 == length all)
    → rest_hole g s (pattern_of (view (get_or all i d))) (behind_it last) ≡ Some n
    → bound g.facts n (Many (trees (nodes_in (drop i given)))) b ≡ matched_all g s (patterns_of (view_all (drop i all))) (trees (nodes_in (drop i given))) b
list-takes g s all given i d b n last h l e =
    list-rest g s (pattern_of (view (get_or all i d))) (patterns_of (view_all (drop (i + 1) all))) (trees (nodes_in (drop i given))) b n (sym (rest-at g s (pattern_of (view (get_or all i d))) all i last h l) ∙ e)
    ∙ ap (λ ps. matched_all g s ps (trees (nodes_in (drop i given))) b) (sym (patterns-at all i d h))

-- there is no tree left for a pattern
pub list-ends : (g : Setting) (s : Seat) (all given : List Tree) (i : ℕ) (d : Tree) (b : Binding) (last : Bool) → i < length all → last ≡ (i + 1 == length all)
    → rest_hole g s (pattern_of (view (get_or all i d))) (behind_it last) ≡ None → length given ≤ i
    → None ≡ matched_all g s (patterns_of (view_all (drop i all))) (trees (nodes_in (drop i given))) b
list-ends g s all given i d b last h l e k =
    sym (ap (λ ps. matched_all g s ps (trees (nodes_in (drop i given))) b) (patterns-at all i d h)
    ∙ ap (λ ss. matched_all g s (more (pattern_of (view (get_or all i d))) (patterns_of (view_all (drop (i + 1) all)))) ss b) (trees-end given i k)
    ∙ list-end g s (pattern_of (view (get_or all i d))) (patterns_of (view_all (drop (i + 1) all))) b (sym (rest-at g s (pattern_of (view (get_or all i d))) all i last h l) ∙ e))

-- a pattern and a tree, and then those behind
pub list-goes : (g : Setting) (s : Seat) (all given : List Tree) (i : ℕ) (d f : Tree) (b : Binding) (last : Bool) → next_seat s ≡ s → i < length all → last ≡ (i + 1 == length all)
    → rest_hole g s (pattern_of (view (get_or all i d))) (behind_it last) ≡ None → i < length given
    → (matched g (pattern_of (view (get_or all i d))) (subjects.Tree (node_of (get_or given i f))) b >? matched_all g s (patterns_of (view_all (drop (i + 1) all))) (trees (nodes_in (drop (i + 1) given))))
    ≡ matched_all g s (patterns_of (view_all (drop i all))) (trees (nodes_in (drop i given))) b
list-goes g s all given i d f b last n h l e k =
    let p = pattern_of (view (get_or all i d)) in
    let ps = patterns_of (view_all (drop (i + 1) all)) in
    let x = subjects.Tree (node_of (get_or given i f)) in
    let xs = trees (nodes_in (drop (i + 1) given)) in
    sym (ap (λ qs. matched_all g s qs (trees (nodes_in (drop i given))) b) (patterns-at all i d h)
    ∙ ap (λ ss. matched_all g s (more p ps) ss b) (trees-at given i f k)
    ∙ list-step g s p ps x xs b (sym (rest-at g s p all i last h l) ∙ e)
    ∙ ap (λ z. matched g p x b >? matched_all g z ps xs) n)

some-over : (g : Setting) (s : Seat) (ts : List Tree) (b : Binding) → 1 ≤ length ts → matched_all g s no_more (trees (nodes_in ts)) b ≡ None
some-over g s [] b h = absurd (omega arith)
some-over g s (t ∷ ts) b h = refl

-- there is no pattern left
pub list-done : (g : Setting) (s : Seat) (all given : List Tree) (i : ℕ) (b : Binding) (same : Bool) → length all ≤ i → i ≤ length all → i ≤ length given → same ≡ (length all == length given)
    → cond same (Some b) None ≡ matched_all g s (patterns_of (view_all (drop i all))) (trees (nodes_in (drop i given))) b
list-done g s all given i b same h k m e = by same refl ∙ sym (ap (λ ps. matched_all g s ps (trees (nodes_in (drop i given))) b) (patterns-end all i h))
  where
    by : (c : Bool) → same ≡ c → cond same (Some b) None ≡ matched_all g s no_more (trees (nodes_in (drop i given))) b
    by true q =
        let l : length given ≤ i = grind (arith, h, k, m, e, q) in
        ap (λ c. cond c (Some b) None) q ∙ sym (ap (λ ss. matched_all g s no_more ss b) (trees-end given i l))
    by false q =
        let n = length-drop i given in
        let l : 1 ≤ length (drop i given) = grind (arith, h, k, m, e, q, n) in
        ap (λ c. cond c (Some b) None) q ∙ sym (some-over g s (drop i given) b l)

-- what is behind a place, up to the end
pub all-behind : (ts : List Tree) (i : ℕ) → take (length ts - i) (drop i ts) ≡ drop i ts
all-behind ts i = let e = length-drop i ts in take_all (length ts - i) (drop i ts) (omega (arith, e))
