-- Specifiers that are read one after the other.
use Rattle.std.proofs.Common.{◌≡◌, ℕ, zero, suc, max, ◌+◌, ◌-◌, ◌<◌, ◌≤◌, Bool, true, false, ◌||◌, List, [], ◌∷◌, ◌++◌, length, Option, None, Some, Result, Ok, Err, ap, refl, ◌∙◌, sym, arith}
use Rattle.c_tree.specs.declared.tree.Tree.{Tree}
use Rattle.c_tree.specs.declared.tree.Trees.{Trees, out-Trees}
use Rattle.c_tree.specs.Symbol.{Symbol}
use Rattle.c_tree.specs.Syntax.{Syntax, Syntaxes, no_more, more}
use Rattle.c_tree.specs.Height.{height_of, height_in}
use Rattle.c_tree.specs.Forget.{syntaxes_of, view, view_all, list_view}
use Rattle.c_tree.proofs.Rows.{nodes_out}
use Rattle.c_grammar.specs.Symbols.{take_symbol}
use Rattle.c_grammar.specs.Names.{Names}
use Rattle.c_grammar.specs.Specifiers.{Place, goes_on, types, type_words, other_types, is_among, fit}
use Rattle.c_grammar.specs.Found.{◌>>=◌}
use Rattle.c_grammar.specs.Ways.SpecifierSteps.{read_tag, read_item, read_items}
use Rattle.c_grammar.specs.Nonterminal.{Specifiers}
use Rattle.c_grammar.specs.Reading.{read}
use Rattle.c_grammar.proofs.Steps.{read-zero, read-some, read_items-zero, read_items-some}
use Rattle.c_expr.specs.Gives.{before, ending_with, count_in, done}
use Rattle.c_expr.specs.declared.fault.ExprFault.{ExprFault}
use Rattle.c_expr.specs.declared.nodes.Read.{Read}

pub before-push : (ts : List Tree) (t : Tree) (es : Syntaxes) → before (ts ++ (t ∷ [])) es ≡ before ts (more (view t) es)
before-push [] t es = refl
before-push (u ∷ ts) t es = ap (more (view u)) (before-push ts t es)

pub before-none : (ts : List Tree) → before ts no_more ≡ view_all ts
before-none [] = refl
before-none (t ∷ ts) = ap (more (view t)) (before-none ts)

abbrev longer : Syntax → Option (Syntaxes × List Symbol) → Option (Syntaxes × List Symbol)
longer e found = found >>= λ es. Some (more e es.0, es.1)

pub ending-longer : (found : Option (Syntaxes × List Symbol)) (all : List Tree) (t : Tree) → ending_with all (longer (view t) found) ≡ ending_with (all ++ (t ∷ [])) found
ending-longer None all t = refl
ending-longer (Some es) all t = let F : Syntaxes → Option (Syntaxes × List Symbol) = λ s. Some (s, es.1) in ap F (sym (before-push all t es.0))

pub last_one : (all : List Tree) (t : Tree) → before all (more (view t) no_more) ≡ view_all (all ++ (t ∷ []))
last_one all t = sym (before-push all t no_more) ∙ before-none (all ++ (t ∷ []))

pub height_in-push : (all : List Tree) (t : Tree) → height_in (view_all (all ++ (t ∷ []))) ≡ max (height_of (view t)) (height_in (view_all all))
height_in-push [] t = omega arith
height_in-push (u ∷ all) t = let h = height_in-push all t in omega arith

pub count_in-push : (all : List Tree) (t : Tree) → count_in (view_all (all ++ (t ∷ []))) ≡ count_in (view_all all) + 1
count_in-push [] t = refl
count_in-push (u ∷ all) t = ap (λ n. n + 1) (count_in-push all t)

pub read_items-end : (names : Names) (f : ℕ) (typed : Bool) (ts : List Symbol) → take_symbol (goes_on names typed) ts ≡ None → read_items read_tag names f typed ts ≡ Some (no_more, ts)
unfolding read_items
read_items-end names zero typed ts h = rw h refl
read_items-end names (suc f) typed ts h = rw h refl

pub height_pushed : (all pushed : List Tree) (t : Tree) → pushed ≡ all ++ (t ∷ []) → height_in (view_all pushed) ≡ max (height_of (view t)) (height_in (view_all all))
height_pushed all pushed t h = ap (λ ts. height_in (view_all ts)) h ∙ height_in-push all t

pub count_pushed : (all pushed : List Tree) (t : Tree) → pushed ≡ all ++ (t ∷ []) → count_in (view_all pushed) ≡ count_in (view_all all) + 1
count_pushed all pushed t h = ap (λ ts. count_in (view_all ts)) h ∙ count_in-push all t

-- one more joins those before
pub items-next : (names : Names) (f : ℕ) (typed adds : Bool) (ts : List Symbol) (t : Symbol) (r rest : List Symbol) (all pushed : List Tree) (tree : Tree) (whole : Option (Syntaxes × List Symbol))
    → 0 < f → take_symbol (goes_on names typed) ts ≡ Some (t, r) → read_item read_tag t r ≡ Some (view tree, rest) → adds ≡ types (view tree) → pushed ≡ all ++ (tree ∷ [])
    → ending_with all (read_items read_tag names f typed ts) ≡ whole
    → ending_with pushed (read_items read_tag names (f - 1) (typed || adds) rest) ≡ whole
items-next names f typed adds ts t r rest all pushed tree whole p h e a n w =
    ap (λ x. ending_with pushed (read_items read_tag names (f - 1) (typed || x) rest)) a
    ∙ ap (λ x. ending_with x (read_items read_tag names (f - 1) (typed || types (view tree)) rest)) n
    ∙ sym (rw (read_items-some read_tag names f typed ts p, h, e) (ending-longer (read_items read_tag names (f - 1) (typed || types (view tree)) rest) all tree))
    ∙ w

-- nothing alone is no specifiers
fit-none : (place : Place) → fit place no_more ≡ false
unfolding type_words other_types is_among
fit-none place = refl

pub fit-some : (place : Place) (trees : Trees) (b : Bool) → b ≡ fit place (view_all (out-Trees trees).all.now) → b ≡ true → 0 < count_in (list_view trees)
fit-some place trees b e h = by (list_view trees) (sym h ∙ e ∙ ap (fit place) (sym (ap syntaxes_of (nodes_out trees))))
  where
    by : (es : Syntaxes) → true ≡ fit place es → 0 < count_in es
    by no_more h = let n = fit-none place in cc
    by (more e es) h = omega arith

pub specifiers-none : (m : ℕ) (place : Place) (names : Names) (ts : List Symbol) → read_items read_tag names (length ts) false ts ≡ None → read m (Specifiers place) names ts ≡ None
specifiers-none m place names ts h = by m
  where
    by : (m : ℕ) → read m (Specifiers place) names ts ≡ None
    by zero = read-zero (Specifiers place) names ts
    by (suc n) = rw (read-some (suc n) (Specifiers place) names ts (omega arith), h) refl

pub list_out : (trees : Trees) → list_view trees ≡ view_all (out-Trees trees).all.now
list_out trees = ap syntaxes_of (nodes_out trees)

pub done-most : (r : Result Read ExprFault) → done r ≤ 1
done-most (Ok r) = omega arith
done-most (Err e) = omega arith

pub ruleset items = (read_items-zero, read_items-some, read_items-end, before-none, height_in-push, count_in-push)

pub ruleset specifiers = (read-zero, read-some, specifiers-none, list_out)
