-- Lists that are read in a loop: one more joins those before.
use Rattle.std.proofs.Common.{◌≡◌, ℕ, zero, suc, ◌-◌, ◌<◌, Bool, true, false, List, [], ◌∷◌, ◌++◌, Option, None, Some, ap, refl, ◌∙◌, sym}
use Rattle.c_tree.specs.declared.tree.Tree.{Tree}
use Rattle.c_tree.specs.declared.punctuator.Punctuator.TheVariants as marks
use Rattle.c_tree.specs.Symbol.{Symbol}
use Rattle.c_tree.specs.Syntax.{Syntaxes, no_more, more}
use Rattle.c_tree.specs.Forget.{view}
use Rattle.c_grammar.specs.Symbols.{after_sign, begins}
use Rattle.c_grammar.specs.Levels.{assignment_level}
use Rattle.c_grammar.specs.Names.{Names, with_param}
use Rattle.c_grammar.specs.Nonterminal.{Expression, Parameter}
use Rattle.c_grammar.specs.Found.{◌>>=◌, Reader}
use Rattle.c_grammar.specs.Ways.ExpressionSteps.{read_designator, read_path, read_more_arguments}
use Rattle.c_grammar.specs.Ways.DeclaratorSteps.{begins_suffix, read_suffix, read_suffixes, read_params}
use Rattle.c_grammar.proofs.Steps.{read_more_arguments-zero, read_more_arguments-some, read_path-zero, read_path-some, read_suffixes-zero, read_suffixes-some, read_params-zero, read_params-some}
use Rattle.c_expr.specs.Gives.{ending_with}
use Rattle.c_expr.specs.ParamLists.{params_after}
use Rattle.c_expr.proofs.Items.{before-push, before-none, ending-longer, last_one, height_in-push}

-- as `ending_with` of the list that is longer by a tree
joins : (found whole : Option (Syntaxes × List Symbol)) (all pushed : List Tree) (t : Tree) (o : Option (Syntaxes × List Symbol)) → pushed ≡ all ++ (t ∷ [])
    → o ≡ (found >>= λ es. Some (more (view t) es.0, es.1)) → ending_with all o ≡ whole → ending_with pushed found ≡ whole
joins found whole all pushed t o p e w = ap (λ x. ending_with x found) p ∙ sym (ending-longer found all t) ∙ sym (ap (ending_with all) e) ∙ w

-- an argument and a comma
pub arguments-next : (inner : Reader) (names a : Names) (f : ℕ) (ts r others : List Symbol) (all pushed : List Tree) (t : Tree) (whole : Option (Syntaxes × List Symbol))
    → 0 < f → a ≡ names → inner (Expression assignment_level) a ts ≡ Some (view t, r) → after_sign marks.Comma r ≡ Some others → pushed ≡ all ++ (t ∷ [])
    → ending_with all (read_more_arguments inner names f ts) ≡ whole → ending_with pushed (read_more_arguments inner names (f - 1) others) ≡ whole
arguments-next inner names a f ts r others all pushed t whole p k h c n w =
    joins (read_more_arguments inner names (f - 1) others) whole all pushed t (read_more_arguments inner names f ts) n (rw (read_more_arguments-some inner names f ts p, sym (ap (λ x. inner (Expression assignment_level) x ts) k) ∙ h, c) refl) w

pub path-next : (inner : Reader) (names a : Names) (f : ℕ) (ts r : List Symbol) (all pushed : List Tree) (t : Tree) (whole : Option (Syntaxes × List Symbol))
    → 0 < f → a ≡ names → after_sign marks.CloseParen ts ≡ None → read_designator inner a ts ≡ Some (view t, r) → pushed ≡ all ++ (t ∷ [])
    → ending_with all (read_path inner names f ts) ≡ whole → ending_with pushed (read_path inner names (f - 1) r) ≡ whole
path-next inner names a f ts r all pushed t whole p k c h n w =
    joins (read_path inner names (f - 1) r) whole all pushed t (read_path inner names f ts) n (rw (read_path-some inner names f ts p, c, sym (ap (λ x. read_designator inner x ts) k) ∙ h) refl) w

pub suffixes-next : (inner : Reader) (names a : Names) (f : ℕ) (ts r : List Symbol) (all pushed : List Tree) (t : Tree) (whole : Option (Syntaxes × List Symbol))
    → 0 < f → a ≡ names → begins begins_suffix ts ≡ true → read_suffix inner a ts ≡ Some (view t, r) → pushed ≡ all ++ (t ∷ [])
    → ending_with all (read_suffixes inner names f ts) ≡ whole → ending_with pushed (read_suffixes inner names (f - 1) r) ≡ whole
suffixes-next inner names a f ts r all pushed t whole p k b h n w =
    joins (read_suffixes inner names (f - 1) r) whole all pushed t (read_suffixes inner names f ts) n (rw (read_suffixes-some inner names f ts p, b, sym (ap (λ x. read_suffix inner x ts) k) ∙ h) refl) w

pub read_suffixes-end : (inner : Reader) (names : Names) (f : ℕ) (ts : List Symbol) → begins begins_suffix ts ≡ false → read_suffixes inner names f ts ≡ Some (no_more, ts)
unfolding read_suffixes
read_suffixes-end inner names zero ts h = rw h refl
read_suffixes-end inner names (suc f) ts h = rw h refl

params-longer : (found : Option (Syntaxes × Bool × List Symbol)) (all : List Tree) (t : Tree) → params_after all (found >>= λ ps. Some (more (view t) ps.0, ps.1, ps.2)) ≡ params_after (all ++ (t ∷ [])) found
params-longer None all t = refl
params-longer (Some ps) all t = let F : Syntaxes → Option (Syntaxes × Bool × List Symbol) = λ s. Some (s, ps.1, ps.2) in ap F (sym (before-push all t ps.0))

-- a parameter and a comma; what it declares is in force behind it
pub params-next : (inner : Reader) (a b c : Names) (f : ℕ) (ts r others : List Symbol) (all pushed : List Tree) (t : Tree) (whole : Option (Syntaxes × Bool × List Symbol))
    → 0 < f → inner Parameter a ts ≡ Some (view t, r) → after_sign marks.Comma r ≡ Some others → after_sign marks.Ellipsis others ≡ None → b ≡ a → c ≡ with_param (view t) b → pushed ≡ all ++ (t ∷ [])
    → params_after all (read_params inner a f ts) ≡ whole → params_after pushed (read_params inner c (f - 1) others) ≡ whole
params-next inner a b c f ts r others all pushed t whole p h o e k d n w =
    ap (λ x. params_after x (read_params inner c (f - 1) others)) n
    ∙ ap (λ x. params_after (all ++ (t ∷ [])) (read_params inner x (f - 1) others)) (d ∙ ap (with_param (view t)) k)
    ∙ sym (params-longer (read_params inner (with_param (view t) a) (f - 1) others) all t)
    ∙ sym (ap (params_after all) step)
    ∙ w
  where
    step : read_params inner a f ts ≡ (read_params inner (with_param (view t) a) (f - 1) others >>= λ ps. Some (more (view t) ps.0, ps.1, ps.2))
    step = rw (read_params-some inner a f ts p, h, o, e) refl

pub ruleset arguments = (read_more_arguments-zero, read_more_arguments-some, last_one, before-none, height_in-push)

pub ruleset paths = (read_path-zero, read_path-some, before-none, height_in-push)

pub ruleset suffixes = (read_suffixes-zero, read_suffixes-some, read_suffixes-end, before-none, height_in-push)

pub ruleset params = (read_params-zero, read_params-some, last_one, before-none, height_in-push)
