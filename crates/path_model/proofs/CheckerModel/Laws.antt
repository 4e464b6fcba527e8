-- The laws of the theory of paths, for every checker.
use Rattle.std.proofs.Common.{◌≡◌, ℕ, Bool, true, false, cond, not, ◌||◌, Option, None, Some, refl, sym, ap, ◌∙◌, nat_eq, option_and_then}
use Rattle.c_objects.specs.Objects.{Object}
use Rattle.flow_graph.specs.CPaths.Events.{Event}
use Rattle.type_rules.specs.Options.{◌>?◌, if_there}
use Rattle.report_model.specs.declared.report.Report.{Report}
use Rattle.path_theory.specs.FrameEnds.{IgnoresKind, EndsQuietly}
use Rattle.path_theory.specs.Origins.{IsLocal, handed}
use Rattle.path_model.specs.CheckerModel.Calls.{returned, into, out}
use Rattle.path_model.specs.CheckerModel.Checkers.{model, origins, source_at}
use Rattle.metal_tree.specs.MetalMachines.Machine.{stop}
use Rattle.path_model.specs.CheckerModel.Choices.{State, Taken, is_exit, is_asked, is_global_asked, first_some, global_rule, object_rule, scene, taken, taken_global, next_global, chosen, global_behind, object_behind, target_at}
use Rattle.path_model.specs.CheckerModel.Happenings.{Function, Happening}
use Rattle.path_model.specs.CheckerModel.Reports.{Checker, Fires, FiresGlobal, report_of}

then-is-and_then : {A B : Type 0} (x : Option A) (f : A → Option B) → (x >? f) ≡ option_and_then f x
then-is-and_then None f = refl
then-is-and_then (Some a) f = refl

returned-is-handed : (x : Option Object) (callee caller : Object → Option State) (o : Object) → returned x callee caller o ≡ handed x callee (caller o)
returned-is-handed None callee caller o = refl
returned-is-handed (Some c) callee caller o = refl

pub local : (c : Checker) → IsLocal (model c) (origins c)
local c = record {
  moved = λ h m o. then-is-and_then (source_at c.depth h o) m;
  entered = λ s m o. then-is-and_then (into c.depth s o) m;
  returned = λ s callee caller o. returned-is-handed (out c.depth s o) callee caller o;
}

-- whoever isn't at an exit is asked in every frame
asked-alike : (e : Event) (k l : Bool) (o : Object) → is_exit e ≡ false → is_asked e k o ≡ is_asked e l o
asked-alike e k l o h = rw h refl

global-asked-alike : (e : Event) (k l : Bool) → is_exit e ≡ false → is_global_asked e k ≡ is_global_asked e l
global-asked-alike e k l h = rw h refl

module _ (c : Checker) (h : Happening) (f : Function) where
  -- what is taken where the global state is asked or isn't
  abbrev global_if : ℕ → Bool → Option Taken
  global_if g asked = cond (nat_eq g stop || not asked) None (first_some (global_rule (scene c.machine c.depth h f) h.event g) c.machine.rules)

  abbrev object_if : ℕ → Object → Option State → Bool → Option Taken
  object_if g o x asked = cond (nat_eq g stop || not asked) None (first_some (object_rule (scene c.machine c.depth h f) h.event g o x) c.machine.rules)

  taken_global-is : (k : Bool) (g : ℕ) → taken_global c.machine c.depth h f k g ≡ global_if g (is_global_asked h.event k)
  taken_global-is k g = refl

  taken-is : (k : Bool) (g : ℕ) (o : Object) (x : Option State) → taken c.machine c.depth h f k g o x ≡ object_if g o x (is_asked h.event k o)
  taken-is k g o x = refl

  globals-alike : (k l : Bool) (g : ℕ) → is_exit h.event ≡ false → taken_global c.machine c.depth h f k g ≡ taken_global c.machine c.depth h f l g
  globals-alike k l g e = ap (global_if g) (global-asked-alike h.event k l e)

  objects-alike : (k l : Bool) (g : ℕ) (o : Object) (x : Option State) → is_exit h.event ≡ false → taken c.machine c.depth h f k g o x ≡ taken c.machine c.depth h f l g o x
  objects-alike k l g o x e = ap (object_if g o x) (asked-alike h.event k l o e)

  pub next-alike : (k l : Bool) (g : ℕ) → is_exit h.event ≡ false → next_global c.machine c.depth h f k g ≡ next_global c.machine c.depth h f l g
  next-alike k l g e = ap (λ t. if_there t g (λ t. global_behind (target_at h.event t.rule.dest) g)) (globals-alike k l g e)

  pub chosen-alike : (k l : Bool) (g : ℕ) (o : Object) (x : Option State) → is_exit h.event ≡ false → chosen c.machine c.depth h f k g o x ≡ chosen c.machine c.depth h f l g o x
  chosen-alike k l g o x e = ap (λ t. if_there t x (λ t. object_behind (target_at h.event t.rule.dest) x)) (objects-alike k l g o x e)

  pub fires-alike : (k l : Bool) (g : ℕ) (o : Object) (x : Option State) (r : Report) → is_exit h.event ≡ false → Fires c h f k g o x r → Fires c h f l g o x r
  fires-alike k l g o x r e p = sym (ap (λ t. t >? report_of c h f (Some o)) (objects-alike k l g o x e)) ∙ p

  pub fires_global-alike : (k l : Bool) (g : ℕ) (r : Report) → is_exit h.event ≡ false → FiresGlobal c h f k g r → FiresGlobal c h f l g r
  fires_global-alike k l g r e p = sym (ap (λ t. t >? report_of c h f None) (globals-alike k l g e)) ∙ p

  -- at the exit of a called function the global state isn't asked
  not-asked : (g : ℕ) → is_exit h.event ≡ true → taken_global c.machine c.depth h f false g ≡ None
  not-asked g e = ap (global_if g) (unasked e) ∙ none (nat_eq g stop)
    where
      unasked : is_exit h.event ≡ true → is_global_asked h.event false ≡ false
      unasked e = rw e refl

      none : (b : Bool) → cond (b || not false) None (first_some (global_rule (scene c.machine c.depth h f) h.event g) c.machine.rules) ≡ None
      none true = refl
      none false = refl

  pub stays-at-exits : (g : ℕ) → is_exit h.event ≡ true → next_global c.machine c.depth h f false g ≡ g
  stays-at-exits g e = ap (λ t. if_there t g (λ t. global_behind (target_at h.event t.rule.dest) g)) (not-asked g e)

  pub no-global-report : (g : ℕ) (r : Report) → is_exit h.event ≡ true → FiresGlobal c h f false g r → FiresGlobal c h f true g r
  no-global-report g r e p = absurd (none≢some (sym (ap (λ t. t >? report_of c h f None) (not-asked g e)) ∙ p))
    where
      none≢some : None ≡ Some r → ⊥
      none≢some q = cc

  -- what an object takes when it is asked is what it takes at the end of a root
  asked-at-root : (o : Object) → is_exit h.event ≡ true → is_asked h.event true o ≡ true
  asked-at-root o e = rw e refl

  pub reports-at-root : (g : ℕ) (o : Object) (x : Option State) (r : Report) → is_exit h.event ≡ true → Fires c h f false g o x r → Fires c h f true g o x r
  reports-at-root g o x r e p = by (is_asked h.event false o) refl
    where
      report : Option Taken → Option Report
      report t = t >? report_of c h f (Some o)

      none : (b : Bool) → cond (b || not false) None (first_some (object_rule (scene c.machine c.depth h f) h.event g o x) c.machine.rules) ≡ None
      none true = refl
      none false = refl

      by : (b : Bool) → is_asked h.event false o ≡ b → Fires c h f true g o x r
      by true a = ap (λ b. report (object_if g o x b)) (asked-at-root o e ∙ sym a) ∙ p
      by false a = absurd (none≢some (sym (ap report (ap (object_if g o x) a ∙ none (nat_eq g stop))) ∙ p))
        where
          none≢some : None ≡ Some r → ⊥
          none≢some q = cc

pub ignores : (c : Checker) → IgnoresKind (model c) (λ h. is_exit h.event ≡ false)
ignores c = record {
  global = λ h s f k l g. next-alike c h f k l g s;
  choice = λ h s f k l g o x. chosen-alike c h f k l g o x s;
  fires = λ h s f k l g o x r p. fires-alike c h f k l g o x r s p;
  fires_global = λ h s f k l g r p. fires_global-alike c h f k l g r s p;
}

pub quiet : (c : Checker) → EndsQuietly (model c) (λ h. is_exit h.event ≡ true)
quiet c = record {
  global = λ h s f g. stays-at-exits c h f g s;
  fires = λ h s f g o x r p. reports-at-root c h f g o x r s p;
  fires_global = λ h s f g r p. no-global-report c h f g r s p;
}
