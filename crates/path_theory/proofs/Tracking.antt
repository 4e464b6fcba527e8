-- What a run does to a fact, step by step: over an event, into a callee, back from it and around it the fact stays
-- tracked.
-- The callee's run may come from another path than the caller's; independence makes it fit.
use Rattle.std.proofs.Common.{◌≡◌, Bool, false, Option, Some, None, refl, sym, ◌∙◌, ap, option_and_then}
use Rattle.path_theory.specs.Model.{Model, Map}
use Rattle.path_theory.specs.Supergraph.{Supergraph}
use Rattle.path_theory.specs.Origins.{Origins, IsLocal, handed}
use Rattle.path_theory.specs.Runs.{Run, Here, Skipped, Gone, Closed, run_global, run_map, origin}
use Rattle.path_theory.specs.Facts.{NoObject, HasObject, Fact, Gives, GivesNone, GivesState, fact_of, Objects}
use Rattle.path_theory.specs.Flows.{EventFlow, EventNone, EventObject, CallFlow, CallNone, CallObject, ReturnFlow, ReturnNone, ReturnObject}
use Rattle.path_theory.specs.Realised.{IsTracked}
use Rattle.path_theory.proofs.SmallFacts.{none_some, some_some, no_object_object, fact_of_some, fact_of_none}
use Rattle.path_theory.proofs.Independence.{independent}

module _ (M : Model) (K : Supergraph M) (L : Origins M) (I : IsLocal M L) (A : Objects M) where
  -- the state that a fact gives is that of the map
  pub gives_state : {f : M.Fn} {p : K.Place} (R : Run M K f p) (k : Bool) (g : M.Global) (m : Map M) (t₀ : Fact M)
      {z : Option M.Obj} {t : Fact M} {x : Option M.State}
      → Gives z t x → IsTracked M K L R k g m t₀ t → option_and_then (run_map M K R k g m) z ≡ x
  gives_state R k g m t₀ GivesNone w = refl
  gives_state R k g m t₀ GivesState w = w.0

  -- and it goes back to the same fact at the entry
  gives_entry : {f : M.Fn} {p : K.Place} (R : Run M K f p) (k : Bool) (g : M.Global) (m : Map M) (t₀ : Fact M)
      {z : Option M.Obj} {t : Fact M} {x : Option M.State}
      → Gives z t x → IsTracked M K L R k g m t₀ t → t₀ ≡ fact_of (option_and_then (origin M K L R) z) m
  gives_entry R k g m t₀ GivesNone w = w
  gives_entry R k g m t₀ GivesState w = w.1

  pub tracked_skip : {f : M.Fn} {p q : K.Place} (R : Run M K f p) (j : K.Skips f p q) (k : Bool) (g : M.Global)
      (m : Map M) (t₀ t : Fact M)
      → IsTracked M K L R k g m t₀ t → IsTracked M K L (Skipped R j) k g m t₀ t
  tracked_skip R j k g m t₀ NoObject w = w
  tracked_skip R j k g m t₀ (HasObject o x) w = w

  pub tracked_go : {f : M.Fn} {p q : K.Place} (R : Run M K f p) (e : M.Event) (j : K.Goes f p e q) (k : Bool)
      (g i : M.Global) (m : Map M) (t₀ : Fact M) {t u : Fact M}
      → EventFlow M L A f k e i t u → run_global M K R k g ≡ i → IsTracked M K L R k g m t₀ t
      → IsTracked M K L (Gone R e j) k g m t₀ u
  tracked_go R e j k g i m t₀ EventNone q w = w
  tracked_go {f = f} R e j k g i m t₀ (EventObject o x a v) q w = (
    ap (λ y. M.choose e f k y o (M.moved e (run_map M K R k g m) o)) q ∙ ap (M.choose e f k i o) (I.moved e (run_map M K R k g m) o ∙ gives_state R k g m t₀ v w),
    gives_entry R k g m t₀ v w,
  )

  pub tracked_call : {f h : M.Fn} {p : K.Place} (R : Run M K f p) (s : M.Site) (k : Bool) (g i : M.Global) (m : Map M)
      (t₀ : Fact M) {t u : Fact M}
      → CallFlow M L A s h t u → IsTracked M K L R k g m t₀ t
      → IsTracked M K L (Here {f = h}) false i (M.entered s (run_map M K R k g m)) u u
  tracked_call R s k g i m t₀ CallNone w = refl
  tracked_call R s k g i m t₀ (CallObject c x a v) w =
      let e : M.entered s (run_map M K R k g m) c ≡ x = I.entered s (run_map M K R k g m) c ∙ gives_state R k g m t₀ v w in
      (e, ap (HasObject c) (sym e))

  -- the state of what the callee hands back is that of the closed call
  handed_state : {f h : M.Fn} {p q r : K.Place} (R : Run M K f p) (s : M.Site) (j : K.Calls f p s h q)
      (C : Run M K h r) (e : K.Ends h r) (k : Bool) (g i : M.Global) (m n : Map M) (o c : M.Obj) (x : Option M.State)
      → run_global M K R k g ≡ i → L.out s o ≡ Some c → run_map M K C false i n c ≡ x
      → ((b : M.Obj) → origin M K L C c ≡ Some b → option_and_then (run_map M K R k g m) (L.into s b) ≡ n b)
      → run_map M K (Closed R s j C e) k g m o ≡ x
  handed_state R s j C e k g i m n o c x q d y h =
      I.returned s (run_map M K C false (run_global M K R k g) (M.entered s (run_map M K R k g m))) (run_map M K R k g m) o
      ∙ ap (λ z. handed z (run_map M K C false (run_global M K R k g) (M.entered s (run_map M K R k g m))) (run_map M K R k g m o)) d
      ∙ ap (λ z. run_map M K C false z (M.entered s (run_map M K R k g m)) c) q
      ∙ independent M K L I C false i (M.entered s (run_map M K R k g m)) n c (λ b l. I.entered s (run_map M K R k g m) b ∙ h b l)
      ∙ y

  handed_origin : {f h : M.Fn} {p q r : K.Place} (R : Run M K f p) (s : M.Site) (j : K.Calls f p s h q)
      (C : Run M K h r) (e : K.Ends h r) (o c : M.Obj) (z : Option M.Obj)
      → L.out s o ≡ Some c → origin M K L C c ≡ z
      → origin M K L (Closed R s j C e) o ≡ option_and_then (origin M K L R) (option_and_then (L.into s) z)
  handed_origin R s j C e o c z d l =
      ap (λ y. handed y (λ b. option_and_then (origin M K L R) (option_and_then (L.into s) (origin M K L C b))) (origin M K L R o)) d
      ∙ ap (λ y. option_and_then (origin M K L R) (option_and_then (L.into s) y)) l

  pub tracked_return : {f h : M.Fn} {p q r : K.Place} (R : Run M K f p) (s : M.Site) (j : K.Calls f p s h q)
      (C : Run M K h r) (e : K.Ends h r) (k : Bool) (g i : M.Global) (m n : Map M) (t₀ : Fact M) {t u v w : Fact M}
      → CallFlow M L A s h t u → ReturnFlow M L A s f v w → run_global M K R k g ≡ i → IsTracked M K L R k g m t₀ t
      → IsTracked M K L C false i n u v → IsTracked M K L (Closed R s j C e) k g m t₀ w
  tracked_return R s j C e k g i m n t₀ CallNone ReturnNone q a b = a
  tracked_return R s j C e k g i m n t₀ (CallObject c x l v) ReturnNone q a b = no_object_object c x b
  tracked_return R s j C e k g i m n t₀ CallNone (ReturnObject o c x l d) q a b =
      let z : origin M K L C c ≡ None = fact_of_none (origin M K L C c) n b.1 in (
        handed_state R s j C e k g i m n o c x q d b.0 (λ y d2. none_some (origin M K L C c) y z d2),
        a ∙ ap (λ y. fact_of y m) (sym (handed_origin R s j C e o c None d z)),
      )
  tracked_return R s j C e k g i m n t₀ (CallObject c₀ y l₀ v) (ReturnObject o c x l d) q a b =
      let z = fact_of_some (origin M K L C c) n c₀ y b.1 in (
        handed_state R s j C e k g i m n o c x q d b.0
            (λ y2 d2. let same : y2 ≡ c₀ = some_some (origin M K L C c) c₀ y2 z.0 d2 in
            ap (λ o2. option_and_then (run_map M K R k g m) (L.into s o2)) same ∙ gives_state R k g m t₀ v a ∙ z.1 ∙ ap n (sym same)),
        gives_entry R k g m t₀ v a ∙ ap (λ o2. fact_of o2 m) (sym (handed_origin R s j C e o c (Some c₀) d z.0)),
      )

  pub tracked_saved : {f h : M.Fn} {p q r : K.Place} (R : Run M K f p) (s : M.Site) (j : K.Calls f p s h q)
      (C : Run M K h r) (e : K.Ends h r) (k : Bool) (g : M.Global) (m : Map M) {t₀ : Fact M} (o : M.Obj)
      (x : Option M.State)
      → L.out s o ≡ None → IsTracked M K L R k g m t₀ (HasObject o x)
      → IsTracked M K L (Closed R s j C e) k g m t₀ (HasObject o x)
  tracked_saved R s j C e k g m o x d w = (
    I.returned s (run_map M K C false (run_global M K R k g) (M.entered s (run_map M K R k g m))) (run_map M K R k g m) o
        ∙ ap (λ z. handed z (run_map M K C false (run_global M K R k g) (M.entered s (run_map M K R k g m))) (run_map M K R k g m o)) d
        ∙ w.0,
    w.1 ∙ ap (λ o2. fact_of o2 m) (sym (ap (λ y. handed y (λ b. option_and_then (origin M K L R) (option_and_then (L.into s) (origin M K L C b))) (origin M K L R o)) d)),
  )
