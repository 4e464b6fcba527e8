-- What the events of a block bind, the global state carried along: nothing, or what the first binds, or what the others bind behind it.
-- All that rules bind where their global states are met is among what the blocks bind from the states at their first places.
use Rattle.std.proofs.Common.{◌≡◌, ◌⊎◌, inl, inr, Bool, Some, None, List, [], ◌∷◌, ◌++◌, refl, sym, ◌∙◌, ap, subst}
use Rattle.path_theory.specs.Model.{Model}
use Rattle.path_theory.specs.FlowGraphs.{FlowGraphs}
use Rattle.masked_paths.specs.Met.{BlockStates, global_behind, MetInBlocks, BoundAmong}

nothing_before : {X B : Type 0} (before : List X) (e : X) (later : List X) → [] ≡ before ++ e ∷ later → B
nothing_before [] e later d = cc
nothing_before (a ∷ before) e later d = cc

first_of : {X : Type 0} {d e : X} {ds es : List X} → d ∷ ds ≡ e ∷ es → d ≡ e
first_of d = cc

others_of : {X : Type 0} {d e : X} {ds es : List X} → d ∷ ds ≡ e ∷ es → ds ≡ es
others_of d = cc

module _ (M : Model) (f : M.Fn) (k : Bool) (o : M.Obj) where
  -- the event gives the object a state
  abbrev pub Binds : M.Event → M.Global → Type 0
  Binds e g = (x : M.State) × (M.choose e f k g o None ≡ Some x)

  pub none_bound : {B : Type 0} (g : M.Global) → BoundAmong M f k [] g o → B
  none_bound g w = nothing_before w.before w.event w.later w.events

  pub bound_first : (e : M.Event) (es : List M.Event) (g : M.Global) → Binds e g → BoundAmong M f k (e ∷ es) g o
  bound_first e es g b = record { before = []; event = e; later = es; events = refl; state = b.0; bound = b.1 }

  pub bound_later : (e : M.Event) (es : List M.Event) (g : M.Global) → BoundAmong M f k es (M.next_global e f k g) o → BoundAmong M f k (e ∷ es) g o
  bound_later e es g w = record { before = e ∷ w.before; event = w.event; later = w.later; events = ap (λ l. e ∷ l) w.events; state = w.state; bound = w.bound }

  cases : (e : M.Event) (es : List M.Event) (g : M.Global) (before : List M.Event) (d : M.Event) (later : List M.Event)
      → e ∷ es ≡ before ++ d ∷ later → Binds d (global_behind M f k before g) → Binds e g ⊎ BoundAmong M f k es (M.next_global e f k g) o
  cases e es g [] d later is b = inl (subst (λ c. Binds c g) (sym (first_of is)) b)
  cases e es g (a ∷ before) d later is b =
      let w : Binds d (global_behind M f k before (M.next_global e f k g)) = subst (λ c. Binds d (global_behind M f k before (M.next_global c f k g))) (sym (first_of is)) b in
      inr (record { before = before; event = d; later = later; events = others_of is; state = w.0; bound = w.1 })

  pub bound_cases : (e : M.Event) (es : List M.Event) (g : M.Global) → BoundAmong M f k (e ∷ es) g o
      → Binds e g ⊎ BoundAmong M f k es (M.next_global e f k g) o
  bound_cases e es g w = cases e es g w.before w.event w.later w.events (w.state, w.bound)

module _ (M : Model) (G : FlowGraphs M) (S : BlockStates M G) where
  -- what a rule binds where its global state is met, is bound among the events of a block from a state at its first place
  pub bound_where_met : {f : M.Fn} {e : M.Event} {k : Bool} {g : M.Global} (o : M.Obj) (x : M.State) → MetInBlocks M G S f e k g
      → M.choose e f k g o None ≡ Some x → (b : G.Block) × (i : M.Global) × S f k b i × BoundAmong M f k (G.events f b) i o
  bound_where_met {f = f} {e = e} {k = k} o x m d = (
    m.block,
    m.first,
    m.stands,
    record { before = m.before; event = e; later = m.later; events = m.events; state = x; bound = ap (λ i. M.choose e f k i o None) (sym m.global) ∙ d },
  )
