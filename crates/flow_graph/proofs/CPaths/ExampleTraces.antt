-- Lists that are traces of a function, and lists that are none.
use Rattle.std.proofs.Common.{◌≡◌, ℕ, zero, suc, true, false, List, [], ◌∷◌, ◌++◌, inl, inr, None, refl, sym, ap, ◌∙◌, subst}
use Rattle.flow_graph.specs.CPaths.Events.{Item, evaluated, Exited}
use Rattle.flow_graph.specs.CPaths.Forms.{done}
use Rattle.flow_graph.specs.CPaths.Flow.{Flow, Does, Block, For, flows, no_flows}
use Rattle.flow_graph.specs.CPaths.Tasks.{Task, Run, Test, Turn, Close}
use Rattle.flow_graph.specs.CPaths.Traces.{Runs, Trace}
use Rattle.flow_graph.specs.CPaths.Listing.{Begins}
use Rattle.flow_graph.proofs.CPaths.ListedTraces.{listed_are_traces, finished_lists_are_all}
use Rattle.flow_graph.proofs.CPaths.ExampleTrees.{at, ident, outside}
use Rattle.flow_graph.proofs.CPaths.Examples.{g, h, goes, runs_g, runs_h, ends, both, both_traces, both_finishes, chosen, chosen_traces, chosen_finishes, repeated, spinning}

of_one : (P : Type 0) (l a : List Item) → ((r : List Item) → a ≡ l ++ r → P) → Begins l (a ∷ []) → P
of_one P l a f (w, r, inl e, q) = f r (sym e ∙ q)
of_one P l a f (w, r, inr x, q) = absurd x

of_two : (P : Type 0) (l a b : List Item) → ((r : List Item) → a ≡ l ++ r → P) → ((r : List Item) → b ≡ l ++ r → P) → Begins l (a ∷ b ∷ []) → P
of_two P l a b f g (w, r, inl e, q) = f r (sym e ∙ q)
of_two P l a b f g (w, r, inr x, q) = of_one P l b g (w, r, x, q)

of_three : (P : Type 0) (l a b c : List Item) → ((r : List Item) → a ≡ l ++ r → P) → ((r : List Item) → b ≡ l ++ r → P) → ((r : List Item) → c ≡ l ++ r → P) → Begins l (a ∷ b ∷ c ∷ []) → P
of_three P l a b c f g h (w, r, inl e, q) = f r (sym e ∙ q)
of_three P l a b c f g h (w, r, inr x, q) = of_two P l b c g h (w, r, x, q)

-- { if (a && !b) g(); } may call g behind the branches of a and b, and each beginning of that is a trace
abbrev to_g : List Item
to_g = goes 0 4 true ++ goes 1 7 false ++ runs_g 9

calls_g : Trace outside both to_g
calls_g = listed_are_traces outside both 20 to_g (to_g ++ ends, ends, inl refl, refl)

begins : Trace outside both (goes 0 4 true)
begins = listed_are_traces outside both 20 (goes 0 4 true) (to_g ++ ends, goes 1 7 false ++ runs_g 9 ++ ends, inl refl, refl)

-- it doesn't call g where a is false
abbrev without_a : List Item
without_a = goes 0 4 false ++ evaluated (ident 3 9) ∷ []

not_without_a : Trace outside both without_a → ⊥
not_without_a t =
    of_three ⊥ without_a (to_g ++ ends) (goes 0 4 false ++ ends) (goes 0 4 true ++ goes 1 7 true ++ ends) (λ r e. cc) (λ r e. cc) (λ r e. cc)
    (subst (Begins without_a) both_traces ((finished_lists_are_all outside both 20 both_finishes without_a).0 t))

-- { switch (n) { case 1: g(); default: h(); } } doesn't end without h
abbrev without_h : List Item
without_h = evaluated (ident 5 4) ∷ runs_g 10 ++ ends

not_without_h : Trace outside chosen without_h → ⊥
not_without_h t =
    of_two ⊥ without_h (evaluated (ident 5 4) ∷ runs_g 10 ++ runs_h 16 ++ ends) (evaluated (ident 5 4) ∷ runs_h 16 ++ ends) (λ r e. cc) (λ r e. cc)
    (subst (Begins without_h) chosen_traces ((finished_lists_are_all outside chosen 20 chosen_finishes without_h).0 t))

-- { while (n) g(); } may call g twice
abbrev two_turns : List Item
two_turns = goes 5 4 true ++ runs_g 6 ++ goes 5 4 true ++ runs_g 6

twice : Trace outside repeated two_turns
twice = listed_are_traces outside repeated 7 two_turns (two_turns, [], inl refl, refl)

-- { for (;;) ; } never gives anything
mutual
  nothing_in_test : (body : Flow) (whole : List Task) (k : List Task) (n : ℕ) (l : List Item) → Runs body whole n (Test None done (Does done) ∷ k) l → l ≡ []
  nothing_in_test body whole k zero l e = e
  nothing_in_test body whole k (suc n) l (inl e) = e
  nothing_in_test body whole k (suc n) l (inr (x, y, h, inl s, r, e)) =
      e ∙ ap (λ z. z ++ y) s.0.1 ∙ nothing_in_body body whole k n y (subst (λ z. Runs body whole n z y) s.1 r)
  nothing_in_test body whole k (suc n) l (inr (x, y, h, inr s, r, e)) = let bad : false ≡ true = s.0.0 in cc

  nothing_in_body : (body : Flow) (whole : List Task) (k : List Task) (n : ℕ) (l : List Item) → Runs body whole n (Run (Does done) ∷ Turn None done (Does done) ∷ k) l → l ≡ []
  nothing_in_body body whole k zero l e = e
  nothing_in_body body whole k (suc n) l (inl e) = e
  nothing_in_body body whole k (suc n) l (inr (x, y, h, s, r, e)) =
      e ∙ ap (λ z. z ++ y) s.0 ∙ nothing_in_turn body whole k n y (subst (λ z. Runs body whole n z y) s.1 r)

  nothing_in_turn : (body : Flow) (whole : List Task) (k : List Task) (n : ℕ) (l : List Item) → Runs body whole n (Turn None done (Does done) ∷ k) l → l ≡ []
  nothing_in_turn body whole k zero l e = e
  nothing_in_turn body whole k (suc n) l (inl e) = e
  nothing_in_turn body whole k (suc n) l (inr (x, y, h, s, r, e)) =
      e ∙ ap (λ z. z ++ y) s.0 ∙ nothing_in_test body whole k n y (subst (λ z. Runs body whole n z y) s.1 r)

abbrev loop : Flow
loop = For done None done (Does done)

nothing_in_loop : (body : Flow) (whole : List Task) (k : List Task) (n : ℕ) (l : List Item) → Runs body whole n (Run loop ∷ k) l → l ≡ []
nothing_in_loop body whole k zero l e = e
nothing_in_loop body whole k (suc n) l (inl e) = e
nothing_in_loop body whole k (suc n) l (inr (x, y, h, s, r, e)) =
    e ∙ ap (λ z. z ++ y) s.0 ∙ nothing_in_test body whole k n y (subst (λ z. Runs body whole n z y) s.1 r)

front_of_nothing : (l r : List Item) → l ++ r ≡ [] → l ≡ []
front_of_nothing [] r e = refl
front_of_nothing (x ∷ l) r e = cc

no_exit : (l : List Item) → Trace outside spinning l → l ≡ []
no_exit l (n, rest, r) = front_of_nothing l rest (in_block n (l ++ rest) r)
  where
    in_block : (n : ℕ) (l : List Item) → Runs (Block (flows loop no_flows)) (Close (Exited (at 0) (at 99)) ∷ []) n (Run (Block (flows loop no_flows)) ∷ Close (Exited (at 0) (at 99)) ∷ []) l → l ≡ []
    in_block zero l e = e
    in_block (suc n) l (inl e) = e
    in_block (suc n) l (inr (x, y, h, s, r, e)) =
        e ∙ ap (λ z. z ++ y) s.0 ∙ nothing_in_loop (Block (flows loop no_flows)) (Close (Exited (at 0) (at 99)) ∷ []) (Close (Exited (at 0) (at 99)) ∷ []) n y (subst (λ z. Runs (Block (flows loop no_flows)) (Close (Exited (at 0) (at 99)) ∷ []) n z y) s.1 r)
