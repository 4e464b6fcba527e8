-- What roots reach, with one more root.
use Rattle.std.proofs.Common.{◌≡◌, inl, inr, ℕ, ◌<◌, List, [], ◌∷◌, ◌++◌, Contains, length, sym, subst}
use Rattle.std.proofs.lemmas.List.Elements.{Contains-append_left, Contains-push, Contains-push_cases}
use Rattle.root_functions.specs.declared.graph_roots.callees.Callees.{Callees}
use Rattle.path_model.specs.CheckerPrograms.Roots.{Reaches, Itself, Onward}
use Rattle.root_functions.specs.GraphRoots.Graphs.{LeadsIn, StaysWithin, AreClosed, AreWithin, IsVisited}
use Rattle.root_functions.specs.GraphRoots.Searches.{AreReached}
use Rattle.least_set.proofs.Growing.{nothing}

module _ (rows : List Callees) where
  reach_within : (r f : ℕ) → StaysWithin rows → r < length rows → Reaches (LeadsIn rows) r f → f < length rows
  reach_within r f within h (Itself e) = h
  reach_within r f within h (Onward {g = g} p s) = within g f s

  pub none_reached : (roots reached : List ℕ) → roots ≡ [] → reached ≡ [] → AreReached rows roots reached
  none_reached roots reached e d = record {
    within = λ f m. absurd (nothing f (subst (λ xs. Contains xs f) e m));
    exact = (λ f m. absurd (nothing f (subst (λ xs. Contains xs f) d m)), λ f s. absurd (nothing s.0 (subst (λ xs. Contains xs s.0) e s.1)));
  }

  pub reached_within : (roots reached : List ℕ) → StaysWithin rows → AreReached rows roots reached → AreWithin rows reached
  reached_within roots reached within a f m = let s = a.exact.0 f m in reach_within s.0 f within (a.within s.0 s.1) s.2

  pub reached_closed : (roots reached : List ℕ) → AreReached rows roots reached → AreClosed rows reached
  reached_closed roots reached a f g m s = let r = a.exact.0 f m in a.exact.1 g (r.0, r.1, Onward r.2 s)

  pub reached_more : (roots reached new : List ℕ) (root : ℕ) → root < length rows → AreReached rows roots reached → IsVisited rows reached root new → AreReached rows (roots ++ (root ∷ [])) new
  reached_more roots reached new root h a v = record {
    within = λ f m. elim (Contains-push_cases roots root f m) [ inl o ↦ a.within f o | inr e ↦ subst (λ x. x < length rows) e h ];
    exact = (
      λ f m. elim (v.0 f m) [
        | inl o ↦ let s = a.exact.0 f o in (s.0, Contains-append_left roots (root ∷ []) s.0 s.1, s.2)
        | inr r ↦ (root, Contains-push roots root, r)
      ],
      λ f s. elim (Contains-push_cases roots root s.0 s.1) [
        | inl o ↦ v.1 f (inl (a.exact.1 f (s.0, o, s.2)))
        | inr e ↦ v.1 f (inr (subst (λ x. Reaches (LeadsIn rows) x f) (sym e) s.2))
      ],
    );
  }
