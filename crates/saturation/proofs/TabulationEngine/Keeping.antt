-- What is kept stays what is at the ends of blocks, as more is kept.
use Rattle.std.proofs.Common.{◌≡◌, Bool, true, false, cond, Option, Some, refl, sym, ap, ◌∙◌, subst}
use Rattle.std.proofs.Math.Logic.{∥∥₁_map}
use Rattle.std.proofs.lemmas.Option.{same_Some}
use Rattle.std.specs.Map.{lookup}
use Rattle.std.specs.Prelude.{Vec, Result, Ok, Err, OnOk, OnErr}
use Rattle.path_edges.specs.EdgeSteps.Steps.{StandsBehind}
use Rattle.function_tables.specs.EngineTables.Known.{AreKnown, checker_in, texts_in, graphs_in, objects_in}
use Rattle.function_tables.specs.declared.engine_tables.tables.Tables.{Tables}
use Rattle.indexmap.specs.IndexMap.{IndexMap, get, Updates, IsUnchanged}
use Rattle.least_set.specs.Logs.{IsExactly}
use Rattle.path_edges.specs.Ways.Equality.{same_edge}
use Rattle.path_edges.specs.declared.edges.Edge.{Edge}
use Rattle.path_edges.specs.Ways.Equality.{edges_agree}
use Rattle.saturation.specs.TabulationEngine.KeptTuples.{AreBehind}
use Rattle.state_tuples.specs.declared.tuple.Tuple.{Tuple}

module _ {A : Type 0} (t : Tables) (edge : Edge) (tuples : Vec Tuple A) where
  abbrev Stands : Edge → Vec Tuple A → Type 0
  Stands e list = IsExactly list.items (StandsBehind (checker_in t) (texts_in t) (graphs_in t) (objects_in t) e)

  -- one list more
  kept-more : (old new : Edge → Option (Vec Tuple A)) → ((e : Edge) → new e ≡ cond (edges_agree edge e) (Some tuples) (old e))
      → (AreKnown t → Stands edge tuples) → AreBehind t old → AreBehind t new
  kept-more old new updated behind kept known e list h = by (edges_agree edge e) refl
    where
      there : (b : Bool) → edges_agree edge e ≡ b → cond b (Some tuples) (old e) ≡ Some list
      there b p = sym (updated e ∙ ap (λ x. cond x (Some tuples) (old e)) p) ∙ h

      by : (b : Bool) → edges_agree edge e ≡ b → Stands e list
      by true p = subst (λ x. Stands x list) (same_edge edge e p) (subst (Stands edge) (same_Some tuples list (there true p)) (behind known))
      by false p = kept known e list (there false p)

  -- the map after a list was put in, or there was no memory for it
  pub kept-after : {S O E : Type 0} (r : Result O E) (old new : IndexMap Edge (Vec Tuple A) S) → OnOk r (Updates edges_agree old new edge (Some tuples)) → OnErr r (IsUnchanged old new)
      → (AreKnown t → Stands edge tuples) → ∥ AreBehind t (get edges_agree old) ∥₁ → ∥ AreBehind t (get edges_agree new) ∥₁
  kept-after (Ok x) old new updated same behind kept = ∥∥₁_map kept (kept-more (get edges_agree old) (get edges_agree new) (λ e. updated.0 e) behind)
  kept-after (Err x) old new updated same behind kept = ∥∥₁_map kept (λ k known e list h. k known e list (ap (λ es. lookup (edges_agree e) es) (sym same) ∙ h))
