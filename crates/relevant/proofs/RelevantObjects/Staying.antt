-- An event that moves nothing links an object to itself alone.
use Rattle.std.proofs.Common.{◌≡◌, ◌⊎◌, inl, inr, ℕ, List, false, Option, None, Some, refl, ◌∙◌, sym, ap, subst}
use Rattle.std.specs.Prelude.{is_some}
use Rattle.c_objects.specs.Objects.{IsObject}
use Rattle.c_objects.proofs.Plain.{if-object, object-if}
use Rattle.path_model.specs.CheckerModel.Moves.{Move, move_of, source}
use Rattle.flow_graph.specs.declared.event.Event.{Event}
use Rattle.flow_graph.specs.Values.{event_of}
use Rattle.least_set.specs.Logs.{Adds}
use Rattle.least_set.proofs.Growing.{adds_same}
use Rattle.objects.specs.Units.{facts_in}
use Rattle.relevant.specs.RelevantObjects.Links.{LinksAt, LinksToItself}
use Rattle.path_model.specs.CheckerGraphs.Members.{Member}
use Rattle.typed_unit.specs.declared.typed_unit.TypedUnit.{TypedUnit}

no-move : (m : Option Move) → is_some m ≡ false → m ≡ None
no-move None h = refl
no-move (Some m) h = cc

-- the links under a move
abbrev LinksUnder : ℕ → Option Move → Member → Member → Type 0
LinksUnder depth m x y = (x.0 ≡ y.0) × ((source depth m y.1 ≡ Some x.1) ⊎ (source depth m x.1 ≡ Some y.1))

module _ (depth : ℕ) (x y : Member) where
  links-to-itself : LinksUnder depth None x y → LinksToItself depth x y
  links-to-itself (n, inl h) = let k = object-if depth y.1 x.1 h in let back = sym k.0 in (λ i. (n i, back i), k.1)
  links-to-itself (n, inr h) = let k = object-if depth x.1 y.1 h in (λ i. (n i, k.0 i), subst (IsObject depth) (sym k.0) k.1)

  itself-links : LinksToItself depth x y → LinksUnder depth None x y
  itself-links h = (ap (λ z. z.0) h.0, inr (if-object depth x.1 h.1 ∙ ap (λ z. Some z.1) h.0))

-- at an event that moves nothing
pub at-rest : (depth : ℕ) (u : TypedUnit) (x : Member) (e : Event) (old new : List Member) → is_some (move_of (facts_in u) depth (event_of e)) ≡ false → Adds (LinksToItself depth x) old new → Adds (LinksAt depth u x e) old new
at-rest depth u x e old new h w =
    let none = no-move (move_of (facts_in u) depth (event_of e)) h in
    adds_same w (λ y k. subst (λ m. LinksUnder depth m x y) (sym none) (itself-links depth x y k)) (λ y k. links-to-itself depth x y (subst (λ m. LinksUnder depth m x y) none k))
