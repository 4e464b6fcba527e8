-- The linked objects are those of the one way, and that of the other.
use Rattle.std.proofs.Common.{◌≡◌, ◌⊎◌, inl, inr, ℕ, List, Option, Some, sym, ◌∙◌}
use Rattle.c_objects.specs.Facts.{Facts}
use Rattle.c_objects.specs.Objects.{Object}
use Rattle.flow_graph.specs.CPaths.Events.{Event}
use Rattle.path_model.specs.CheckerModel.Calls.{into, out}
use Rattle.path_model.specs.CheckerModel.Happenings.{Site}
use Rattle.path_model.specs.CheckerModel.Moves.{move_of, source}
use Rattle.refine_restore.specs.HandedObjects.Handed.{AreEntered, AreHanded}
use Rattle.least_set.proofs.Growing.{either, kept}
use Rattle.least_set.specs.Logs.{Adds, IsExactly}
use Rattle.relevant.specs.LinkedObjects.Linked.{AreLinkedAt, AreLinkedOver}
use Rattle.relevant.proofs.LinkedObjects.Listed.{among-exactly, turned}
use Rattle.synonyms_kills.specs.Targets.{AreTargets}

-- that of the other way comes to the first ones, if there is one
both-ways : (P : Object → Type 0) (xs ys : List Object) (q r : Option Object) → q ≡ r → Adds (λ o. q ≡ Some o) xs ys → IsExactly xs P → IsExactly ys (λ y. P y ⊎ (r ≡ Some y))
both-ways P xs ys q r same grown is = (
  λ y m. elim (either grown y m) [ inl o ↦ inl (is.0 y o) | inr e ↦ inr (sym same ∙ e) ],
  λ y c. elim c [ inl p ↦ kept grown y (is.1 y p) | inr e ↦ grown.added y (same ∙ e) ],
)

pub targets-linked : (u : Facts) (depth : ℕ) (o : Object) (e : Event) (xs ys : List Object) (q : Option Object) → AreTargets depth (move_of u depth e) o xs → q ≡ source depth (move_of u depth e) o → Adds (λ x. q ≡ Some x) xs ys
    → IsExactly ys (AreLinkedAt u depth o e)
targets-linked u depth o e xs ys q are same is =
    both-ways (λ b. source depth (move_of u depth e) b ≡ Some o) xs ys q (source depth (move_of u depth e) o) same is
    (among-exactly (λ b. source depth (move_of u depth e) b ≡ Some o) xs are.real are.whole)

pub entered-linked : (depth : ℕ) (s : Site) (o : Object) (xs ys : List Object) (q : Option Object) → AreEntered depth s o xs → q ≡ out depth s o → Adds (λ x. q ≡ Some x) xs ys → IsExactly ys (λ c. AreLinkedOver depth s o c)
entered-linked depth s o xs ys q are same is =
    both-ways (λ c. into depth s c ≡ Some o) xs ys q (out depth s o) same is (among-exactly (λ c. into depth s c ≡ Some o) xs are.real are.whole)

pub handed-linked : (depth : ℕ) (s : Site) (c : Object) (xs ys : List Object) (q : Option Object) → AreHanded depth s c xs → q ≡ into depth s c → Adds (λ x. q ≡ Some x) xs ys → IsExactly ys (λ o. AreLinkedOver depth s o c)
handed-linked depth s c xs ys q are same is =
    turned (λ o. out depth s o ≡ Some c) (λ o. into depth s c ≡ Some o) ys
    (both-ways (λ o. out depth s o ≡ Some c) xs ys q (into depth s c) same is (among-exactly (λ o. out depth s o ≡ Some c) xs are.real are.whole))
