-- What moves and followed calls give an object, as lists.
use Rattle.std.proofs.Common.{◌≡◌, ◌∙◌, ℕ, List, [], map, None, Some, slice_get, sym, ap, subst}
use Rattle.std.proofs.lemmas.Option.{none-some, same_Some}
use Rattle.c_objects.specs.Objects.{Object}
use Rattle.flow_graph.specs.Values.{event_of}
use Rattle.known_objects.specs.Linked.{entry_at, moved_by, entered_by, handed_by, handed_out_by, HandsIn}
use Rattle.path_model.specs.CheckerGraphs.Members.{member}
use Rattle.known_objects.specs.declared.changes.Move.{Move}
use Rattle.known_objects.specs.declared.changes.Numbered.{Numbered}
use Rattle.known_search.proofs.Lists.{image, alike, none}
use Rattle.known_search.specs.declared.links.Entry.{Entry}
use Rattle.least_set.proofs.Growing.{place_of, at_place}
use Rattle.least_set.specs.Logs.{IsExactly, SomeGives}
use Rattle.objects.specs.Units.{facts_in}
use Rattle.path_model.specs.CheckerModel.Calls.{out}
use Rattle.path_model.specs.CheckerModel.Moves.{move_of}
use Rattle.refine_restore.specs.HandedObjects.Handed.{AreHanded}
use Rattle.refine_restore.specs.Sites.{site_of}
use Rattle.relevant.proofs.LinkedObjects.Listed.{among-contains, contains-among}
use Rattle.relevant.specs.LinkedObjects.Linked.{AreLinkedOver}
use Rattle.synonyms_kills.specs.Targets.{AreTargets}

pub targets-given : (depth : ℕ) (x : Move) (thing : ℕ × Object) (xs : List Object) → AreTargets depth (move_of (facts_in x.unit.now) depth (event_of x.event)) thing.1 xs → x.function ≡ thing.0 → IsExactly xs (moved_by depth x thing)
targets-given depth x thing xs are e = (λ o h. (e, are.real o (contains-among xs o h)), λ o h. among-contains xs o (are.whole o h.1))

pub entries-given : (depth : ℕ) (x : Numbered) (thing : ℕ × Object) (os : List Object) (es : List (Entry Object)) → es ≡ map (entry_at x) os → IsExactly os (λ c. AreLinkedOver depth (site_of depth x.call.site) thing.1 c) → x.call.caller ≡ thing.0
    → IsExactly es (entered_by depth x thing)
entries-given depth x thing os es same is at =
    alike _ _ es (image (entry_at x) os es same is)
    (λ e v. (at, ap (λ (z : Entry Object). z.call) v.2, ap (λ (z : Entry Object). z.callee) v.2, subst (λ (z : Entry Object). AreLinkedOver depth (site_of depth x.call.site) thing.1 z.object) v.2 v.1))
    (λ e h. (e.object, h.3, λ i. record { call = h.1 i; callee = h.2 i; object = e.object }))

module _ (depth : ℕ) (x : Numbered) where
  handed-exactly : (c : Object) (os : List Object) → AreHanded depth (site_of depth x.call.site) c os → IsExactly os (λ o. out depth (site_of depth x.call.site) o ≡ Some c)
  handed-exactly c os are = (λ o h. are.real o (contains-among os o h), λ o h. among-contains os o (are.whole o h))

  pub handed-given : (m : ℕ) (d : Object) (n : ℕ) (os : List Object) → AreHanded depth (site_of depth x.call.site) d os → x.call.callee ≡ m → x.call.caller ≡ n → IsExactly os (handed_by depth x m d n)
  handed-given m d n os are f g = alike _ _ os (handed-exactly d os are) (λ o h. (f, g, h)) (λ o h. h.2)

  pub handed-out-given : (thing : ℕ × Object) (os : List Object) (ys : List (ℕ × Object)) → ys ≡ map (member x.call.caller) os → AreHanded depth (site_of depth x.call.site) thing.1 os → x.call.callee ≡ thing.0 → IsExactly ys (handed_out_by depth x thing)
  handed-out-given thing os ys same are at =
      alike _ _ ys (image (member x.call.caller) os ys same (handed-exactly thing.1 os are))
      (λ y v. (at, ap (λ (z : ℕ × Object). z.0) v.2, subst (λ (z : ℕ × Object). out depth (site_of depth x.call.site) z.1 ≡ Some thing.1) v.2 v.1))
      (λ y h. (y.1, h.2, λ i. (h.1 i, y.1)))

-- ---- calls by their numbers

module _ (depth : ℕ) (calls : List Numbered) (m : ℕ) (d : Object) where
  pub at-number : (k n : ℕ) (x : Numbered) (os : List Object) → slice_get calls k ≡ Some x → IsExactly os (handed_by depth x m d n) → IsExactly os (HandsIn depth calls k m d n)
  at-number k n x os at is = alike _ _ os is
      (λ o h. (x, at, h))
      (λ o h. subst (λ (z : Numbered). handed_by depth z m d n o) (same_Some h.0 x (sym h.1 ∙ at)) h.2)

  pub no-number : (k n : ℕ) → slice_get calls k ≡ None → IsExactly [] (HandsIn depth calls k m d n)
  no-number k n at = none (HandsIn depth calls k m d n) (λ o h. none-some h.0 (sym at ∙ h.1))

  -- what some call hands back to a caller
  pub hands-out : (ys : List (ℕ × Object)) → IsExactly ys (SomeGives (λ z. handed_out_by depth z (m, d)) calls) → IsExactly ys (λ y. (k : ℕ) × HandsIn depth calls k m d y.0 y.1)
  hands-out ys is = alike _ _ ys is
      (λ y h. let p = place_of calls h.0 h.1 in (p.0, (h.0, p.2, h.2)))
      (λ y h. (h.1.0, at_place calls h.0 h.1.0 h.1.1, h.1.2))
