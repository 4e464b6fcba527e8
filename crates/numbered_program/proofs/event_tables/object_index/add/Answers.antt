use Rattle.std.proofs.Common.{◌≡◌, [], ◌∷◌, ◌++◌, Some, None, cond, subst, sym, ap, ◌∙◌, refl}
use Rattle.std.specs.Option.{IsSome, option_copied_mut}
use Rattle.c_objects.specs.Objects.{path}
use Rattle.numbered_program.proofs.EventTables.Variables.{pushed, same_paths}
use Rattle.indexmap.specs.IndexMap.{get}
use Rattle.least_set.specs.Indexes.{items_of}
use Rattle.objects.specs.Equality.{same_object, same_object-true}
use Rattle.type_values.specs.Vars.{cvar_of}
use Rattle.numbered_program.proofs.event_tables.object_index.add.Goals as goal

pub returns-in-Some : goal.returns-in-Some
returns-in-Some c = λ v.
    let key = c.variable-key.result in
    let n = c.args.number in
    let e : get same_object c.args.numbers.now key ≡ Some c.in-Some.list.now = sym c.get_mut.ensures.value ∙ ap option_copied_mut c.in-Some.is in
    let h = c.get_mut.follows.holds c.push.new.self in
    pushed same_object same_object-true (get same_object c.args.numbers.now) (get same_object (c.get_mut.follows.lender c.push.new.self)) key n c.push.new.self
    (c.in_ok-push.ensures.items ∙ ap (λ o. items_of o ++ n ∷ []) (sym e))
    ((h.3 (subst IsSome (sym e) refl)).0)
    (path v [])
    ∙ ap (λ b. items_of (get same_object c.args.numbers.now (path v [])) ++ cond b (n ∷ []) []) (ap (λ k. same_object k (path v [])) c.variable-key.ensures ∙ same_paths (cvar_of c.args.place) v)

pub returns : goal.returns
returns c = λ v.
    let key = c.variable-key.result in
    let n = c.args.number in
    let none = c.get_mut.follows.holds-at-none in
    let e : get same_object c.args.numbers.now key ≡ None = sym c.get_mut.ensures.value ∙ ap option_copied_mut c.in_default.is in
    pushed same_object same_object-true (get same_object c.args.numbers.now) (get same_object c.insert.new.self) key n c.push-2.new.self
    (c.in_ok-push-2.ensures.items ∙ ap (λ l. l ++ n ∷ []) (c.new-list.ensures.items ∙ ap items_of (sym e)))
    (λ q. subst (λ m. get same_object c.insert.new.self q ≡ cond (same_object key q) (Some c.push-2.new.self) (get same_object m q)) none (c.in_ok-insert.ensures.updates.0 q))
    (path v [])
    ∙ ap (λ b. items_of (get same_object c.args.numbers.now (path v [])) ++ cond b (n ∷ []) []) (ap (λ k. same_object k (path v [])) c.variable-key.ensures ∙ same_paths (cvar_of c.args.place) v)
