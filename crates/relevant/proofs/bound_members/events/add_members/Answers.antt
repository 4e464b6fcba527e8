use Rattle.std.proofs.Common.{◌≡◌, ◌∷◌, [], ◌++◌, length, sym, ap, subst, ◌∙◌, append_assoc, append-nil, arith}
use Rattle.std.proofs.lemmas.List.{nil_from_length}
use Rattle.std.specs.Vec.Iter.{into_iter_items}
use Rattle.path_model.specs.CheckerGraphs.Members.{members}
use Rattle.relevant.proofs.RelevantObjects.Adding.{pushed-member}
use Rattle.relevant.proofs.bound_members.events.add_members.Goals as goal

pub loop-object-preserved : goal.loop-object-preserved
loop-object-preserved c =
    let at = c.loop-object in
    let x = c.in-Some.object in
    let steps : into_iter_items at.object-iterator ≡ x ∷ into_iter_items c.next.new.self = c.in-Some.ensures.steps.0 in record {
      split = append_assoc at.yielded (x ∷ []) _ ∙ rw (← steps) at.invariant.split;
      items = pushed-member c.args.number at.yielded x c.args.found.now.items at.found.items c.push.new.self.items at.invariant.items c.in_ok-push.ensures.items;
      len = let was = at.invariant.len in
          let gone = c.in-Some.ensures.steps.1 in
          let short = ap length steps in
          omega arith;
    }

pub returns : goal.returns
returns c =
    let at = c.loop-object in
    let none = c.in-None.ensures.steps in
    let empty : into_iter_items at.object-iterator ≡ [] = nil_from_length _ (sym at.invariant.len ∙ none.0) in
    let all = sym (append-nil at.yielded) ∙ rw empty at at.invariant.split ∙ c.into_iter-object-iterator.ensures.into_iter_gives.0 in
    subst (λ l. at.found.items ≡ c.args.found.now.items ++ members c.args.number l) all at.invariant.items
