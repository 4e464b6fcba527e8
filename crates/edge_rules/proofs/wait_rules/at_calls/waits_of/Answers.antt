use Rattle.std.proofs.Common.{sym, subst, [], ◌∷◌, ◌++◌}
use Rattle.least_set.specs.Logs.{IsExactly}
use Rattle.edge_rules.specs.WaitRules.Waiters.{IsWaiting}
use Rattle.edge_rules.proofs.WaitRules.OneTuple.{saved-at, saved-of, with-saved, without-saved}
use Rattle.edge_rules.proofs.wait_rules.at_calls.waits_of.Goals.{in-Some+in_ok-push, in_default}
use Rattle.edge_rules.proofs.wait_rules.at_calls.waits_of.Goals as goal

pub returns : goal.returns
returns c =
    let call = c.args.call.now in
    let e = c.args.edge.now in
    let t = c.args.tuple.now in
    let here = call.caller_objects.now.keys in
    let there = call.callee_objects.now.keys in
    let out = c.in_ok-waits.waits.items in
    elim c.match-saved_object.branch [
      | in-Some+in_ok-push w ↦ rw w.waits-is (rw w.in_ok-push.ensures.items
          (λ k s h d is. subst (λ z. IsExactly (out ++ z ∷ []) (IsWaiting k s h here there call.callee call.behind e t)) (sym w.wait_with.ensures)
          (with-saved k s h here there call.callee call.behind e t out w.in-Some.saved.now (c.in_ok-waits.ensures k s h d is) (saved-at k c.args.depth call.site s here there t w.in-Some.saved.now d is w.in-Some.ensures.there))))
      | in_default w ↦ rw w.waits-is
          (λ k s h d is. without-saved k s h here there call.callee call.behind e t out (c.in_ok-waits.ensures k s h d is)
          (λ o x. c.saved_object.ensures.missing w.in_default.is o (saved-of k c.args.depth call.site s here there t o d is x)))
    ]
