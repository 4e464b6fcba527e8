use Rattle.std.proofs.Common.{rules, ◌≡◌, ◌∷◌, [], length, refl, sym, ap, subst, ◌∙◌, append_assoc, append-nil, arith}
use Rattle.std.proofs.lemmas.List.{nil_from_length}
use Rattle.std.specs.Vec.Iter.{into_iter_items}
use Rattle.least_set.specs.Logs.{Adds, SomeGives}
use Rattle.least_set.proofs.Growing.{adds_more, adds_nothing}
use Rattle.suffix_summary.specs.MetStates.{GivesOne}
use Rattle.suffix_summary.proofs.met_states.events.add_taken.Goals as goal

pub loop-object-init : goal.loop-object-init
loop-object-init c = record {
  split = refl;
  len = search rules;
  adds = λ k f h is. adds_nothing (GivesOne k f c.args.frames.is_root h c.args.global c.args.frames.function) c.args.found.now.items;
}

pub loop-object-preserved : goal.loop-object-preserved
loop-object-preserved c =
    let at = c.loop-object in
    let x = c.in-Some.object in
    let steps : into_iter_items at.object-iterator ≡ x ∷ into_iter_items c.next.new.self = c.in-Some.ensures.steps.0 in record {
      split = append_assoc at.yielded (x ∷ []) _ ∙ rw (← steps) at.invariant.split;
      adds = λ k f h is. adds_more (GivesOne k f c.args.frames.is_root h c.args.global c.args.frames.function) at.yielded x (at.invariant.adds k f h is) (c.in_ok-add_if_taken.ensures k f h is);
      len = let was = at.invariant.len in
          let gone = c.in-Some.ensures.steps.1 in
          let short = ap length steps in
          omega arith;
    }

pub returns : goal.returns
returns c =
    let at = c.loop-object in
    let none = c.in-None.ensures.steps in
    let empty : into_iter_items at.object-iterator ≡ [] = nil_from_length _ (sym at.invariant.len ∙ none.0) in
    let all = sym (append-nil at.yielded) ∙ rw empty at at.invariant.split ∙ c.into_iter-object-iterator.ensures.into_iter_gives.0 in
    λ k f h is. subst (λ l. Adds (SomeGives (GivesOne k f c.args.frames.is_root h c.args.global c.args.frames.function) l) c.args.found.now.items at.found.items) all (at.invariant.adds k f h is)
