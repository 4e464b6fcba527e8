use Rattle.std.proofs.Common.{◌≤◌, ℕ, [], map, take, length, Contains, sym, subst, inl, inr}
use Rattle.std.proofs.lemmas.List.{length-map, take_all}
use Rattle.call_graph.specs.declared.programs.functions.FnId.{FnId}
use Rattle.least_set.specs.Logs.{Adds}
use Rattle.least_set.proofs.Growing.{adds_none, either, nothing}
use Rattle.numbered_program.proofs.KnownRows.{roots_more}
use Rattle.numbered_program.proofs.functions.root_numbers.Goals as goal

pub loop-root-init : goal.loop-root-init
loop-root-init c = subst (Adds (Contains []) []) (sym c.new-set.ensures.empty) (adds_none [] nothing)

pub loop-root-preserved : goal.loop-root-preserved
loop-root-preserved c =
    let at = c.loop-root in
    roots_more c.args.roots.now at.root-index _ at.set.keys c.insert.new.self.keys c.loop-root-test.true at.invariant c.in_ok-insert.ensures.keys

pub returns : goal.returns
returns c = λ n.
    let at = c.loop-root in
    let numbers = map (λ (f : FnId). f.number) c.args.roots.now in
    let past : length numbers ≤ at.root-index = subst (λ k. k ≤ at.root-index) (sym (length-map c.args.roots.now (λ (f : FnId). f.number))) c.loop-root-test.false in
    let all = subst (λ l. Adds (Contains l) [] at.set.keys) (take_all at.root-index numbers past) at.invariant in
    (λ m. elim (either all n m) [ inl o ↦ absurd (nothing n o) | inr p ↦ p ], all.added n)
