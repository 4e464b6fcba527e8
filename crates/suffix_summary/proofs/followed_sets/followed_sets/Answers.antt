use Rattle.std.proofs.Common.{List, map, refl, sym, subst}
use Rattle.std.proofs.Math.Logic.{∥∥₁_elim, ∥∥₁_map}
use Rattle.function_tables.proofs.EngineTables.Places.{if-ok}
use Rattle.function_tables.specs.EngineTables.Known.{checker_in, texts_in, graphs_in}
use Rattle.path_model.specs.CheckerGraphs.Members.{Member}
use Rattle.suffix_summary.specs.InStart.{AreEnoughBound}
use Rattle.suffix_summary.proofs.followed_sets.followed_sets.Goals as goal

pub returns : goal.returns
returns c =
    let t = c.args.known.now.tables in
    let k = checker_in t in
    let ts = texts_in t in
    let gs = graphs_in t in
    if-ok _ _ c.known_sets.result
    (λ sets found. ∥∥₁_elim c.args.known.now.known squash₁ (λ a. ∥∥₁_elim c.in_ok-bound.ensures squash₁ (λ listed.
    let all = subst (λ (l : List Member). AreEnoughBound k ts gs l) (sym c.as_slice.ensures.value) listed in
    ∥∥₁_map (found k refl a.tables all.objects) (all.enough (map (λ z. z.keys) sets.items)))))
    c.known_sets.ensures

pub known_sets-requires : goal.known_sets-requires
known_sets-requires c = c.args.known.now.tables.shallow
