use Rattle.std.proofs.Common.{[], map, sym, subst, ◌∙◌}
use Rattle.std.proofs.lemmas.List.Elements.{All-nil, All-same}
use Rattle.block_flows.specs.Firings.{fire_in, TakenAt, IsFirstAmong}
use Rattle.block_flows.proofs.QuietEvents.{none-taken}
use Rattle.least_set.proofs.Growing.{nothing}
use Rattle.least_set.specs.Logs.{IsExactly}
use Rattle.block_flows.proofs.taken_rules.firings.Goals as goal

pub returns-then-are_quiet-clause-rules : goal.returns-then-are_quiet-clause-rules
returns-then-are_quiet-clause-rules c = λ k f hs a are.
    let root = c.args.is_root in
    let followed = c.args.followed.now.keys in
    let t = c.args.tuple.now in
    subst (λ z. IsExactly (map fire_in z) (TakenAt k hs f root followed t)) (sym c.new.ensures.items) (
      λ y m. absurd (nothing y m),
      λ y w. absurd (none-taken k f root followed hs c.args.rules.now a (sym c.are_quiet.ensures ∙ c.if-are_quiet.true) y.event t.global _ y.object y.taken w),
    )

pub returns-then-are_quiet-clause-first : goal.returns-then-are_quiet-clause-first
returns-then-are_quiet-clause-first c = λ k f hs a. let P = IsFirstAmong k hs f in All-same P _ [] c.new.ensures.items (All-nil P)
