use Rattle.std.proofs.Common.{◌≡◌, ◌<◌, length, get_or, nat_eq, Some, slice_get, Contains, refl, sym, subst, arith, eqb-true}
use Rattle.std.proofs.lemmas.List.Elements.{Contains-get_or}
use Rattle.std.proofs.lemmas.Option.{slice_get_read, slice_get-get_or}
use Rattle.root_functions.proofs.GraphRoots.Visiting.{Visits, visits_begin, visits_more, visits_all, visits_within}
use Rattle.least_set.specs.Logs.{Adds}
use Rattle.least_set.proofs.Growing.{adds_one, not_shorter}
use Rattle.root_functions.proofs.graph_roots.reaching.visit.Goals as goal

pub loop-i-init : goal.loop-i-init
loop-i-init c =
    let rows = c.args.callees.now.items in
    let old = c.args.reached.now.keys in
    let root = c.args.root in
    let new = c.insert.new.self.keys in
    let begun : c.len-i.result ≡ length old = c.len-i.ensures.len in
    let w = subst (λ xs. Adds (λ f. root ≡ f) old xs) (sym c.in_ok-insert.ensures.keys) (adds_one nat_eq eqb-true old root) in
    record {
      visits = subst (λ n. Visits rows old root n new) (sym begun) (visits_begin rows old root new c.requires.closed w);
      below = omega (arith, begun, not_shorter w);
    }

pub index-requires : goal.index-requires
index-requires c =
    let rows = c.args.callees.now.items in
    let log = c.loop-i.reached.keys in
    let i = c.loop-i.i in
    let seen = c.as_slice.result.now in
    let e : seen ≡ log = c.as_slice.ensures.keys in
    let h : i < length log = omega (arith, c.loop-i-test.true, c.len.ensures.len) in
    let within : i < length seen = subst (λ xs. i < length xs) (sym e) h in
    subst (λ n. get_or seen i 0 < n) (sym c.args.callees.now.ok.0)
    (visits_within rows c.args.reached.now.keys c.args.root i log c.requires.stays c.requires.root c.requires.within c.loop-i.invariant.visits (get_or seen i 0)
    (subst (λ xs. Contains xs (get_or seen i 0)) e (Contains-get_or seen i 0 within)))

pub loop-i-preserved : goal.loop-i-preserved
loop-i-preserved c =
    let rows = c.args.callees.now.items in
    let old = c.args.reached.now.keys in
    let root = c.args.root in
    let log = c.loop-i.reached.keys in
    let new = c.add_all.new.found.keys in
    let i = c.loop-i.i in
    let seen = c.as_slice.result.now in
    let f = get_or seen i 0 in
    let row = c.index.result.now in
    let e : seen ≡ log = c.as_slice.ensures.keys in
    let h : i < length log = omega (arith, c.loop-i-test.true, c.len.ensures.len) in
    let within : i < length seen = subst (λ xs. i < length xs) (sym e) h in
    let is : slice_get log i ≡ Some f = subst (λ xs. slice_get xs i ≡ Some f) e (slice_get-get_or seen i 0 within) in
    let among = subst (λ xs. Contains xs f) e (Contains-get_or seen i 0 within) in
    let there = visits_within rows old root i log c.requires.stays c.requires.root c.requires.within c.loop-i.invariant.visits f among in
    let w = subst (λ xs. Adds (Contains xs) log new) c.as_slice-in-loop-i.ensures.value c.in_ok-add_all.ensures in
    record {
      visits = visits_more rows old root i f row log new c.requires.closed c.loop-i.invariant.visits h is (slice_get_read rows (length rows) f row refl there c.index.ensures) w;
      below = omega (arith, h, not_shorter w);
    }

pub returns : goal.returns
returns c = visits_all c.args.callees.now.items c.args.reached.now.keys c.args.root c.loop-i.i c.loop-i.reached.keys c.loop-i.invariant.visits (omega (arith, c.loop-i-test.false, c.len.ensures.len))
