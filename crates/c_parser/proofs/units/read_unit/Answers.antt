use Rattle.std.proofs.Common.{◌≡◌, ◌+◌, ◌*◌, ◌≤◌, ◌<◌, ℕ, List, [], ◌∷◌, drop, length, slice_get, Some, refl, sym, ap, ◌∙◌, subst, arith}
use Rattle.std.proofs.lemmas.List.{drop_more}
use Rattle.std.proofs.lemmas.Option.{slice_get-get_or}
use Rattle.c_tree.specs.declared.place.Place.{Place}
use Rattle.c_lexer.specs.CReading.Chunks.{Follow, AreChunks}
use Rattle.c_expr.proofs.Standing.{row-start, row-next}
use Rattle.c_expr.specs.Standing.{IsFirst}
use Rattle.c_parser.specs.Units.{IsFirstBadAt}
use Rattle.c_parser.proofs.Chunks.{GoesOn, BadGoesOn, goes-on-start, bad-goes-on-start, goes-on, bad-goes-on, parse-there, parse-here, all-parses, bad-there, handed-on, without_memory}
use Rattle.c_parser.proofs.units.read_unit.Goals as goal

pub reading-init : goal.reading-init
reading-init c = record {
  within = omega arith;
  follow = rw c.all-all.ensures.all c.in_ok-bounds.ensures;
  parses = goes-on-start c.all-all.result.now c.in_ok-bounds.bounds.items c.new-trees.result.items c.new-names.result.now c.new-trees.ensures.items c.new-names.ensures.now;
  bad = bad-goes-on-start c.all-all.result.now c.in_ok-bounds.bounds.items c.new-names.result.now c.new-names.ensures.now;
  stands = row-start c.new-trees.result.items _ _ c.new-trees.ensures.items;
  spent = omega arith;
}

pub reading-preserved : goal.reading-preserved
reading-preserved c =
    let ts = c.all-all.result.now in
    let bounds = c.in_ok-bounds.bounds.items in
    let v = c.reading.invariant in
    let index = c.reading.index in
    let chunk = c.index.result.now in
    let tree = c.in_ok-tree.tree.now in
    let inside : index < length bounds = let h = c.reading-test.true in let l = c.len.ensures in omega arith in
    let cut : drop index bounds ≡ chunk ∷ drop (index + 1) bounds = drop_more bounds index chunk inside ∙ ap (λ x. x ∷ drop (index + 1) bounds) (sym c.index.ensures) in
    let follow : Follow ts c.reading.start (chunk ∷ drop (index + 1) bounds) (length ts) = subst (λ x. Follow ts c.reading.start x (length ts)) cut v.follow in
    let parse = parse-there ts c.reading.names.now _ c.reading.start chunk follow.0 c.in_ok-tree.ensures.parsed in
    record {
      within = let h = c.reading-test.true in omega arith;
      follow = follow.2;
      parses = goes-on ts bounds c.reading.trees.items c.push.new.self.items tree c.reading.names.now _ chunk (drop (index + 1) bounds) c.in_ok-push.ensures.items parse c.in_ok-tree.ensures.now (subst (λ x. GoesOn ts bounds c.reading.trees.items c.reading.names.now x) cut v.parses);
      bad = bad-goes-on ts bounds index tree c.reading.names.now _ chunk (drop (index + 1) bounds) parse c.in_ok-tree.ensures.now (subst (λ x. BadGoesOn ts bounds index c.reading.names.now x) cut v.bad);
      stands = row-next c.reading.trees.items c.push.new.self.items tree _ _ _ _ _ _ c.in_ok-push.ensures.items v.stands c.in_ok-tree.ensures.stands;
      spent = c.in_ok-tree.ensures.ids.1;
    }

pub returns-in_err-tree-clause-refused : goal.returns-in_err-tree-clause-refused
returns-in_err-tree-clause-refused c =
    let ts = c.all-all.result.now in
    let bounds = c.in_ok-bounds.bounds.items in
    let v = c.reading.invariant in
    let index = c.reading.index in
    let chunk = c.index.result.now in
    let names = c.reading.names.now in
    let inside : index < length bounds = let h = c.reading-test.true in let l = c.len.ensures in omega arith in
    let cut : drop index bounds ≡ chunk ∷ drop (index + 1) bounds = drop_more bounds index chunk inside ∙ ap (λ x. x ∷ drop (index + 1) bounds) (sym c.index.ensures) in
    let follow : Follow ts c.reading.start (chunk ∷ drop (index + 1) bounds) (length ts) = subst (λ x. Follow ts c.reading.start x (length ts)) cut v.follow in
    let there : slice_get bounds index ≡ Some chunk = slice_get-get_or bounds index chunk inside ∙ ap Some (sym c.index.ensures) in
    let ours : AreChunks ts bounds = rw c.all-all.ensures.all c.in_ok-bounds.ensures in
    let bad = subst (λ x. BadGoesOn ts bounds index names x) cut v.bad in
    let refused = c.in_err-tree.ensures.refused in
    handed-on _ _ (λ place. (chunks : List (ℕ × ℕ)) × AreChunks c.args.tokens.now.all chunks × IsFirstBadAt c.args.tokens.now.all chunks place)
    (λ place n.
    let begins = subst (λ k. IsFirst place (drop k ts)) (sym follow.0) (refused place n).0 in
    let first = bad-there ts bounds bounds (drop (index + 1) bounds) names index chunk place ours ours there begins (λ e p. (refused place n).1 e (parse-here ts names e c.reading.start chunk follow.0 p)) bad in
    (bounds, rw (← c.all-all.ensures.all) ours, rw (← c.all-all.ensures.all) first))
    c.from_residual-in_err-tree.ensures.1

pub returns-in_err-push-clause-refused : goal.returns-in_err-push-clause-refused
returns-in_err-push-clause-refused c = without_memory _ _ c.from_residual-in_err-push.ensures.1

pub returns-clause-parsed : goal.returns-clause-parsed
returns-clause-parsed c =
    let v = c.reading.invariant in
    let bounds = c.in_ok-bounds.bounds.items in
    let past : length bounds ≤ c.reading.index = let h = c.reading-test.false in omega arith in
    let ours : AreChunks c.all-all.result.now bounds = rw c.all-all.ensures.all c.in_ok-bounds.ensures in
    let trees = all-parses c.parses_are_unique.ensures c.all-all.result.now bounds bounds c.reading.trees.items c.reading.names.now c.reading.index _ ours ours past v.parses c.list_of.ensures.views in
    (bounds, rw (← c.all-all.ensures.all) ours, rw (← c.all-all.ensures.all) trees)

pub returns-clause-places : goal.returns-clause-places
returns-clause-places c = record {
  high = c.args.tokens.now.end.place.token;
  rises = c.all-all.ensures.rising;
  of_file = rw c.end.ensures c.all-all.ensures.of_file;
}
