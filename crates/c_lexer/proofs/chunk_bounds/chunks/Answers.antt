use Rattle.std.proofs.Common.{◌≡◌, ◌+◌, length, refl, sym, ◌∙◌, arith}
use Rattle.c_lexer.specs.CReading.Chunks.{AreChunks}
use Rattle.c_lexer.proofs.ChunkSteps.{nests_first, nests_next, nests_are, ends_true, ends_false, follow-push, chunk_here, chunk_left, none_more}
use Rattle.c_lexer.proofs.chunk_bounds.chunks.Goals as goal
use Rattle.c_lexer.proofs.chunk_bounds.chunks.Goals.{then-start-all+in_ok-push-2, else-start-all}

pub cutting-init : goal.cutting-init
cutting-init c = record {
  within = omega arith;
  order = omega arith;
  nests = nests_first c.all-all.result.now;
  deep = omega arith;
  follow = rw c.new-bounds.ensures.items refl;
  none = λ k a b e. absurd (omega arith);
}

pub cutting-preserved-then-ends : goal.cutting-preserved-then-ends
cutting-preserved-then-ends c =
    let all = c.all-all.result.now in
    let v = c.cutting.invariant in
    let s = c.cutting.nesting in
    let next = nests_next all c.cutting.index s.depth s.behind_paren s.in_body _ c.cutting-test.true v.nests in
    let ends = ends_true all c.cutting.index s.depth s.behind_paren s.in_body _ c.cutting-test.true v.nests (sym c.ends-ends.ensures ∙ c.if-ends.true) in
    let chunk = chunk_here all c.cutting.start c.cutting.index v.order c.cutting-test.true v.none ends in
    record {
      within = let h = c.cutting-test.true in omega arith;
      order = omega arith;
      nests = nests_are all (c.cutting.index + 1) _ c.behind-nesting.result.depth _ c.behind-nesting.result.behind_paren _ c.behind-nesting.result.in_body c.behind-nesting.ensures.depth c.behind-nesting.ensures.paren c.behind-nesting.ensures.body next;
      deep = let r = c.behind-nesting.ensures.rise in let d = v.deep in omega arith;
      follow = rw c.in_ok-push.ensures.items (follow-push all 0 c.cutting.start (c.cutting.index + 1) c.cutting.bounds.items v.follow chunk);
      none = λ k a b e. absurd (omega arith);
    }

pub cutting-preserved : goal.cutting-preserved
cutting-preserved c =
    let all = c.all-all.result.now in
    let v = c.cutting.invariant in
    let s = c.cutting.nesting in
    let next = nests_next all c.cutting.index s.depth s.behind_paren s.in_body _ c.cutting-test.true v.nests in
    let here = ends_false all c.cutting.index s.depth s.behind_paren s.in_body _ c.cutting-test.true v.nests (sym c.ends-ends.ensures ∙ c.if-ends.false) in
    record {
      within = let h = c.cutting-test.true in omega arith;
      order = let o = v.order in omega arith;
      nests = nests_are all (c.cutting.index + 1) _ c.behind-nesting.result.depth _ c.behind-nesting.result.behind_paren _ c.behind-nesting.result.in_body c.behind-nesting.ensures.depth c.behind-nesting.ensures.paren c.behind-nesting.ensures.body next;
      deep = let r = c.behind-nesting.ensures.rise in let d = v.deep in omega arith;
      follow = v.follow;
      none = none_more all c.cutting.start c.cutting.index v.none here;
    }

pub returns : goal.returns
returns c =
    let all = c.all-all.result.now in
    let v = c.cutting.invariant in
    let end : c.cutting.index ≡ length all = let w = v.within in let t = c.cutting-test.false in omega arith in
    let is : AreChunks all c.if-start-all.bounds.items = elim c.if-start-all.branch [
      | then-start-all+in_ok-push-2 w ↦
          let chunk = chunk_left all c.cutting.start c.cutting.index (let t = w.if-start-all.true in omega arith) end v.none in
          let f = follow-push all 0 c.cutting.start c.cutting.index c.cutting.bounds.items v.follow chunk in
          rw (w.bounds-is, w.in_ok-push-2.ensures.items, ← end) f
      | else-start-all w ↦
          let e : c.cutting.start ≡ length all = let t = w.if-start-all.false in let o = v.order in omega arith in
          rw (w.bounds-is, ← e) (v.follow)
    ] in
    rw (← c.all-all.ensures.all) is
