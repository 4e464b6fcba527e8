use Rattle.std.proofs.Common.{◌≡◌, ◌+◌, ◌↔◌, ℕ, Bool, true, false, IsTrue, List, length, refl, sym, ◌∙◌, subst, arith}
use Rattle.c_tree.specs.declared.token.Token.{Token}
use Rattle.c_lexer.specs.CReading.Chunks.{EndsChunk, IsCut}
use Rattle.c_lexer.proofs.ChunkSteps.{nests_first, nests_next, nests_are, ends_true, ends_false}
use Rattle.c_lexer.proofs.chunk_bounds.is_cut.Goals as goal

pub going-init : goal.going-init
going-init c = record {
  within = omega arith;
  nests = nests_first c.all-all.result.now;
  deep = omega arith;
  some = λ e n h. absurd (omega arith);
  none = λ e. cc;
}

pub going-preserved : goal.going-preserved
going-preserved c =
    let all = c.all-all.result.now in
    let v = c.going.invariant in
    let s = c.going.nesting in
    let next = nests_next all c.going.index s.depth s.behind_paren s.in_body _ c.going-test.true v.nests in
    record {
      within = let h = c.going-test.true in omega arith;
      nests = nests_are all (c.going.index + 1) _ c.behind-nesting.result.depth _ c.behind-nesting.result.behind_paren _ c.behind-nesting.result.in_body c.behind-nesting.ensures.depth c.behind-nesting.ensures.paren c.behind-nesting.ensures.body next;
      deep = let r = c.behind-nesting.ensures.rise in let d = v.deep in omega arith;
      some = λ e n h.
          let here : EndsChunk all c.going.index = ends_true all c.going.index s.depth s.behind_paren s.in_body _ c.going-test.true v.nests (sym c.ends-ends.ensures ∙ e) in
          let i : c.going.index ≡ n = omega arith in
          subst (λ k. EndsChunk all k) i here;
      none = λ e. (c.going.index, refl, ends_false all c.going.index s.depth s.behind_paren s.in_body _ c.going-test.true v.nests (sym c.ends-ends.ensures ∙ e));
    }

not_none : (ends : Bool) (ts : List Token) (n : ℕ) → length ts ≡ n → (ends ≡ false → (m : ℕ) × (n ≡ m + 1) × (EndsChunk ts m → ⊥)) → IsCut ts → ends ≡ true
not_none true ts n e none cut = refl
not_none false ts n e none cut = let m = none refl in absurd (m.2 (cut m.0 (e ∙ m.1)))

pub returns : goal.returns
returns c =
    let all = c.all-all.result.now in
    let v = c.going.invariant in
    let end : length all ≡ c.going.index = let w = v.within in let t = c.going-test.false in omega arith in
    let is : IsTrue c.going.ends ↔ IsCut all = (λ h n k. v.some h n (sym end ∙ k), not_none c.going.ends all c.going.index end v.none) in
    rw (← c.all-all.ensures.all) is
