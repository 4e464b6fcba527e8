use Rattle.std.proofs.Common.{◌≡◌, ◌++◌, sym, ap, ◌∙◌, arith}
use Rattle.c_lexer.specs.CReading.Strip.{stripped}
use Rattle.c_lexer.proofs.TokenGroups.{strip_dropped, strip_kept, strip_end}
use Rattle.c_tree.specs.TokenPlaces.{AreOfFile, Rises}
use Rattle.c_lexer.proofs.Kept.{rises_stripped, file_stripped}
use Rattle.c_lexer.proofs.stripping.strip.Goals as goal

pub going-preserved-in-Some : goal.going-preserved-in-Some
going-preserved-in-Some c =
    let all = c.all-all.result.now in
    let step = strip_dropped all c.going.index c.in-Some.count _ c.going-test.true (sym c.in-Some.ensures.found) in
    record {
      within = c.in-Some.ensures.within;
      found = ap (λ l. c.going.kept.items ++ l) step ∙ c.going.invariant.found;
    }

pub going-preserved : goal.going-preserved
going-preserved c =
    let all = c.all-all.result.now in
    let step = strip_kept all c.going.kept.items c.going.index _ c.going-test.true (sym c.in-None.ensures.found) in
    record {
      within = let h = c.going-test.true in omega arith;
      found = rw (c.in_ok-push-in-None.ensures.items, c.renamed.ensures) (step ∙ c.going.invariant.found);
    }

pub new-requires-clause-of_file : goal.new-requires-clause-of_file
new-requires-clause-of_file c =
    let all = c.all-all.result.now in
    let kept : c.going.kept.items ≡ stripped all = sym (strip_end all c.going.kept.items c.going.index c.going-test.false) ∙ c.going.invariant.found in
    let f : AreOfFile c.args.tokens.now.end.place.file (stripped all) = file_stripped 0 c.args.tokens.now.end.place.file all c.all-all.ensures.of_file in
    rw (kept, c.end.ensures) f

pub new-requires-clause-rising : goal.new-requires-clause-rising
new-requires-clause-rising c =
    let all = c.all-all.result.now in
    let kept : c.going.kept.items ≡ stripped all = sym (strip_end all c.going.kept.items c.going.index c.going-test.false) ∙ c.going.invariant.found in
    let high = c.args.tokens.now.end.place.token in
    let r : Rises 0 (stripped all) high = rises_stripped 0 0 all high c.all-all.ensures.rising in
    rw (kept, c.end.ensures) r

pub returns-clause-all : goal.returns-clause-all
returns-clause-all c =
    let all = c.all-all.result.now in
    let kept : c.going.kept.items ≡ stripped all = sym (strip_end all c.going.kept.items c.going.index c.going-test.false) ∙ c.going.invariant.found in
    c.new.ensures.all ∙ kept ∙ ap stripped c.all-all.ensures.all
