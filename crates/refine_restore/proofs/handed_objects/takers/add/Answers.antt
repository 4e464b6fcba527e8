use Rattle.std.proofs.Common.{◌≡◌, List, ◌∷◌, [], ◌++◌, Bool, true, false, Option, Some, refl, ◌∙◌, sym, ap, cond, not, ◌&&◌}
use Rattle.c_objects.specs.Objects.{Object}
use Rattle.refine_restore.specs.Ways.Takers.{is_listed, is_taker, with_one}
use Rattle.refine_restore.proofs.handed_objects.takers.add.Goals as goal
use Rattle.refine_restore.specs.Sites.{site_of}

-- one that is there already
listed-stays : (test : Object → Bool) (qs ds : List Object) (q : Object) (c : Option Object) (b : Bool) → c ≡ Some q → ds ≡ qs → b ≡ true → b ≡ is_listed ds q → qs ≡ with_one test qs c
listed-stays test qs ds q c b e f g h =
    let there : is_listed qs q ≡ true = ap (λ z. is_listed z q) (sym f) ∙ sym h ∙ g in
    sym (ap (with_one test qs) e ∙ ap (λ l. cond (test q && not l) (qs ++ (q ∷ [])) qs) there ∙ by (test q))
  where
    by : (t : Bool) → cond (t && false) (qs ++ (q ∷ [])) qs ≡ qs
    by true = refl
    by false = refl

pub returns-then-contains : goal.returns-then-contains
returns-then-contains c =
    listed-stays (is_taker c.args.end c.args.depth (site_of c.args.depth c.args.site.now) c.args.object.now) c.args.takers.now.items c.deref.result.now c.in-Some.taker c.args.candidate c.contains.result
    c.in-Some.is c.deref.ensures.value c.if-contains.true c.contains.ensures.value
