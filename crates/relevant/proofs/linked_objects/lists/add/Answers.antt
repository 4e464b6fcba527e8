use Rattle.std.proofs.Common.{◌∙◌, ap, sym}
use Rattle.std.specs.List.{list_any}
use Rattle.std.proofs.lemmas.Map.Views.{Contains-from_any}
use Rattle.std.proofs.lemmas.Option.{none-some}
use Rattle.least_set.proofs.Growing.{adds_none}
use Rattle.objects.specs.Equality.{same_object, same_object-true}
use Rattle.relevant.proofs.LinkedObjects.Listed.{none-added, one-added}
use Rattle.relevant.proofs.linked_objects.lists.add.Goals as goal

pub returns-in_default : goal.returns-in_default
returns-in_default c = adds_none c.args.found.now.items (λ o e. none-some o (sym c.in_default.is ∙ e))

pub returns-then-contains : goal.returns-then-contains
returns-then-contains c =
    none-added c.args.found.now.items c.args.more c.in-Some.object c.in-Some.is
    (Contains-from_any {eq = λ a b. same_object b a} (λ a b e. sym (same_object-true b a e)) c.in-Some.object c.args.found.now.items
    (ap (list_any (λ o. same_object o c.in-Some.object)) (sym c.deref.ensures.value) ∙ sym c.contains.ensures.value ∙ c.if-contains.true))

pub returns : goal.returns
returns c = one-added c.args.found.now.items c.args.more c.in-Some.object c.in-Some.is c.push.new.self.items c.in_ok-push.ensures.items
