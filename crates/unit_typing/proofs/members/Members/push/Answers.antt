use Rattle.std.proofs.Common.{arith, ◌≡◌, ◌++◌, [], ◌∷◌, length, ◌∙◌, ap, Option, ℕ, Some, None, cond}
use Rattle.std.specs.Map.{lookup}
use Rattle.std.proofs.lemmas.Grind.{common_steps}
use Rattle.indexmap.specs.IndexMap.{get}
use Rattle.type_rules.specs.Options.{or_else}
use Rattle.unit_typing.specs.Members.{same_key, key_of}
use Rattle.unit_typing.specs.Positions.{list_at}
use Rattle.unit_typing.proofs.Filed.{filed-push}
use Rattle.unit_typing.proofs.members.Members.push.Goals as goal

pub invariant_of-self-2 : goal.invariant_of-self-2
invariant_of-self-2 c =
    let items : c.push.new.self.items ≡ c.args.self.now.all.items ++ (c.args.member ∷ []) = grind (arith, common_steps) in
    let at : c.len-position.result ≡ length c.args.self.now.all.items = grind (arith, common_steps) in
    record {
      filed =
          rw items
          (filed-push (get same_key c.args.self.now.first) (get same_key c.note_first.new.first) (list_at c.args.self.now.positions) (list_at c.push_at.new.lists) c.args.self.now.all.items c.args.member c.len-position.result c.args.self.now.filed at c.in_ok-push_at.ensures (λ k. c.in_ok-note_first.ensures.noted k ∙ ap (λ (o : Option ℕ). or_else o (cond (same_key (key_of c.args.member) k) (Some c.len-position.result) None)) (ap (lookup (same_key k)) c.reserve-2.ensures.entries)));
    }
