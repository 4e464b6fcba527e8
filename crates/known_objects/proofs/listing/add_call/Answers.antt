use Rattle.std.proofs.Common.{◌≡◌, length, map, refl, arith}
use Rattle.std.proofs.lemmas.Grind.{common_steps}
use Rattle.known_objects.proofs.Listings.{call-pushed, call-elsewhere, numbered-push}
use Rattle.known_objects.proofs.listing.add_call.Goals as goal
use Rattle.known_objects.specs.Listed.{call_in}

pub returns-clause-calls : goal.returns-clause-calls
returns-clause-calls c =
    call-pushed c.args.function c.args.call.now (record { number = c.len-number.result; call = c.args.call.now }) c.args.calls.now.items c.push.new.self.items c.if-call-function.false refl c.in_ok-push.ensures.items

pub returns-clause-numbered : goal.returns-clause-numbered
returns-clause-numbered c =
    let at : c.len-number.result ≡ length c.args.calls.now.items = grind (arith, common_steps) in
    numbered-push c.args.calls.now.items c.push.new.self.items (record { number = c.len-number.result; call = c.args.call.now }) c.requires at c.in_ok-push.ensures.items

pub returns-then-call-function-clause-calls : goal.returns-then-call-function-clause-calls
returns-then-call-function-clause-calls c = call-elsewhere c.args.function c.args.call.now (map call_in c.args.calls.now.items) c.if-call-function.true
