use Rattle.std.proofs.Common.{None, Some, refl, ap}
use Rattle.std.specs.Option.{option_map}
use Rattle.c_tree.specs.Views.{node_of}
use Rattle.path_model.specs.CheckerPrograms.Texts.{function_of}
use Rattle.function_tables.specs.EngineTables.Known.{checker_in, texts_in, graphs_in}
use Rattle.function_tables.proofs.EngineTables.Places.{place}
use Rattle.edge_rules.proofs.WaitRules.FoundCalls.{found, no-end, no-function, not-followed}
use Rattle.edge_rules.proofs.wait_rules.followed_calls.followed_call.Goals as goal

pub returns-in_err-frame-clause-missing : goal.returns-in_err-frame-clause-missing
returns-in_err-frame-clause-missing c e k =
    let t = c.args.tables.now in
    no-function (checker_in t) (texts_in t) (graphs_in t) c.args.function c.args.block (c.in_err-frame.ensures.missing refl k)

pub returns-in_err-end-clause-missing : goal.returns-in_err-end-clause-missing
returns-in_err-end-clause-missing c e k =
    let t = c.args.tables.now in
    let n = c.args.function in
    let f = c.in_ok-frame.frame in
    no-end t n c.args.block f (place t n f k c.in_ok-frame.ensures.there) c.in_err-end.ensures

pub returns-in_err-callee-clause-missing : goal.returns-in_err-callee-clause-missing
returns-in_err-callee-clause-missing c e k =
    let t = c.args.tables.now in
    let n = c.args.function in
    let f = c.in_ok-frame.frame in
    let end = c.in_ok-end.end in
    not-followed t n c.args.block f (place t n f k c.in_ok-frame.ensures.there) (node_of end.call.now) end.behind c.in_ok-end.ensures None c.in_err-callee.ensures refl

pub returns-in_err-entered-clause-missing : goal.returns-in_err-entered-clause-missing
returns-in_err-entered-clause-missing c e k =
    let t = c.args.tables.now in
    let n = c.args.function in
    let f = c.in_ok-frame.frame in
    let end = c.in_ok-end.end in
    not-followed t n c.args.block f (place t n f k c.in_ok-frame.ensures.there) (node_of end.call.now) end.behind c.in_ok-end.ensures (Some c.in_ok-callee.callee) c.in_ok-callee.ensures
    (c.in_err-entered.ensures.missing refl k)

pub returns-in_err-site-clause-missing : goal.returns-in_err-site-clause-missing
returns-in_err-site-clause-missing c e k =
    let t = c.args.tables.now in
    no-function (checker_in t) (texts_in t) (graphs_in t) c.args.function c.args.block (ap (option_map function_of) (c.in_err-site.ensures.missing refl))

pub returns-clause-there : goal.returns-clause-there
returns-clause-there c k =
    let t = c.args.tables.now in
    let n = c.args.function in
    let f = c.in_ok-frame.frame in
    let end = c.in_ok-end.end in
    let callee = c.in_ok-callee.callee in
    let p = place t n f k c.in_ok-frame.ensures.there in
    let q = place t callee c.in_ok-entered.entered k c.in_ok-entered.ensures.there in
    found t n c.args.block f p (node_of end.call.now) end.behind c.in_ok-end.ensures (Some callee) c.in_ok-callee.ensures _ c.in_ok-entered.entered q refl refl refl refl (c.in_ok-site.ensures.there p.defined p.is)
