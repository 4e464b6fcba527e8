use Rattle.std.proofs.Common.{get_or, length, refl, ap, ◌∙◌}
use Rattle.std.proofs.lemmas.Option.{slice_get_read}
use Rattle.least_set.proofs.logs.IndexSetLog.get.Goals as goal

pub returns : goal.returns
returns g c =
    let log = c.args.self.now.keys in
    let e = c.index-as_slice-index.result in
    slice_get_read log (length log) c.args.index e refl c.requires (c.index-as_slice-index.is ∙ ap (λ l. get_or l c.args.index e) c.as_slice.ensures.keys)
