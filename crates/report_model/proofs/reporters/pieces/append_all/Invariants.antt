-- the texts so far were appended
use Rattle.std.proofs.Common.{◌≡◌, ◌++◌, take, flat_map}
use Rattle.report_model.proofs.reporters.pieces.append_all.Given as goal

abbrev pub invariant-loop-piece : goal.invariant-loop-piece
invariant-loop-piece l = l.into ≡ l.initial.into ++ flat_map (λ t. t.now) (take l.piece-index l.texts)
