-- the texts so far were appended
use Rattle.std.proofs.Common.{◌≡◌, ◌++◌, drop, flat_map}
use Rattle.command.proofs.lines.append_all.Given as goal

abbrev pub invariant-loop-piece : goal.invariant-loop-piece
invariant-loop-piece l = l.into ++ flat_map (λ t. t.now) (drop l.piece-index l.texts) ≡ l.fn.into ++ flat_map (λ t. t.now) l.texts
