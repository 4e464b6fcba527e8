use Rattle.numbered_engine.specs.Tables.{own_in, rows_in}
use Rattle.numbered_engine.proofs.engine.NumberedEngine.counting.Goals as goal

pub invariant_of-result : goal.invariant_of-result
invariant_of-result g c = record { right = ∣ c.new.ensures.right (rows_in c.args.program.now) (own_in c.args.program.now) ∣₁ }
