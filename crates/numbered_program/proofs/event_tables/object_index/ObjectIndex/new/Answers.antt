use Rattle.numbered_program.proofs.event_tables.object_index.ObjectIndex.new.Goals as goal

pub returns-then-len-le8 : goal.returns-then-len-le8
returns-then-len-le8 c = λ v. c.in_ok-all.ensures

pub returns : goal.returns
returns c = λ v. c.in_ok-numbers.ensures v
