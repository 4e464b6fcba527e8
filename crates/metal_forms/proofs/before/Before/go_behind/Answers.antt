use Rattle.metal_forms.proofs.before.Before.go_behind.Goals as goal

pub returns-in-Declares : goal.returns-in-Declares
returns-in-Declares c = rw c.in-Declares.is c.declare.ensures
