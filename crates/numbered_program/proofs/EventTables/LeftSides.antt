-- The variable to which an event writes is that of its left side, whatever is copied.
use Rattle.std.proofs.Common.{◌≡◌, sym, refl, Bool, true, false, cond, Option, None, Some}
use Rattle.std.proofs.lemmas.Option.{none-some, same_Some}
use Rattle.c_objects.specs.Facts.{Facts}
use Rattle.c_objects.specs.ObjectOf.{object_of}
use Rattle.c_objects.specs.Objects.{Object}
use Rattle.c_tree.specs.Node.{Node}
use Rattle.c_tree.specs.declared.operator.AssignOp.{AssignOp}
use Rattle.c_tree.specs.declared.operator.AssignOp.TheVariants as assign
use Rattle.c_tree.specs.declared.operator.UnaryOp.{UnaryOp}
use Rattle.c_tree.specs.declared.operator.UnaryOp.TheVariants as unary
use Rattle.numbered_program.specs.EventTables.Written.{base_of, is_step, written}
use Rattle.path_model.specs.CheckerModel.Moves.{Move, assigned, initialized, moving, stepped}
use Rattle.std.specs.Prelude.{ℕ}
use Rattle.hole_matching.specs.Subjects.{is_braced}
use Rattle.type_rules.specs.Vars.{CVar}

pub moving_writes : (to from : Option Object) → base_of to ≡ written (moving to from)
moving_writes None from = refl
moving_writes (Some l) from = by l.address
  where
    by : (b : Bool) → cond b None (Some l.base) ≡ written (cond b None (Some (record { to = l; from = from })))
    by true = refl
    by false = refl

pub assigned_writes : (u : Facts) (depth : ℕ) (op : AssignOp) (left right : Node) → base_of (object_of u depth left) ≡ written (assigned u depth op left right)
assigned_writes u depth assign.Plain left right = moving_writes (object_of u depth left) (object_of u depth right)
assigned_writes u depth op left right = moving_writes (object_of u depth left) None

pub initialized_writes : (u : Facts) (depth : ℕ) (name initial : Node) → base_of (object_of u depth name) ≡ written (initialized u depth name initial)
initialized_writes u depth name initial = moving_writes (object_of u depth name) (cond (is_braced initial) None (object_of u depth initial))

pub stepped_writes : (u : Facts) (depth : ℕ) (op : UnaryOp) (operand : Node) → cond (is_step op) (base_of (object_of u depth operand)) None ≡ written (stepped u depth op operand)
stepped_writes u depth unary.PostInc operand = moving_writes (object_of u depth operand) None
stepped_writes u depth unary.PostDec operand = moving_writes (object_of u depth operand) None
stepped_writes u depth unary.PreInc operand = moving_writes (object_of u depth operand) None
stepped_writes u depth unary.PreDec operand = moving_writes (object_of u depth operand) None
stepped_writes u depth op operand = refl

-- an event that writes to no variable moves nothing
pub nothing_moves : (m : Option Move) → None ≡ written m → m ≡ None
nothing_moves None e = refl
nothing_moves (Some n) e = absurd (none-some n.to.base e)

pub some_moves : (m : Option Move) (v : CVar) → Some v ≡ written m → (n : Move) × (m ≡ Some n) × (v ≡ n.to.base)
some_moves None v e = absurd (none-some v (sym e))
some_moves (Some n) v e = (n, refl, same_Some v n.to.base e)
