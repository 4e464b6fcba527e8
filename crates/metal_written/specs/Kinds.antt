-- Kinds of holes, and where they may stand.
use Rattle.std.specs.Prelude.{Bool, true, false, Option, None, Some}
use Rattle.metal_tree.specs.MetalMachines.Machine.{HoleType, AnyExpr, AnyScalar, AnyPointer, AnyArguments, AnyFnCall}
use Rattle.metal_grammar.specs.Holes as places
use Rattle.metal_written.specs.declared.kinds.HoleKind.{HoleKind}
use Rattle.metal_written.specs.declared.kinds.HoleKind.TheVariants as kinds
use Rattle.metal_written.specs.declared.kinds.Seat.{Seat}
use Rattle.metal_written.specs.declared.kinds.Seat.TheVariants as seats
use Rattle.metal_written.specs.declared.kinds.Position.{Position}
use Rattle.metal_written.specs.declared.kinds.Position.TheVariants as positions

abbrev pub kind_type : HoleKind → HoleType
kind_type kinds.AnyExpr = AnyExpr
kind_type kinds.AnyScalar = AnyScalar
kind_type kinds.AnyPointer = AnyPointer
kind_type kinds.AnyArguments = AnyArguments
kind_type kinds.AnyFnCall = AnyFnCall

-- what a hole of this type may be in an expression
abbrev pub seat_of : HoleType → Seat
seat_of AnyArguments = seats.Arguments
seat_of AnyFnCall = seats.Callee
seat_of _ = seats.Operand

abbrev pub position_of : Position → places.Position
position_of positions.Operand = places.Operand
position_of positions.Callee = places.Callee
position_of positions.LastArgument = places.LastArgument

abbrev pub sits : Position → Seat → Bool
sits positions.Operand seats.Operand = true
sits positions.LastArgument seats.Operand = true
sits positions.LastArgument seats.Arguments = true
sits positions.Callee seats.Callee = true
sits _ _ = false

-- a name that is no hole may stand anywhere
abbrev pub may_sit : Position → Option Seat → Bool
may_sit position None = true
may_sit position (Some seat) = sits position seat
