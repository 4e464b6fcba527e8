-- What the parts of a machine stand for. Patterns forget ids and places; the position of a rule is the number of its first token.
use Rattle.std.specs.Prelude.{ℕ, zero, suc, List, map}
use Rattle.std.specs.Option.{option_map}
use Rattle.c_tree.specs.Forget.{view}
use Rattle.metal_tree.specs.MetalMachines.Machine as machines
use Rattle.metal_tree.specs.declared.holes.HoleDecl.{HoleDecl}
use Rattle.metal_tree.specs.declared.holes.HoleType.{HoleType}
use Rattle.metal_tree.specs.declared.holes.HoleType.TheVariants as hole_type
use Rattle.metal_tree.specs.declared.holes.NamedType.{NamedType}
use Rattle.metal_tree.specs.declared.holes.BaseType.{BaseType}
use Rattle.metal_tree.specs.declared.holes.BaseType.TheVariants as base_type
use Rattle.metal_tree.specs.declared.patterns.Alternative.{Alternative}
use Rattle.metal_tree.specs.declared.patterns.Callout.{Callout}
use Rattle.metal_tree.specs.declared.patterns.CalloutRow.{CalloutRow}
use Rattle.metal_tree.specs.declared.patterns.CalloutRow.TheVariants as rows
use Rattle.metal_tree.specs.declared.patterns.Item.{Item}
use Rattle.metal_tree.specs.declared.patterns.Item.TheVariants as item
use Rattle.metal_tree.specs.declared.messages.Action.{Action}
use Rattle.metal_tree.specs.declared.messages.Piece.{Piece}
use Rattle.metal_tree.specs.declared.messages.Piece.TheVariants as piece
use Rattle.metal_tree.specs.declared.rules.Source.{Source}
use Rattle.metal_tree.specs.declared.rules.Source.TheVariants as source
use Rattle.metal_tree.specs.declared.rules.Target.{Target}
use Rattle.metal_tree.specs.declared.rules.Target.TheVariants as target
use Rattle.metal_tree.specs.declared.rules.Dest.{Dest}
use Rattle.metal_tree.specs.declared.rules.Dest.TheVariants as dest
use Rattle.metal_tree.specs.declared.rules.Rule.{Rule}

abbrev pub base_type_view : BaseType → machines.NamedType
base_type_view (base_type.Basic words) = machines.Basic words.now
base_type_view (base_type.Tag which tag) = machines.Tag which tag

-- a type under so many stars
abbrev pub starred : ℕ → machines.NamedType → machines.NamedType
starred zero t = t
starred (suc n) t = machines.Pointer (starred n t)

abbrev pub named_type_view : NamedType → machines.NamedType
named_type_view t = starred t.stars (base_type_view t.base)

abbrev pub hole_type_view : HoleType → machines.HoleType
hole_type_view hole_type.AnyExpr = machines.AnyExpr
hole_type_view hole_type.AnyScalar = machines.AnyScalar
hole_type_view hole_type.AnyPointer = machines.AnyPointer
hole_type_view hole_type.AnyArguments = machines.AnyArguments
hole_type_view hole_type.AnyFnCall = machines.AnyFnCall
hole_type_view (hole_type.Named t) = machines.Named (named_type_view t)

abbrev pub hole_view : HoleDecl → machines.Hole
hole_view h = record { name = h.name; of = hole_type_view h.of }

abbrev pub source_view : Source → machines.Source
source_view (source.Global state) = machines.FromGlobal state
source_view (source.Object variable state) = machines.FromObject variable state

abbrev pub target_view : Target → machines.Target
target_view (target.Global state) = machines.ToGlobal state
target_view (target.Object variable state) = machines.ToObject variable state
target_view (target.Unknown variable) = machines.ToUnknown variable

abbrev pub dest_view : Dest → machines.Dest
dest_view (dest.To t) = machines.Always (target_view t)
dest_view (dest.Split on_true on_false) = machines.ByTruth (target_view on_true) (target_view on_false)

abbrev pub row_view : CalloutRow → machines.CalloutRow
row_view rows.IsConst = machines.IsConst
row_view rows.IsGlobal = machines.IsGlobal
row_view rows.IsParam = machines.IsParam
row_view rows.IsLocal = machines.IsLocal
row_view rows.NameIs = machines.NameIs
row_view rows.InFunction = machines.InFunction
row_view rows.NeverHolds = machines.NeverHolds
row_view rows.AlwaysHolds = machines.AlwaysHolds

abbrev pub callout_view : Callout → machines.Condition
callout_view c = record { negated = c.negated; row = row_view c.row; hole = c.hole; text = c.text }

abbrev pub item_view : Item → machines.Item
item_view (item.Base tree) = machines.Base (view tree.now)
item_view (item.Call c) = machines.Holds (callout_view c)
item_view item.EndOfPath = machines.EndOfPath

abbrev pub items_view : Alternative → List machines.Item
items_view a = map item_view a.items.now

abbrev pub piece_view : Piece → machines.Piece
piece_view (piece.Literal bytes) = machines.Bytes bytes.now
piece_view (piece.Hole hole) = machines.HoleText hole

abbrev pub action_view : Action → List machines.Piece
action_view a = map piece_view a.pieces.now

abbrev pub rule_view : Rule → machines.Rule
rule_view r = record {
  number = r.number;
  position = r.place.token;
  source = source_view r.source;
  alternatives = map items_view r.pattern.alternatives.now;
  dest = dest_view r.dest;
  action = option_map action_view r.action;
}

abbrev pub rule_views : List Rule → List machines.Rule
rule_views rules = map rule_view rules
