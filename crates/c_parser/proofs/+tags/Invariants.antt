use Rattle.std.proofs.Common.{◌≡◌, ◌+◌, ◌-◌, ◌*◌, ◌≤◌, length, false}
use Rattle.c_tree.specs.Symbol.{symbols_of}
use Rattle.c_tree.specs.Height.{height_in}
use Rattle.c_tree.specs.Forget.{view_all}
use Rattle.c_tree.specs.Views.{nodes_in}
use Rattle.c_grammar.specs.CPlaces.Lines.{row_line}
use Rattle.c_grammar.specs.CPlaces.Stands.{Stands}
use Rattle.c_grammar.specs.UnitGrammar.Construct.{TaggedType}
use Rattle.c_grammar.specs.UnitGrammar.Names.{declared_by_all}
use Rattle.c_grammar.specs.UnitGrammar.Reading.{read}
use Rattle.c_expr.specs.Gives.{ending_with, count_in}
use Rattle.c_parser.specs.Ways.TypedOnce.{read_typed_once}
use Rattle.c_grammar.specs.Ways.TaggedSteps.{read_members}
use Rattle.c_parser.proofs.+tags.Given as goal

abbrev pub decreases-specifiers::specifiers_in_front : goal.decreases-specifiers::specifiers_in_front
decreases-specifiers::specifiers_in_front l = l.room * 16 + 10

abbrev pub decreases-specifiers::read_items : goal.decreases-specifiers::read_items
decreases-specifiers::read_items l = l.room * 16 + 9

abbrev pub decreases-specifiers::read_item : goal.decreases-specifiers::read_item
decreases-specifiers::read_item l = l.room * 16 + 8

abbrev pub decreases-tagged::tagged_in_front : goal.decreases-tagged::tagged_in_front
decreases-tagged::tagged_in_front l = l.room * 16 + 10

abbrev pub decreases-tagged::read_struct : goal.decreases-tagged::read_struct
decreases-tagged::read_struct l = l.room * 16 + 9

abbrev pub decreases-tagged::read_struct_body : goal.decreases-tagged::read_struct_body
decreases-tagged::read_struct_body l = l.room * 16 + 8

abbrev pub decreases-tagged::read_members : goal.decreases-tagged::read_members
decreases-tagged::read_members l = l.room * 16 + 7

abbrev pub decreases-members::member_in_front : goal.decreases-members::member_in_front
decreases-members::member_in_front l = l.room * 16 + 10

abbrev pub invariant-specifiers::read_items-loop-front : goal.invariant-specifiers::read_items-loop-front
invariant-specifiers::read_items-loop-front l = record {
  found : ending_with l.all.items (read_typed_once (read (l.room - 1) TaggedType l.fn.names.now) l.fn.names.now l.fuel l.typed (symbols_of l.rest)) ≡ read_typed_once (read (l.room - 1) TaggedType l.fn.names.now) l.fn.names.now (length (symbols_of l.fn.tokens)) false (symbols_of l.fn.tokens);
  height : l.highest ≡ height_in (view_all l.all.items);
  now : l.names.now ≡ declared_by_all (view_all l.all.items) l.fn.names.now;
  plain : l.typed ≡ false → l.names.now ≡ l.fn.names.now;
  saved : l.names.saved ≡ l.fn.names.saved;
  rises : l.fn.next ≤ l.next;
  stands : Stands (row_line (nodes_in l.all.items)) l.fn.next l.next l.fn.tokens l.rest;
  spent : l.next + 16 * length l.rest + 15 * count_in (view_all l.all.items) ≤ l.fn.next + 16 * length l.fn.tokens;
}

abbrev pub decreases-specifiers::read_items-loop-front : goal.decreases-specifiers::read_items-loop-front
decreases-specifiers::read_items-loop-front l = l.fuel

abbrev pub invariant-tagged::read_members-loop-fuel : goal.invariant-tagged::read_members-loop-fuel
invariant-tagged::read_members-loop-fuel l = record {
  found : ending_with l.all.items (read_members (read (l.room - 1)) l.names.now l.fuel (symbols_of l.rest)) ≡ read_members (read (l.room - 1)) l.fn.names.now (length (symbols_of l.fn.tokens)) (symbols_of l.fn.tokens);
  height : l.highest ≡ height_in (view_all l.all.items);
  now : l.names.now ≡ declared_by_all (view_all l.all.items) l.fn.names.now;
  saved : l.names.saved ≡ l.fn.names.saved;
  rises : l.fn.next ≤ l.next;
  stands : Stands (row_line (nodes_in l.all.items)) l.fn.next l.next l.fn.tokens l.rest;
  spent : l.next + 16 * length l.rest ≤ l.fn.next + 16 * length l.fn.tokens;
}

abbrev pub decreases-tagged::read_members-loop-fuel : goal.decreases-tagged::read_members-loop-fuel
decreases-tagged::read_members-loop-fuel l = l.fuel
