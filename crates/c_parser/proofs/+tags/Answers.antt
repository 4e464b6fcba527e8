use Rattle.std.proofs.Common.{arith, false, ◌<◌, ◌∙◌, ◌-◌, length, ap, sym, refl, subst}
use Rattle.c_tree.specs.Forget.{list_view, view}
use Rattle.c_tree.specs.Symbol.{symbols_of, symbol_of}
use Rattle.c_tree.specs.Syntax.{Specifier, Specs, StructTag, StructBody, Outer, Empty}
use Rattle.c_expr.specs.SpecifierPlaces.{place_of}
use Rattle.c_expr.proofs.Items.{fit-some, done-most, height_pushed, count_pushed}
use Rattle.c_expr.proofs.Standing.{made, at_front, row-next, row-start, at_passed}
use Rattle.c_parser.proofs.TaggedSteps.{made-declares, declared-start, declared-next, declared-done, adds-declares, member-read}
use Rattle.c_grammar.specs.UnitGrammar.Construct.{TaggedType}
use Rattle.c_grammar.specs.UnitGrammar.Reading.{read}
use Rattle.c_expr.proofs.StandingParts.{row-done, ending-start, height-start, count-start}
use Rattle.c_parser.specs.Ways.TypedOnce.{read_typed_once}
use Rattle.c_parser.proofs.TypedOnce.{once-next, plain-next}
use Rattle.c_grammar.specs.CPlaces.Stands.{OfKept, OfPlace, OfBoth}
use Rattle.c_tree.specs.Views.{maybe_token, nodes_of}
use Rattle.c_parser.proofs.DeclarationPlaces.{declares}
use Rattle.c_parser.proofs.TaggedPlaces.{bare-opens, tag-opens, struct-behind, stands-same}
use Rattle.std.specs.Option.{option_map}
use Rattle.c_tree.specs.Tokens.{word_of}
use Rattle.c_grammar.specs.Ways.TaggedSteps.{read_members}
use Rattle.c_parser.proofs.ListSteps.{members-next}
use Rattle.c_expr.specs.Gives.{Gives}
use Rattle.c_parser.proofs.+tags.Goals as goal

pub specifiers::specifiers_in_front-node-requires-clause-ids : goal.specifiers::specifiers_in_front-node-requires-clause-ids
specifiers::specifiers_in_front-node-requires-clause-ids t c =
    let some = fit-some (place_of c.args.place) c.in_ok-items.items.trees _ c.in_ok-fit.ensures c.if-not-branch.false in
    omega (arith, some, c.in_ok-items.ensures.ids)

pub specifiers::specifiers_in_front-returns-clause-ids : goal.specifiers::specifiers_in_front-returns-clause-ids
specifiers::specifiers_in_front-returns-clause-ids t c =
    let some = fit-some (place_of c.args.place) c.in_ok-items.items.trees _ c.in_ok-fit.ensures c.if-not-branch.false in
    let one = done-most c.node.result in
    (omega arith, omega (arith, some, one, c.in_ok-items.ensures.ids, c.node.ensures.ids))

pub specifiers::specifiers_in_front-returns-clause-stands : goal.specifiers::specifiers_in_front-returns-clause-stands
specifiers::specifiers_in_front-returns-clause-stands t c =
    let some = fit-some (place_of c.args.place) c.in_ok-items.items.trees _ c.in_ok-fit.ensures c.if-not-branch.false in
    made c.node.result _ _ _ _ _ _ _ c.node.ensures.node (at_front _ _ _ c.place_of.ensures (omega (arith, some, c.in_ok-items.ensures.ids))) c.in_ok-items.ensures.stands

pub specifiers::specifiers_in_front-returns-clause-now : goal.specifiers::specifiers_in_front-returns-clause-now
specifiers::specifiers_in_front-returns-clause-now t c = made-declares c.node.result c.args.room (Specifier (Specs (list_view c.in_ok-items.items.trees))) (symbols_of c.in_ok-items.items.rest.now) c.args.names.now.now _ c.node.ensures.found c.in_ok-items.ensures.now

pub specifiers::read_items-loop-front-preserved : goal.specifiers::read_items-loop-front-preserved
specifiers::read_items-loop-front-preserved t c =
    let positive : 0 < c.loop-front.fuel = omega arith in
    let item = c.in_ok-item.item in
    let highest = height_pushed c.loop-front.all.items c.push.new.self.items item.tree.now c.in_ok-push.ensures.items in
    let counted = count_pushed c.loop-front.all.items c.push.new.self.items item.tree.now c.in_ok-push.ensures.items in
    record {
      found = once-next (read (c.args.room - 1) TaggedType) c.args.names.now.now c.loop-front.names.now c.loop-front.fuel c.loop-front.typed c.says_type-typed.result (symbols_of c.loop-front.rest.now) (symbol_of c.in-Some.front.now) (symbols_of c.in-Some.behind.now) (symbols_of item.rest.now) c.loop-front.all.items c.push.new.self.items item.tree.now _ positive c.loop-front.invariant.plain (sym c.in-Some.ensures.found) (sym c.begins_second.ensures ∙ c.if-begins_second.false) c.in_ok-item.ensures.found.0 c.says_type-typed.ensures c.in_ok-push.ensures.items c.loop-front.invariant.found;
      height = omega (arith, c.in_ok-item.ensures.found.1, highest);
      now = declared-next c.loop-front.all.items c.push.new.self.items item.tree.now c.args.names.now.now c.loop-front.names.now c.read_item.new.names.now c.in_ok-push.ensures.items c.loop-front.invariant.now c.in_ok-item.ensures.now;
      plain = plain-next (c.args.room - 1) c.loop-front.typed c.says_type-typed.result c.args.names.now.now c.loop-front.names.now c.read_item.new.names.now (symbol_of c.in-Some.front.now) (symbols_of c.in-Some.behind.now) (view item.tree.now) (symbols_of item.rest.now) c.loop-front.invariant.plain c.in_ok-item.ensures.found.0 c.says_type-typed.ensures c.in_ok-item.ensures.now;
      saved = c.in_ok-item.ensures.saved ∙ c.loop-front.invariant.saved;
      stands = row-next _ _ item.tree.now _ _ _ _ _ _ c.in_ok-push.ensures.items c.loop-front.invariant.stands c.in_ok-item.ensures.stands;
      rises = omega arith;
      spent = omega (arith, counted, c.in_ok-item.ensures.ids.1, c.loop-front.invariant.spent);
    }

pub specifiers::read_items-returns-clause-stands : goal.specifiers::read_items-returns-clause-stands
specifiers::read_items-returns-clause-stands t c = row-done c.list_of.result c.loop-front.all.items _ _ _ _ c.list_of.ensures.nodes c.loop-front.invariant.stands

pub specifiers::read_items-loop-front-init : goal.specifiers::read_items-loop-front-init
specifiers::read_items-loop-front-init t c =
    let none = count-start c.new-all.result.items c.new-all.ensures.items in
    record {
      found = ending-start (λ n. read_typed_once (read (c.args.room - 1) TaggedType c.args.names.now.now) c.args.names.now.now n false (symbols_of c.args.tokens.now)) c.new-all.result.items c.args.tokens.now c.new-all.ensures.items;
      height = height-start c.new-all.result.items c.new-all.ensures.items;
      now = declared-start c.new-all.result.items c.args.names.now.now c.new-all.ensures.items;
      plain = λ _. refl;
      saved = refl;
      stands = row-start c.new-all.result.items _ _ c.new-all.ensures.items;
      rises = omega arith;
      spent = omega (arith, none);
    }

pub specifiers::read_item-returns-clause-stands : goal.specifiers::read_item-returns-clause-stands
specifiers::read_item-returns-clause-stands t c = stands-same c.part.result _ _ _ _ c.requires.front (made c.part.result _ _ _ _ _ _ _ c.part.ensures.node OfPlace OfKept)

pub specifiers::read_item-returns-clause-now : goal.specifiers::read_item-returns-clause-now
specifiers::read_item-returns-clause-now t c = declares c.part.result _ _ _ _ _ _ _ c.part.ensures.node refl

pub specifiers::read_item-returns-clause-ids : goal.specifiers::read_item-returns-clause-ids
specifiers::read_item-returns-clause-ids t c =
    let long = ap length c.requires.front in
    let one = done-most c.part.result in
    (omega arith, omega (arith, long, one, c.part.ensures.ids))

pub tagged::tagged_in_front-returns-in-Some-clause-stands : goal.tagged::tagged_in_front-returns-in-Some-clause-stands
tagged::tagged_in_front-returns-in-Some-clause-stands t c = c.read_struct.ensures.stands _ c.place_of-first.ensures c.in-Some.ensures.passes

pub tagged::tagged_in_front-returns-in-Some-after_keyword-clause-stands : goal.tagged::tagged_in_front-returns-in-Some-after_keyword-clause-stands
tagged::tagged_in_front-returns-in-Some-after_keyword-clause-stands t c = c.read_struct-in-Some-after_keyword.ensures.stands _ c.place_of-first.ensures c.in-Some-after_keyword.ensures.passes

pub tagged::tagged_in_front-returns-clause-stands : goal.tagged::tagged_in_front-returns-clause-stands
tagged::tagged_in_front-returns-clause-stands t c = c.read_enum.ensures.stands _ c.place_of-first.ensures c.in-Some-after_keyword-2.ensures.passes

pub tagged::read_struct-returns-in_default-clause-stands : goal.tagged::read_struct-returns-in_default-clause-stands
tagged::read_struct-returns-in_default-clause-stands t c ts f p = c.read_struct_body.ensures.stands ts _ f p (bare-opens _ _ c.in-Some-after_sign.ensures.passes)

pub tagged::read_struct-returns-in_default-after_sign-2-clause-stands : goal.tagged::read_struct-returns-in_default-after_sign-2-clause-stands
tagged::read_struct-returns-in_default-after_sign-2-clause-stands t c ts f p = made c.struct_tag_of.result _ _ _ _ _ _ _ c.struct_tag_of.ensures.node (at_passed _ _ _ _ _ f p) (OfBoth (p _) (c.in-Some.ensures.kept _))

pub tagged::read_struct-returns-in_default-after_sign-2-clause-now : goal.tagged::read_struct-returns-in_default-after_sign-2-clause-now
tagged::read_struct-returns-in_default-after_sign-2-clause-now t c = made-declares c.struct_tag_of.result c.args.room (Specifier (StructTag c.args.which (symbol_of c.in-Some.tag.now))) (symbols_of c.in-Some.rest.now) c.args.names.now.now _ c.struct_tag_of.ensures.found refl

pub tagged::read_struct-returns-clause-stands : goal.tagged::read_struct-returns-clause-stands
tagged::read_struct-returns-clause-stands t c ts f p = c.read_struct_body-2.ensures.stands ts _ f p (tag-opens _ _ _ _ c.in-Some.ensures.kept c.in-Some-after_sign-2.ensures.passes)

pub tagged::read_struct_body-returns-clause-stands : goal.tagged::read_struct_body-returns-clause-stands
tagged::read_struct_body-returns-clause-stands t c ts us f p o = made c.struct_body_of.result _ _ _ _ _ _ _ c.struct_body_of.ensures.node (at_passed _ _ _ _ _ f p) (struct-behind (word_of c.args.which) (maybe_token c.args.tag) (nodes_of c.in_ok-members.members.trees) _ _ _ _ _ _ p o c.in_ok-members.ensures.stands)

pub tagged::read_struct_body-returns-clause-now : goal.tagged::read_struct_body-returns-clause-now
tagged::read_struct_body-returns-clause-now t c =
    let members = c.in_ok-members.members in
    made-declares c.struct_body_of.result c.args.room (Specifier (StructBody c.args.which (option_map symbol_of (maybe_token c.args.tag)) (list_view members.trees))) (symbols_of members.rest.now) c.args.names.now.now _ c.struct_body_of.ensures.found c.in_ok-members.ensures.now

pub tagged::read_members-loop-fuel-preserved : goal.tagged::read_members-loop-fuel-preserved
tagged::read_members-loop-fuel-preserved t c =
    let positive : 0 < c.loop-fuel.fuel = omega arith in
    let item = c.in_ok-member.member in
    let highest = height_pushed c.loop-fuel.all.items c.push.new.self.items item.tree.now c.in_ok-push.ensures.items in
    record {
      found = members-next (read (c.args.room - 1)) c.loop-fuel.names.now c.member_in_front.new.names.now c.loop-fuel.fuel (symbols_of c.loop-fuel.rest.now) (symbols_of item.rest.now) c.loop-fuel.all.items c.push.new.self.items item.tree.now _ positive (sym c.in_default.ensures.found) c.in_ok-member.ensures.found.0 c.in_ok-member.ensures.now c.in_ok-push.ensures.items c.loop-fuel.invariant.found;
      height = omega (arith, c.in_ok-member.ensures.found.1, highest);
      now = declared-next c.loop-fuel.all.items c.push.new.self.items item.tree.now c.args.names.now.now c.loop-fuel.names.now c.member_in_front.new.names.now c.in_ok-push.ensures.items c.loop-fuel.invariant.now c.in_ok-member.ensures.now;
      saved = c.in_ok-member.ensures.saved ∙ c.loop-fuel.invariant.saved;
      stands = row-next c.loop-fuel.all.items c.push.new.self.items item.tree.now _ _ _ _ _ _ c.in_ok-push.ensures.items c.loop-fuel.invariant.stands c.in_ok-member.ensures.stands;
      rises = omega (arith, c.in_ok-member.ensures.ids.0, c.loop-fuel.invariant.rises);
      spent = omega (arith, c.in_ok-member.ensures.ids.1, c.loop-fuel.invariant.spent);
    }

pub tagged::read_members-loop-fuel-init : goal.tagged::read_members-loop-fuel-init
tagged::read_members-loop-fuel-init t c = record {
  found = ending-start (λ n. read_members (read (c.args.room - 1)) c.args.names.now.now n (symbols_of c.args.tokens.now)) c.new-all.result.items c.args.tokens.now c.new-all.ensures.items;
  height = height-start c.new-all.result.items c.new-all.ensures.items;
  now = declared-start c.new-all.result.items c.args.names.now.now c.new-all.ensures.items;
  saved = refl;
  stands = row-start c.new-all.result.items _ _ c.new-all.ensures.items;
  rises = omega arith;
  spent = omega arith;
}

pub tagged::read_members-returns-in-Some-clause-stands : goal.tagged::read_members-returns-in-Some-clause-stands
tagged::read_members-returns-in-Some-clause-stands t c = OfBoth (row-done c.list_of.result c.loop-fuel.all.items _ _ _ _ c.list_of.ensures.nodes c.loop-fuel.invariant.stands) (c.in-Some.ensures.passes _)

pub tagged::read_members-returns-in-Some-clause-now : goal.tagged::read_members-returns-in-Some-clause-now
tagged::read_members-returns-in-Some-clause-now t c = declared-done c.list_of.result c.loop-fuel.all.items c.args.names.now.now c.loop-fuel.names.now c.list_of.ensures.views c.loop-fuel.invariant.now

pub members::member_in_front-returns-in-Some-clause-stands : goal.members::member_in_front-returns-in-Some-clause-stands
members::member_in_front-returns-in-Some-clause-stands t c = made c.node.result _ _ _ _ _ _ _ c.node.ensures.node (at_passed _ _ _ _ _ c.place_of.ensures c.in-Some.ensures.passes) (c.in-Some.ensures.passes _)

pub members::member_in_front-returns-in-Some-clause-now : goal.members::member_in_front-returns-in-Some-clause-now
members::member_in_front-returns-in-Some-clause-now t c = made-declares c.node.result c.args.room (Outer Empty) _ c.args.names.now.now _ c.node.ensures.found refl

pub members::member_in_front-returns-clause-stands : goal.members::member_in_front-returns-clause-stands
members::member_in_front-returns-clause-stands t c = c.read_declared_members.ensures.stands _ _ c.in_ok-specs.ensures.stands

pub members::member_in_front-returns-clause-now : goal.members::member_in_front-returns-clause-now
members::member_in_front-returns-clause-now t c = adds-declares c.read_declared_members.result (view c.in_ok-specs.specs.tree.now) c.args.names.now.now _ _ c.read_declared_members.ensures.adds c.in_ok-specs.ensures.now c.read_declared_members.ensures.names.0

pub members::member_in_front-returns-clause-found : goal.members::member_in_front-returns-clause-found
members::member_in_front-returns-clause-found t c =
    subst (Gives c.read_declared_members.result) (sym (member-read c.args.room c.args.names.now.now _ (symbols_of c.args.tokens.now) (symbols_of c.in_ok-specs.specs.rest.now) (view c.in_ok-specs.specs.tree.now) (omega arith) (sym c.in_default.ensures.found) c.in_ok-specs.ensures.found.0 c.in_ok-specs.ensures.now))
    c.read_declared_members.ensures.found
