use Rattle.c_parser.proofs.blocks.body_in_front.Goals as goal

pub returns-clause-stands : goal.returns-clause-stands
returns-clause-stands c = c.read_block_rest.ensures.stands c.args.tokens.now c.place_of.ensures c.in-Some.ensures.passes
