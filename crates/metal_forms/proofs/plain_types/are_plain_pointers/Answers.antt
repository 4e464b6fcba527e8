use Rattle.std.proofs.Common.{◌∙◌, sym, arith}
use Rattle.c_tree.specs.Symbol.{symbols_of}
use Rattle.metal_forms.proofs.InTypeNames.{no-suffixes, some-suffixes}
use Rattle.metal_forms.proofs.plain_types.are_plain_pointers.Goals as goal

pub returns-in-empty : goal.returns-in-empty
returns-in-empty c = c.are_stars.ensures ∙ sym (no-suffixes (symbols_of c.args.pointers.now) c.args.suffixes.now (omega (arith, c.in-empty.len_below)))

pub returns-in-len1-up : goal.returns-in-len1-up
returns-in-len1-up c = sym (some-suffixes (symbols_of c.args.pointers.now) c.args.suffixes.now (omega (arith, c.in-len1-up.len_at_least)))
