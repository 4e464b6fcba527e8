use Rattle.std.proofs.Common.{◌∙◌, ap}
use Rattle.c_grammar.specs.Names.{is_type}
use Rattle.c_grammar.proofs.NameChanges.{table_tells}
use Rattle.c_grammar.proofs.type_names.TypeNames.is_type.Goals as goal

pub returns : goal.returns
returns c =
    c.unwrap_or.ensures ∙ table_tells _ _ c.args.name c.copied.result c.self.invariant (c.copied.ensures ∙ c.get.ensures.value)
    ∙ ap (λ s. is_type s.now c.args.name) c.self.view_is
