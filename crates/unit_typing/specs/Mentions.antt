-- How a tag is mentioned, as the program says it.
use Rattle.type_rules.specs.Tags.{Mention}
use Rattle.type_rules.specs.Tags as tags
use Rattle.unit_typing.specs.declared.mentions.Mention as code
use Rattle.unit_typing.specs.declared.mentions.Mention.TheVariants as how

abbrev pub mention_of : code.Mention → Mention
mention_of how.Plainly = tags.Plainly
mention_of how.Alone = tags.Alone
mention_of how.WithBody = tags.WithBody
