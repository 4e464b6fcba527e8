-- The forms of declarators, as the grammar has them.
use Rattle.c_grammar.specs.Nonterminal.{Form, WithName, Abstract, Either}
use Rattle.c_expr.specs.declared.declarators.Form as declared_form
use Rattle.c_expr.specs.declared.declarators.Form.TheVariants as forms

abbrev pub form_of : declared_form.Form → Form
form_of forms.Named = WithName
form_of forms.Abstract = Abstract
form_of forms.Either = Either
