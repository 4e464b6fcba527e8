-- The places of specifiers, as the grammar has them.
use Rattle.c_grammar.specs.Specifiers.{Place, InTypeName, InParam, InDeclaration}
use Rattle.c_expr.specs.declared.specifier_words.SpecifierPlace.{SpecifierPlace}
use Rattle.c_expr.specs.declared.specifier_words.SpecifierPlace.TheVariants as places

abbrev pub place_of : SpecifierPlace → Place
place_of places.InTypeName = InTypeName
place_of places.InParam = InParam
place_of places.InDeclaration = InDeclaration
