-- The faults of files by what is found wrong: with the bytes, with the types of a C file, with the text of a checker.
use Rattle.c_tree.specs.declared.place.Place.{Place}
use Rattle.c_lexer.specs.declared.c_reading.fault.Fault as reading
use Rattle.c_lexer.specs.declared.c_reading.fault.Fault.TheVariants as lexical
use Rattle.type_rules.specs.Faults as typing
use Rattle.metal_grammar.specs.FirstFault as text
use Rattle.request_files.specs.declared.fault.Fault.{Fault}
use Rattle.request_files.specs.declared.fault.Fault.TheVariants.{BadByte, OpenText, BadNumber, BadMarker, Syntax, Undeclared, NoField, Redeclared, NotPointer, NotStruct, NotFunction, NotLvalue, TooMany, Twice, UnknownCallout, TwoVariables, BadSplit, BadSource, VariableMissing, BadFormat}

-- what is wrong with bytes that have no reading
abbrev pub of_reading : reading.Fault → Fault
of_reading lexical.BadByte = BadByte
of_reading lexical.OpenText = OpenText
of_reading lexical.BadNumber = BadNumber
of_reading lexical.BadMarker = BadMarker

-- what is wrong with a unit that has no types
abbrev pub of_typing : typing.Fault → Fault
of_typing (typing.Undeclared place name) = Undeclared
of_typing (typing.NoField place name) = NoField
of_typing (typing.Redeclared place name) = Redeclared
of_typing (typing.NotPointer place) = NotPointer
of_typing (typing.NotStruct place) = NotStruct
of_typing (typing.NotFunction place) = NotFunction
of_typing (typing.NotLvalue place) = NotLvalue

abbrev pub place_of : typing.Fault → Place
place_of (typing.Undeclared place name) = place
place_of (typing.NoField place name) = place
place_of (typing.Redeclared place name) = place
place_of (typing.NotPointer place) = place
place_of (typing.NotStruct place) = place
place_of (typing.NotFunction place) = place
place_of (typing.NotLvalue place) = place

-- what is wrong with tokens that are no machine
abbrev pub of_text : text.Fault → Fault
of_text (text.SyntaxAt at) = Syntax
of_text (text.TooMany what at) = TooMany
of_text (text.Twice name at) = Twice
of_text (text.UnknownCallout name at) = UnknownCallout
of_text (text.TwoVariables rule) = TwoVariables
of_text (text.BadSplit rule) = BadSplit
of_text (text.BadSource rule) = BadSource
of_text (text.VariableMissing rule) = VariableMissing
of_text (text.BadFormat rule) = BadFormat
