-- The refusals that the faults of the lexer, the parser, the typing and the reader of machines come to.
use Rattle.std.specs.Prelude.{ℕ, [], drop, Option, Some, None}
use Rattle.c_tree.specs.Symbol.{symbols_of}
use Rattle.c_lexer.specs.declared.c_reading.fault.Fault as reading
use Rattle.c_lexer.specs.declared.c_reading.fault.Fault.TheVariants as lexical
use Rattle.c_lexer.specs.Tokens.{TokenList}
use Rattle.c_lexer.specs.declared.fault.Spot.{Spot}
use Rattle.c_lexer.specs.declared.fault.LexFault.{LexFault}
use Rattle.c_lexer.specs.declared.fault.LexFault.TheVariants as lexer
use Rattle.c_parser.specs.declared.fault.ParseFault.{ParseFault}
use Rattle.c_parser.specs.declared.fault.ParseFault.TheVariants as parser
use Rattle.type_rules.specs.Faults as typing
use Rattle.metal_reader.specs.MetalPositions.Positions.{beginnings, position_with}
use Rattle.metal_reader.specs.declared.metal_faults.fault.MetalFault.{MetalFault}
use Rattle.metal_reader.specs.declared.metal_faults.fault.MetalFault.TheVariants as faults
use Rattle.request_files.specs.declared.fault.Fault.{Fault}
use Rattle.request_files.specs.declared.fault.Fault.TheVariants.{Syntax, TooMany, Twice, UnknownCallout, TwoVariables, BadSplit, BadSource, VariableMissing, BadFormat}
use Rattle.request_files.specs.declared.front_end.refusal.Faulty.{Faulty as Found}
use Rattle.request_files.specs.declared.front_end.refusal.Refusal.{Refusal}
use Rattle.request_files.specs.declared.front_end.refusal.Refusal.TheVariants.{Faulty, NoMemory}
use Rattle.request_files.specs.FrontEnd.Faults.{of_reading, of_typing, place_of}
use Rattle.request_files.specs.FrontEnd.Found.{stands_at, stands_first}

abbrev pub kind_and_spot : LexFault → Option (reading.Fault × Spot)
kind_and_spot (lexer.BadByte spot) = Some (lexical.BadByte, spot)
kind_and_spot (lexer.OpenText spot) = Some (lexical.OpenText, spot)
kind_and_spot (lexer.BadNumber spot) = Some (lexical.BadNumber, spot)
kind_and_spot (lexer.BadMarker spot) = Some (lexical.BadMarker, spot)
kind_and_spot lexer.NoMemory = None

abbrev pub unread_as : Option (reading.Fault × Spot) → Refusal
unread_as None = NoMemory
unread_as (Some k) = Faulty (record { fault = of_reading k.0; source = k.1.source; line = k.1.line })

abbrev pub unparsed_as : TokenList → ParseFault → Refusal
unparsed_as list (parser.Syntax place) = Faulty (stands_at list Syntax place.token)
unparsed_as list parser.NoMemory = NoMemory

abbrev pub untyped_as : TokenList → Option typing.Fault → Refusal
untyped_as list None = NoMemory
untyped_as list (Some fault) = Faulty (stands_at list (of_typing fault) (place_of fault).token)

-- this fault, at the token behind so many others; at the end where there is none
abbrev pub stands_behind : TokenList → Fault → ℕ → Found
stands_behind list fault before = stands_first fault (drop before list.all) list.end

abbrev pub behind_or_end : TokenList → Fault → Option ℕ → Found
behind_or_end list fault None = stands_first fault [] list.end
behind_or_end list fault (Some before) = stands_behind list fault before

-- this fault, at the first token of a rule; at the end where there is no such rule
abbrev pub stands_at_rule : TokenList → Fault → ℕ → Found
stands_at_rule list fault rule = behind_or_end list fault (position_with 0 rule (beginnings 0 0 (symbols_of list.all)))

abbrev pub unmade_as : TokenList → MetalFault → Refusal
unmade_as list (faults.Syntax place) = Faulty (stands_behind list Syntax place.token)
unmade_as list (faults.TooMany which place) = Faulty (stands_behind list TooMany place.token)
unmade_as list (faults.Twice name place) = Faulty (stands_behind list Twice place.token)
unmade_as list (faults.UnknownCallout name place) = Faulty (stands_behind list UnknownCallout place.token)
unmade_as list (faults.TwoVariables rule) = Faulty (stands_at_rule list TwoVariables rule)
unmade_as list (faults.BadSplit rule) = Faulty (stands_at_rule list BadSplit rule)
unmade_as list (faults.BadSource rule) = Faulty (stands_at_rule list BadSource rule)
unmade_as list (faults.VariableMissing rule) = Faulty (stands_at_rule list VariableMissing rule)
unmade_as list (faults.BadFormat rule) = Faulty (stands_at_rule list BadFormat rule)
unmade_as list faults.NoMemory = NoMemory

-- the number of the rule that a fault is of
abbrev pub refused_rule : MetalFault → Option ℕ
refused_rule (faults.Syntax place) = None
refused_rule (faults.TooMany which place) = None
refused_rule (faults.Twice name place) = None
refused_rule (faults.UnknownCallout name place) = None
refused_rule (faults.TwoVariables rule) = Some rule
refused_rule (faults.BadSplit rule) = Some rule
refused_rule (faults.BadSource rule) = Some rule
refused_rule (faults.VariableMissing rule) = Some rule
refused_rule (faults.BadFormat rule) = Some rule
refused_rule faults.NoMemory = None
