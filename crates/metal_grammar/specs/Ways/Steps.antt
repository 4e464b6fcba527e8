-- A way to prove which clauses are of the grammar: steps of the plain reader, which finds those of `Grammar`.
-- The steps of the reader: each reads one line of the grammar in front of a list of symbols, and gives what follows it.
use Rattle.std.specs.Prelude.{ℕ, zero, suc, Bool, true, false, cond, ◌||◌, ◌&&◌, List, [], ◌∷◌, length, filter_map, codes, Option, None, Some}
use Rattle.c_tree.specs.declared.keyword.Keyword.{Keyword}
use Rattle.c_tree.specs.declared.keyword.Keyword.TheVariants as words
use Rattle.c_tree.specs.declared.operator.StructOrUnion.{StructOrUnion}
use Rattle.c_tree.specs.declared.operator.StructOrUnion.TheVariants as which_word
use Rattle.c_tree.specs.declared.punctuator.Punctuator.{Punctuator}
use Rattle.c_tree.specs.declared.punctuator.Punctuator.TheVariants as marks
use Rattle.c_tree.specs.Symbol.{Symbol, Word, Reserved, IntLiteral, StringLiteral}
use Rattle.c_grammar.specs.Symbols.{is_sign, after_sign, after_keyword, begins, take_symbol, run_of, after_run}
use Rattle.c_grammar.specs.Levels.{comma_level}
use Rattle.c_grammar.specs.Specifiers.{is_type_word}
use Rattle.c_grammar.specs.Nonterminal.{Expression}
use Rattle.c_grammar.specs.Found.{◌>>=◌, if_there}
use Rattle.c_grammar.specs.Reading.{read}
use Rattle.metal_grammar.specs.Words.{Spelling, is_spelled, Literal}
use Rattle.metal_grammar.specs.Written.{Row, lone, row, WrittenType, KindOfHole, BasicType, TagType, Declaration, StateName, OfMachine, OfVariable, Argument, Name, Text, WrittenCallout, Digit, Asked, WrittenItem, Pattern, Callout, Dollars, Destination, To, Split, WrittenAction, Alternative, WrittenRule, Section, Content, Nothing, Declares, Rules}

-- reads in front of the symbols
abbrev pub Step : Type 0 → Type 0
Step A = List Symbol → Option (A × List Symbol)

abbrev pub take_word : Step ℕ
take_word [] = None
take_word (Word name ∷ ts) = Some (name, ts)
take_word (_ ∷ ts) = None

abbrev pub take_literal : Step Literal
take_literal [] = None
take_literal (StringLiteral wide name ∷ ts) = Some (record { wide = wide; name = name }, ts)
take_literal (_ ∷ ts) = None

-- whether the punctuator stands in front, and what follows it there
abbrev pub has_sign : Punctuator → List Symbol → Bool
has_sign p ts = begins (is_sign p) ts

abbrev pub behind_sign : Punctuator → List Symbol → List Symbol
behind_sign p ts = if_there (after_sign p ts) ts (λ rest. rest)

-- one or more with a punctuator between, at most f of them
unfoldable pub read_row : {A : Type 0} → Step A → Punctuator → ℕ → Step (Row A)
read_row read_one between zero ts = None
read_row read_one between (suc f) ts =
    read_one ts >>= λ x. if_there (after_sign between x.1) (Some (lone x.0, x.1)) (λ rest. read_row read_one between f rest >>= λ xs. Some (row x.0 xs.0, xs.1))

abbrev pub is_type_symbol : Symbol → Bool
is_type_symbol (Reserved k) = is_type_word k
is_type_symbol _ = false

abbrev pub keyword_in : Symbol → Option Keyword
keyword_in (Reserved k) = Some k
keyword_in _ = None

abbrev pub type_with_stars : (ℕ → WrittenType) → List Symbol → Option (WrittenType × List Symbol)
type_with_stars type ts = Some (type (length (run_of (is_sign marks.Star) ts)), after_run (is_sign marks.Star) ts)

abbrev pub read_tag_type : StructOrUnion → List Symbol → Option (WrittenType × List Symbol)
read_tag_type which ts = take_word ts >>= λ tag. type_with_stars (TagType which tag.0) tag.1

abbrev pub read_type : Step WrittenType
read_type ts =
    if_there (take_symbol is_type_symbol ts)
    (if_there (take_word ts)
    (if_there (after_keyword words.Struct ts)
    (after_keyword words.Union ts >>= λ rest. read_tag_type which_word.Union rest)
    (λ rest. read_tag_type which_word.Struct rest))
    (λ name. Some (KindOfHole name.0, name.1)))
    (λ _. type_with_stars (BasicType (filter_map keyword_in (run_of is_type_symbol ts))) (after_run is_type_symbol ts))

-- a declaration behind the word `decl`
abbrev pub read_declared : Option ℕ → ℕ → List Symbol → Option (Declaration × List Symbol)
read_declared state decl ts =
    read_type ts >>= λ t. read_row take_word marks.Comma (suc (length t.1)) t.1 >>= λ names. after_sign marks.Semicolon names.1 >>= λ rest.
    Some (record { state = state; decl = decl; type = t.0; names = names.0 }, rest)

abbrev pub read_declaration : Spelling → Step Declaration
read_declaration spelling ts =
    take_word ts >>= λ w. cond (is_spelled spelling (codes "state") w.0)
    (take_word w.1 >>= λ decl. read_declared (Some w.0) decl.0 decl.1)
    (read_declared None w.0 w.1)

abbrev pub read_state : Step StateName
read_state ts =
    take_word ts >>= λ w. if_there (after_sign marks.Dot w.1) (Some (OfMachine w.0, w.1)) (λ rest. take_word rest >>= λ state. Some (OfVariable w.0 state.0, state.1))

abbrev pub read_argument : Step Argument
read_argument ts = if_there (take_word ts) (take_literal ts >>= λ literal. Some (Text literal.0, literal.1)) (λ name. Some (Name name.0, name.1))

-- a comma and a text, if they are there
abbrev pub read_text : Step (Option Literal)
read_text ts = if_there (after_sign marks.Comma ts) (Some (None, ts)) (λ rest. take_literal rest >>= λ literal. Some (Some literal.0, literal.1))

abbrev pub is_integer : Symbol → Bool
is_integer (IntLiteral value name) = true
is_integer _ = false

abbrev pub read_callout : Step WrittenCallout
read_callout ts =
    if_there (take_word ts)
    (take_symbol is_integer ts >>= λ digit. Some (Digit digit.0, digit.1))
    (λ name. after_sign marks.OpenParen name.1 >>= λ inside. read_argument inside >>= λ argument. read_text argument.1 >>= λ text. after_sign marks.CloseParen text.1 >>= λ rest.
    Some (Asked name.0 argument.0 text.0, rest))

-- a pattern behind "{"
abbrev pub read_pattern : Step WrittenItem
read_pattern ts =
    read 1000 (Expression comma_level) [] ts >>= λ e. after_sign marks.CloseBrace (behind_sign marks.Semicolon e.1) >>= λ rest.
    Some (Pattern e.0 (has_sign marks.Semicolon e.1), rest)

-- a callout behind "${"
abbrev pub read_asked : Step WrittenItem
read_asked ts =
    read_callout (behind_sign marks.Exclamation ts) >>= λ callout. after_sign marks.CloseBrace callout.1 >>= λ rest.
    Some (Callout (has_sign marks.Exclamation ts) callout.0, rest)

-- a word behind "$", and another "$"
abbrev pub read_dollars : Step WrittenItem
read_dollars ts = take_word ts >>= λ name. after_sign marks.Dollar name.1 >>= λ rest. Some (Dollars name.0, rest)

abbrev pub read_item : Step WrittenItem
read_item ts =
    if_there (after_sign marks.OpenBrace ts)
    (after_sign marks.Dollar ts >>= λ rest. if_there (after_sign marks.OpenBrace rest) (read_dollars rest) (λ inside. read_asked inside))
    (λ inside. read_pattern inside)

abbrev pub read_alternative : Step Alternative
read_alternative ts = read_row read_item marks.AndAnd (suc (length ts)) ts

-- the rest of a split behind the first word and "="
abbrev pub read_split : ℕ → List Symbol → Option (Destination × List Symbol)
read_split true_word ts =
    read_state ts >>= λ on_true. after_sign marks.Comma on_true.1 >>= λ second. take_word second >>= λ false_word. after_sign marks.Assign false_word.1 >>= λ rest. read_state rest >>= λ on_false.
    Some (Split true_word on_true.0 false_word.0 on_false.0, on_false.1)

abbrev pub read_destination : Step Destination
read_destination ts =
    take_word ts >>= λ w. if_there (after_sign marks.Assign w.1)
    (read_state ts >>= λ target. Some (To target.0, target.1))
    (λ rest. read_split w.0 rest)

abbrev pub more_literals : Literal → List Symbol → Option (Row Literal × List Symbol) → Row Literal × List Symbol
more_literals literal ts None = (lone literal, ts)
more_literals literal ts (Some others) = (row literal others.0, others.1)

-- all literals in front
abbrev pub read_literals : Step (Row Literal)
read_literals [] = None
read_literals (StringLiteral wide name ∷ ts) = Some (more_literals (record { wide = wide; name = name }) ts (read_literals ts))
read_literals (_ ∷ ts) = None

-- one argument behind its comma: the word, and a name in parentheses
abbrev pub read_identifier : Step (ℕ × ℕ)
read_identifier ts =
    take_word ts >>= λ w. after_sign marks.OpenParen w.1 >>= λ inside. take_word inside >>= λ name. after_sign marks.CloseParen name.1 >>= λ rest. Some ((w.0, name.0), rest)

-- fewer than f arguments, each behind a comma
unfoldable pub read_identifiers : ℕ → Step (List (ℕ × ℕ))
read_identifiers zero ts = None
read_identifiers (suc f) ts =
    if_there (after_sign marks.Comma ts) (Some ([], ts)) (λ rest. read_identifier rest >>= λ a. read_identifiers f a.1 >>= λ others. Some (a.0 ∷ others.0, others.1))

-- an action behind its comma
abbrev pub read_action : Step WrittenAction
read_action ts =
    after_sign marks.OpenBrace ts >>= λ inside. take_word inside >>= λ w. after_sign marks.OpenParen w.1 >>= λ list. read_literals list >>= λ literals.
    read_identifiers (suc (length literals.1)) literals.1 >>= λ arguments. after_sign marks.CloseParen arguments.1 >>= λ end. after_sign marks.CloseBrace (behind_sign marks.Semicolon end) >>= λ rest.
    Some (record { word = w.0; literals = literals.0; arguments = arguments.0; semicolon = has_sign marks.Semicolon end }, rest)

abbrev pub read_maybe_action : Step (Option WrittenAction)
read_maybe_action ts = if_there (after_sign marks.Comma ts) (Some (None, ts)) (λ rest. read_action rest >>= λ a. Some (Some a.0, a.1))

abbrev pub read_rule : Step WrittenRule
read_rule ts =
    read_row read_alternative marks.OrOr (suc (length ts)) ts >>= λ alternatives. after_sign marks.LongArrow alternatives.1 >>= λ to. read_destination to >>= λ destination. read_maybe_action destination.1 >>= λ action.
    Some (record { alternatives = alternatives.0; destination = destination.0; action = action.0 }, action.1)

abbrev pub read_section : Step Section
read_section ts =
    read_state ts >>= λ source. after_sign marks.Colon source.1 >>= λ rest. read_row read_rule marks.Bar (suc (length rest)) rest >>= λ rules. after_sign marks.Semicolon rules.1 >>= λ end.
    Some (record { source = source.0; rules = rules.0 }, end)

abbrev pub is_colon_or_dot : Symbol → Bool
is_colon_or_dot t = is_sign marks.Colon t || is_sign marks.Dot t

-- A name and `:` or `.` begin a section.
abbrev pub begins_section : List Symbol → Bool
begins_section [] = false
begins_section (t ∷ ts) = begins is_colon_or_dot ts

abbrev pub read_declares : Spelling → Step Content
read_declares spelling ts = read_declaration spelling ts >>= λ d. Some (Declares d.0, d.1)

abbrev pub read_rules : Step Content
read_rules ts = read_section ts >>= λ s. Some (Rules s.0, s.1)

-- the content of a clause, of which `alone` says that it is the only one
abbrev pub read_content : Spelling → Bool → Step Content
read_content spelling alone ts =
    cond (alone && has_sign marks.CloseBrace ts) (Some (Nothing, ts)) (cond (begins_section ts) (read_rules ts) (read_declares spelling ts))
