-- Equal to steps of the plain reader of `metal_grammar`, by parts of them.
-- Parts of steps of the plain reader, where a function of its own reads them.
use Rattle.std.specs.Prelude.{ℕ, Bool, true, false, List, [], ◌∷◌, Option, None, Some}
use Rattle.c_tree.specs.declared.punctuator.Punctuator.TheVariants as marks
use Rattle.c_tree.specs.Symbol.{Symbol}
use Rattle.c_tree.specs.declared.keyword.Keyword.TheVariants as words
use Rattle.c_tree.specs.declared.operator.StructOrUnion.TheVariants as which_word
use Rattle.c_grammar.specs.Symbols.{after_sign, after_keyword}
use Rattle.c_grammar.specs.Found.{◌>>=◌, if_there}
use Rattle.metal_grammar.specs.Written.{WrittenType, KindOfHole, WrittenCallout, Asked, WrittenItem}
use Rattle.metal_grammar.specs.Ways.Steps.{Step, take_word, has_sign, behind_sign, read_argument, read_text, read_asked, read_dollars, read_tag_type}

-- a callout behind its name
abbrev pub callout_behind : ℕ → Step WrittenCallout
callout_behind name ts =
    after_sign marks.OpenParen ts >>= λ inside. read_argument inside >>= λ argument. read_text argument.1 >>= λ text. after_sign marks.CloseParen text.1 >>= λ rest.
    Some (Asked name argument.0 text.0, rest)

-- an item that begins with `$`
abbrev pub special_item : Step WrittenItem
special_item ts = after_sign marks.Dollar ts >>= λ rest. if_there (after_sign marks.OpenBrace rest) (read_dollars rest) (λ inside. read_asked inside)

-- the word of an action, up to its parenthesis
abbrev pub action_opening : Step ℕ
action_opening ts = after_sign marks.OpenBrace ts >>= λ inside. take_word inside >>= λ w. after_sign marks.OpenParen w.1 >>= λ list. Some (w.0, list)

-- the end of an action, and whether a `;` stands there
abbrev pub action_closing : Step Bool
action_closing ts =
    after_sign marks.CloseParen ts >>= λ end. after_sign marks.CloseBrace (behind_sign marks.Semicolon end) >>= λ rest. Some (has_sign marks.Semicolon end, rest)

-- nothing is left
abbrev pub is_nothing : Option (List Symbol) → Bool
is_nothing None = false
is_nothing (Some []) = true
is_nothing (Some (t ∷ ts)) = false

-- a type that begins with no word of basic types
abbrev pub named_type : Step WrittenType
named_type ts =
    if_there (take_word ts)
    (if_there (after_keyword words.Struct ts)
    (after_keyword words.Union ts >>= λ rest. read_tag_type which_word.Union rest)
    (λ rest. read_tag_type which_word.Struct rest))
    (λ name. Some (KindOfHole name.0, name.1))
