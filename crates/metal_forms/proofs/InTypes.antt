-- The words of a basic type.
use Rattle.std.proofs.Common.{◌≡◌, ℕ, ◌+◌, ◌<◌, ◌≤◌, Bool, true, false, ◌&&◌, List, [], ◌∷◌, ◌++◌, length, get_or, drop, filter_map, ap, refl, ◌∙◌, sym, append_assoc}
use Rattle.std.proofs.lemmas.List.{append-nil}
use Rattle.c_tree.specs.declared.keyword.Keyword.{Keyword}
use Rattle.c_tree.specs.declared.keyword.Keyword.TheVariants as words
use Rattle.c_tree.specs.declared.token.Token.{Token}
use Rattle.c_tree.specs.Symbol.{Symbol, Word, Reserved, Sign, IntLiteral, FloatLiteral, CharLiteral, StringLiteral, symbol_of, symbols_of}
use Rattle.c_grammar.specs.Specifiers.{is_type_word, is_basic, is_among, as_often, occurrences}
use Rattle.metal_grammar.specs.Grammar.{are_type_words}
use Rattle.metal_grammar.specs.Ways.Steps.{is_type_symbol, keyword_in}
use Rattle.metal_tree.specs.MetalMachines.Kept.{all_of}
use Rattle.metal_written.proofs.Nodes.{symbols_drop, symbols_end}

-- the words of basic types are those that are one by themselves
pub alone-basic : (k : Keyword) → is_basic (k ∷ []) ≡ is_type_word k
unfolding is_among as_often occurrences
alone-basic words.Sizeof = refl
alone-basic words.BuiltinVaArg = refl
alone-basic words.BuiltinOffsetof = refl
alone-basic words.Typedef = refl
alone-basic words.Extern = refl
alone-basic words.Static = refl
alone-basic words.Auto = refl
alone-basic words.Register = refl
alone-basic words.Inline = refl
alone-basic words.Const = refl
alone-basic words.Volatile = refl
alone-basic words.Restrict = refl
alone-basic words.Void = refl
alone-basic words.Char = refl
alone-basic words.Short = refl
alone-basic words.Int = refl
alone-basic words.Long = refl
alone-basic words.Float = refl
alone-basic words.Double = refl
alone-basic words.Signed = refl
alone-basic words.Unsigned = refl
alone-basic words.Bool = refl
alone-basic words.Int128 = refl
alone-basic words.Float32 = refl
alone-basic words.Float32x = refl
alone-basic words.Float64 = refl
alone-basic words.Float64x = refl
alone-basic words.Float128 = refl
alone-basic words.GnuFloat128 = refl
alone-basic words.BuiltinVaList = refl
alone-basic words.Struct = refl
alone-basic words.Union = refl
alone-basic words.Enum = refl
alone-basic words.If = refl
alone-basic words.Else = refl
alone-basic words.Switch = refl
alone-basic words.Case = refl
alone-basic words.Default = refl
alone-basic words.While = refl
alone-basic words.Do = refl
alone-basic words.For = refl
alone-basic words.Goto = refl
alone-basic words.Continue = refl
alone-basic words.Break = refl
alone-basic words.Return = refl

both : (a b : Bool) → (a && b) ≡ true → (a ≡ true) × (b ≡ true)
both true b h = (refl, h)
both false b h = cc

-- words of basic types are that as they are written
type-words : (ts : List Symbol) → all_of is_type_symbol ts ≡ true → are_type_words (filter_map keyword_in ts) ≡ true
type-words [] h = refl
type-words (Reserved k ∷ ts) h = let p = both (is_type_word k) (all_of is_type_symbol ts) h in rw p.0 (type-words ts p.1)
type-words (Word name ∷ ts) h = cc
type-words (Sign p ∷ ts) h = cc
type-words (IntLiteral v name ∷ ts) h = cc
type-words (FloatLiteral e name ∷ ts) h = cc
type-words (CharLiteral w name ∷ ts) h = cc
type-words (StringLiteral w name ∷ ts) h = cc

pub words-basic : (ts : List Symbol) (ks : List Keyword) → all_of is_type_symbol ts ≡ true → ks ≡ filter_map keyword_in ts → is_basic ks ≡ (are_type_words (filter_map keyword_in ts) && is_basic (filter_map keyword_in ts))
words-basic ts ks h e = ap is_basic e ∙ sym (ap (λ b. b && is_basic (filter_map keyword_in ts)) (type-words ts h))

-- one more keyword
pub keyword-more : (all pushed : List Keyword) (k : Keyword) (rest : List Keyword) → pushed ≡ all ++ (k ∷ []) → pushed ++ rest ≡ all ++ (k ∷ rest)
keyword-more all pushed k rest n = ap (λ ks. ks ++ rest) n ∙ append_assoc all (k ∷ []) rest

pub keywords-next : (ws : List Token) (i : ℕ) (d : Token) (all new whole : List Keyword) → i < length ws
    → ((rest : List Symbol) → new ++ filter_map keyword_in rest ≡ all ++ filter_map keyword_in (symbol_of (get_or ws i d) ∷ rest))
    → all ++ filter_map keyword_in (symbols_of (drop i ws)) ≡ whole → new ++ filter_map keyword_in (symbols_of (drop (i + 1) ws)) ≡ whole
keywords-next ws i d all new whole h n w = n (symbols_of (drop (i + 1) ws)) ∙ sym (ap (λ ts. all ++ filter_map keyword_in ts) (symbols_drop ws i d h)) ∙ w

pub keywords-end : (ws : List Token) (i : ℕ) (all whole : List Keyword) → length ws ≤ i → all ++ filter_map keyword_in (symbols_of (drop i ws)) ≡ whole → all ≡ whole
keywords-end ws i all whole h w = sym (append-nil all) ∙ sym (ap (λ ts. all ++ filter_map keyword_in ts) (symbols_end ws i h)) ∙ w

pub ruleset keywords = (keyword-more, keywords-next, keywords-end, words-basic)
