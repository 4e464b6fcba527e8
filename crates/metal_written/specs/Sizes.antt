-- Rules, declarations and clauses know how many tokens they have.
use Rattle.std.specs.Prelude.{◌≡◌, ℕ, ◌+◌, List, [], ◌∷◌, length}
use Rattle.c_tree.specs.Phrase.{◌⨾◌}
use Rattle.metal_grammar.specs.Phrases.{word, maybe_phrase, type_phrase, rule_phrase, clause_tokens}
use Rattle.metal_grammar.specs.Rules.{size}
use Rattle.metal_written.specs.declared.written.WrittenRule.{WrittenRule}
use Rattle.metal_written.specs.declared.written.Content.{Content}
use Rattle.metal_written.specs.declared.written.Content.TheVariants as contents
use Rattle.metal_written.specs.declared.written.Clause.{Clause}
use Rattle.metal_written.specs.Written.{type_view, rule_view, clause_view}

abbrev pub HaveSizes : List WrittenRule → Type 0
HaveSizes [] = Unit {0}
HaveSizes (r ∷ rs) = (r.size ≡ size (rule_phrase (rule_view r))) × HaveSizes rs

abbrev pub HasSizes : Content → Type 0
HasSizes contents.Nothing = Unit {0}
HasSizes (contents.Declares d) = d.before ≡ size (maybe_phrase word d.state ⨾ word d.decl ⨾ type_phrase (type_view d.of))
HasSizes (contents.Rules s) = HaveSizes s.rules.now

abbrev pub ClauseHasSizes : Clause → Type 0
ClauseHasSizes c = (c.size ≡ length (clause_tokens (clause_view c))) × HasSizes c.content

abbrev pub ClausesHaveSizes : List Clause → Type 0
ClausesHaveSizes [] = Unit {0}
ClausesHaveSizes (c ∷ cs) = ClauseHasSizes c × ClausesHaveSizes cs

-- the number of their tokens
abbrev pub size_of_all : List Clause → ℕ
size_of_all [] = 0
size_of_all (c ∷ cs) = c.size + size_of_all cs

-- the number of tokens of rules, each with what stands behind it
abbrev pub size_of_rules : List WrittenRule → ℕ
size_of_rules [] = 0
size_of_rules (r ∷ rs) = r.size + 1 + size_of_rules rs
