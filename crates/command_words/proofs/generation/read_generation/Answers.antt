use Rattle.std.proofs.Common.{◌≡◌, Global, [], ◌∷◌, IfSome, map, string_bytes, sym, ap, ◌∙◌}
use Rattle.command_words.specs.Generation.{IsGeneration}
use Rattle.command_words.proofs.Generations.{two_words, generation_of, only_generation, apart_from_requests}
use Rattle.command_words.proofs.generation.read_generation.Goals as goal
use Rattle.command_words.proofs.generation.read_generation.Goals.{After-count_of}

-- the words are those two that were looked at
whole : (c : After-count_of) → map (string_bytes {Z = Global}) c.args.words.now ≡ c.as_str.result.now ∷ c.as_str-2.result.now ∷ []
whole c =
    two_words string_bytes c.args.words.now c.option-item.result c.count-item.result c.in-len2.len_at_least c.in-len2.len_below c.option-item.is c.count-item.is
    ∙ ap (λ w. w ∷ string_bytes c.count-item.result ∷ []) (sym c.as_str.ensures.value) ∙ ap (λ w. c.as_str.result.now ∷ w ∷ []) (sym c.as_str-2.ensures.value)

generation : (c : After-count_of) → IfSome c.count_of.result (λ n. IsGeneration (map (string_bytes {Z = Global}) c.args.words.now) n)
generation c = generation_of _ c.as_str.result.now c.as_str-2.result.now (whole c) c.count_of.result (sym c.ne.ensures ∙ c.if-ne.false) c.count_of.ensures.spelled

pub returns-clause-generation : goal.returns-clause-generation
returns-clause-generation c = generation c

pub returns-clause-only : goal.returns-clause-only
returns-clause-only c = only_generation _ c.count_of.result (generation c)

pub returns-clause-apart : goal.returns-clause-apart
returns-clause-apart c = apart_from_requests _ c.count_of.result (generation c)
