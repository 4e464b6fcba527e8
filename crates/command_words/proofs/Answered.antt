-- What the program has read of words, or that it has read nothing, is what they stand for.
use Rattle.std.specs.Prelude.{IfSome}
use Rattle.std.specs.Option.{option_map}
use Rattle.std.proofs.Common.{◌≡◌, Option, None, Some, ap, is_some, true≢false}
use Rattle.mx_io.specs.Bytes.{Words}
use Rattle.command_words.specs.declared.asked.Asked.{Asked}
use Rattle.command_words.specs.Words.{Request, IsRequest}
use Rattle.command_words.specs.Ways.Reading.{reading, nothing_chosen}
use Rattle.command_words.specs.Views.{request_of}
use Rattle.command_words.proofs.Sound.{found, refused, one_request}

module _ (words : Words) where
  pub asked_found : (o : Option Asked) → option_map request_of o ≡ reading nothing_chosen words → IfSome o (λ asked. IsRequest words (request_of asked))
  asked_found None h = tt
  asked_found (Some asked) h = found words (request_of asked) h

  pub asked_only : (o : Option Asked) → option_map request_of o ≡ reading nothing_chosen words → IfSome o (λ asked. (r : Request) → IsRequest words r → r ≡ request_of asked)
  asked_only None h = tt
  asked_only (Some asked) h = λ r q. one_request words r (request_of asked) q (found words (request_of asked) h)

  pub asked_none : (o : Option Asked) → option_map request_of o ≡ reading nothing_chosen words → o ≡ None → (r : Request) → IsRequest words r → ⊥
  asked_none None h e = refused words h
  asked_none (Some asked) h e = absurd (true≢false (ap is_some e))
