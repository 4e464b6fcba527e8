-- The command that words give, from what was read of them.
use Rattle.std.proofs.Common.{◌≡◌, ℕ, ◌≤◌, List, length, map, string_bytes, Option, None, Some, Bor, ap, refl, sym, ◌∙◌, subst, arith}
use Rattle.std.proofs.lemmas.List.{length-map}
use Rattle.std.specs.List.{position}
use Rattle.std.specs.Option.{option_copied}
use Rattle.std.specs.Str.{bytes_eq}
use Rattle.command_words.specs.Views.{request_of}
use Rattle.command_words.specs.Words.{Request, IsRequest}
use Rattle.command_words.specs.declared.asked.Asked.{Asked}
use Rattle.command.specs.Commands.{Command, IsCommand, IsPlace, GiveNoCommand}
use Rattle.command.proofs.GivenCommands.{deep_at_most, few_files, one_command}

abbrev given : Asked → Option ℕ → Command
given a place = record { depth = a.depth; stats = a.stats; place = place; files = map string_bytes a.files.now }

pub nothing_given : (words called : List (List ℕ)) → ((r : Request) → IsRequest words r → ⊥) → GiveNoCommand words called
nothing_given words called none c g = none g.request g.is_request

module _ (words called : List (List ℕ)) (a : Asked) (is : IsRequest words (request_of a)) (only : (r : Request) → IsRequest words r → r ≡ request_of a) where
  pub without_reporter : (name : Bor (List ℕ)) → a.format ≡ Some name → position (bytes_eq name.now) called ≡ None → GiveNoCommand words called
  without_reporter name f e c g =
      let format : g.request.format ≡ Some name.now = ap (λ (r : Request). r.format) (only g.request g.is_request) ∙ ap option_copied f in
      let place = subst (λ o. IsPlace called o c.place) format g.place in
      let there = place.2 in
      cc

  pub asked_deep : a.depth ≤ 8
  asked_deep = deep_at_most words (request_of a) is

  pub asked_few : length a.files.now ≤ 80
  asked_few = let h = few_files words (request_of a) is in omega (arith, h, length-map a.files.now string_bytes)

  given_without : a.format ≡ None → IsCommand words called (given a None)
  given_without f = record { request = request_of a; is_request = is; stats = refl; place = subst (λ o. IsPlace called o None) (sym (ap option_copied f)) refl; depth = refl; files = refl }

  pub only_without : a.format ≡ None → (c : Command) → IsCommand words called c → c ≡ given a None
  only_without f c g = one_command words called c (given a None) g (given_without f)

  given_with : (name : Bor (List ℕ)) (k : ℕ) → a.format ≡ Some name → position (bytes_eq name.now) called ≡ Some k → IsCommand words called (given a (Some k))
  given_with name k f e = record { request = request_of a; is_request = is; stats = refl; place = subst (λ o. IsPlace called o (Some k)) (sym (ap option_copied f)) (k, refl, e); depth = refl; files = refl }

  pub only_with : (name : Bor (List ℕ)) (k : ℕ) → a.format ≡ Some name → position (bytes_eq name.now) called ≡ Some k → (c : Command) → IsCommand words called c → c ≡ given a (Some k)
  only_with name k f e c g = one_command words called c (given a (Some k)) g (given_with name k f e)
