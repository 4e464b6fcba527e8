-- The text of an action's message, through its literals.
use Rattle.std.proofs.Common.{◌≡◌, ℕ, ◌<◌, List, length, flat_map, Option, ap, ◌∙◌, sym, Result, Ok, Err, IfOk, arith}
use Rattle.std.proofs.lemmas.List.{length-map}
use Rattle.std.specs.Borrow.{Bor}
use Rattle.metal_grammar.specs.Words.{Spelling, contents_of}
use Rattle.metal_grammar.specs.Message.{unescaped, maybe_pieces, message_with}
use Rattle.metal_written.specs.declared.written.WrittenAction.{WrittenAction}
use Rattle.metal_written.specs.Messages.{bytes_in}
use Rattle.metal_written.specs.Written.{no_literal, literal_view, literal_views, action_view}
use Rattle.metal_written.proofs.Rows.{members-row}

-- The message of an action is made of the bytes that its joined literals stand for.
pub message-of : (names : Spelling) (a : WrittenAction) (arguments text : List ℕ) (bytes : Option (Bor (List ℕ))) → 0 < length a.literals.now
    → text ≡ flat_map (contents_of names) (literal_views a.literals.now) → bytes_in bytes ≡ unescaped text
    → maybe_pieces (bytes_in bytes) arguments ≡ message_with names (action_view a) arguments
message-of names a arguments text bytes some t b =
    let count : length (literal_views a.literals.now) ≡ length a.literals.now = length-map a.literals.now literal_view in
    let members = members-row no_literal (literal_views a.literals.now) (omega (arith, count, some)) in
    ap (λ o. maybe_pieces o arguments) (b ∙ ap unescaped (t ∙ ap (flat_map (contents_of names)) (sym members)))

-- what is given is also another that is the same
pub given-moved : {A B E : Type 0} (view : A → B) (r : Result A E) (m n : B) → m ≡ n → IfOk r (λ x. view x ≡ m) → IfOk r (λ x. view x ≡ n)
given-moved view (Ok x) m n e h = h ∙ e
given-moved view (Err f) m n e h = tt
