-- A text that is handed to a sink by one write after the other.
use Rattle.std.proofs.Common.{◌≡◌, ◌≢◌, ℕ, ◌+◌, ◌-◌, ◌<◌, ◌≤◌, Bool, true, false, List, [], ◌∷◌, drop, length, take, Option, None, Some, Result, Ok, Err, IsErr, is_ok, refl, sym, ap, subst, arith, append-nil, drop-drop, length-drop, true≢false}
use Rattle.std.proofs.lemmas.List.{drop_all, take_all}
use Rattle.std.specs.Io.KnownBytes.{Appends}
use Rattle.mx_io.specs.declared.sink.SinkFailed.{SinkFailed}
use Rattle.mx_io.specs.Bytes.{Bytes}
use Rattle.command.specs.Written.{HandsRest, IsHanded, WriteGives}

-- something is left
left_at : (text : Bytes) (at : ℕ) → at < length text → drop at text ≢ []
left_at text at h e = omega (arith, h, ap length e, length-drop at text)

-- what is handed is all that is left
all_left : (text : Bytes) (at : ℕ) → take (length text - at) (drop at text) ≡ drop at text
all_left text at = take_all (length text - at) (drop at text) (omega (arith, length-drop at text))

-- what failed isn't taken whole
not_ok : {A E : Type 0} (r : Result A E) → IsErr r → is_ok r ≡ false
not_ok (Ok a) e = absurd (true≢false (sym e))
not_ok (Err f) e = refl

module _ {S : Type 0} (Gives : WriteGives S) (first : S) (text : Bytes) where
  -- where the rest is handed on from here, the text was handed from the first sink on
  abbrev pub LeadsOn : S → Bytes → Type 0
  LeadsOn here rest = (writes : List (ℕ × S)) (whole : Bool) (after : S) → HandsRest Gives here rest writes whole after → IsHanded Gives first text whole after

  pub starts : LeadsOn first (drop 0 text)
  starts writes whole after hands = record { writes = writes; hands = hands }

  module _ (here next : S) (at : ℕ) (h : at < length text) (leads : LeadsOn here (drop at text)) where
    -- one write more
    pub one_more : (count : ℕ) → Gives here (take (length text - at) (drop at text)) (Ok count) next → LeadsOn next (drop (at + count) text)
    one_more count gives writes whole after hands =
        leads ((count, next) ∷ writes) whole after
        (left_at text at h, subst (λ (piece : Bytes). Gives here piece (Ok count) next) (all_left text at) gives, subst (λ (rest : Bytes). HandsRest Gives next rest writes whole after) (sym (drop-drop count at text)) hands)

    -- a write that fails
    pub fails : {A E : Type 0} (result : Result A E) → IsErr result → (fault : SinkFailed) → Gives here (take (length text - at) (drop at text)) (Err fault) next → IsHanded Gives first text (is_ok result) next
    fails result failed fault gives =
        subst (λ whole. IsHanded Gives first text whole next) (sym (not_ok result failed))
        (leads [] false next (left_at text at h, (fault, subst (λ (piece : Bytes). Gives here piece (Err fault) next) (all_left text at) gives)))

  -- nothing is left
  pub ends : (here : S) (at : ℕ) → length text ≤ at → LeadsOn here (drop at text) → IsHanded Gives first text true here
  ends here at h leads = leads [] true here (drop_all at text h, refl)

-- at first the sink took nothing
pub appends_nothing : (told : Option Bytes) → Appends told told []
appends_nothing None = tt
appends_nothing (Some taken) = sym (append-nil taken)
