-- The states of a variable, by its number: the variables are the first holes.
use Rattle.std.proofs.Common.{◌≡◌, ℕ, zero, suc, ◌<◌, Bool, true, false, cond, nat_eq, ◌||◌, List, [], ◌∷◌, length, get_or, take, map, Some, unwrap_or, ap, refl, ◌∙◌, sym, arith}
use Rattle.std.proofs.lemmas.List.{length-take-le}
use Rattle.metal_grammar.specs.Words.{Spelling}
use Rattle.metal_grammar.specs.Rules.{is_among}
use Rattle.metal_grammar.specs.Meaning.{number_among, number_in, one_more, states_among}
use Rattle.metal_grammar.proofs.Numbered.{equal}
use Rattle.metal_tree.specs.declared.states.States.{States}
use Rattle.metal_tree.specs.Parts.{state_names}
use Rattle.metal_written.specs.Written.{state_view}
use Rattle.metal_numbers.specs.declared.numbers.Numbering.{Numbering}
use Rattle.metal_numbers.specs.Numbers.{IsNumbering, variables_in}

-- the number of a name that is one of the first k, which stands there
abbrev IsAtFront : ℕ → List ℕ → ℕ → Type 0
IsAtFront k names name = (n : ℕ) × (number_among names name ≡ Some n) × (n < length (take k names)) × ((d : ℕ) → get_or (take k names) n d ≡ name)

front-step : (k x name : ℕ) (xs : List ℕ) (b : Bool) → nat_eq x name ≡ b → (is_among (take k xs) name ≡ true → IsAtFront k xs name) → (b || is_among (take k xs) name) ≡ true → IsAtFront (suc k) (x ∷ xs) name
front-step k x name xs true e i h = (0, ap (λ b. cond b (Some 0) (one_more (number_among xs name))) e, omega arith, λ d. equal x name e)
front-step k x name xs false e i h =
    let (n, p, q, r) = i h in
    (suc n, ap (λ b. cond b (Some 0) (one_more (number_among xs name))) e ∙ ap one_more p ∙ ap Some (omega arith), omega (arith, q), r)

at-front : (k : ℕ) (names : List ℕ) (name : ℕ) → is_among (take k names) name ≡ true → IsAtFront k names name
at-front zero names name h = cc
at-front (suc k) [] name h = cc
at-front (suc k) (x ∷ xs) name h = front-step k x name xs (nat_eq x name) refl (at-front k xs name) h

mapped-at : {A B : Type 0} (f : A → B) (xs : List A) (i : ℕ) (d : A) (z : B) → i < length xs → get_or (map f xs) i z ≡ f (get_or xs i d)
mapped-at f [] i d z h = absurd (omega (arith, h))
mapped-at f (x ∷ xs) zero d z h = refl
mapped-at f (x ∷ xs) (suc i) d z h = mapped-at f xs i d z (omega (arith, h))

-- the number of a variable is that of its states
pub state_at : (spelling : Spelling) (n : Numbering) (variable : ℕ) (d : States) → IsNumbering spelling n → is_among (variables_in n) variable ≡ true
    → state_names (get_or n.states.now (number_in n.holes.now variable) d) ≡ states_among spelling (map state_view n.mentioned.now) variable
state_at spelling n variable d w h =
    let holes = n.holes.now in
    let states = n.states.now in
    let among = states_among spelling (map state_view n.mentioned.now) in
    let (k, p, q, r) = at-front (length states) holes variable h in
    let e : number_in holes variable ≡ k = ap (λ o. unwrap_or o 0) p in
    let l : length (variables_in n) ≡ length states = length-take-le (length states) holes w.within in
    let b : k < length states = omega (arith, q, l) in
    ap (λ j. state_names (get_or states j d)) e ∙ sym (mapped-at state_names states k d [] b) ∙ ap (λ zs. get_or zs k []) w.states ∙ mapped-at among (variables_in n) k 0 [] q
    ∙ ap among (r 0)

-- a variable has a number that is one of the states'
pub state_within : (spelling : Spelling) (n : Numbering) (variable : ℕ) → IsNumbering spelling n → is_among (variables_in n) variable ≡ true → number_in n.holes.now variable < length n.states.now
state_within spelling n variable w h =
    let (k, p, q, r) = at-front (length n.states.now) n.holes.now variable h in
    let e : number_in n.holes.now variable ≡ k = ap (λ o. unwrap_or o 0) p in
    let l : length (variables_in n) ≡ length n.states.now = length-take-le (length n.states.now) n.holes.now w.within in
    omega (arith, e, q, l)
