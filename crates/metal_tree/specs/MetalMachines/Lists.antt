-- What is asked of the members of a list.
use Rattle.std.specs.Prelude.{ℕ, Bool, true, false, nat_eq, ◌&&◌, ◌||◌, List, [], ◌∷◌}

abbrev pub all_of : {A : Type 0} → (A → Bool) → List A → Bool
all_of is [] = true
all_of is (x ∷ xs) = is x && all_of is xs

abbrev pub any_of : {A : Type 0} → (A → Bool) → List A → Bool
any_of is [] = false
any_of is (x ∷ xs) = is x || any_of is xs

abbrev pub is_among : List ℕ → ℕ → Bool
is_among [] n = false
is_among (m ∷ ms) n = nat_eq m n || is_among ms n
