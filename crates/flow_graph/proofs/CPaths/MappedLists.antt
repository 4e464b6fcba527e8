-- What stands in a list that a function gives for another list.
use Rattle.std.proofs.Common.{◌≡◌, inl, inr, List, [], ◌∷◌, map, refl, ap}
use Rattle.flow_graph.specs.CPaths.Membership.{Among}

-- one of the new list is given for one of the old one
pub mapped : {A B : Type 0} (f : A → B) (xs : List A) (y : B) → Among y (map f xs) → (x : A) × Among x xs × (y ≡ f x)
mapped f [] y h = absurd h
mapped f (x ∷ xs) y (inl e) = (x, inl refl, e)
mapped f (x ∷ xs) y (inr h) = let k = mapped f xs y h in (k.0, inr k.1, k.2)

pub map-among : {A B : Type 0} (f : A → B) (xs : List A) (x : A) → Among x xs → Among (f x) (map f xs)
map-among f [] x h = absurd h
map-among f (y ∷ xs) x (inl e) = inl (ap f e)
map-among f (y ∷ xs) x (inr h) = inr (map-among f xs x h)
