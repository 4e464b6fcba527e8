-- Lists that grow by what each of other things gives.
use Rattle.std.proofs.Common.{◌≡◌, ℕ, zero, suc, ◌+◌, ◌<◌, List, [], ◌∷◌, ◌++◌, length, get_or, take, map, flat_map, filter_map, Option, None, Some, ap, refl, ◌∙◌, sym, append_assoc, append-nil}
use Rattle.std.specs.List.{cons_option}
use Rattle.std.proofs.lemmas.List.{take_more, take_all}
use Rattle.c_tree.specs.declared.token.Token.{Token}
use Rattle.c_tree.specs.Symbol.{symbol_of, symbols_of}
use Rattle.metal_tree.specs.MetalMachines.Machine as machines
use Rattle.metal_grammar.specs.Holes as holes
use Rattle.metal_grammar.specs.Ways.Steps.{keyword_in}
use Rattle.metal_tree.specs.Views.{starred}
use Rattle.metal_written.proofs.Rows.{members-row}

pub starred_pointers : (n : ℕ) (t : machines.NamedType) → starred n t ≡ holes.pointers n t
starred_pointers zero t = refl
starred_pointers (suc n) t = ap machines.Pointer (starred_pointers n t)

pub map_joined : {A B : Type 0} (f : A → B) (xs ys : List A) → map f (xs ++ ys) ≡ map f xs ++ map f ys
map_joined f [] ys = refl
map_joined f (x ∷ xs) ys = ap (λ zs. f x ∷ zs) (map_joined f xs ys)

pub flat_joined : {A B : Type 0} (f : A → List B) (xs ys : List A) → flat_map f (xs ++ ys) ≡ flat_map f xs ++ flat_map f ys
flat_joined f [] ys = refl
flat_joined f (x ∷ xs) ys = ap (λ zs. f x ++ zs) (flat_joined f xs ys) ∙ sym (append_assoc (f x) (flat_map f xs) (flat_map f ys))

-- one thing more, of which a view is taken first
pub viewed_more : {A B : Type 0} (view : A → B) (xs : List A) (i : ℕ) (d : A) → i < length xs → map view (take (i + 1) xs) ≡ map view (take i xs) ++ (view (get_or xs i d) ∷ [])
viewed_more view xs i d h = ap (map view) (take_more xs i d h) ∙ map_joined view (take i xs) (get_or xs i d ∷ [])

pub given_more : {A B C : Type 0} (f : B → List C) (view : A → B) (xs : List A) (i : ℕ) (d : A) → i < length xs → flat_map f (map view (take (i + 1) xs)) ≡ flat_map f (map view (take i xs)) ++ f (view (get_or xs i d))
given_more f view xs i d h =
    ap (flat_map f) (viewed_more view xs i d h) ∙ flat_joined f (map view (take i xs)) (view (get_or xs i d) ∷ [])
    ∙ ap (λ ys. flat_map f (map view (take i xs)) ++ ys) (append-nil (f (view (get_or xs i d))))

pub twice_more : {A B C : Type 0} (g : B → C) (view : A → B) (xs : List A) (i : ℕ) (d : A) → i < length xs → map g (map view (take (i + 1) xs)) ≡ map g (map view (take i xs)) ++ (g (view (get_or xs i d)) ∷ [])
twice_more g view xs i d h = ap (map g) (viewed_more view xs i d h) ∙ map_joined g (map view (take i xs)) (view (get_or xs i d) ∷ [])

pub ruleset additions = (take_all, map_joined, viewed_more, given_more, twice_more, append_assoc, append-nil, members-row)

-- keywords among tokens
cons-joined : {A : Type 0} (o : Option A) (xs ys zs : List A) → xs ≡ ys ++ zs → cons_option o xs ≡ cons_option o ys ++ zs
cons-joined None xs ys zs h = h
cons-joined (Some k) xs ys zs h = ap (λ l. k ∷ l) h

keywords_joined : (xs ys : List Token) → filter_map keyword_in (symbols_of (xs ++ ys)) ≡ filter_map keyword_in (symbols_of xs) ++ filter_map keyword_in (symbols_of ys)
keywords_joined [] ys = refl
keywords_joined (x ∷ xs) ys = cons-joined (keyword_in (symbol_of x)) _ _ _ (keywords_joined xs ys)

pub keywords_more : (xs : List Token) (i : ℕ) (d : Token) → i < length xs → filter_map keyword_in (symbols_of (take (i + 1) xs)) ≡ filter_map keyword_in (symbols_of (take i xs)) ++ filter_map keyword_in (symbol_of (get_or xs i d) ∷ [])
keywords_more xs i d h = ap (λ ts. filter_map keyword_in (symbols_of ts)) (take_more xs i d h) ∙ keywords_joined (take i xs) (get_or xs i d ∷ [])

pub ruleset keywords = (take_all, keywords_more)
