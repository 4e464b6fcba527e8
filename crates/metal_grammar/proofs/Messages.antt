-- Messages take their arguments in order, whatever numbers these have.
use Rattle.std.proofs.Common.{◌≡◌, ℕ, Bool, true, false, cond, nat_eq, is_some, is_none, List, [], ◌∷◌, map, flat_map, option_map, Option, None, Some, ap, refl, ◌∙◌, sym}
use Rattle.metal_tree.specs.MetalMachines.Machine.{Piece, Bytes, HoleText}
use Rattle.metal_tree.specs.MetalMachines.Kept.{hole_of_piece, named_in}
use Rattle.metal_grammar.specs.Message.{percent, letter_s, literal_byte, push_literal, push_argument, pieces_of, conversion, maybe_pieces}

mapped_some : {A B : Type 0} (g : A → B) (o : Option A) → is_some (option_map g o) ≡ is_some o
mapped_some g None = refl
mapped_some g (Some x) = refl

chosen_some : {A : Type 0} (b : Bool) (x y p q : Option A) → is_some x ≡ is_some p → is_some y ≡ is_some q → is_some (cond b x y) ≡ is_some (cond b p q)
chosen_some true x y p q d e = d
chosen_some false x y p q d e = e

literal_some : (b : ℕ) (o p : Option (List Piece)) → is_some o ≡ is_some p → is_some (push_literal b o) ≡ is_some (push_literal b p)
literal_some b o p e = mapped_some (literal_byte b) o ∙ e ∙ sym (mapped_some (literal_byte b) p)

argument_some : (f : ℕ → ℕ) (xs : List ℕ) (p : List ℕ → Option (List Piece)) → ((ys : List ℕ) → is_some (p (map f ys)) ≡ is_some (p ys))
    → is_some (push_argument (map f xs) p) ≡ is_some (push_argument xs p)
argument_some f [] p e = refl
argument_some f (x ∷ xs) p e = mapped_some _ (p (map f xs)) ∙ e xs ∙ sym (mapped_some _ (p xs))

-- whether there are pieces
mutual
  pub pieces_some : (f : ℕ → ℕ) (bs xs : List ℕ) → is_some (pieces_of bs (map f xs)) ≡ is_some (pieces_of bs xs)
  pieces_some f [] [] = refl
  pieces_some f [] (x ∷ xs) = refl
  pieces_some f (b ∷ bs) xs =
      chosen_some (nat_eq b percent) (conversion bs (map f xs)) (push_literal b (pieces_of bs (map f xs))) (conversion bs xs) (push_literal b (pieces_of bs xs))
      (conversion_some f bs xs) (literal_some b (pieces_of bs (map f xs)) (pieces_of bs xs) (pieces_some f bs xs))

  conversion_some : (f : ℕ → ℕ) (bs xs : List ℕ) → is_some (conversion bs (map f xs)) ≡ is_some (conversion bs xs)
  conversion_some f [] xs = refl
  conversion_some f (b ∷ bs) xs =
      chosen_some (nat_eq b letter_s) (push_argument (map f xs) (λ ys. pieces_of bs ys)) (cond (nat_eq b percent) (push_literal b (pieces_of bs (map f xs))) None)
      (push_argument xs (λ ys. pieces_of bs ys)) (cond (nat_eq b percent) (push_literal b (pieces_of bs xs)) None)
      (argument_some f xs (λ ys. pieces_of bs ys) (λ ys. pieces_some f bs ys))
      (chosen_some (nat_eq b percent) (push_literal b (pieces_of bs (map f xs))) None (push_literal b (pieces_of bs xs)) None
      (literal_some b (pieces_of bs (map f xs)) (pieces_of bs xs) (pieces_some f bs xs)) refl)

none-some : {A B : Type 0} (p : Option A) (q : Option B) → is_some p ≡ is_some q → is_none p ≡ is_none q
none-some None None e = refl
none-some None (Some y) e = cc
none-some (Some x) None e = cc
none-some (Some x) (Some y) e = refl

-- and whether there are none
pub pieces_none : (f : ℕ → ℕ) (bytes : Option (List ℕ)) (xs : List ℕ) → is_none (maybe_pieces bytes (map f xs)) ≡ is_none (maybe_pieces bytes xs)
pieces_none f None xs = refl
pieces_none f (Some bs) xs = none-some (pieces_of bs (map f xs)) (pieces_of bs xs) (pieces_some f bs xs)

abbrev names_of_pieces : List Piece → List ℕ
names_of_pieces ps = flat_map hole_of_piece ps

literal_names : (b : ℕ) (ps : List Piece) → names_of_pieces (literal_byte b ps) ≡ names_of_pieces ps
literal_names b [] = refl
literal_names b (Bytes bs ∷ ps) = refl
literal_names b (HoleText h ∷ ps) = refl

-- whatever pieces there are name these
abbrev Names : Option (List Piece) → List ℕ → Type 0
Names o xs = (ps : List Piece) → o ≡ Some ps → names_of_pieces ps ≡ xs

chosen_named : (b : Bool) (o p : Option (List Piece)) (xs : List ℕ) → Names o xs → Names p xs → Names (cond b o p) xs
chosen_named true o p xs v w = v
chosen_named false o p xs v w = w

literal_named : (b : ℕ) (o : Option (List Piece)) (xs : List ℕ) → Names o xs → Names (push_literal b o) xs
literal_named b None xs w ps e = cc
literal_named b (Some qs) xs w ps e = let q : literal_byte b qs ≡ ps = cc in ap names_of_pieces (sym q) ∙ literal_names b qs ∙ w qs refl

first_named : (x : ℕ) (o : Option (List Piece)) (xs : List ℕ) → Names o xs → Names (option_map (λ ps. HoleText x ∷ ps) o) (x ∷ xs)
first_named x None xs w ps e = cc
first_named x (Some qs) xs w ps e = let q : (HoleText x ∷ qs) ≡ ps = cc in ap names_of_pieces (sym q) ∙ ap (λ l. x ∷ l) (w qs refl)

argument_named : (xs : List ℕ) (p : List ℕ → Option (List Piece)) → ((ys : List ℕ) → Names (p ys) ys) → Names (push_argument xs p) xs
argument_named [] p w = λ ps e. cc
argument_named (x ∷ xs) p w = first_named x (p xs) xs (w xs)

none_named : (xs : List ℕ) → Names None xs
none_named xs ps e = cc

mutual
  pieces_named : (bs xs : List ℕ) → Names (pieces_of bs xs) xs
  pieces_named [] [] = λ ps e. let z : [] ≡ ps = cc in ap names_of_pieces (sym z)
  pieces_named [] (x ∷ xs) = λ ps e. cc
  pieces_named (b ∷ bs) xs =
      chosen_named (nat_eq b percent) (conversion bs xs) (push_literal b (pieces_of bs xs)) xs (conversion_named bs xs) (literal_named b (pieces_of bs xs) xs (pieces_named bs xs))

  conversion_named : (bs xs : List ℕ) → Names (conversion bs xs) xs
  conversion_named [] xs = λ ps e. cc
  conversion_named (b ∷ bs) xs =
      chosen_named (nat_eq b letter_s) (push_argument xs (λ ys. pieces_of bs ys)) (cond (nat_eq b percent) (push_literal b (pieces_of bs xs)) None) xs
      (argument_named xs (λ ys. pieces_of bs ys) (λ ys. pieces_named bs ys))
      (chosen_named (nat_eq b percent) (push_literal b (pieces_of bs xs)) None xs (literal_named b (pieces_of bs xs) xs (pieces_named bs xs)) (none_named xs))

pub some_pieces : (f : ℕ → ℕ) (o : Option (List ℕ)) (xs : List ℕ) → is_none (maybe_pieces o xs) ≡ false → named_in (maybe_pieces o (map f xs)) ≡ map f xs
some_pieces f None xs h = cc
some_pieces f (Some bs) xs h = by (pieces_of bs xs) (pieces_of bs (map f xs)) (pieces_some f bs xs) (pieces_named bs (map f xs)) h
  where
    by : (p q : Option (List Piece)) → is_some q ≡ is_some p → Names q (map f xs) → is_none p ≡ false → named_in q ≡ map f xs
    by None q e w n = cc
    by (Some ps) None e w n = cc
    by (Some ps) (Some qs) e w n = w qs refl
