-- Which definitions can't stand in one program (ISO 9899:1990, 6.1.2.2, 6.7).
use Rattle.std.specs.Prelude.{◌≡◌, ℕ, List, [], ◌∷◌, ◌++◌, Option, None, Some, Bool, false, cond, not, ◌&&◌, ◌||◌, nat_eq, AllPairs}
use Rattle.std.specs.Option.{option_map}
use Rattle.std.specs.List.{list_any}
use Rattle.c_tree.specs.declared.place.Place.{Place}
use Rattle.type_rules.specs.Functions.{Defined}

-- Two bodies of one name clash where they stand in one file, or both have external linkage.
abbrev pub clash : Defined → Defined → Bool
clash f g = nat_eq f.name g.name && (nat_eq f.file g.file || (not f.own && not g.own))

-- no two of them clash
abbrev pub AreApart : List Defined → Type 0
AreApart fs = AllPairs (λ f g. clash f g ≡ false) fs

-- it clashes with one of those before it
abbrev pub repeats : List Defined → Defined → Bool
repeats earlier g = list_any (λ f. clash f g) earlier

-- the first of these, behind those before them, that repeats an earlier one
abbrev pub first_repeat : List Defined → List Defined → Option Defined
first_repeat earlier [] = None
first_repeat earlier (f ∷ fs) = cond (repeats earlier f) (Some f) (first_repeat (earlier ++ (f ∷ [])) fs)

-- its name, and where that stands
abbrev pub name_and_place : Defined → ℕ × Place
name_and_place f = (f.name, f.place)

-- THE LINK FAULT of a program with these functions: the first, in source order, that repeats an earlier one
abbrev pub link_fault : List Defined → Option (ℕ × Place)
link_fault fs = option_map name_and_place (first_repeat [] fs)
