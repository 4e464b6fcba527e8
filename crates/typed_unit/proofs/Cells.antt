-- What stands in a table of the program at a number.
use Rattle.std.proofs.Common.{◌≡◌, ℕ, zero, suc, ◌<◌, ◌≤◌, List, [], ◌∷◌, ◌++◌, length, map, Option, None, Some, Bor, ap, refl, ◌∙◌, sym, arith, slice_get}
use Rattle.std.proofs.Math.ListN.{set}
use Rattle.std.proofs.lemmas.List.{length-map, map-append, map-set}
use Rattle.std.proofs.lemmas.Option.{slice_get-get_or, slice_get-map, slice_get_past}
use Rattle.std.specs.Option.{option_map}
use Rattle.std.specs.Slice.{IsItemAt}
use Rattle.type_rules.specs.Definition.{Table, at}
use Rattle.type_rules.specs.Definition as kept
use Rattle.type_rules.specs.Options.{◌>?◌}
use Rattle.type_rules.specs.Order.{put}
use Rattle.typed_unit.specs.declared.table.Cell.{Cell}
use Rattle.typed_unit.specs.Tables.{cell_of}

at-slice : (i : ℕ) (table : Table) → at i table ≡ (slice_get table i >? λ x. x)
at-slice i [] = refl
at-slice zero (x ∷ xs) = refl
at-slice (suc i) (x ∷ xs) = at-slice i xs

-- what is found there
found : Option (Bor (Option Cell)) → Option (Option Cell)
found r = option_map (λ x. x.now) r

abbrev shown : List (Option Cell) → Table
shown cs = map (option_map cell_of) cs

shown-at : (cs : List (Option Cell)) (i : ℕ) (o : Option (Option Cell)) → slice_get cs i ≡ o → at i (shown cs) ≡ (option_map (option_map cell_of) o >? λ x. x)
shown-at cs i o h = at-slice i (shown cs) ∙ ap (λ o. o >? λ x. x) (slice_get-map (option_map cell_of) cs i ∙ ap (option_map (option_map cell_of)) h)

pub cell-past : (cs : List (Option Cell)) (i : ℕ) (r : Option (Bor (Option Cell))) → IsItemAt cs i r → r ≡ None → at i (shown cs) ≡ None
cell-past cs i None h e = shown-at cs i None (slice_get_past cs i h.3)
cell-past cs i (Some x) h e = cc

item : (cs : List (Option Cell)) (i : ℕ) (r : Option (Bor (Option Cell))) (x : Bor (Option Cell)) → IsItemAt cs i r → r ≡ Some x → slice_get cs i ≡ Some x.now
item cs i None x h e = cc
item cs i (Some y) x h e =
    let same : y ≡ x = cc in
    slice_get-get_or cs i y.now h.3.0 ∙ ap Some (sym (h.3.1 y.now)) ∙ ap (λ (z : Bor (Option Cell)). Some z.now) same

pub cell-at : (cs : List (Option Cell)) (i : ℕ) (r : Option (Bor (Option Cell))) (x : Bor (Option Cell)) (o : Option Cell) → IsItemAt cs i r → r ≡ Some x → x.now ≡ o → at i (shown cs) ≡ option_map cell_of o
cell-at cs i r x o h e k = shown-at cs i (Some o) (item cs i r x h e ∙ ap Some k)

-- nothing more behind a table that is too short
longer : (i : ℕ) (x : kept.Cell) (table : Table) → length table ≤ i → put i x (table ++ (None ∷ [])) ≡ put i x table
longer zero x [] h = refl
longer (suc i) x [] h = refl
longer zero x (y ∷ ys) h = absurd (omega arith)
longer (suc i) x (y ∷ ys) h = ap (λ (t : Table). y ∷ t) (longer i x ys (omega arith))

-- a table that is long enough
within : (i : ℕ) (x : kept.Cell) (table : Table) → i < length table → set table i (Some x) ≡ put i x table
within i x [] h = absurd (omega arith)
within zero x (y ∷ ys) h = refl
within (suc i) x (y ∷ ys) h = ap (λ (t : Table). y ∷ t) (within i x ys (omega arith))

pub put-longer : (i : ℕ) (x : kept.Cell) (cs : List (Option Cell)) → length cs ≤ i → put i x (map (option_map cell_of) (cs ++ (None ∷ []))) ≡ put i x (map (option_map cell_of) cs)
put-longer i x cs h =
    let e = length-map cs (option_map cell_of) in
    ap (put i x) (map-append (option_map cell_of) cs (None ∷ [])) ∙ longer i x (shown cs) (omega arith)

pub put-within : (i : ℕ) (c : Cell) (cs : List (Option Cell)) → i < length cs → map (option_map cell_of) (set cs i (Some c)) ≡ put i (cell_of c) (map (option_map cell_of) cs)
put-within i c cs h =
    let e = length-map cs (option_map cell_of) in
    map-set (option_map cell_of) cs i (Some c) ∙ within i (cell_of c) (shown cs) (omega arith)

pub ruleset puts = (put-longer, put-within)
