-- Declared names with their positions, and the first that stands a second time.
use Rattle.std.proofs.Common.{◌≡◌, ℕ, suc, ◌+◌, ◌*◌, ◌<◌, ◌≤◌, ◌^◌, Bool, true, false, cond, nat_eq, ◌||◌, List, [], ◌∷◌, ◌++◌, length, get_or, take, drop, map, Option, None, Some, ap, refl, ◌∙◌, sym, subst, append_assoc, append-nil, add-one, drop-cons, arith, length-append}
use Rattle.std.proofs.lemmas.List.{drop_all, take_more, take_all, length-take-le}
use Rattle.c_tree.specs.declared.punctuator.Punctuator.TheVariants as marks
use Rattle.c_tree.specs.Phrase.{◌⨾◌, sign}
use Rattle.metal_grammar.specs.Written.{Row}
use Rattle.metal_grammar.specs.Phrases.{word, maybe_phrase, head_phrase, row_phrase, type_phrase, declaration_phrase, content_phrase, sign_if, clause_tokens}
use Rattle.metal_grammar.specs.Rules.{is_among, size, names_from, declared_names, behind_head, names_of_content}
use Rattle.metal_grammar.specs.Faults.{repeated}
use Rattle.metal_written.specs.declared.written.Declaration.{Declaration}
use Rattle.metal_written.specs.declared.written.Content.TheVariants as contents
use Rattle.metal_written.specs.declared.written.Clause.{Clause}
use Rattle.metal_written.specs.Sizes.{ClauseHasSizes, HasSizes}
use Rattle.metal_written.specs.Written.{row_from, type_view, declaration_view, content_view, clause_view, clause_views, maybe_head_view}
use Rattle.metal_written.proofs.InSizes.{size-two, total-next}
use Rattle.metal_written.proofs.Any.{mapped-drop, mapped-end}
use Rattle.metal_numbers.specs.declared.metal_declared.limits.Declared.{Declared}
use Rattle.metal_numbers.specs.MetalDeclared.DeclaredNames.{declared_name, declared_pair, every_other}
use Rattle.metal_numbers.proofs.MetalDeclared.InHoles.{map_joined}
use Rattle.metal_numbers.proofs.MetalDeclared.InLimits.{sizes_here, sizes_rest, size_here}

-- one or more names, a comma between two
every-row : (p x : ℕ) (xs : List ℕ) → names_from p (row_from 0 (x ∷ xs)) ≡ every_other p (x ∷ xs)
every-row p x [] = refl
every-row p x (y ∷ ys) = ap (λ ds. (x, p) ∷ ds) (every-row (p + 2) y ys)

pub every_row : (p : ℕ) (xs : List ℕ) → 0 < length xs → names_from p (row_from 0 xs) ≡ every_other p xs
every_row p [] h = absurd (omega arith)
every_row p (x ∷ xs) h = every-row p x xs

row-size : (x : ℕ) (xs : List ℕ) → size (row_phrase (sign marks.Comma) word (row_from 0 (x ∷ xs))) + 1 ≡ 2 * length (x ∷ xs)
row-size x [] = refl
row-size x (y ∷ ys) =
    let r : Row ℕ = row_from 0 (y ∷ ys) in
    let a = size-two (word x) (sign marks.Comma ⨾ row_phrase (sign marks.Comma) word r) in
    let b = size-two (sign marks.Comma) (row_phrase (sign marks.Comma) word r) in
    let s : size (word x) ≡ 1 = refl in
    let t : size (sign marks.Comma) ≡ 1 = refl in
    let h = row-size y ys in
    omega (arith, a, b, s, t, h)

row_size : (xs : List ℕ) → 2 * length xs ≤ size (row_phrase (sign marks.Comma) word (row_from 0 xs)) + 1
row_size [] = omega arith
row_size (x ∷ xs) = let h = row-size x xs in omega (arith, h)

-- the names of a clause stand in it
pub names_room : (c : Clause) (d : Declaration) → c.content ≡ contents.Declares d → ClauseHasSizes c → size (maybe_phrase head_phrase (maybe_head_view c.head)) + d.before + 2 * length d.names.now ≤ c.size + 1
names_room c d e s =
    let view = declaration_view d in
    let head = maybe_phrase head_phrase (maybe_head_view c.head) in
    let closing = sign_if c.closing (sign marks.CloseBrace) in
    let names = row_phrase (sign marks.Comma) word view.names in
    let total : c.size ≡ size (head ⨾ declaration_phrase view ⨾ closing) = s.0 ∙ ap (λ content. size (head ⨾ content_phrase (content_view content) ⨾ closing)) e in
    let before : d.before ≡ size (maybe_phrase word d.state ⨾ word d.decl ⨾ type_phrase (type_view d.of)) = subst HasSizes e s.1 in
    let a = size-two head (declaration_phrase view ⨾ closing) in
    let b = size-two (declaration_phrase view) closing in
    let c1 = size-two (maybe_phrase word d.state) (word d.decl ⨾ type_phrase (type_view d.of) ⨾ names ⨾ sign marks.Semicolon) in
    let c2 = size-two (word d.decl) (type_phrase (type_view d.of) ⨾ names ⨾ sign marks.Semicolon) in
    let c3 = size-two (type_phrase (type_view d.of)) (names ⨾ sign marks.Semicolon) in
    let c4 = size-two names (sign marks.Semicolon) in
    let d1 = size-two (maybe_phrase word d.state) (word d.decl ⨾ type_phrase (type_view d.of)) in
    let d2 = size-two (word d.decl) (type_phrase (type_view d.of)) in
    let n = row_size d.names.now in
    omega (arith, total, before, a, b, c1, c2, c3, c4, d1, d2, n)

-- names of one more clause
pub names_on : (cs : List Clause) (i : ℕ) (d : Clause) (position : ℕ) → i < length cs → (get_or cs i d).size ≡ length (clause_tokens (clause_view (get_or cs i d)))
    → declared_names position (clause_views (drop i cs)) ≡ names_of_content (behind_head position (clause_view (get_or cs i d))) (content_view (get_or cs i d).content) ++ declared_names (position + (get_or cs i d).size) (clause_views (drop (i + 1) cs))
names_on cs i d position h s =
    let one = names_of_content (behind_head position (clause_view (get_or cs i d))) (content_view (get_or cs i d).content) in
    ap (declared_names position) (mapped-drop clause_view cs i d h) ∙ ap (λ k. one ++ declared_names (position + k) (clause_views (drop (i + 1) cs))) (sym s)

pub names_end : (cs : List Clause) (i position : ℕ) → length cs ≤ i → declared_names position (clause_views (drop i cs)) ≡ []
names_end cs i position h = ap (declared_names position) (mapped-end clause_view cs i h)

every-joined : (p : ℕ) (xs ys : List ℕ) → every_other p (xs ++ ys) ≡ every_other p xs ++ every_other (p + 2 * length xs) ys
every-joined p [] ys = let e : p + 2 * 0 ≡ p = omega arith in sym (ap (λ k. every_other k ys) e)
every-joined p (x ∷ xs) ys =
    let e : p + 2 + 2 * length xs ≡ p + 2 * suc (length xs) = omega arith in
    ap (λ ds. (x, p) ∷ ds) (every-joined (p + 2) xs ys ∙ ap (λ k. every_other (p + 2) xs ++ every_other k ys) e)

-- one name more
pub every_more : (p : ℕ) (xs : List ℕ) (i : ℕ) (d : ℕ) → i < length xs → every_other p (take (i + 1) xs) ≡ every_other p (take i xs) ++ ((get_or xs i d, p + 2 * i) ∷ [])
every_more p xs i d h =
    let l : length (take i xs) ≡ i = length-take-le i xs (omega (arith, h)) in
    ap (every_other p) (take_more xs i d h) ∙ every-joined p (take i xs) (get_or xs i d ∷ []) ∙ ap (λ k. every_other p (take i xs) ++ ((get_or xs i d, p + 2 * k) ∷ [])) l

pub ruleset declared = (take_all, map_joined, append_assoc, append-nil, every_row, every_more, names_room, names_on, names_end, sizes_here, sizes_rest, size_here, total-next)

-- one name more: at the front or at the end
among-end : (bs : List ℕ) (n m : ℕ) → is_among (bs ++ (n ∷ [])) m ≡ is_among (n ∷ bs) m
among-end [] n m = refl
among-end (b ∷ bs) n m = ap (λ a. nat_eq b m || a) (among-end bs n m) ∙ by (nat_eq b m) (nat_eq n m) (is_among bs m)
  where
    by : (x y z : Bool) → (x || (y || z)) ≡ (y || (x || z))
    by true true z = refl
    by true false z = refl
    by false true z = refl
    by false false z = refl

repeated-same : (es bs : List ℕ) (ds : List (ℕ × ℕ)) → ((m : ℕ) → is_among es m ≡ is_among bs m) → repeated es ds ≡ repeated bs ds
repeated-same es bs [] h = refl
repeated-same es bs (d ∷ ds) h =
    ap (λ b. cond b (Some d) (repeated (d.0 ∷ es) ds)) (h d.0)
    ∙ ap (λ o. cond (is_among bs d.0) (Some d) o) (repeated-same (d.0 ∷ es) (d.0 ∷ bs) ds (λ m. ap (λ b. nat_eq d.0 m || b) (h m)))

pub repeated-next : (all : List Declared) (i : ℕ) (d : Declared) (whole : Option (ℕ × ℕ)) → i < length all → is_among (map declared_name (take i all)) (get_or all i d).name ≡ false
    → repeated (map declared_name (take i all)) (map declared_pair (drop i all)) ≡ whole
    → repeated (map declared_name (take (i + 1) all)) (map declared_pair (drop (i + 1) all)) ≡ whole
repeated-next all i d whole h n w =
    let before = map declared_name (take i all) in
    let rest = map declared_pair (drop (i + 1) all) in
    let x = get_or all i d in
    ap (λ bs. repeated bs rest) (ap (map declared_name) (take_more all i d h) ∙ map_joined declared_name (take i all) (x ∷ []))
    ∙ repeated-same (before ++ (x.name ∷ [])) (x.name ∷ before) rest (among-end before x.name)
    ∙ sym (ap (λ ds. repeated before ds) (mapped-drop declared_pair all i d h) ∙ ap (λ b. cond b (Some (declared_pair x)) (repeated (x.name ∷ before) rest)) n) ∙ w

pub repeated-here : (all : List Declared) (i : ℕ) (d : Declared) (whole : Option (ℕ × ℕ)) → i < length all → is_among (map declared_name (take i all)) (get_or all i d).name ≡ true
    → repeated (map declared_name (take i all)) (map declared_pair (drop i all)) ≡ whole → Some (declared_pair (get_or all i d)) ≡ whole
repeated-here all i d whole h n w =
    let before = map declared_name (take i all) in
    let rest = map declared_pair (drop (i + 1) all) in
    let x = get_or all i d in
    sym (ap (λ ds. repeated before ds) (mapped-drop declared_pair all i d h) ∙ ap (λ b. cond b (Some (declared_pair x)) (repeated (x.name ∷ before) rest)) n) ∙ w

pub repeated-end : (all : List Declared) (i : ℕ) (whole : Option (ℕ × ℕ)) → length all ≤ i → repeated (map declared_name (take i all)) (map declared_pair (drop i all)) ≡ whole → None ≡ whole
repeated-end all i whole h w = sym (ap (λ ds. repeated (map declared_name (take i all)) ds) (mapped-end declared_pair all i h)) ∙ w

pub ruleset repeats = (repeated-next, repeated-here, repeated-end)
