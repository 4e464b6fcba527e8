-- What the rule of a machine names, against what the rule of the text does.
use Rattle.std.proofs.Common.{◌≡◌, ℕ, Bool, true, false, cond, is_none, List, [], ◌∷◌, ◌++◌, map, filter, flat_map, unwrap_or, codes, None, Some, ap, refl, ◌∙◌, sym}
use Rattle.std.proofs.lemmas.List.{map-append}
use Rattle.c_tree.specs.Symbol.{Integer, Word, Reserved, Sign, IntLiteral, FloatLiteral, CharLiteral, StringLiteral}
use Rattle.metal_tree.specs.MetalMachines.Machine.{CalloutRow, IsConst, IsGlobal, IsParam, IsLocal, NameIs, InFunction, NeverHolds, AlwaysHolds, Holds, ToUnknown, ToObject}
use Rattle.metal_tree.specs.MetalMachines.Kept.{all_of, targets, holes_of_item, asked_of_item, bound_in, asked_in, hole_of_piece, named_in, variable_of_source, variable_of_target, asks_hole}
use Rattle.metal_grammar.specs.Words.{Spelling, is_spelled, contents_of}
use Rattle.metal_grammar.specs.Written.{members, StateName, OfMachine, OfVariable, Name, Text, WrittenCallout, Digit, Asked, WrittenItem, Pattern, Callout, Dollars, Destination, To, Split, WrittenAction}
use Rattle.metal_grammar.specs.Grammar.{is_callout}
use Rattle.metal_grammar.specs.Patterns.{has_plain_types, names_in}
use Rattle.metal_grammar.specs.Callouts.{row_of_hole, row_of_both, row_of_text, row_of_digit, row_of}
use Rattle.metal_grammar.specs.Meaning.{number_among, number_in, Numbering, state_number, source_of, target_of, dest_of, condition_of, item_of, action_of}
use Rattle.metal_grammar.specs.Message.{unescaped, message_with}
use Rattle.metal_grammar.specs.Rules.{is_among, targets_of, variable_of, pattern_names_of, callout_names_of}
use Rattle.metal_grammar.specs.Faults.{is_stop, unknown_callout_of}
use Rattle.metal_grammar.proofs.HolesNumbered.{both, holes_numbered}
use Rattle.metal_grammar.proofs.Numbered.{numbers_of}
use Rattle.metal_grammar.proofs.Messages.{some_pieces}

-- what is known of an item of a text: its holes are still names, and its callout is one of the language
abbrev pub is_sound : Spelling → WrittenItem → Bool
is_sound spelling (Pattern e semicolon) = has_plain_types e
is_sound spelling (Callout negated callout) = is_callout spelling callout
is_sound spelling (Dollars name) = true

-- the variables of states
pub source_variables : (n : Numbering) (s : StateName) → variable_of_source (source_of n s) ≡ map (number_in n.holes) (variable_of s)
source_variables n (OfMachine name) = refl
source_variables n (OfVariable variable name) = refl

pub target_variables : (n : Numbering) (s : StateName) → variable_of_target (target_of n s) ≡ map (number_in n.holes) (variable_of s)
target_variables n (OfMachine name) = refl
target_variables n (OfVariable variable name) = by (is_stop n.spelling (OfVariable variable name))
  where
    by : (b : Bool) → variable_of_target (cond b (ToUnknown (number_in n.holes variable)) (ToObject (number_in n.holes variable) (state_number n variable name))) ≡ (number_in n.holes variable ∷ [])
    by true = refl
    by false = refl

pub dest_variables : (n : Numbering) (d : Destination) → flat_map variable_of_target (targets (dest_of n d)) ≡ map (number_in n.holes) (flat_map variable_of (targets_of d))
dest_variables n (To t) = ap (λ l. l ++ []) (target_variables n t) ∙ sym (map-append (number_in n.holes) (variable_of t) [])
dest_variables n (Split a on_true b on_false) =
    ap (λ l. l ++ (variable_of_target (target_of n on_false) ++ [])) (target_variables n on_true)
    ∙ ap (λ l. map (number_in n.holes) (variable_of on_true) ++ (l ++ [])) (target_variables n on_false)
    ∙ ap (λ l. map (number_in n.holes) (variable_of on_true) ++ l) (sym (map-append (number_in n.holes) (variable_of on_false) []))
    ∙ sym (map-append (number_in n.holes) (variable_of on_true) (variable_of on_false ++ []))

pub filter-append : (is : ℕ → Bool) (xs ys : List ℕ) → filter is (xs ++ ys) ≡ filter is xs ++ filter is ys
filter-append is [] ys = refl
filter-append is (x ∷ xs) ys = by (is x) (filter-append is xs ys)
  where
    by : (b : Bool) → filter is (xs ++ ys) ≡ filter is xs ++ filter is ys → cond b (x ∷ filter is (xs ++ ys)) (filter is (xs ++ ys)) ≡ cond b (x ∷ filter is xs) (filter is xs) ++ filter is ys
    by true e = ap (λ l. x ∷ l) e
    by false e = e

-- the names of patterns that are holes
abbrev pub held : List ℕ → List ℕ → List ℕ
held ns xs = filter (is_among ns) xs

item_bound : (n : Numbering) (i : WrittenItem) → is_sound n.spelling i ≡ true → holes_of_item (item_of n i) ≡ map (number_in n.holes) (held n.holes (pattern_names_of i))
item_bound n (Pattern e semicolon) h = holes_numbered (number_among n.holes) e h ∙ numbers_of n.holes (names_in e)
item_bound n (Callout negated callout) h = refl
item_bound n (Dollars name) h = refl

pub items_bound : (n : Numbering) (is : List WrittenItem) → all_of (is_sound n.spelling) is ≡ true → bound_in (map (item_of n) is) ≡ map (number_in n.holes) (held n.holes (flat_map pattern_names_of is))
items_bound n [] h = refl
items_bound n (i ∷ is) h =
    let b = both (is_sound n.spelling i) (all_of (is_sound n.spelling) is) h in
    let f = number_in n.holes in
    ap (λ l. l ++ bound_in (map (item_of n) is)) (item_bound n i b.0)
    ∙ ap (λ l. map f (held n.holes (pattern_names_of i)) ++ l) (items_bound n is b.1)
    ∙ sym (map-append f (held n.holes (pattern_names_of i)) (held n.holes (flat_map pattern_names_of is)))
    ∙ ap (map f) (sym (filter-append (is_among n.holes) (pattern_names_of i) (flat_map pattern_names_of is)))

-- which of them ask of a hole
hole_row : (spelling : Spelling) (name : ℕ) → asks_hole (unwrap_or (row_of_hole spelling name) IsConst) ≡ true
hole_row spelling name =
    by (is_spelled spelling (codes "mc_is_const") name) (is_spelled spelling (codes "mc_is_global") name) (is_spelled spelling (codes "mc_is_param") name) (is_spelled spelling (codes "mc_is_local") name)
  where
    by : (a b c d : Bool) → asks_hole (unwrap_or (cond a (Some IsConst) (cond b (Some IsGlobal) (cond c (Some IsParam) (cond d (Some IsLocal) None)))) IsConst) ≡ true
    by true b c d = refl
    by false true c d = refl
    by false false true d = refl
    by false false false true = refl
    by false false false false = refl

both_row : (spelling : Spelling) (name : ℕ) → asks_hole (unwrap_or (row_of_both spelling name) IsConst) ≡ true
both_row spelling name = by (is_spelled spelling (codes "mc_name_is") name)
  where
    by : (a : Bool) → asks_hole (unwrap_or (cond a (Some NameIs) None) IsConst) ≡ true
    by true = refl
    by false = refl

text_row : (spelling : Spelling) (name : ℕ) → is_none (row_of_text spelling name) ≡ false → asks_hole (unwrap_or (row_of_text spelling name) IsConst) ≡ false
text_row spelling name = by (is_spelled spelling (codes "mc_in_function") name)
  where
    by : (a : Bool) → is_none {T = CalloutRow} (cond a (Some InFunction) None) ≡ false → asks_hole (unwrap_or (cond a (Some InFunction) None) IsConst) ≡ false
    by true h = refl
    by false h = cc

digit_row : (spelling : Spelling) (value : Integer) (name : ℕ) → asks_hole (unwrap_or (row_of_digit spelling (IntLiteral value name)) IsConst) ≡ false
digit_row spelling value name = by (is_spelled spelling (codes "0") name)
  where
    by : (a : Bool) → asks_hole (unwrap_or (cond a (Some NeverHolds) (Some AlwaysHolds)) IsConst) ≡ false
    by true = refl
    by false = refl

known : (b : Bool) (name : ℕ) → cond b (name ∷ []) [] ≡ [] → b ≡ false
known true name h = cc
known false name h = refl

callout_asked : (n : Numbering) (negated : Bool) (c : WrittenCallout) → is_callout n.spelling c ≡ true → unknown_callout_of n.spelling (Callout negated c) ≡ []
    → asked_of_item (Holds (condition_of n negated c)) ≡ map (number_in n.holes) (callout_names_of (Callout negated c))
callout_asked n negated (Digit (IntLiteral value name)) h u = ap (λ b. cond b (0 ∷ []) []) (digit_row n.spelling value name)
callout_asked n negated (Digit (Word name)) h u = cc
callout_asked n negated (Digit (Reserved k)) h u = cc
callout_asked n negated (Digit (Sign p)) h u = cc
callout_asked n negated (Digit (FloatLiteral a b)) h u = cc
callout_asked n negated (Digit (CharLiteral a b)) h u = cc
callout_asked n negated (Digit (StringLiteral a b)) h u = cc
callout_asked n negated (Asked name (Name hole) None) h u = ap (λ b. cond b (number_in n.holes hole ∷ []) []) (hole_row n.spelling name)
callout_asked n negated (Asked name (Name hole) (Some text)) h u = ap (λ b. cond b (number_in n.holes hole ∷ []) []) (both_row n.spelling name)
callout_asked n negated (Asked name (Text text) None) h u = ap (λ b. cond b (0 ∷ []) []) (text_row n.spelling name (known (is_none (row_of_text n.spelling name)) name u))
callout_asked n negated (Asked name (Text text) (Some other)) h u = cc

item_asked : (n : Numbering) (i : WrittenItem) → is_sound n.spelling i ≡ true → unknown_callout_of n.spelling i ≡ [] → asked_of_item (item_of n i) ≡ map (number_in n.holes) (callout_names_of i)
item_asked n (Pattern e semicolon) h u = refl
item_asked n (Callout negated callout) h u = callout_asked n negated callout h u
item_asked n (Dollars name) h u = refl

pub neither : {A : Type 0} (xs ys : List A) → (xs ++ ys) ≡ [] → (xs ≡ []) × (ys ≡ [])
neither [] ys h = (refl, h)
neither (x ∷ xs) ys h = cc

pub items_asked : (n : Numbering) (is : List WrittenItem) → all_of (is_sound n.spelling) is ≡ true → flat_map (unknown_callout_of n.spelling) is ≡ []
    → asked_in (map (item_of n) is) ≡ map (number_in n.holes) (flat_map callout_names_of is)
items_asked n [] h u = refl
items_asked n (i ∷ is) h u =
    let b = both (is_sound n.spelling i) (all_of (is_sound n.spelling) is) h in
    let v = neither (unknown_callout_of n.spelling i) (flat_map (unknown_callout_of n.spelling) is) u in
    ap (λ l. l ++ asked_in (map (item_of n) is)) (item_asked n i b.0 v.0)
    ∙ ap (λ l. map (number_in n.holes) (callout_names_of i) ++ l) (items_asked n is b.1 v.1)
    ∙ sym (map-append (number_in n.holes) (callout_names_of i) (flat_map callout_names_of is))

map-map : {A : Type 0} (f : ℕ → ℕ) (g : A → ℕ) (xs : List A) → map f (map g xs) ≡ map (λ x. f (g x)) xs
map-map f g [] = refl
map-map f g (x ∷ xs) = ap (λ l. f (g x) ∷ l) (map-map f g xs)

pub action_named : (n : Numbering) (a : WrittenAction) → is_none (message_with n.spelling a (map (λ argument. argument.1) a.arguments)) ≡ false
    → named_in (action_of n (Some a)) ≡ map (number_in n.holes) (map (λ argument. argument.1) a.arguments)
action_named n a h =
    ap (λ l. named_in (message_with n.spelling a l)) (sym (map-map (number_in n.holes) (λ argument. argument.1) a.arguments))
    ∙ some_pieces (number_in n.holes) (unescaped (flat_map (contents_of n.spelling) (members a.literals))) (map (λ argument. argument.1) a.arguments) h
