-- The first fault of a checker stands within its text: no more symbols stand before it than the text has.
use Rattle.std.proofs.Common.{◌≡◌, inl, inr, ℕ, ◌+◌, ◌≤◌, Bool, true, false, cond, nat_eq, nat_lt, List, [], ◌∷◌, ◌++◌, length, map, Option, None, Some, ap, refl, sym, subst, arith}
use Rattle.c_tree.specs.declared.punctuator.Punctuator.TheVariants as marks
use Rattle.c_tree.specs.Symbol.{Symbol}
use Rattle.c_tree.specs.Phrase.{◌⨾◌, sign}
use Rattle.metal_tree.specs.MetalMachines.Limits.{most_variables, most_holes, most_rules}
use Rattle.metal_grammar.specs.Words.{Spelling}
use Rattle.metal_grammar.specs.Written.{Row, lone, row, Content, Nothing, Declares, Rules, Clause}
use Rattle.metal_grammar.specs.Phrases.{word, row_phrase, maybe_phrase, sign_if, type_phrase, content_phrase, head_phrase, clause_phrase, clause_tokens}
use Rattle.metal_grammar.specs.Holes.{DeclaredHole}
use Rattle.metal_grammar.specs.Clauses.{in_front, ends_here, closes, ends_clause, clauses_behind, clauses_from, clauses_of, open_behind}
use Rattle.metal_grammar.specs.Grammar.{Before, nothing_before, behind_content, IsText, IsUnread, IsSyntaxFault, text_tokens}
use Rattle.metal_grammar.specs.Rules.{is_among, size, behind_head, behind_clause, Declared, names_from, names_of_content, declared_names, count_of_rules, holes_of, PlacedRule, rules_of, rule_position, variables_among}
use Rattle.metal_grammar.specs.Faults.{count_of_variables, count_of_holes, passing, repeated, unknown_callouts, names_two_variables, is_bad_split, is_bad_source, lacks_variable, is_bad_format}
use Rattle.metal_grammar.specs.FirstFault as text
use Rattle.metal_grammar.specs.FirstFault.{Fault, or_else, fault_of_rule, fault_of_rules, fault_of}
use Rattle.metal_grammar.specs.Definition.{IsFirstFault}
use Rattle.metal_grammar.proofs.Whole.{texts_are_their_tokens}
use Rattle.metal_written.proofs.InSizes.{sized, size-two}
use Rattle.metal_reader.specs.MetalPositions.Positions.{begins_behind, beginnings}
use Rattle.metal_reader.proofs.MetalFaults.Order.{ladder}
use Rattle.metal_reader.proofs.MetalPositions.Rules.{rules_begin}
use Rattle.request_files.specs.FrontEnd.Checkers.{IsRuleAt, IsPlaceOf}

-- at most so many symbols stand before each of these
abbrev AreWithin : {A : Type 0} → (A → ℕ) → ℕ → List A → Type 0
AreWithin before most [] = Unit {0}
AreWithin before most (x ∷ xs) = (before x ≤ most) × AreWithin before most xs

within_both : {A : Type 0} (before : A → ℕ) (most : ℕ) (xs ys : List A) → AreWithin before most xs → AreWithin before most ys → AreWithin before most (xs ++ ys)
within_both before most [] ys a b = b
within_both before most (x ∷ xs) ys a b = (a.0, within_both before most xs ys a.1 b)

-- at most so many symbols stand before the fault, where it has a place of its own
abbrev IsWithin : ℕ → Fault → Type 0
IsWithin most (text.SyntaxAt at) = at ≤ most
IsWithin most (text.TooMany what at) = at ≤ most
IsWithin most (text.Twice name at) = at ≤ most
IsWithin most (text.UnknownCallout name at) = at ≤ most
IsWithin most (text.TwoVariables rule) = Unit {0}
IsWithin most (text.BadSplit rule) = Unit {0}
IsWithin most (text.BadSource rule) = Unit {0}
IsWithin most (text.VariableMissing rule) = Unit {0}
IsWithin most (text.BadFormat rule) = Unit {0}

abbrev MayBeWithin : ℕ → Option Fault → Type 0
MayBeWithin most None = Unit {0}
MayBeWithin most (Some fault) = IsWithin most fault

either_within : (most : ℕ) (a b : Option Fault) → MayBeWithin most a → MayBeWithin most b → MayBeWithin most (or_else a b)
either_within most None b x y = y
either_within most (Some fault) b x y = x

-- ---- how many symbols a text has

text_size : (c : Clause) (cs : List Clause) → length (text_tokens (c ∷ cs)) ≡ length (clause_tokens c) + length (text_tokens cs)
text_size c cs = sized (clause_phrase c) (text_tokens cs)

clause_size : (c : Clause) → length (clause_tokens c) ≡ size (maybe_phrase head_phrase c.head) + size (content_phrase c.content) + size (sign_if c.closing (sign marks.CloseBrace))
clause_size c =
    let head = maybe_phrase head_phrase c.head in
    let content = content_phrase c.content in
    let end = sign_if c.closing (sign marks.CloseBrace) in
    let a = size-two (head ⨾ content) end in
    let b = size-two head content in
    let w : length (clause_tokens c) ≡ size (head ⨾ content ⨾ end) = refl in
    omega (arith, a, b, w)

-- ---- too many of something: a clause begins within the text

counted_within : (what : text.Counted) (count : Content → ℕ) (limit before position most : ℕ) (cs : List Clause) → position + length (text_tokens cs) ≤ most
    → MayBeWithin most (text.too_many what (passing count limit before position cs))
counted_within what count limit before position most [] h = tt
counted_within what count limit before position most (c ∷ cs) h =
    let e = text_size c cs in
    let later : position + length (clause_tokens c) + length (text_tokens cs) ≤ most = omega (arith, h, e) in
    by (nat_lt limit (before + count c.content)) (counted_within what count limit (before + count c.content) (behind_clause position c) most cs later)
  where
    by : (b : Bool) → MayBeWithin most (text.too_many what (passing count limit (before + count c.content) (behind_clause position c) cs))
        → MayBeWithin most (text.too_many what (cond b (Some position) (passing count limit (before + count c.content) (behind_clause position c) cs)))
    by true later = let low : position ≤ most = omega (arith, h) in low
    by false later = later

-- ---- a name twice: names stand in their declarations

abbrev before_name : Declared → ℕ
before_name d = d.1

repeated_within : (most : ℕ) (earlier : List ℕ) (ds : List Declared) → AreWithin before_name most ds → MayBeWithin most (text.twice (repeated earlier ds))
repeated_within most earlier [] a = tt
repeated_within most earlier (d ∷ ds) a = by (is_among earlier d.0) (repeated_within most (d.0 ∷ earlier) ds a.1)
  where
    by : (b : Bool) → MayBeWithin most (text.twice (repeated (d.0 ∷ earlier) ds)) → MayBeWithin most (text.twice (cond b (Some d) (repeated (d.0 ∷ earlier) ds)))
    by true later = a.0
    by false later = later

row_within : (position most : ℕ) (row_of : Row ℕ) → position + size (row_phrase (sign marks.Comma) word row_of) ≤ most → AreWithin before_name most (names_from position row_of)
row_within position most (lone name) h = let low : position ≤ most = omega (arith, h) in (low, tt)
row_within position most (row name others) h =
    let a : size (row_phrase (sign marks.Comma) word (row name others)) ≡ size (word name ⨾ sign marks.Comma) + size (row_phrase (sign marks.Comma) word others) =
    size-two (word name ⨾ sign marks.Comma) (row_phrase (sign marks.Comma) word others) in
    let b : size (word name ⨾ sign marks.Comma) ≡ 2 = refl in
    let low : position ≤ most = omega (arith, h) in
    (low, row_within (position + 2) most others (omega (arith, h, a, b)))

content_within : (position most : ℕ) (c : Content) → position + size (content_phrase c) ≤ most → AreWithin before_name most (names_of_content position c)
content_within position most Nothing h = tt
content_within position most (Rules s) h = tt
content_within position most (Declares d) h =
    let front = maybe_phrase word d.state ⨾ word d.decl ⨾ type_phrase d.type in
    let declared = row_phrase (sign marks.Comma) word d.names in
    let a = size-two (front ⨾ declared) (sign marks.Semicolon) in
    let b = size-two front declared in
    let w : size (content_phrase (Declares d)) ≡ size (front ⨾ declared ⨾ sign marks.Semicolon) = refl in
    row_within (position + size front) most d.names (omega (arith, h, a, b, w))

declared_within : (position most : ℕ) (cs : List Clause) → position + length (text_tokens cs) ≤ most → AreWithin before_name most (declared_names position cs)
declared_within position most [] h = tt
declared_within position most (c ∷ cs) h =
    let e = text_size c cs in
    let s = clause_size c in
    let here : position + size (maybe_phrase head_phrase c.head) + size (content_phrase c.content) ≤ most = omega (arith, h, e, s) in
    let later : position + length (clause_tokens c) + length (text_tokens cs) ≤ most = omega (arith, h, e) in
    within_both before_name most (names_of_content (behind_head position c) c.content) (declared_names (behind_clause position c) cs)
    (content_within (behind_head position c) most c.content here) (declared_within (behind_clause position c) most cs later)

-- ---- a fault of a rule: rules begin behind symbols of the text

abbrev before_rule : PlacedRule → ℕ
before_rule r = r.position

abbrev itself : ℕ → ℕ
itself n = n

begun_within : (depth position most : ℕ) (ts : List Symbol) → position + length ts ≤ most → AreWithin itself most (beginnings depth position ts)
begun_within depth position most [] h = tt
begun_within depth position most (t ∷ ts) h = by (begins_behind depth t) (begun_within (open_behind depth t) (position + 1) most ts (omega (arith, h)))
  where
    by : (b : Bool) → AreWithin itself most (beginnings (open_behind depth t) (position + 1) ts)
        → AreWithin itself most (cond b ((position + 1) ∷ beginnings (open_behind depth t) (position + 1) ts) (beginnings (open_behind depth t) (position + 1) ts))
    by true later = let low : position + 1 ≤ most = omega (arith, h) in (low, later)
    by false later = later

of_rules : (most : ℕ) (rs : List PlacedRule) → AreWithin itself most (map before_rule rs) → AreWithin before_rule most rs
of_rules most [] a = tt
of_rules most (r ∷ rs) a = (a.0, of_rules most rs a.1)

placed_within : (spelling : Spelling) (ts : List Symbol) (cs : List Clause) → IsText spelling cs ts → AreWithin before_rule (length ts) (rules_of cs)
placed_within spelling ts cs w =
    of_rules (length ts) (rules_of cs) (subst (AreWithin itself (length ts)) (rules_begin spelling ts cs w) (begun_within 0 0 (length ts) ts (omega arith)))

unknown_within : (most position : ℕ) (unknown : List ℕ) → position ≤ most → MayBeWithin most (text.unknown_at position unknown)
unknown_within most position [] h = tt
unknown_within most position (name ∷ others) h = h

ladder_within : (most number : ℕ) (two split source missing format : Bool) → MayBeWithin most (ladder number two split source missing format)
ladder_within most number true split source missing format = tt
ladder_within most number false true source missing format = tt
ladder_within most number false false true missing format = tt
ladder_within most number false false false true format = tt
ladder_within most number false false false false true = tt
ladder_within most number false false false false false = tt

rule_within : (spelling : Spelling) (holes : List DeclaredHole) (most : ℕ) (r : PlacedRule) → r.position ≤ most → MayBeWithin most (fault_of_rule spelling holes r)
rule_within spelling holes most r h =
    let two = names_two_variables (variables_among holes) r in
    let split = is_bad_split r.rule r.rule.destination in
    let source = is_bad_source spelling (variables_among holes) r in
    let missing = lacks_variable (map (λ hole. hole.name) holes) r in
    let format = is_bad_format spelling r.rule.action in
    either_within most (text.unknown_at r.position (unknown_callouts spelling r.rule)) (ladder r.number two split source missing format)
    (unknown_within most r.position (unknown_callouts spelling r.rule) h) (ladder_within most r.number two split source missing format)

rules_within : (spelling : Spelling) (holes : List DeclaredHole) (most : ℕ) (rs : List PlacedRule) → AreWithin before_rule most rs → MayBeWithin most (fault_of_rules spelling holes rs)
rules_within spelling holes most [] a = tt
rules_within spelling holes most (r ∷ rs) a =
    either_within most (fault_of_rule spelling holes r) (fault_of_rules spelling holes rs) (rule_within spelling holes most r a.0) (rules_within spelling holes most rs a.1)

rule_found : (most rule p : ℕ) (rs : List PlacedRule) → AreWithin before_rule most rs → rule_position rule rs ≡ Some p → p ≤ most
rule_found most rule p [] a h = cc
rule_found most rule p (r ∷ rs) a h = by (nat_eq r.number rule) h (rule_found most rule p rs a.1)
  where
    by : (b : Bool) → cond b (Some r.position) (rule_position rule rs) ≡ Some p → (rule_position rule rs ≡ Some p → p ≤ most) → p ≤ most
    by true e next = let same : r.position ≡ p = cc in subst (λ k. k ≤ most) same a.0
    by false e next = next e

-- ---- the first fault of a text

text_within : (spelling : Spelling) (ts : List Symbol) (cs : List Clause) → IsText spelling cs ts → MayBeWithin (length ts) (fault_of spelling cs)
text_within spelling ts cs w =
    let t = (texts_are_their_tokens spelling ts cs).0 w in
    let e = ap length t.0 in
    let all : 0 + length (text_tokens cs) ≤ length ts = omega (arith, e) in
    either_within (length ts) (text.too_many text.Variables (passing count_of_variables most_variables 0 0 cs)) _ (counted_within text.Variables count_of_variables most_variables 0 0 (length ts) cs all)
    (either_within (length ts) (text.too_many text.Holes (passing count_of_holes most_holes 0 0 cs)) _ (counted_within text.Holes count_of_holes most_holes 0 0 (length ts) cs all)
    (either_within (length ts) (text.too_many text.AllRules (passing count_of_rules most_rules 0 0 cs)) _ (counted_within text.AllRules count_of_rules most_rules 0 0 (length ts) cs all)
    (either_within (length ts) (text.twice (repeated [] (declared_names 0 cs))) (fault_of_rules spelling (holes_of spelling cs) (rules_of cs)) (repeated_within (length ts) [] (declared_names 0 cs) (declared_within 0 (length ts) cs all))
    (rules_within spelling (holes_of spelling cs) (length ts) (rules_of cs) (placed_within spelling ts cs w)))))

-- ---- a clause without a parse: clauses are parts of the text

abbrev size_of_clauses : List (List Symbol) → ℕ
size_of_clauses [] = 0
size_of_clauses (c ∷ cs) = length c + size_of_clauses cs

front_size : (t : Symbol) (cs : List (List Symbol)) → size_of_clauses (in_front t cs) ≡ size_of_clauses cs + 1
front_size t [] = omega arith
front_size t (c ∷ cs) = omega arith

cut_size : (closed ended last : Bool) (ts : List Symbol) (others : List (List Symbol)) → size_of_clauses others ≡ length ts
    → size_of_clauses (cond closed (ts ∷ []) (cond ended (cond last (ts ∷ []) ([] ∷ others)) others)) ≡ length ts
cut_size true ended last ts others h = omega arith
cut_size false true true ts others h = omega arith
cut_size false true false ts others h = omega (arith, h)
cut_size false false last ts others h = h

whole_size : (depth : ℕ) (ts : List Symbol) → size_of_clauses (clauses_from depth ts) ≡ length ts
whole_size depth [] = omega arith
whole_size depth (t ∷ ts) =
    let others = clauses_from (open_behind depth t) ts in
    let a : size_of_clauses (clauses_from depth (t ∷ ts)) ≡ size_of_clauses (clauses_behind depth t ts (clauses_from (open_behind depth t) ts)) + 1 = front_size t (clauses_behind depth t ts others) in
    let b : size_of_clauses (clauses_behind depth t ts (clauses_from (open_behind depth t) ts)) ≡ length ts = cut_size (closes depth t) (ends_clause depth t) (ends_here ts) ts others (whole_size (open_behind depth t) ts) in
    omega (arith, a, b)

unread_within : (spelling : Spelling) (before : Before) (is_first : Bool) (position : ℕ) (cs : List (List Symbol)) (at : ℕ) → IsUnread spelling before is_first position cs at → at ≤ position + size_of_clauses cs
unread_within spelling before is_first position [] at u = absurd u
unread_within spelling before is_first position (c ∷ cs) at (inl (e, none)) = omega (arith, e)
unread_within spelling before is_first position (c ∷ cs) at (inr (clause, w, u)) =
    let h = unread_within spelling (behind_content spelling clause.content before) false (position + length c) cs at u in
    omega (arith, h)

syntax_within : (spelling : Spelling) (ts : List Symbol) (at : ℕ) → IsSyntaxFault spelling ts at → at ≤ length ts
syntax_within spelling ts at u =
    let h = unread_within spelling nothing_before true 0 (clauses_of ts) at u in
    let e : size_of_clauses (clauses_of ts) ≡ length ts = whole_size 0 ts in
    omega (arith, h, e)

-- ---- any first fault

first_within : (spelling : Spelling) (ts : List Symbol) (fault : Fault) → IsFirstFault spelling ts fault → IsWithin (length ts) fault
first_within spelling ts fault (inl (at, u, e)) = subst (IsWithin (length ts)) (sym e) (syntax_within spelling ts at u)
first_within spelling ts fault (inr (cs, w, e)) = subst (MayBeWithin (length ts)) e (text_within spelling ts cs w)

rule_at_within : (spelling : Spelling) (ts : List Symbol) (rule p : ℕ) → IsRuleAt spelling ts rule p → p ≤ length ts
rule_at_within spelling ts rule p w = rule_found (length ts) rule p (rules_of w.clauses) (placed_within spelling ts w.clauses w.text) w.here

pub place_within : (spelling : Spelling) (ts : List Symbol) (fault : Fault) (p : ℕ) → IsFirstFault spelling ts fault → IsPlaceOf spelling ts fault p → p ≤ length ts
place_within spelling ts (text.SyntaxAt at) p w e = let h : at ≤ length ts = first_within spelling ts (text.SyntaxAt at) w in omega (arith, h, e)
place_within spelling ts (text.TooMany what at) p w e = let h : at ≤ length ts = first_within spelling ts (text.TooMany what at) w in omega (arith, h, e)
place_within spelling ts (text.Twice name at) p w e = let h : at ≤ length ts = first_within spelling ts (text.Twice name at) w in omega (arith, h, e)
place_within spelling ts (text.UnknownCallout name at) p w e = let h : at ≤ length ts = first_within spelling ts (text.UnknownCallout name at) w in omega (arith, h, e)
place_within spelling ts (text.TwoVariables rule) p w r = rule_at_within spelling ts rule p r
place_within spelling ts (text.BadSplit rule) p w r = rule_at_within spelling ts rule p r
place_within spelling ts (text.BadSource rule) p w r = rule_at_within spelling ts rule p r
place_within spelling ts (text.VariableMissing rule) p w r = rule_at_within spelling ts rule p r
place_within spelling ts (text.BadFormat rule) p w r = rule_at_within spelling ts rule p r
