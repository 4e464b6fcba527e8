-- The rules of a text that are kept, one after the other.
use Rattle.std.proofs.Common.{◌≡◌, ℕ, suc, ◌+◌, ◌<◌, ◌≤◌, ◌^◌, Bool, List, [], ◌∷◌, ◌++◌, length, get_or, drop, map, ap, refl, ◌∙◌, sym, subst, add-one, drop-cons, append_assoc, length-append, Result, Ok, Err, IfOk, arith}
use Rattle.std.proofs.lemmas.List.{drop_all, append-nil, map-append, length-map, length-drop}
use Rattle.metal_grammar.specs.Written as text
use Rattle.metal_grammar.specs.Phrases.{rule_phrase, state_phrase, clause_tokens}
use Rattle.metal_grammar.specs.Rules as rules
use Rattle.metal_written.specs.declared.placed.PlacedRule.{PlacedRule}
use Rattle.metal_written.specs.declared.written.Clause.{Clause}
use Rattle.metal_written.specs.declared.written.WrittenRule.{WrittenRule}
use Rattle.metal_written.specs.Sizes.{HaveSizes, ClauseHasSizes, ClausesHaveSizes, size_of_all, size_of_rules}
use Rattle.metal_written.specs.Written.{row_from, no_rule, rule_view, content_view, clause_view, clause_views}
use Rattle.metal_written.specs.Placed.{placed_view, placed_views}
use Rattle.metal_written.proofs.Any.{mapped-drop, mapped-end}
use Rattle.metal_written.proofs.Rows.{members-row}
use Rattle.metal_written.proofs.InSizes.{rules-sizes-next, rules-total-next, sizes-next, total-next}

pub nothing-more : {A : Type 0} (xs : List A) → xs ≡ xs ++ []
nothing-more xs = sym (append-nil xs)

pub ruleset nothing_more = (append-nil)

-- rules one after the other, from a number and a position on
abbrev pub rules_in : ℕ → ℕ → text.StateName → List text.WrittenRule → List rules.PlacedRule
rules_in number position source [] = []
rules_in number position source (r ∷ rs) = record { number = number; position = position; source = source; rule = r } ∷ rules_in (number + 1) (position + rules.size (rule_phrase r) + 1) source rs

pub rules-row : (none : text.WrittenRule) (number position : ℕ) (source : text.StateName) (rs : List text.WrittenRule) → 0 < length rs → rules.rules_from number position source (row_from none rs) ≡ rules_in number position source rs
rules-row none number position source [] h = absurd (omega arith)
rules-row none number position source (r ∷ []) h = refl
rules-row none number position source (r ∷ q ∷ rs) h =
    ap (λ x. record { number = number; position = position; source = source; rule = r } ∷ x) (rules-row none (number + 1) (position + rules.size (rule_phrase r) + 1) source (q ∷ rs) (omega arith))

-- one more rule joins those before
pub rules-next : (rs : List WrittenRule) (i : ℕ) (d : WrittenRule) (number position : ℕ) (source : text.StateName) (ps pushed : List PlacedRule) (p : PlacedRule) (whole : List rules.PlacedRule) → i < length rs
    → (get_or rs i d).size ≡ rules.size (rule_phrase (rule_view (get_or rs i d)))
    → placed_view p ≡ record { number = number; position = position; source = source; rule = rule_view (get_or rs i d) } → pushed ≡ ps ++ (p ∷ [])
    → placed_views ps ++ rules_in number position source (map rule_view (drop i rs)) ≡ whole
    → placed_views pushed ++ rules_in (number + 1) (position + ((get_or rs i d).size + 1)) source (map rule_view (drop (i + 1) rs)) ≡ whole
rules-next rs i d number position source ps pushed p whole h s e n w =
    let at : position + ((get_or rs i d).size + 1) ≡ position + rules.size (rule_phrase (rule_view (get_or rs i d))) + 1 = omega (arith, s) in
    let rest = map rule_view (drop (i + 1) rs) in
    ap (λ k. placed_views pushed ++ rules_in (number + 1) k source rest) at
    ∙ ap (λ x. placed_views x ++ rules_in (number + 1) (position + rules.size (rule_phrase (rule_view (get_or rs i d))) + 1) source rest) n
    ∙ ap (λ x. x ++ rules_in (number + 1) (position + rules.size (rule_phrase (rule_view (get_or rs i d))) + 1) source rest) (map-append placed_view ps (p ∷ []))
    ∙ append_assoc (placed_views ps) (placed_view p ∷ []) (rules_in (number + 1) (position + rules.size (rule_phrase (rule_view (get_or rs i d))) + 1) source rest)
    ∙ ap (λ x. placed_views ps ++ (x ∷ rules_in (number + 1) (position + rules.size (rule_phrase (rule_view (get_or rs i d))) + 1) source rest)) e
    ∙ sym (ap (λ x. placed_views ps ++ rules_in number position source x) (mapped-drop rule_view rs i d h))
    ∙ w

-- what holds of the rules that are left
pub record RulesLeft (rs : List WrittenRule) (i number position : ℕ) (source : text.StateName) (ps : List PlacedRule) (whole : List rules.PlacedRule) (room count : ℕ) : Type 0 where
  pub placed : placed_views ps ++ rules_in number position source (map rule_view (drop i rs)) ≡ whole
  pub sizes : HaveSizes (drop i rs)
  pub room_left : position + size_of_rules (drop i rs) ≤ room
  pub count_left : number + length (drop i rs) ≡ count

rules-turn-at : (rs : List WrittenRule) (i : ℕ) (d : WrittenRule) (number position : ℕ) (source : text.StateName) (ps pushed : List PlacedRule) (p : PlacedRule) (whole : List rules.PlacedRule) (room count : ℕ) → i < length rs
    → placed_view p ≡ record { number = number; position = position; source = source; rule = rule_view (get_or rs i d) } → pushed ≡ ps ++ (p ∷ [])
    → placed_views ps ++ rules_in number position source (map rule_view (drop i rs)) ≡ whole → HaveSizes (drop i rs) → position + size_of_rules (drop i rs) ≤ room → number + length (drop i rs) ≡ count
    → RulesLeft rs (i + 1) (number + 1) (position + ((get_or rs i d).size + 1)) source pushed whole room count
rules-turn-at rs i d number position source ps pushed p whole room count h e n w z r k =
    let here = rules-sizes-next rs i d h z in
    let total = rules-total-next rs i d h in
    let a = length-drop i rs in
    let b = length-drop (i + 1) rs in
    record {
      placed = rules-next rs i d number position source ps pushed p whole h here.0 e n w;
      sizes = here.1;
      room_left = omega (arith, total, r);
      count_left = omega (arith, k, a, b, h);
    }

-- the same where the rule that stands there is known
pub rules-turn : (rs : List WrittenRule) (i : ℕ) (x : WrittenRule) (number position : ℕ) (source : text.StateName) (ps pushed : List PlacedRule) (p : PlacedRule) (whole : List rules.PlacedRule) (room count : ℕ) → i < length rs → x ≡ get_or rs i x
    → placed_view p ≡ record { number = number; position = position; source = source; rule = rule_view x } → pushed ≡ ps ++ (p ∷ [])
    → placed_views ps ++ rules_in number position source (map rule_view (drop i rs)) ≡ whole → HaveSizes (drop i rs) → position + size_of_rules (drop i rs) ≤ room → number + length (drop i rs) ≡ count
    → RulesLeft rs (i + 1) (number + 1) (position + (x.size + 1)) source pushed whole room count
rules-turn rs i x number position source ps pushed p whole room count h e =
    subst (λ y. placed_view p ≡ record { number = number; position = position; source = source; rule = rule_view y } → pushed ≡ ps ++ (p ∷ [])
    → placed_views ps ++ rules_in number position source (map rule_view (drop i rs)) ≡ whole → HaveSizes (drop i rs) → position + size_of_rules (drop i rs) ≤ room → number + length (drop i rs) ≡ count
    → RulesLeft rs (i + 1) (number + 1) (position + (y.size + 1)) source pushed whole room count) (sym e)
    (rules-turn-at rs i x number position source ps pushed p whole room count h)

pub rules-end : (rs : List WrittenRule) (i number position : ℕ) (source : text.StateName) (ps : List PlacedRule) (whole : List rules.PlacedRule) → length rs ≤ i
    → placed_views ps ++ rules_in number position source (map rule_view (drop i rs)) ≡ whole → placed_views ps ≡ whole
rules-end rs i number position source ps whole h w =
    sym (append-nil (placed_views ps)) ∙ sym (ap (λ x. placed_views ps ++ rules_in number position source x) (mapped-end rule_view rs i h)) ∙ w

-- a section has as many rules as are counted
pub count-rules : (rs : List WrittenRule) → 0 < length rs → length (text.members (row_from no_rule (map rule_view rs))) ≡ length rs
count-rules rs h =
    let e : length (map rule_view rs) ≡ length rs = length-map rs rule_view in
    ap length (members-row no_rule (map rule_view rs) (omega (arith, e))) ∙ e

length-from : (number position : ℕ) (source : text.StateName) (rs : text.Row text.WrittenRule) → length (rules.rules_from number position source rs) ≡ length (text.members rs)
length-from number position source (text.lone r) = refl
length-from number position source (text.row r rs) = ap suc (length-from (number + 1) (position + rules.size (rule_phrase r) + 1) source rs)

length-content : (number position : ℕ) (c : text.Content) → length (rules.rules_of_content number position c) ≡ rules.count_of_rules c
length-content number position text.Nothing = refl
length-content number position (text.Declares d) = refl
length-content number position (text.Rules s) = length-from number (position + rules.size (state_phrase s.source) + 1) s.source s.rules

-- the rules of one more clause
pub clause-rules-next : (cs : List Clause) (i : ℕ) (d : Clause) (number position : ℕ) (ps new : List PlacedRule) (whole : List rules.PlacedRule) → i < length cs
    → (get_or cs i d).size ≡ length (clause_tokens (clause_view (get_or cs i d)))
    → placed_views new ≡ placed_views ps ++ rules.rules_of_content number (rules.behind_head position (clause_view (get_or cs i d))) (content_view (get_or cs i d).content)
    → placed_views ps ++ rules.placed_rules number position (clause_views (drop i cs)) ≡ whole
    → placed_views new ++ rules.placed_rules (number + rules.count_of_rules (content_view (get_or cs i d).content)) (position + (get_or cs i d).size) (clause_views (drop (i + 1) cs)) ≡ whole
clause-rules-next cs i d number position ps new whole h s n w =
    let rest = λ (k : ℕ). rules.placed_rules (number + rules.count_of_rules (content_view (get_or cs i d).content)) (position + k) (clause_views (drop (i + 1) cs)) in
    let here = rules.rules_of_content number (rules.behind_head position (clause_view (get_or cs i d))) (content_view (get_or cs i d).content) in
    ap (λ k. placed_views new ++ rest k) s
    ∙ ap (λ x. x ++ rest (length (clause_tokens (clause_view (get_or cs i d))))) n
    ∙ append_assoc (placed_views ps) here (rest (length (clause_tokens (clause_view (get_or cs i d)))))
    ∙ sym (ap (λ x. placed_views ps ++ rules.placed_rules number position x) (mapped-drop clause_view cs i d h))
    ∙ w

pub clause-rules-end : (cs : List Clause) (i number position : ℕ) (ps : List PlacedRule) (whole : List rules.PlacedRule) → length cs ≤ i
    → placed_views ps ++ rules.placed_rules number position (clause_views (drop i cs)) ≡ whole → placed_views ps ≡ whole
clause-rules-end cs i number position ps whole h w =
    sym (append-nil (placed_views ps)) ∙ sym (ap (λ x. placed_views ps ++ rules.placed_rules number position x) (mapped-end clause_view cs i h)) ∙ w

-- Rules that are few from a number on are few behind a clause.
pub few-next : (cs : List Clause) (i : ℕ) (d : Clause) (number position : ℕ) → i < length cs
    → (get_or cs i d).size ≡ length (clause_tokens (clause_view (get_or cs i d)))
    → number + length (rules.placed_rules number position (clause_views (drop i cs))) ≤ 1001
    → (number + rules.count_of_rules (content_view (get_or cs i d).content) ≤ 1001)
    × (number + rules.count_of_rules (content_view (get_or cs i d).content) + length (rules.placed_rules (number + rules.count_of_rules (content_view (get_or cs i d).content)) (position + (get_or cs i d).size) (clause_views (drop (i + 1) cs))) ≤ 1001)
few-next cs i d number position h s f =
    let c = clause_view (get_or cs i d) in
    let count = rules.count_of_rules (content_view (get_or cs i d).content) in
    let here = rules.rules_of_content number (rules.behind_head position c) (content_view (get_or cs i d).content) in
    let rest = rules.placed_rules (number + count) (position + length (clause_tokens c)) (clause_views (drop (i + 1) cs)) in
    let parts : rules.placed_rules number position (clause_views (drop i cs)) ≡ here ++ rest = ap (rules.placed_rules number position) (mapped-drop clause_view cs i d h) in
    let total : length (rules.placed_rules number position (clause_views (drop i cs))) ≡ length here + length rest = ap length parts ∙ length-append here rest in
    let counted : length here ≡ count = length-content number (rules.behind_head position c) (content_view (get_or cs i d).content) in
    let moved : length (rules.placed_rules (number + count) (position + (get_or cs i d).size) (clause_views (drop (i + 1) cs))) ≡ length rest
    = ap (λ k. length (rules.placed_rules (number + count) (position + k) (clause_views (drop (i + 1) cs)))) s in
    (omega (arith, total, counted, f), omega (arith, total, counted, moved, f))

-- what holds of the clauses that are left
pub record ClausesLeft (cs : List Clause) (i number position : ℕ) (ps : List PlacedRule) (whole : List rules.PlacedRule) : Type 0 where
  pub placed : placed_views ps ++ rules.placed_rules number position (clause_views (drop i cs)) ≡ whole
  pub few : number + length (rules.placed_rules number position (clause_views (drop i cs))) ≤ 1001
  pub sizes : ClausesHaveSizes (drop i cs)
  pub room : position + size_of_all (drop i cs) < 2 ^ 31

-- the clause that stands there
pub record ClauseHere (c : Clause) (number position : ℕ) : Type 0 where
  pub few : number + rules.count_of_rules (content_view c.content) ≤ 1001
  pub sizes : ClauseHasSizes c
  pub room : position + c.size < 2 ^ 31

clause-here-at : (cs : List Clause) (i : ℕ) (d : Clause) (number position : ℕ) (ps : List PlacedRule) (whole : List rules.PlacedRule) → i < length cs → ClausesLeft cs i number position ps whole → ClauseHere (get_or cs i d) number position
clause-here-at cs i d number position ps whole h l =
    let s = sizes-next cs i d h l.sizes in
    let t = total-next cs i d h in
    let r = l.room in
    record { few = (few-next cs i d number position h s.0.0 l.few).0; sizes = s.0; room = omega (arith, t, r) }

pub clause-here : (cs : List Clause) (i : ℕ) (x : Clause) (number position : ℕ) (ps : List PlacedRule) (whole : List rules.PlacedRule) → i < length cs → x ≡ get_or cs i x → ClausesLeft cs i number position ps whole → ClauseHere x number position
clause-here cs i x number position ps whole h e l = subst (λ y. ClauseHere y number position) (sym e) (clause-here-at cs i x number position ps whole h l)

clause-turn-at : (cs : List Clause) (i : ℕ) (d : Clause) (number next position : ℕ) (ps new : List PlacedRule) (whole : List rules.PlacedRule) → i < length cs → ClausesLeft cs i number position ps whole
    → next ≡ number + rules.count_of_rules (content_view (get_or cs i d).content)
    → placed_views new ≡ placed_views ps ++ rules.rules_of_content number (rules.behind_head position (clause_view (get_or cs i d))) (content_view (get_or cs i d).content)
    → ClausesLeft cs (i + 1) next (position + (get_or cs i d).size) new whole
clause-turn-at cs i d number next position ps new whole h l n p =
    let s = sizes-next cs i d h l.sizes in
    let t = total-next cs i d h in
    let r = l.room in
    subst (λ m. ClausesLeft cs (i + 1) m (position + (get_or cs i d).size) new whole) (sym n) (record {
      placed = clause-rules-next cs i d number position ps new whole h s.0.0 p l.placed;
      few = (few-next cs i d number position h s.0.0 l.few).1;
      sizes = s.1;
      room = omega (arith, t, r);
    })

pub clause-turn : (cs : List Clause) (i : ℕ) (x : Clause) (number next position : ℕ) (ps new : List PlacedRule) (whole : List rules.PlacedRule) → i < length cs → x ≡ get_or cs i x → ClausesLeft cs i number position ps whole
    → next ≡ number + rules.count_of_rules (content_view x.content)
    → placed_views new ≡ placed_views ps ++ rules.rules_of_content number (rules.behind_head position (clause_view x)) (content_view x.content)
    → ClausesLeft cs (i + 1) next (position + x.size) new whole
clause-turn cs i x number next position ps new whole h e l =
    subst (λ y. next ≡ number + rules.count_of_rules (content_view y.content)
    → placed_views new ≡ placed_views ps ++ rules.rules_of_content number (rules.behind_head position (clause_view y)) (content_view y.content)
    → ClausesLeft cs (i + 1) next (position + y.size) new whole) (sym e)
    (clause-turn-at cs i x number next position ps new whole h l)

-- a number that is given is also another that is the same
pub number-moved : {E : Type 0} (r : Result ℕ E) (m n : ℕ) → m ≡ n → IfOk r (λ x. x ≡ m) → IfOk r (λ x. x ≡ n)
number-moved (Ok x) m n e h = h ∙ e
number-moved (Err f) m n e h = tt
