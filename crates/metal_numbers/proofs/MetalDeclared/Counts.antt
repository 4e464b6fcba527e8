-- How many of something a clause declares: no more than it has tokens.
use Rattle.std.proofs.Common.{◌≡◌, ℕ, zero, ◌≤◌, Bool, true, false, cond, is_some, List, [], ◌∷◌, length, map, ap, refl, ◌∙◌, sym, subst, arith}
use Rattle.std.proofs.lemmas.List.{length-map}
use Rattle.metal_grammar.specs.Written.{members}
use Rattle.metal_grammar.specs.Phrases.{clause_tokens}
use Rattle.metal_written.specs.declared.written.Declaration.{Declaration}
use Rattle.metal_written.specs.declared.written.Section.{Section}
use Rattle.metal_written.specs.declared.written.WrittenRule.{WrittenRule}
use Rattle.metal_written.specs.declared.written.Content.{Content}
use Rattle.metal_written.specs.declared.written.Content.TheVariants as contents
use Rattle.metal_written.specs.declared.written.Clause.{Clause}
use Rattle.metal_written.specs.Sizes.{ClauseHasSizes, HasSizes, HaveSizes, size_of_rules}
use Rattle.metal_written.specs.Written.{declaration_view, section_view, content_view, rule_view, no_rule, maybe_head_view}
use Rattle.metal_written.proofs.Rows.{members-row}
use Rattle.metal_written.proofs.InSizes.{section-fits}
use Rattle.metal_numbers.specs.declared.metal_declared.which.Which.{Which}
use Rattle.metal_numbers.specs.declared.metal_declared.which.Which.TheVariants as which
use Rattle.metal_numbers.specs.MetalDeclared.Limits.{counting, limit_of}
use Rattle.metal_numbers.proofs.MetalDeclared.InNames.{names_room}

names-length : (d : Declaration) → length (members (declaration_view d).names) ≡ length d.names.now
names-length d = ap length (members-row zero d.names.now d.some)

rules-length : (s : Section) → length (members (section_view s).rules) ≡ length s.rules.now
rules-length s =
    let e = length-map s.rules.now rule_view in
    let h = s.some in
    ap length (members-row no_rule (map rule_view s.rules.now) (omega (arith, e, h))) ∙ e

-- names of holes, those of variables, and rules
pub holes_counted : (w : Which) (c : Content) (d : Declaration) → w ≡ which.Holes → c ≡ contents.Declares d → length d.names.now ≡ counting w (content_view c)
holes_counted w c d g h = sym (ap (λ v. counting v (content_view c)) g ∙ ap (λ x. counting which.Holes (content_view x)) h ∙ names-length d)

pub variables_counted : (w : Which) (c : Content) (d : Declaration) → w ≡ which.Variables → c ≡ contents.Declares d → is_some d.state ≡ true → length d.names.now ≡ counting w (content_view c)
variables_counted w c d g h s =
    sym (ap (λ v. counting v (content_view c)) g ∙ ap (λ x. counting which.Variables (content_view x)) h ∙ ap (λ b. cond b (length (members (declaration_view d).names)) 0) s ∙ names-length d)

pub rules_counted : (w : Which) (c : Content) (s : Section) → w ≡ which.Rules → c ≡ contents.Rules s → length s.rules.now ≡ counting w (content_view c)
rules_counted w c s g h = sym (ap (λ v. counting v (content_view c)) g ∙ ap (λ x. counting which.Rules (content_view x)) h ∙ rules-length s)

pub ruleset counts = (holes_counted, variables_counted, rules_counted)

rules-within : (rs : List WrittenRule) → length rs ≤ size_of_rules rs
rules-within [] = omega arith
rules-within (r ∷ rs) = let h = rules-within rs in omega (arith, h)

names-within : (c : Clause) (d : Declaration) → c.content ≡ contents.Declares d → ClauseHasSizes c → length d.names.now ≤ c.size
names-within c d e s = let h = names_room c d e s in omega (arith, h)

cond-within : (b : Bool) (n m : ℕ) → n ≤ m → cond b n 0 ≤ m
cond-within true n m h = h
cond-within false n m h = omega arith

section-within : (c : Clause) (s : Section) → c.content ≡ contents.Rules s → ClauseHasSizes c → length s.rules.now ≤ c.size
section-within c s e h =
    let sizes : HaveSizes s.rules.now = subst HasSizes e h.1 in
    let a = section-fits (maybe_head_view c.head) s c.closing c.size s.some sizes (h.0 ∙ ap (λ x. length (clause_tokens (record { head = maybe_head_view c.head; content = content_view x; closing = c.closing }))) e) in
    let b = rules-within s.rules.now in
    omega (arith, a, b)

pub count_within : (w : Which) (c : Clause) → ClauseHasSizes c → counting w (content_view c.content) ≤ c.size
count_within w c h = by w c.content refl
  where
    by : (v : Which) (x : Content) → c.content ≡ x → counting v (content_view x) ≤ c.size
    by which.Variables contents.Nothing e = omega arith
    by which.Variables (contents.Declares d) e = let k = names-length d in let l = names-within c d e h in cond-within (is_some d.state) (length (members (declaration_view d).names)) c.size (omega (arith, k, l))
    by which.Variables (contents.Rules s) e = omega arith
    by which.Holes contents.Nothing e = omega arith
    by which.Holes (contents.Declares d) e = let k = names-length d in let l = names-within c d e h in omega (arith, k, l)
    by which.Holes (contents.Rules s) e = omega arith
    by which.Rules contents.Nothing e = omega arith
    by which.Rules (contents.Declares d) e = omega arith
    by which.Rules (contents.Rules s) e = let k = rules-length s in let l = section-within c s e h in omega (arith, k, l)

-- the limits are low
pub limit-low : (w : Which) → limit_of w ≤ 1000
limit-low which.Variables = omega arith
limit-low which.Holes = omega arith
limit-low which.Rules = omega arith
