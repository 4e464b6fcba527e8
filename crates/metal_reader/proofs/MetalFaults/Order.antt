-- The first of several faults, and how it is told.
use Rattle.std.proofs.Common.{◌≡◌, ◌⊎◌, inl, inr, ℕ, ◌+◌, ◌<◌, ◌≤◌, Bool, true, false, cond, List, [], ◌∷◌, length, get_or, drop, map, Option, None, Some, ap, refl, ◌∙◌, sym, subst}
use Rattle.metal_grammar.specs.FirstFault.{Fault, TooMany, Twice, UnknownCallout, TwoVariables, BadSplit, BadSource, VariableMissing, BadFormat, or_else, too_many, twice, unknown_at, fault_of_rule, fault_of_rules}
use Rattle.metal_grammar.specs.Faults.{unknown_callouts, names_two_variables, is_bad_split, is_bad_source, lacks_variable, is_bad_format}
use Rattle.metal_grammar.specs.Holes.{DeclaredHole}
use Rattle.metal_grammar.specs.Rules.{PlacedRule, variables_among}
use Rattle.metal_grammar.specs.Words.{Spelling}
use Rattle.metal_written.specs.declared.placed.PlacedRule as kept
use Rattle.metal_written.specs.Placed.{placed_view, placed_views}
use Rattle.metal_written.proofs.Any.{mapped-drop, mapped-end}
use Rattle.metal_clauses.specs.Places.{place_in}
use Rattle.metal_reader.specs.declared.metal_faults.fault.MetalFault.{MetalFault}
use Rattle.metal_reader.specs.declared.metal_faults.fault.MetalFault.TheVariants as faults
use Rattle.metal_numbers.specs.declared.metal_declared.which.Which.{Which}
use Rattle.metal_numbers.specs.declared.metal_declared.which.Which.TheVariants as which
use Rattle.metal_reader.specs.MetalFaults.Faults.{counted, fault_in}
use Rattle.metal_reader.specs.MetalFaults.FirstFaults.{what, rule_fault}
use Rattle.metal_numbers.specs.MetalRules.RuleFaults.{first_of}

-- This is refused for want of memory, or for this fault.
abbrev pub Tells : ℕ → MetalFault → Option Fault → Type 0
Tells file e found = (e ≡ faults.NoMemory) ⊎ ((fault : Fault) × (found ≡ Some fault) × (e ≡ fault_in file fault))

counted-what : (w : Which) → w ≡ counted (what w)
counted-what which.Variables = refl
counted-what which.Holes = refl
counted-what which.Rules = refl

pub limit_told : (w : Which) (file position : ℕ) (found : Option ℕ) → found ≡ Some position → Tells file (faults.TooMany w (place_in file position)) (too_many (what w) found)
limit_told w file position found h = inr (TooMany (what w) position, ap (too_many (what w)) h, ap (λ v. faults.TooMany v (place_in file position)) (counted-what w))

pub twice_told : (file name position : ℕ) (found : Option (ℕ × ℕ)) → found ≡ Some (name, position) → Tells file (faults.Twice name (place_in file position)) (twice found)
twice_told file name position found h = inr (Twice name position, ap twice h, refl)

-- a fault that comes first
pub told_first : (file : ℕ) (e : MetalFault) (a b : Option Fault) → Tells file e a → Tells file e (or_else a b)
told_first file e a b (inl h) = inl h
told_first file e a b (inr (fault, h, k)) = inr (fault, ap (λ o. or_else o b) h, k)

-- one behind what is no fault
pub told_later : (file : ℕ) (e : MetalFault) (a b : Option Fault) → a ≡ None → Tells file e b → Tells file e (or_else a b)
told_later file e a b n (inl h) = inl h
told_later file e a b n (inr (fault, h, k)) = inr (fault, ap (λ o. or_else o b) n ∙ h, k)

pub none_yet : (a b : Option Fault) → a ≡ None → b ≡ None → or_else a b ≡ None
none_yet a b h k = ap (λ o. or_else o b) h ∙ k

pub unknown_told : (file name position : ℕ) (names : List ℕ) (later : Option Fault) → first_of names ≡ Some name → Tells file (faults.UnknownCallout name (place_in file position)) (or_else (unknown_at position names) later)
unknown_told file name position [] later h = cc
unknown_told file name position (n ∷ ns) later h =
    let e : n ≡ name = cc in
    inr (UnknownCallout n position, refl, ap (λ m. faults.UnknownCallout m (place_in file position)) (sym e))

pub known_all : (position : ℕ) (names : List ℕ) (later : Option Fault) → first_of names ≡ None → or_else (unknown_at position names) later ≡ later
known_all position [] later h = refl
known_all position (n ∷ ns) later h = cc

-- the faults of a rule behind its callouts, one after the other
abbrev pub ladder : ℕ → Bool → Bool → Bool → Bool → Bool → Option Fault
ladder number two split source missing format =
    cond two (Some (TwoVariables number)) (
    cond split (Some (BadSplit number)) (
    cond source (Some (BadSource number)) (
    cond missing (Some (VariableMissing number)) (
    cond format (Some (BadFormat number)) None))))

pub two_told : (file number : ℕ) (b c d e : Bool) (a : Bool) → a ≡ true → Tells file (faults.TwoVariables number) (ladder number a b c d e)
two_told file number b c d e a h = inr (TwoVariables number, ap (λ x. ladder number x b c d e) h, refl)

pub split_told : (file number : ℕ) (c d e : Bool) (a b : Bool) → a ≡ false → b ≡ true → Tells file (faults.BadSplit number) (ladder number a b c d e)
split_told file number c d e a b g h = inr (BadSplit number, ap (λ x. ladder number x b c d e) g ∙ ap (λ x. ladder number false x c d e) h, refl)

pub source_told : (file number : ℕ) (d e : Bool) (a b c : Bool) → a ≡ false → b ≡ false → c ≡ true → Tells file (faults.BadSource number) (ladder number a b c d e)
source_told file number d e a b c f g h = inr (BadSource number, ap (λ x. ladder number x b c d e) f ∙ ap (λ x. ladder number false x c d e) g ∙ ap (λ x. ladder number false false x d e) h, refl)

pub missing_told : (file number : ℕ) (e : Bool) (a b c d : Bool) → a ≡ false → b ≡ false → c ≡ false → d ≡ true → Tells file (faults.VariableMissing number) (ladder number a b c d e)
missing_told file number e a b c d f g h i = inr (
  VariableMissing number,
  ap (λ x. ladder number x b c d e) f ∙ ap (λ x. ladder number false x c d e) g ∙ ap (λ x. ladder number false false x d e) h ∙ ap (λ x. ladder number false false false x e) i,
  refl,
)

pub format_told : (file number : ℕ) (a b c d e : Bool) → a ≡ false → b ≡ false → c ≡ false → d ≡ false → e ≡ true → Tells file (faults.BadFormat number) (ladder number a b c d e)
format_told file number a b c d e f g h i j = inr (
  BadFormat number,
  ap (λ x. ladder number x b c d e) f ∙ ap (λ x. ladder number false x c d e) g ∙ ap (λ x. ladder number false false x d e) h ∙ ap (λ x. ladder number false false false x e) i
      ∙ ap (λ x. ladder number false false false false x) j,
  refl,
)

pub none_told : (number : ℕ) (a b c d e : Bool) → a ≡ false → b ≡ false → c ≡ false → d ≡ false → e ≡ false → ladder number a b c d e ≡ None
none_told number a b c d e f g h i j =
    ap (λ x. ladder number x b c d e) f ∙ ap (λ x. ladder number false x c d e) g ∙ ap (λ x. ladder number false false x d e) h ∙ ap (λ x. ladder number false false false x e) i
    ∙ ap (λ x. ladder number false false false false x) j

-- where each callout is one of the language
pub behind_callouts : (spelling : Spelling) (variables holes : List ℕ) (r : PlacedRule) (file : ℕ) (e : MetalFault) → first_of (unknown_callouts spelling r.rule) ≡ None
    → Tells file e (ladder r.number (names_two_variables variables r) (is_bad_split r.rule r.rule.destination) (is_bad_source spelling variables r) (lacks_variable holes r) (is_bad_format spelling r.rule.action))
    → Tells file e (rule_fault spelling variables holes r)
behind_callouts spelling variables holes r file e n t =
    subst (Tells file e) (sym (known_all r.position (unknown_callouts spelling r.rule) (ladder r.number (names_two_variables variables r) (is_bad_split r.rule r.rule.destination) (is_bad_source spelling variables r) (lacks_variable holes r) (is_bad_format spelling r.rule.action)) n)) t

pub no_rule_fault : (spelling : Spelling) (variables holes : List ℕ) (r : PlacedRule) → first_of (unknown_callouts spelling r.rule) ≡ None
    → names_two_variables variables r ≡ false → is_bad_split r.rule r.rule.destination ≡ false → is_bad_source spelling variables r ≡ false → lacks_variable holes r ≡ false → is_bad_format spelling r.rule.action ≡ false
    → rule_fault spelling variables holes r ≡ None
no_rule_fault spelling variables holes r n a b c d e =
    known_all r.position (unknown_callouts spelling r.rule) (ladder r.number (names_two_variables variables r) (is_bad_split r.rule r.rule.destination) (is_bad_source spelling variables r) (lacks_variable holes r) (is_bad_format spelling r.rule.action)) n
    ∙ none_told r.number (names_two_variables variables r) (is_bad_split r.rule r.rule.destination) (is_bad_source spelling variables r) (lacks_variable holes r) (is_bad_format spelling r.rule.action) a b c d e

-- the names of the state variables and of all holes are those of the declared holes
pub of_declared : (spelling : Spelling) (hs : List DeclaredHole) (variables holes : List ℕ) (r : PlacedRule) → variables ≡ variables_among hs → holes ≡ map (λ h. h.name) hs
    → fault_of_rule spelling hs r ≡ rule_fault spelling variables holes r
of_declared spelling hs variables holes r a b = sym (ap (λ v. rule_fault spelling v holes r) a ∙ ap (λ h. rule_fault spelling (variables_among hs) h r) b)

rules-here : (spelling : Spelling) (hs : List DeclaredHole) (rs : List kept.PlacedRule) (i : ℕ) (r : kept.PlacedRule) → i < length rs → r ≡ get_or rs i r
    → fault_of_rules spelling hs (placed_views (drop i rs)) ≡ or_else (fault_of_rule spelling hs (placed_view r)) (fault_of_rules spelling hs (placed_views (drop (i + 1) rs)))
rules-here spelling hs rs i r h e =
    ap (fault_of_rules spelling hs) (mapped-drop placed_view rs i r h) ∙ ap (λ x. or_else (fault_of_rule spelling hs (placed_view x)) (fault_of_rules spelling hs (placed_views (drop (i + 1) rs)))) (sym e)

-- a rule without a fault is passed
pub rules_next : (spelling : Spelling) (hs : List DeclaredHole) (rs : List kept.PlacedRule) (i : ℕ) (r : kept.PlacedRule) (whole : Option Fault) → i < length rs → r ≡ get_or rs i r
    → fault_of_rule spelling hs (placed_view r) ≡ None → fault_of_rules spelling hs (placed_views (drop i rs)) ≡ whole → fault_of_rules spelling hs (placed_views (drop (i + 1) rs)) ≡ whole
rules_next spelling hs rs i r whole h e n w =
    ap (λ o. or_else o (fault_of_rules spelling hs (placed_views (drop (i + 1) rs)))) (sym n) ∙ sym (rules-here spelling hs rs i r h e) ∙ w

-- the first rule that has a fault
pub rules_told : (spelling : Spelling) (hs : List DeclaredHole) (rs : List kept.PlacedRule) (i : ℕ) (r : kept.PlacedRule) (whole : Option Fault) (file : ℕ) (fault : MetalFault) → i < length rs → r ≡ get_or rs i r
    → Tells file fault (fault_of_rule spelling hs (placed_view r)) → fault_of_rules spelling hs (placed_views (drop i rs)) ≡ whole → Tells file fault whole
rules_told spelling hs rs i r whole file fault h e t w =
    subst (Tells file fault) (sym (rules-here spelling hs rs i r h e) ∙ w) (told_first file fault (fault_of_rule spelling hs (placed_view r)) (fault_of_rules spelling hs (placed_views (drop (i + 1) rs))) t)

pub rules_end : (spelling : Spelling) (hs : List DeclaredHole) (rs : List kept.PlacedRule) (i : ℕ) → length rs ≤ i → fault_of_rules spelling hs (placed_views (drop i rs)) ≡ None
rules_end spelling hs rs i h = ap (fault_of_rules spelling hs) (mapped-end placed_view rs i h)

pub ruleset told = (limit_told, twice_told, told_first, told_later, none_yet, unknown_told, known_all, two_told, split_told, source_told, missing_told, format_told, none_told)
