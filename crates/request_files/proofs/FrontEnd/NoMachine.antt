-- What the refusal of a text says of its tokens: which fault they have first, at which token, and that a rule's first token is there.
use Rattle.std.proofs.Common.{◌≡◌, ◌⊎◌, inl, inr, ℕ, ◌≤◌, Bool, true, false, cond, nat_eq, List, [], ◌∷◌, length, take, drop, map, Option, None, Some, ap, refl, sym, ◌∙◌, subst, take-append-drop, arith}
use Rattle.std.proofs.lemmas.Bool.Decides.{nat_tests}
use Rattle.std.proofs.lemmas.List.{length-map, length-take-le}
use Rattle.c_tree.specs.Symbol.{Symbol, symbol_of, symbols_of}
use Rattle.c_lexer.specs.Tokens.{TokenList}
use Rattle.metal_grammar.specs.Words.{Spelling}
use Rattle.metal_grammar.specs.Written.{Clause}
use Rattle.metal_grammar.specs.Holes.{DeclaredHole}
use Rattle.metal_grammar.specs.Grammar.{IsText}
use Rattle.metal_grammar.specs.Rules.{Declared, PlacedRule, declared_names, count_of_rules, holes_of, rules_of, rule_position, variables_among}
use Rattle.metal_tree.specs.MetalMachines.Limits.{most_variables, most_holes, most_rules}
use Rattle.metal_grammar.specs.Faults.{passing, count_of_variables, count_of_holes, repeated, unknown_callouts, names_two_variables, is_bad_split, is_bad_source, lacks_variable, is_bad_format}
use Rattle.metal_grammar.specs.FirstFault as text
use Rattle.metal_grammar.specs.FirstFault.{Fault, fault_of, fault_of_rule, fault_of_rules, or_else}
use Rattle.metal_grammar.specs.Definition.{IsFirstFault}
use Rattle.metal_reader.proofs.MetalPositions.Counting.{rules_are_counted}
use Rattle.metal_reader.specs.declared.metal_faults.fault.MetalFault.{MetalFault}
use Rattle.metal_reader.specs.declared.metal_faults.fault.MetalFault.TheVariants as faults
use Rattle.metal_reader.specs.MetalFaults.Faults.{fault_in}
use Rattle.metal_reader.specs.Faults.{IsFault, Refuses}
use Rattle.request_files.specs.declared.fault.Fault as kinds
use Rattle.request_files.specs.declared.front_end.refusal.Faulty.{Faulty as Found}
use Rattle.request_files.specs.declared.front_end.refusal.Refusal.TheVariants.{Faulty}
use Rattle.request_files.specs.FrontEnd.Faults.{of_text}
use Rattle.request_files.specs.FrontEnd.Checkers.{IsRuleAt, IsPlaceOf, HasNoMachine}
use Rattle.request_files.specs.FrontEnd.Refusals.{stands_behind, behind_or_end, stands_at_rule, unmade_as, refused_rule}
use Rattle.request_files.proofs.FrontEnd.InText.{place_within}

-- the number of the rule that a fault is of
abbrev rule_of : Fault → Option ℕ
rule_of (text.SyntaxAt at) = None
rule_of (text.TooMany what at) = None
rule_of (text.Twice name at) = None
rule_of (text.UnknownCallout name at) = None
rule_of (text.TwoVariables rule) = Some rule
rule_of (text.BadSplit rule) = Some rule
rule_of (text.BadSource rule) = Some rule
rule_of (text.VariableMissing rule) = Some rule
rule_of (text.BadFormat rule) = Some rule

abbrev rule_in : Option Fault → Option ℕ
rule_in None = None
rule_in (Some fault) = rule_of fault

either-in : (n : ℕ) (a b : Option Fault) → rule_in (or_else a b) ≡ Some n → (rule_in a ≡ Some n) ⊎ (rule_in b ≡ Some n)
either-in n None b h = inr h
either-in n (Some fault) b h = inl h

-- a rule's own faults have its number
own : (n position number : ℕ) (unknown : List ℕ) (a b c d e : Bool)
    → rule_in (or_else (text.unknown_at position unknown) (cond a (Some (text.TwoVariables number)) (cond b (Some (text.BadSplit number)) (cond c (Some (text.BadSource number)) (cond d (Some (text.VariableMissing number)) (cond e (Some (text.BadFormat number)) None)))))) ≡ Some n
    → number ≡ n
own n position number (name ∷ names) a b c d e h = cc
own n position number [] true b c d e h = cc
own n position number [] false true c d e h = cc
own n position number [] false false true d e h = cc
own n position number [] false false false true e h = cc
own n position number [] false false false false true h = cc
own n position number [] false false false false false h = cc

here : (n number position : ℕ) (later : Option ℕ) → number ≡ n → cond (nat_eq number n) (Some position) later ≡ Some position
here n number position later e = let same : nat_eq number n ≡ true = grind (arith, nat_tests) in ap (λ b. cond b (Some position) later) same

later : (b : Bool) (position p : ℕ) (o : Option ℕ) → o ≡ Some p → (q : ℕ) × (cond b (Some position) o ≡ Some q)
later true position p o e = (position, refl)
later false position p o e = (p, e)

rule_found : (spelling : Spelling) (holes : List DeclaredHole) (n : ℕ) (rs : List PlacedRule) → rule_in (fault_of_rules spelling holes rs) ≡ Some n → (p : ℕ) × (rule_position n rs ≡ Some p)
rule_found spelling holes n [] h = cc
rule_found spelling holes n (r ∷ rs) h = by (either-in n (fault_of_rule spelling holes r) (fault_of_rules spelling holes rs) h) (rule_found spelling holes n rs)
  where
    by : (rule_in (fault_of_rule spelling holes r) ≡ Some n) ⊎ (rule_in (fault_of_rules spelling holes rs) ≡ Some n) → (rule_in (fault_of_rules spelling holes rs) ≡ Some n → (p : ℕ) × (rule_position n rs ≡ Some p))
        → (p : ℕ) × (rule_position n (r ∷ rs) ≡ Some p)
    by (inl e) next = (r.position, here n r.number r.position (rule_position n rs) (own n r.position r.number (unknown_callouts spelling r.rule) (names_two_variables (variables_among holes) r) (is_bad_split r.rule r.rule.destination) (is_bad_source spelling (variables_among holes) r) (lacks_variable (map (λ h. h.name) holes) r) (is_bad_format spelling r.rule.action) e))
    by (inr e) next = let found = next e in later (nat_eq r.number n) r.position found.0 (rule_position n rs) found.1

not-counted : (n : ℕ) (what : text.Counted) (o : Option ℕ) (rest : Option Fault) → rule_in (or_else (text.too_many what o) rest) ≡ Some n → rule_in rest ≡ Some n
not-counted n what None rest h = h
not-counted n what (Some position) rest h = cc

not-twice : (n : ℕ) (o : Option Declared) (rest : Option Fault) → rule_in (or_else (text.twice o) rest) ≡ Some n → rule_in rest ≡ Some n
not-twice n None rest h = h
not-twice n (Some d) rest h = cc

-- a fault of a rule in a text is one of a rule that is there
rule_there : (spelling : Spelling) (cs : List Clause) (n : ℕ) → rule_in (fault_of spelling cs) ≡ Some n → (p : ℕ) × (rule_position n (rules_of cs) ≡ Some p)
rule_there spelling cs n h =
    let a = not-counted n text.Variables (passing count_of_variables most_variables 0 0 cs) _ h in
    let b = not-counted n text.Holes (passing count_of_holes most_holes 0 0 cs) _ a in
    let c = not-counted n text.AllRules (passing count_of_rules most_rules 0 0 cs) _ b in
    rule_found spelling (holes_of spelling cs) n (rules_of cs) (not-twice n (repeated [] (declared_names 0 cs)) _ c)

rule_at : (names : Spelling) (ts : List Symbol) (first : Fault) (n : ℕ) → IsFirstFault names ts first → rule_of first ≡ Some n → (p : ℕ) × IsRuleAt names ts n p
rule_at names ts first n (inl (at, unread, e)) h = let none : rule_of first ≡ None = ap rule_of e in cc
rule_at names ts first n (inr (cs, is_text, e)) h =
    let found = rule_there names cs n (ap rule_in e ∙ h) in
    (found.0, record { clauses = cs; text = is_text; here = found.1 })

-- where a rule begins is found by counting
first_of_rule : (names : Spelling) (list : TokenList) (fault : kinds.Fault) (n p : ℕ) → IsRuleAt names (symbols_of list.all) n p → stands_at_rule list fault n ≡ stands_behind list fault p
first_of_rule names list fault n p w = ap (behind_or_end list fault) (sym (rules_are_counted names (symbols_of list.all) w.clauses n w.text) ∙ w.here)

same : (a b : Found) → Faulty a ≡ Faulty b → b ≡ a
same a b h = cc

-- so many tokens stand before the place of the first fault
behind_these : (names : Spelling) (list : TokenList) (first : Fault) (p : ℕ) (found : Found) → IsFirstFault names (symbols_of list.all) first → IsPlaceOf names (symbols_of list.all) first p
    → found ≡ stands_behind list (of_text first) p → HasNoMachine names list found
behind_these names list first p found w is_place there =
    let a = place_within names (symbols_of list.all) first p w is_place in
    let b : length (symbols_of list.all) ≡ length list.all = length-map list.all symbol_of in
    let within : p ≤ length list.all = omega (arith, a, b) in
    record {
      fault = first;
      first = w;
      before = take p list.all;
      behind = drop p list.all;
      parts = sym (take-append-drop p list.all);
      place = subst (IsPlaceOf names (symbols_of list.all) first) (sym (length-take-le p list.all within)) is_place;
      there = there;
    }

at-rule : (names : Spelling) (list : TokenList) (first : Fault) (n : ℕ) (found : Found) → ((p : ℕ) → IsRuleAt names (symbols_of list.all) n p → IsPlaceOf names (symbols_of list.all) first p)
    → IsFirstFault names (symbols_of list.all) first → rule_of first ≡ Some n → Faulty (stands_at_rule list (of_text first) n) ≡ Faulty found → HasNoMachine names list found
at-rule names list first n found is_place w r h =
    let place = rule_at names (symbols_of list.all) first n w r in
    behind_these names list first place.0 found w (is_place place.0 place.1) (same _ found h ∙ first_of_rule names list (of_text first) n place.0 place.1)

stands : (names : Spelling) (list : TokenList) (file : ℕ) (first : Fault) (found : Found) → IsFirstFault names (symbols_of list.all) first → unmade_as list (fault_in file first) ≡ Faulty found → HasNoMachine names list found
stands names list file (text.SyntaxAt at) found w h = behind_these names list (text.SyntaxAt at) at found w refl (same _ found h)
stands names list file (text.TooMany what at) found w h = behind_these names list (text.TooMany what at) at found w refl (same _ found h)
stands names list file (text.Twice name at) found w h = behind_these names list (text.Twice name at) at found w refl (same _ found h)
stands names list file (text.UnknownCallout name at) found w h = behind_these names list (text.UnknownCallout name at) at found w refl (same _ found h)
stands names list file (text.TwoVariables rule) found w h = at-rule names list (text.TwoVariables rule) rule found (λ p r. r) w refl h
stands names list file (text.BadSplit rule) found w h = at-rule names list (text.BadSplit rule) rule found (λ p r. r) w refl h
stands names list file (text.BadSource rule) found w h = at-rule names list (text.BadSource rule) rule found (λ p r. r) w refl h
stands names list file (text.VariableMissing rule) found w h = at-rule names list (text.VariableMissing rule) rule found (λ p r. r) w refl h
stands names list file (text.BadFormat rule) found w h = at-rule names list (text.BadFormat rule) rule found (λ p r. r) w refl h

faulty : (names : Spelling) (list : TokenList) (file : ℕ) (fault : MetalFault) (found : Found) → IsFault names (symbols_of list.all) file fault → unmade_as list fault ≡ Faulty found → HasNoMachine names list found
faulty names list file fault found (first, w, e) h = stands names list file first found w (ap (unmade_as list) (sym e) ∙ h)

-- tokens that are refused are no machine
pub no_machine : (names : Spelling) (list : TokenList) (file : ℕ) (fault : MetalFault) (found : Found) → Refuses names (symbols_of list.all) file fault → unmade_as list fault ≡ Faulty found → HasNoMachine names list found
no_machine names list file faults.NoMemory found r h = cc
no_machine names list file (faults.Syntax place) found r h = faulty names list file (faults.Syntax place) found r h
no_machine names list file (faults.TooMany which place) found r h = faulty names list file (faults.TooMany which place) found r h
no_machine names list file (faults.Twice name place) found r h = faulty names list file (faults.Twice name place) found r h
no_machine names list file (faults.UnknownCallout name place) found r h = faulty names list file (faults.UnknownCallout name place) found r h
no_machine names list file (faults.TwoVariables rule) found r h = faulty names list file (faults.TwoVariables rule) found r h
no_machine names list file (faults.BadSplit rule) found r h = faulty names list file (faults.BadSplit rule) found r h
no_machine names list file (faults.BadSource rule) found r h = faulty names list file (faults.BadSource rule) found r h
no_machine names list file (faults.VariableMissing rule) found r h = faulty names list file (faults.VariableMissing rule) found r h
no_machine names list file (faults.BadFormat rule) found r h = faulty names list file (faults.BadFormat rule) found r h

same-rule : (file : ℕ) (first : Fault) → refused_rule (fault_in file first) ≡ rule_of first
same-rule file (text.SyntaxAt at) = refl
same-rule file (text.TooMany what at) = refl
same-rule file (text.Twice name at) = refl
same-rule file (text.UnknownCallout name at) = refl
same-rule file (text.TwoVariables rule) = refl
same-rule file (text.BadSplit rule) = refl
same-rule file (text.BadSource rule) = refl
same-rule file (text.VariableMissing rule) = refl
same-rule file (text.BadFormat rule) = refl

fault-text : (names : Spelling) (ts : List Symbol) (file : ℕ) (fault : MetalFault) (n : ℕ) → IsFault names ts file fault → refused_rule fault ≡ Some n → (cs : List Clause) × IsText names cs ts
fault-text names ts file fault n (first, inl (at, unread, e), k) h = let none : refused_rule fault ≡ None = ap refused_rule k ∙ same-rule file first ∙ ap rule_of e in cc
fault-text names ts file fault n (first, inr (cs, w, e), k) h = (cs, w)

-- where a rule has a fault, the symbols are a text
pub text_of : (names : Spelling) (ts : List Symbol) (file : ℕ) (fault : MetalFault) (n : ℕ) → Refuses names ts file fault → refused_rule fault ≡ Some n → (cs : List Clause) × IsText names cs ts
text_of names ts file faults.NoMemory n r h = cc
text_of names ts file (faults.Syntax place) n r h = cc
text_of names ts file (faults.TooMany which place) n r h = cc
text_of names ts file (faults.Twice name place) n r h = cc
text_of names ts file (faults.UnknownCallout name place) n r h = cc
text_of names ts file (faults.TwoVariables rule) n r h = fault-text names ts file (faults.TwoVariables rule) n r h
text_of names ts file (faults.BadSplit rule) n r h = fault-text names ts file (faults.BadSplit rule) n r h
text_of names ts file (faults.BadSource rule) n r h = fault-text names ts file (faults.BadSource rule) n r h
text_of names ts file (faults.VariableMissing rule) n r h = fault-text names ts file (faults.VariableMissing rule) n r h
text_of names ts file (faults.BadFormat rule) n r h = fault-text names ts file (faults.BadFormat rule) n r h
