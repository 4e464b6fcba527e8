-- Small requests, computed: the turns of their files, which names stand behind them, and which faults a file can have.
use Rattle.std.proofs.Common.{◌≡◌, ◌⊎◌, inl, inr, ℕ, List, [], ◌∷◌, Option, codes, false, refl, sym, ap, ◌∙◌}
use Rattle.mx_base.specs.Names.{names_after}
use Rattle.c_tree.specs.Symbol.{StringLiteral}
use Rattle.metal_written.specs.Strings.{with_strings}
use Rattle.c_lexer.specs.declared.c_reading.fault.Fault as reading
use Rattle.c_lexer.specs.declared.c_reading.fault.Fault.TheVariants as lexical
use Rattle.c_lexer.specs.declared.c_reading.mode.Mode.TheVariants.{C, Metal}
use Rattle.metal_grammar.specs.FirstFault as text
use Rattle.type_rules.specs.Faults as typing
use Rattle.request_files.specs.declared.front_end.refusal.Faulty.{Faulty}
use Rattle.request_files.specs.FrontEnd.Faults.{of_reading, of_text, of_typing}
use Rattle.request_files.specs.FrontEnd.Found.{HasNoTokens}
use Rattle.request_files.specs.Faults.{Before, Located, HasFault, HasNoMeaning, fault_name}
use Rattle.request_files.specs.Reading.{AreSound, at_first}
use Rattle.request_files.specs.Telling.{may_hold}
use Rattle.request_files.specs.Turns.{CheckerFile, SourceFile, turns, checker_turn, source_turn}
use Rattle.request_files.specs.declared.fault.Fault.TheVariants as faults

-- checkers come first, and the number of a file counts within its kind
two_of_each : turns (codes "f.metal" ∷ codes "g.metal" ∷ []) (codes "a.c" ∷ codes "b.c" ∷ [])
    ≡ checker_turn 0 (codes "f.metal") ∷ checker_turn 1 (codes "g.metal") ∷ source_turn 0 (codes "a.c") ∷ source_turn 1 (codes "b.c") ∷ []
two_of_each = refl

no_checker : turns [] (codes "a.c" ∷ []) ≡ source_turn 0 (codes "a.c") ∷ []
no_checker = refl

-- before the first file nothing has to be known
nothing_read : (told : List ℕ → Option (List ℕ)) (checkers sources : List (List ℕ)) → AreSound (may_hold told) at_first (turns checkers sources) [] at_first
nothing_read told checkers sources = record { agree = tt; sound = refl }

-- a name keeps the number of its first place, and the next new one has the next
three_names : names_after (names_after (names_after [] (codes "a")) (codes "b")) (codes "a") ≡ codes "a" ∷ codes "b" ∷ []
three_names = refl

-- the contents of strings come behind, in their order
two_strings : with_strings (codes "m" ∷ codes "\"p\"" ∷ codes "\"m\"" ∷ []) (StringLiteral false 1 ∷ StringLiteral false 2 ∷ []) ≡ codes "m" ∷ codes "\"p\"" ∷ codes "\"m\"" ∷ codes "p" ∷ []
two_strings = refl

-- a checker has no fault of names and types, and a C file none of holes and rules
of_bytes : (f : reading.Fault) → (of_reading f ≡ faults.Undeclared → ⊥) × (of_reading f ≡ faults.Twice → ⊥)
of_bytes lexical.BadByte = ((λ e. cc), (λ e. cc))
of_bytes lexical.OpenText = ((λ e. cc), (λ e. cc))
of_bytes lexical.BadNumber = ((λ e. cc), (λ e. cc))
of_bytes lexical.BadMarker = ((λ e. cc), (λ e. cc))

of_checker : (f : text.Fault) → of_text f ≡ faults.Undeclared → ⊥
of_checker (text.SyntaxAt at) e = cc
of_checker (text.TooMany what at) e = cc
of_checker (text.Twice name at) e = cc
of_checker (text.UnknownCallout name at) e = cc
of_checker (text.TwoVariables rule) e = cc
of_checker (text.BadSplit rule) e = cc
of_checker (text.BadSource rule) e = cc
of_checker (text.VariableMissing rule) e = cc
of_checker (text.BadFormat rule) e = cc

of_types : (f : typing.Fault) → of_typing f ≡ faults.Twice → ⊥
of_types (typing.Undeclared place name) e = cc
of_types (typing.NoField place name) e = cc
of_types (typing.Redeclared place name) e = cc
of_types (typing.NotPointer place) e = cc
of_types (typing.NotStruct place) e = cc
of_types (typing.NotFunction place) e = cc
of_types (typing.NotLvalue place) e = cc

no_text_fault : (b : Before) (word bytes : List ℕ) (l : Located) → l.fault ≡ faults.Undeclared → HasFault b (checker_turn 0 word) bytes l → ⊥
no_text_fault b word bytes l u (inl (large, e)) = let x : faults.TooLarge ≡ faults.Undeclared = sym (ap (λ (k : Located). k.fault) e) ∙ u in cc
no_text_fault b word bytes l u (inr (small, h)) = by h.faulty
  where
    by : HasNoTokens Metal word h.names bytes h.found ⊎ HasNoMeaning CheckerFile 0 word b.names h.names bytes h.found → ⊥
    by (inl n) = (of_bytes n.kind).0 (sym n.fault ∙ h.fault_is ∙ u)
    by (inr (list, tokens, n)) = of_checker n.fault (sym (ap (λ (f : Faulty). f.fault) n.there) ∙ h.fault_is ∙ u)

no_checker_fault : (b : Before) (word bytes : List ℕ) (l : Located) → l.fault ≡ faults.Twice → HasFault b (source_turn 0 word) bytes l → ⊥
no_checker_fault b word bytes l u (inl (large, e)) = let x : faults.TooLarge ≡ faults.Twice = sym (ap (λ (k : Located). k.fault) e) ∙ u in cc
no_checker_fault b word bytes l u (inr (small, h)) = by h.faulty
  where
    by : HasNoTokens C word h.names bytes h.found ⊎ HasNoMeaning SourceFile 0 word b.names h.names bytes h.found → ⊥
    by (inl n) = (of_bytes n.kind).1 (sym n.fault ∙ h.fault_is ∙ u)
    by (inr (list, tokens, inl n)) = let x : faults.Syntax ≡ faults.Twice = sym (ap (λ (f : Faulty). f.fault) n.there) ∙ h.fault_is ∙ u in cc
    by (inr (list, tokens, inr n)) = of_types n.fault (sym (ap (λ (f : Faulty). f.fault) n.there) ∙ h.fault_is ∙ u)

twice : fault_name faults.Twice ≡ codes "Twice"
twice = refl
