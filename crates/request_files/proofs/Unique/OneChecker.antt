-- A checker has at most one machine, its tokens have at most one fault, and never both.
use Rattle.std.proofs.Common.{◌≡◌, ℕ, List, length, Some, sym, ap, ◌∙◌, subst}
use Rattle.mx_base.specs.Names.{HasNoRepeats}
use Rattle.c_tree.specs.Symbol.{Symbol, symbols_of}
use Rattle.c_lexer.specs.declared.c_reading.mode.Mode.TheVariants.{Metal}
use Rattle.c_lexer.specs.Tokens.{TokenList}
use Rattle.metal_tree.specs.MetalMachines.Machine.{Machine}
use Rattle.metal_grammar.specs.Words.{Spelling}
use Rattle.metal_grammar.specs.Rules.{rules_of, rule_position}
use Rattle.metal_grammar.specs.FirstFault as text
use Rattle.metal_grammar.specs.Definition.{IsMachine}
use Rattle.metal_grammar.proofs.Machines.{machines_are_unique, first_faults_are_unique, never_both, texts_are_unique}
use Rattle.request_files.specs.FrontEnd.Checkers.{HasNoMachine, IsRuleAt, IsPlaceOf}
use Rattle.request_files.specs.FrontEnd.Faults.{of_text}
use Rattle.request_files.specs.FrontEnd.Found.{stands_first}
use Rattle.request_files.proofs.FrontEnd.AtTokens.{one_behind}
use Rattle.request_files.specs.declared.front_end.refusal.Faulty.{Faulty}
use Rattle.request_files.specs.Meanings.{AreCheckerTokens, IsChecker}
use Rattle.request_files.specs.Faults.{HasNoMeaning}
use Rattle.request_files.specs.Turns.{CheckerFile}
use Rattle.metal_written.specs.Strings.{with_strings}
use Rattle.request_files.proofs.Unique.NamesStay.{distinct_strings}
use Rattle.request_files.proofs.Unique.OneList.{one_list, names_once}

some_is : {A : Type 0} (x y : A) → Some x ≡ Some y → x ≡ y
some_is x y h = cc

one_rule : (names : Spelling) (ts : List Symbol) (rule p q : ℕ) → IsRuleAt names ts rule p → IsRuleAt names ts rule q → p ≡ q
one_rule names ts rule p q a b =
    let e = texts_are_unique names ts a.clauses b.clauses a.text b.text in
    some_is p q (sym a.here ∙ ap (λ cs. rule_position rule (rules_of cs)) e ∙ b.here)

one_position : (names : Spelling) (ts : List Symbol) (f : text.Fault) (p q : ℕ) → IsPlaceOf names ts f p → IsPlaceOf names ts f q → p ≡ q
one_position names ts (text.SyntaxAt at) p q a b = a ∙ sym b
one_position names ts (text.TooMany what at) p q a b = a ∙ sym b
one_position names ts (text.Twice name at) p q a b = a ∙ sym b
one_position names ts (text.UnknownCallout name at) p q a b = a ∙ sym b
one_position names ts (text.TwoVariables rule) p q a b = one_rule names ts rule p q a b
one_position names ts (text.BadSplit rule) p q a b = one_rule names ts rule p q a b
one_position names ts (text.BadSource rule) p q a b = one_rule names ts rule p q a b
one_position names ts (text.VariableMissing rule) p q a b = one_rule names ts rule p q a b
one_position names ts (text.BadFormat rule) p q a b = one_rule names ts rule p q a b

-- tokens have one fault
one_found : (names : Spelling) (list : TokenList) (a b : Faulty) → HasNoMachine names list a → HasNoMachine names list b → a ≡ b
one_found names list a b x y =
    let ts = symbols_of list.all in
    let f = first_faults_are_unique names ts x.fault y.fault x.first y.first in
    let p = one_position names ts y.fault (length x.before) (length y.before) (subst (λ z. IsPlaceOf names ts z (length x.before)) f x.place) y.place in
    let r = one_behind list.all x.before x.behind y.before y.behind x.parts y.parts p in
    x.there ∙ ap (λ z. stands_first (of_text z) x.behind list.end) f ∙ ap (λ ts. stands_first (of_text y.fault) ts list.end) r ∙ sym y.there

module _ (number : ℕ) (word : List ℕ) (before : Spelling) (bytes : List ℕ) (once : HasNoRepeats before) where
  pub one_tokens : (names grown : Spelling) (list other : TokenList) → AreCheckerTokens number word before names bytes list → AreCheckerTokens number word before grown bytes other → (names ≡ grown) × (list ≡ other)
  one_tokens names grown list other a b =
      let l = one_list Metal number word before a.read b.read bytes list other once a.tokens b.tokens in
      (a.named ∙ ap (λ ns. with_strings ns (symbols_of list.all)) l.0 ∙ ap (λ (x : TokenList). with_strings b.read (symbols_of x.all)) l.1 ∙ sym b.named, l.1)

  -- ONE MACHINE
  pub one_machine : (names grown : Spelling) (m n : Machine) → IsChecker number word before names bytes m → IsChecker number word before grown bytes n → (names ≡ grown) × (m ≡ n)
  one_machine names grown m n a b =
      let l = one_tokens names grown a.list b.list a.tokens b.tokens in
      let x : IsMachine grown (symbols_of b.list.all) m = subst (λ (z : TokenList). IsMachine grown (symbols_of z.all) m) l.1 (subst (λ ns. IsMachine ns (symbols_of a.list.all) m) l.0 a.is_machine) in
      (l.0, machines_are_unique grown (symbols_of b.list.all) m n x b.is_machine)

  -- the tokens of a machine have no fault
  pub fine_checker : (names grown : Spelling) (m : Machine) (found : Faulty) → IsChecker number word before names bytes m → HasNoMeaning CheckerFile number word before grown bytes found → ⊥
  fine_checker names grown m found a (list, tokens, n) =
      let l = one_tokens names grown a.list list a.tokens tokens in
      let x : IsMachine grown (symbols_of list.all) m = subst (λ (z : TokenList). IsMachine grown (symbols_of z.all) m) l.1 (subst (λ ns. IsMachine ns (symbols_of a.list.all) m) l.0 a.is_machine) in
      never_both grown (symbols_of list.all) m n.fault x n.first

  -- ONE FAULT
  pub one_checker_fault : (names grown : Spelling) (a b : Faulty) → HasNoMeaning CheckerFile number word before names bytes a → HasNoMeaning CheckerFile number word before grown bytes b → (names ≡ grown) × (a ≡ b)
  one_checker_fault names grown a b (list, tokens, n) (other, tokens2, n2) =
      let e = one_tokens names grown list other tokens tokens2 in
      let n1 : HasNoMachine grown other a = subst (λ (z : TokenList). HasNoMachine grown z a) e.1 (subst (λ ns. HasNoMachine ns list a) e.0 n) in
      (e.0, one_found grown other a b n1 n2)

  -- behind a checker no name stands twice
  pub checker_once : (names : Spelling) (m : Machine) → IsChecker number word before names bytes m → HasNoRepeats names
  checker_once names m a = subst HasNoRepeats (sym a.tokens.named) (distinct_strings a.tokens.read (symbols_of a.list.all) (names_once Metal number word before a.tokens.read bytes a.list once a.tokens.tokens))
