-- Initial values and declarators that are read in a loop, and how high they are.
use Rattle.std.proofs.Common.{◌≡◌, ℕ, ◌-◌, ◌<◌, ◌≤◌, Bool, List, [], ◌∷◌, ◌++◌, length, Option, None, Some, Result, Ok, Err, IsErrAnd, inl, inr, ap, refl, ◌∙◌, sym, subst, arith}
use Rattle.c_tree.specs.declared.tree.Tree.{Tree}
use Rattle.c_tree.specs.declared.token.Token.{Token}
use Rattle.c_tree.specs.declared.punctuator.Punctuator.TheVariants as marks
use Rattle.c_tree.specs.Symbol.{Symbol, Word, symbols_of}
use Rattle.c_tree.specs.Syntax.{Syntax, Primary, Initializer, Declarator, Ident, Init, Named, Nested, Syntaxes}
use Rattle.c_tree.specs.Height.{height_of}
use Rattle.c_tree.specs.Forget.{view, view_all}
use Rattle.c_grammar.specs.Symbols.{after_sign, begins, is_sign}
use Rattle.c_grammar.specs.Levels.{assignment_level}
use Rattle.c_grammar.specs.Names.{Names, name_of, with_name}
use Rattle.c_grammar.specs.Nonterminal.{Form, Expression, DeclaratorIn}
use Rattle.c_grammar.specs.Found.{Found, made, Reader}
use Rattle.c_grammar.specs.Reading.{read as read_expressions}
use Rattle.c_grammar.proofs.Options.{which, made_low}
use Rattle.c_grammar.proofs.Sound.{read-sound as expressions-sound}
use Rattle.c_grammar.specs.UnitGrammar.Names.{declared_name, with_declarators}
use Rattle.c_grammar.specs.UnitGrammar.Construct.{BracedInitials, ConstructReader}
use Rattle.c_grammar.specs.Ways.DeclarationSteps.{read_initial, read_initialized}
use Rattle.c_grammar.specs.UnitGrammar.Reading.{read}
use Rattle.c_grammar.proofs.UnitGrammar.Sound.{read-sound as units-sound}
use Rattle.c_expr.specs.Gives.{Gives}
use Rattle.c_expr.specs.declared.fault.ExprFault.{ExprFault}
use Rattle.c_expr.specs.declared.fault.ExprFault.TheVariants.{NoTree}
use Rattle.c_expr.specs.declared.nodes.Read.{Read}
use Rattle.c_expr.proofs.Items.{before-none, last_one, height_in-push}
use Rattle.c_expr.proofs.StandingParts.{as_long}
use Rattle.c_parser.specs.CommaLists.{commas_after}
use Rattle.c_parser.proofs.Equations.{read-zero, read-some, read_initials-zero, read_initials-some, read_init_declarators-zero, read_init_declarators-some}

none-commas : (found : Option (Syntaxes × Bool × List Symbol)) → commas_after [] found ≡ found
none-commas None = refl
none-commas (Some es) = refl

-- a loop that begins with no trees
pub commas-start : (step : ℕ → Option (Syntaxes × Bool × List Symbol)) (all : List Tree) (ts : List Token) → all ≡ [] → commas_after all (step (length ts)) ≡ step (length (symbols_of ts))
commas-start step all ts e = ap (λ l. commas_after l (step (length ts))) e ∙ none-commas (step (length ts)) ∙ ap step (as_long ts)

pub declarator-height : (n : ℕ) (form : Form) (names : Names) (ts : List Symbol) (d : Syntax) (r : List Symbol) → read_expressions n (DeclaratorIn form) names ts ≡ Some (d, r) → height_of d ≤ n
declarator-height n form names ts d r h = (expressions-sound n (DeclaratorIn form) names ts d r h).height

pub initial-height : (n : ℕ) (names : Names) (ts : List Symbol) (e : Syntax) (r : List Symbol) → read_initial (read_expressions n) (read n) names ts ≡ Some (e, r) → height_of e ≤ n
initial-height n names ts e r h =
    elim (which (begins (is_sign marks.OpenBrace) ts) _ _ _ h) as (λ _. height_of e ≤ n) [
      | inl o ↦ (units-sound n BracedInitials names ts e r o.1).height
      | inr o ↦ (expressions-sound n (Expression assignment_level) names ts e r o.1).height
    ]

-- what has a name is a declarator
pub named-declared : (d : Syntax) (name : ℕ) → name_of d ≡ Some name → declared_name d ≡ Some name
named-declared (Declarator k) name h = h
named-declared _ name h = absurd cc

named-high : (d : Syntax) (name : ℕ) → name_of d ≡ Some name → 1 ≤ height_of d
named-high (Declarator (Named ps t es)) name h = omega arith
named-high (Declarator (Nested ps e es)) name h = omega arith
named-high _ name h = absurd cc

in_force : (d : Syntax) (name : ℕ) (type : Bool) (names inside : Names) → name_of d ≡ Some name → inside ≡ with_name (declared_name d) type names → inside ≡ (name, type) ∷ names
in_force d name type names inside h n = n ∙ ap (λ x. with_name x type names) (named-declared d name h)

-- a declarator with its initial value, which is at most m high
pub initialized-read : (result : Result Read ExprFault) (m : ℕ) (type : Bool) (names inside : Names) (d name e : Syntax) (word : ℕ) (ts behind rest : List Symbol)
    → 0 < m → after_sign marks.Assign ts ≡ Some behind → name_of d ≡ Some word → inside ≡ with_name (declared_name d) type names → name ≡ Primary (Ident (Word word))
    → read_initial (read_expressions (m - 1)) (read (m - 1)) inside behind ≡ Some (e, rest) → height_of d < m
    → Gives result (made m (Initializer (Init name d e)) rest) → Gives result (read_initialized (read_expressions (m - 1)) (read (m - 1)) type names d ts)
initialized-read result m type names inside d name e word ts behind rest p a h n i r l g = subst (Gives result) (low ∙ same ∙ sym step) g
  where
    named : height_of name ≡ 1
    named = ap height_of i

    low : made m (Initializer (Init name d e)) rest ≡ Some (Initializer (Init name d e), rest)
    low = let x = initial-height (m - 1) inside behind e rest r in let y = named-high d word h in made_low m (Initializer (Init name d e)) rest (omega (arith, p, l, x, y, named))

    same : ◌≡◌ {A = Option Found} (Some (Initializer (Init name d e), rest)) (Some (Initializer (Init (Primary (Ident (Word word))) d e), rest))
    same = let F : Syntax → Option Found = λ x. Some (Initializer (Init x d e), rest) in ap F i

    step : read_initialized (read_expressions (m - 1)) (read (m - 1)) type names d ts ≡ Some (Initializer (Init (Primary (Ident (Word word))) d e), rest)
    step = rw (a, h, sym (ap (λ x. read_initial (read_expressions (m - 1)) (read (m - 1)) x behind) (in_force d word type names inside h n)) ∙ r) refl

-- where its initial value isn't read, it isn't
pub initialized-lost : (result : Result Read ExprFault) (fault : ExprFault) (reader : Reader) (inner : ConstructReader) (type : Bool) (names inside : Names) (d : Syntax) (word : ℕ) (ts behind : List Symbol)
    → after_sign marks.Assign ts ≡ Some behind → name_of d ≡ Some word → inside ≡ with_name (declared_name d) type names
    → (fault ≡ NoTree → read_initial reader inner inside behind ≡ None) → IsErrAnd result (λ e. e ≡ fault)
    → Gives result (read_initialized reader inner type names d ts)
initialized-lost (Ok r) fault reader inner type names inside d word ts behind a h n l i = absurd i
initialized-lost (Err e) fault reader inner type names inside d word ts behind a h n l i = λ k.
    let lost : read_initial reader inner ((word, type) ∷ names) behind ≡ None = sym (ap (λ x. read_initial reader inner x behind) (in_force d word type names inside h n)) ∙ l (sym i ∙ k) in
    rw (a, h, lost) refl

-- a part is refused for want of memory alone
pub part-refused : (result : Result Read ExprFault) (fault : ExprFault) (part : Found) (found : Option Found) → (fault ≡ NoTree → Some part ≡ None) → IsErrAnd result (λ e. e ≡ fault) → Gives result found
part-refused (Ok r) fault part found l i = absurd i
part-refused (Err e) fault part found l i = λ k. let apart : Some part ≡ None = l (sym i ∙ k) in cc

both-declared : (type : Bool) (all : List Tree) (t : Tree) (names : Names) → with_declarators type (view_all (all ++ (t ∷ []))) names ≡ with_name (declared_name (view t)) type (with_declarators type (view_all all) names)
both-declared type [] t names = refl
both-declared type (a ∷ all) t names = both-declared type all t (with_name (declared_name (view a)) type names)

-- one more declarator is in force behind those before
pub declared-next : (type : Bool) (all pushed : List Tree) (t : Tree) (names a b : Names) → pushed ≡ all ++ (t ∷ []) → a ≡ with_declarators type (view_all all) names → b ≡ with_name (declared_name (view t)) type a
    → b ≡ with_declarators type (view_all pushed) names
declared-next type all pushed t names a b n f g =
    g ∙ ap (with_name (declared_name (view t)) type) f ∙ sym (both-declared type all t names) ∙ sym (ap (λ l. with_declarators type (view_all l) names) n)

pub declared-start : (type : Bool) (all : List Tree) (names : Names) → all ≡ [] → names ≡ with_declarators type (view_all all) names
declared-start type all names e = sym (ap (λ l. with_declarators type (view_all l) names) e)

pub ruleset reads = (read-zero, read-some)

pub ruleset initials = (read_initials-zero, read_initials-some, last_one, before-none, height_in-push)

pub ruleset init_declarators = (read_init_declarators-zero, read_init_declarators-some, last_one, before-none, height_in-push)
