-- Members and enumerators that are read one after the other, and what they declare.
use Rattle.std.proofs.Common.{◌≡◌, ℕ, ◌+◌, ◌-◌, ◌<◌, ◌≤◌, List, [], ◌∷◌, ◌++◌, length, Option, None, Some, Bool, Result, Ok, Err, IfOk, ap, refl, ◌∙◌, sym}
use Rattle.c_tree.specs.declared.tree.Tree.{Tree}
use Rattle.c_tree.specs.declared.tree.Trees.{Trees}
use Rattle.c_tree.specs.declared.token.Token.{Token}
use Rattle.c_tree.specs.declared.punctuator.Punctuator.TheVariants as marks
use Rattle.c_tree.specs.Symbol.{Symbol, symbols_of}
use Rattle.c_tree.specs.Syntax.{Syntax, Syntaxes}
use Rattle.c_tree.specs.Height.{height_of}
use Rattle.c_tree.specs.Forget.{view, view_all, list_view}
use Rattle.c_grammar.specs.Names.{Names}
use Rattle.c_grammar.specs.Nonterminal.{Nonterminal}
use Rattle.c_grammar.specs.Symbols.{after_sign}
use Rattle.c_grammar.specs.Specifiers.{InTypeName}
use Rattle.c_grammar.specs.Found.{made}
use Rattle.c_grammar.specs.Reading.{read as read_expressions}
use Rattle.c_grammar.proofs.Options.{made_some}
use Rattle.c_grammar.proofs.Sound.{read-sound}
use Rattle.c_grammar.specs.UnitGrammar.Construct.{SpecifiersIn, StructMember}
use Rattle.c_grammar.specs.UnitGrammar.Names.{declared, declared_by_all}
use Rattle.c_grammar.specs.UnitGrammar.Reading.{read}
use Rattle.c_grammar.specs.Ways.TaggedSteps.{read_declared_members}
use Rattle.c_expr.specs.Gives.{Gives}
use Rattle.c_expr.specs.declared.fault.ExprFault.{ExprFault}
use Rattle.c_expr.specs.declared.nodes.Read.{Read}
use Rattle.c_expr.proofs.Items.{before-none, last_one, height_in-push}
use Rattle.c_expr.proofs.StandingParts.{as_long}
use Rattle.c_parser.specs.CommaLists.{commas_after}
use Rattle.c_parser.proofs.Equations.{read-zero, read-some, read_members-zero, read_members-some, read_member_declarators-zero, read_member_declarators-some, read_enumerators-zero, read_enumerators-some}

declared-push : (all : List Tree) (t : Tree) (names : Names) → declared_by_all (view_all (all ++ (t ∷ []))) names ≡ declared (view t) (declared_by_all (view_all all) names)
declared-push [] t names = refl
declared-push (u ∷ all) t names = declared-push all t (declared (view u) names)

-- what one more declares
pub declared-next : (all pushed : List Tree) (t : Tree) (names a b : Names) → pushed ≡ all ++ (t ∷ []) → a ≡ declared_by_all (view_all all) names → b ≡ declared (view t) a → b ≡ declared_by_all (view_all pushed) names
declared-next all pushed t names a b n h d = d ∙ ap (declared (view t)) h ∙ sym (declared-push all t names) ∙ sym (ap (λ l. declared_by_all (view_all l) names) n)

pub declared-start : (all : List Tree) (names : Names) → all ≡ [] → names ≡ declared_by_all (view_all all) names
declared-start all names e = sym (ap (λ l. declared_by_all (view_all l) names) e)

pub declared-done : (trees : Trees) (all : List Tree) (names a : Names) → list_view trees ≡ view_all all → a ≡ declared_by_all (view_all all) names → a ≡ declared_by_all (list_view trees) names
declared-done trees all names a e h = h ∙ sym (ap (λ es. declared_by_all es names) e)

none-behind : (found : Option (Syntaxes × Bool × List Symbol)) → commas_after [] found ≡ found
none-behind None = refl
none-behind (Some es) = refl

pub commas-start : (step : ℕ → Option (Syntaxes × Bool × List Symbol)) (all : List Tree) (ts : List Token) → all ≡ [] → commas_after all (step (length ts)) ≡ step (length (symbols_of ts))
commas-start step all ts e = ap (λ l. commas_after l (step (length ts))) e ∙ none-behind (step (length ts)) ∙ ap step (as_long ts)

-- what a node declares that was made
pub made-declares : (r : Result Read ExprFault) (m : ℕ) (e : Syntax) (ts : List Symbol) (old new : Names) → Gives r (made m e ts) → new ≡ declared e old → IfOk r (λ x. new ≡ declared (view x.tree.now) old)
made-declares (Ok x) m e ts old new g h = let q = made_some m e (view x.tree.now) ts (symbols_of x.rest.now) g.0 in h ∙ ap (λ y. declared y old) q.1
made-declares (Err f) m e ts old new g h = tt

pub made-adds : (r : Result Read ExprFault) (m : ℕ) (e s : Syntax) (ts : List Symbol) → Gives r (made m e ts) → ((before : Names) → declared e before ≡ declared s before) → IfOk r (λ x. (before : Names) → declared (view x.tree.now) before ≡ declared s before)
made-adds (Ok x) m e s ts g h = let q = made_some m e (view x.tree.now) ts (symbols_of x.rest.now) g.0 in λ before. sym (ap (λ y. declared y before) q.1) ∙ h before
made-adds (Err f) m e s ts g h = tt

-- what a node declares as its specifiers do
pub adds-declares : (r : Result Read ExprFault) (s : Syntax) (old middle new : Names) → IfOk r (λ x. (before : Names) → declared (view x.tree.now) before ≡ declared s before) → middle ≡ declared s old → new ≡ middle → IfOk r (λ x. new ≡ declared (view x.tree.now) old)
adds-declares (Ok x) s old middle new a h n = n ∙ h ∙ sym (a old)
adds-declares (Err f) s old middle new a h n = tt

-- what is read is no higher than it may be
pub read-low : (n : ℕ) (nonterminal : Nonterminal) (names : Names) (ts : List Symbol) (e : Syntax) (r : List Symbol) → read_expressions n nonterminal names ts ≡ Some (e, r) → height_of e ≤ n
read-low n nonterminal names ts e r h = (read-sound n nonterminal names ts e r h).height

-- members behind their specifiers, which leave these names
pub member-read : (m : ℕ) (names a : Names) (ts r : List Symbol) (specs : Syntax) → 0 < m → after_sign marks.Semicolon ts ≡ None → read (m - 1) (SpecifiersIn InTypeName) names ts ≡ Some (specs, r) → a ≡ declared specs names
    → read m StructMember names ts ≡ read_declared_members (read_expressions (m - 1)) m a specs r
member-read m names a ts r specs p c h d = read-some m StructMember names ts p ∙ rw (c, h) (ap (λ x. read_declared_members (read_expressions (m - 1)) m x specs r) (sym d))

pub ruleset reads = (read-zero, read-some)

pub ruleset members = (read_members-zero, read_members-some, before-none, height_in-push)

pub ruleset member_declarators = (read_member_declarators-zero, read_member_declarators-some, last_one, before-none, height_in-push)

pub ruleset enumerators = (read_enumerators-zero, read_enumerators-some, last_one, before-none, height_in-push)
