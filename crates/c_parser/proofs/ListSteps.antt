-- Lists that are read in a loop: one more joins those before.
use Rattle.std.proofs.Common.{◌≡◌, ℕ, ◌-◌, ◌<◌, Bool, true, List, [], ◌∷◌, ◌++◌, Option, None, Some, ap, refl, ◌∙◌, sym}
use Rattle.c_tree.specs.declared.tree.Tree.{Tree}
use Rattle.c_tree.specs.declared.punctuator.Punctuator.TheVariants as marks
use Rattle.c_tree.specs.Symbol.{Symbol}
use Rattle.c_tree.specs.Syntax.{Syntax, Syntaxes, more}
use Rattle.c_tree.specs.Forget.{view}
use Rattle.c_grammar.specs.Symbols.{after_sign}
use Rattle.c_grammar.specs.Names.{Names, with_name}
use Rattle.c_grammar.specs.Nonterminal.{WithName, DeclaratorIn}
use Rattle.c_grammar.specs.Found.{◌>>=◌, Reader}
use Rattle.c_grammar.specs.UnitGrammar.Names.{declared, declared_name}
use Rattle.c_grammar.specs.UnitGrammar.Construct.{StructMember, BlockDeclaration, OneStatement, ConstructReader}
use Rattle.c_grammar.specs.Ways.TaggedSteps.{read_enumerator, read_enumerators, read_members, read_member_declarator, read_member_declarators}
use Rattle.c_grammar.specs.Ways.DeclarationSteps.{read_initial, read_initials, read_initialized, read_init_declarators}
use Rattle.c_grammar.specs.Ways.StatementSteps.{begins_declaration, read_statements, read_block_items}
use Rattle.c_expr.specs.Gives.{ending_with}
use Rattle.c_expr.proofs.Items.{before-push, ending-longer}
use Rattle.c_parser.specs.CommaLists.{commas_after}
use Rattle.c_parser.proofs.Equations.{read_statements-some, read_block_items-some, read_members-some, read_member_declarators-some, read_enumerators-some, read_initials-some, read_init_declarators-some}

abbrev Items : Type 0
Items = Option (Syntaxes × List Symbol)

abbrev CommaItems : Type 0
CommaItems = Option (Syntaxes × Bool × List Symbol)

-- as `ending_with` of the list that is longer by a tree
joins : (found whole : Items) (all pushed : List Tree) (t : Tree) (o : Items) → pushed ≡ all ++ (t ∷ [])
    → o ≡ (found >>= λ es. Some (more (view t) es.0, es.1)) → ending_with all o ≡ whole → ending_with pushed found ≡ whole
joins found whole all pushed t o p e w = ap (λ x. ending_with x found) p ∙ sym (ending-longer found all t) ∙ sym (ap (ending_with all) e) ∙ w

commas-longer : (found : CommaItems) (all : List Tree) (t : Tree) → commas_after all (found >>= λ es. Some (more (view t) es.0, es.1, es.2)) ≡ commas_after (all ++ (t ∷ [])) found
commas-longer None all t = refl
commas-longer (Some es) all t = let F : Syntaxes → CommaItems = λ s. Some (s, es.1, es.2) in ap F (sym (before-push all t es.0))

joins_commas : (found whole : CommaItems) (all pushed : List Tree) (t : Tree) (o : CommaItems) → pushed ≡ all ++ (t ∷ [])
    → o ≡ (found >>= λ es. Some (more (view t) es.0, es.1, es.2)) → commas_after all o ≡ whole → commas_after pushed found ≡ whole
joins_commas found whole all pushed t o p e w = ap (λ x. commas_after x found) p ∙ sym (commas-longer found all t) ∙ sym (ap (commas_after all) e) ∙ w

-- a statement; the names are as before behind it
pub statements-next : (inner : ConstructReader) (names a : Names) (f : ℕ) (ts r : List Symbol) (all pushed : List Tree) (t : Tree) (whole : Items)
    → 0 < f → a ≡ names → after_sign marks.CloseBrace ts ≡ None → inner OneStatement a ts ≡ Some (view t, r) → pushed ≡ all ++ (t ∷ [])
    → ending_with all (read_statements inner names f ts) ≡ whole → ending_with pushed (read_statements inner names (f - 1) r) ≡ whole
statements-next inner names a f ts r all pushed t whole p k c h n w =
    joins (read_statements inner names (f - 1) r) whole all pushed t (read_statements inner names f ts) n
    (rw (read_statements-some inner names f ts p, c, sym (ap (λ x. inner OneStatement x ts) k) ∙ h) refl) w

-- a declaration in a block; what it declares is in force behind it
pub block_items-next : (inner : ConstructReader) (a b : Names) (f : ℕ) (ts r : List Symbol) (all pushed : List Tree) (t : Tree) (whole : Items)
    → 0 < f → begins_declaration a ts ≡ true → inner BlockDeclaration a ts ≡ Some (view t, r) → b ≡ declared (view t) a → pushed ≡ all ++ (t ∷ [])
    → ending_with all (read_block_items inner a f ts) ≡ whole → ending_with pushed (read_block_items inner b (f - 1) r) ≡ whole
block_items-next inner a b f ts r all pushed t whole p c h d n w =
    ap (λ x. ending_with pushed (read_block_items inner x (f - 1) r)) d
    ∙ joins (read_block_items inner (declared (view t) a) (f - 1) r) whole all pushed t (read_block_items inner a f ts) n (rw (read_block_items-some inner a f ts p c, h) refl) w

-- members
pub members-next : (inner : ConstructReader) (a b : Names) (f : ℕ) (ts r : List Symbol) (all pushed : List Tree) (t : Tree) (whole : Items)
    → 0 < f → after_sign marks.CloseBrace ts ≡ None → inner StructMember a ts ≡ Some (view t, r) → b ≡ declared (view t) a → pushed ≡ all ++ (t ∷ [])
    → ending_with all (read_members inner a f ts) ≡ whole → ending_with pushed (read_members inner b (f - 1) r) ≡ whole
members-next inner a b f ts r all pushed t whole p c h d n w =
    ap (λ x. ending_with pushed (read_members inner x (f - 1) r)) d
    ∙ joins (read_members inner (declared (view t) a) (f - 1) r) whole all pushed t (read_members inner a f ts) n (rw (read_members-some inner a f ts p, c, h) refl) w

-- the declarator of a member and a comma
pub member_declarators-next : (reader : Reader) (names a : Names) (f : ℕ) (ts r others : List Symbol) (all pushed : List Tree) (t : Tree) (whole : Items)
    → 0 < f → a ≡ names → read_member_declarator reader a ts ≡ Some (view t, r) → after_sign marks.Comma r ≡ Some others → pushed ≡ all ++ (t ∷ [])
    → ending_with all (read_member_declarators reader names f ts) ≡ whole → ending_with pushed (read_member_declarators reader names (f - 1) others) ≡ whole
member_declarators-next reader names a f ts r others all pushed t whole p k h c n w =
    joins (read_member_declarators reader names (f - 1) others) whole all pushed t (read_member_declarators reader names f ts) n
    (rw (read_member_declarators-some reader names f ts p, sym (ap (λ x. read_member_declarator reader x ts) k) ∙ h, c) refl) w

-- an enumerator and a comma; its name is in force behind it
pub enumerators-next : (reader : Reader) (a b : Names) (f : ℕ) (ts r others : List Symbol) (all pushed : List Tree) (t : Tree) (whole : CommaItems)
    → 0 < f → read_enumerator reader a ts ≡ Some (view t, r) → after_sign marks.Comma r ≡ Some others → after_sign marks.CloseBrace others ≡ None → b ≡ declared (view t) a → pushed ≡ all ++ (t ∷ [])
    → commas_after all (read_enumerators reader a f ts) ≡ whole → commas_after pushed (read_enumerators reader b (f - 1) others) ≡ whole
enumerators-next reader a b f ts r others all pushed t whole p h c e d n w =
    ap (λ x. commas_after pushed (read_enumerators reader x (f - 1) others)) d
    ∙ joins_commas (read_enumerators reader (declared (view t) a) (f - 1) others) whole all pushed t (read_enumerators reader a f ts) n (rw (read_enumerators-some reader a f ts p, h, c, e) refl) w

-- an initial value and a comma
pub initials-next : (reader : Reader) (inner : ConstructReader) (names a : Names) (f : ℕ) (ts r others : List Symbol) (all pushed : List Tree) (t : Tree) (whole : CommaItems)
    → 0 < f → a ≡ names → read_initial reader inner a ts ≡ Some (view t, r) → after_sign marks.Comma r ≡ Some others → after_sign marks.CloseBrace others ≡ None → pushed ≡ all ++ (t ∷ [])
    → commas_after all (read_initials reader inner names f ts) ≡ whole → commas_after pushed (read_initials reader inner names (f - 1) others) ≡ whole
initials-next reader inner names a f ts r others all pushed t whole p k h c e n w =
    joins_commas (read_initials reader inner names (f - 1) others) whole all pushed t (read_initials reader inner names f ts) n
    (rw (read_initials-some reader inner names f ts p, sym (ap (λ x. read_initial reader inner x ts) k) ∙ h, c, e) refl) w

-- a declarator with or without an initial value, a comma and the next declarator; the name is in force behind it
pub init_declarators-next : (reader : Reader) (inner : ConstructReader) (type : Bool) (a b : Names) (f : ℕ) (d next : Syntax) (ts r others behind : List Symbol) (all pushed : List Tree) (t : Tree) (whole : Items)
    → 0 < f → read_initialized reader inner type a d ts ≡ Some (view t, r) → after_sign marks.Comma r ≡ Some others → b ≡ with_name (declared_name (view t)) type a
    → reader (DeclaratorIn WithName) b others ≡ Some (next, behind) → pushed ≡ all ++ (t ∷ [])
    → ending_with all (read_init_declarators reader inner type a f d ts) ≡ whole → ending_with pushed (read_init_declarators reader inner type b (f - 1) next behind) ≡ whole
init_declarators-next reader inner type a b f d next ts r others behind all pushed t whole p h c k g n w =
    let g' : reader (DeclaratorIn WithName) (with_name (declared_name (view t)) type a) others ≡ Some (next, behind) = sym (ap (λ x. reader (DeclaratorIn WithName) x others) k) ∙ g in
    ap (λ x. ending_with pushed (read_init_declarators reader inner type x (f - 1) next behind)) k
    ∙ joins (read_init_declarators reader inner type (with_name (declared_name (view t)) type a) (f - 1) next behind) whole all pushed t (read_init_declarators reader inner type a f d ts) n
    (rw (read_init_declarators-some reader inner type a f d ts p, h, c, g') refl) w
