-- The equations of the steps that read in a loop.
use Rattle.std.proofs.Common.{◌≡◌, ℕ, zero, suc, ◌-◌, ◌<◌, Bool, false, true, List, None, Some, refl, arith}
use Rattle.c_tree.specs.declared.punctuator.Punctuator.TheVariants as marks
use Rattle.c_tree.specs.Symbol.{Symbol}
use Rattle.c_tree.specs.Syntax.{Syntax, no_more, more}
use Rattle.c_grammar.specs.Symbols.{after_sign}
use Rattle.c_grammar.specs.Names.{Names, with_name}
use Rattle.c_grammar.specs.Nonterminal.{WithName, DeclaratorIn}
use Rattle.c_grammar.specs.Found.{◌>>=◌, if_there, Reader}
use Rattle.c_grammar.specs.UnitGrammar.Names.{declared, declared_name}
use Rattle.c_grammar.specs.UnitGrammar.Construct.{Construct, StructMember, BlockDeclaration, OneStatement, ConstructReader}
use Rattle.c_grammar.specs.Ways.TaggedSteps.{read_enumerator, read_enumerators, read_members, read_member_declarator, read_member_declarators}
use Rattle.c_grammar.specs.Ways.DeclarationSteps.{read_initial, read_initials, read_initialized, read_init_declarators}
use Rattle.c_grammar.specs.Ways.StatementSteps.{begins_declaration, read_statements, read_block_items}
use Rattle.c_grammar.specs.UnitGrammar.Reading.{read, read_construct}
use Rattle.c_grammar.specs.Reading.{read as read_expressions}

less : (n : ℕ) → suc n - 1 ≡ n
less n = omega arith

pub read-zero : (construct : Construct) (names : Names) (ts : List Symbol) → read 0 construct names ts ≡ None
unfolding read
read-zero construct names ts = refl

pub read-some : (m : ℕ) (construct : Construct) (names : Names) (ts : List Symbol) → 0 < m → read m construct names ts ≡ read_construct (read_expressions (m - 1)) (read (m - 1)) m construct names ts
unfolding read
read-some zero construct names ts h = absurd (omega arith)
read-some (suc m) construct names ts h = rw (less m) refl

pub read_statements-zero : (inner : ConstructReader) (names : Names) (ts : List Symbol) → read_statements inner names 0 ts ≡ None
unfolding read_statements
read_statements-zero inner names ts = refl

pub read_statements-some : (inner : ConstructReader) (names : Names) (f : ℕ) (ts : List Symbol) → 0 < f → read_statements inner names f ts
    ≡ if_there (after_sign marks.CloseBrace ts) (inner OneStatement names ts >>= λ e. read_statements inner names (f - 1) e.1 >>= λ es. Some (more e.0 es.0, es.1)) (λ rest. Some (no_more, rest))
unfolding read_statements
read_statements-some inner names zero ts h = absurd (omega arith)
read_statements-some inner names (suc f) ts h = rw (less f) refl

pub read_block_items-zero : (inner : ConstructReader) (names : Names) (ts : List Symbol) → read_block_items inner names 0 ts ≡ None
unfolding read_block_items
read_block_items-zero inner names ts = refl

pub read_block_items-some : (inner : ConstructReader) (names : Names) (f : ℕ) (ts : List Symbol) → 0 < f → begins_declaration names ts ≡ true
    → read_block_items inner names f ts ≡ (inner BlockDeclaration names ts >>= λ e. read_block_items inner (declared e.0 names) (f - 1) e.1 >>= λ es. Some (more e.0 es.0, es.1))
unfolding read_block_items
read_block_items-some inner names zero ts h b = absurd (omega arith)
read_block_items-some inner names (suc f) ts h b = rw (b, less f) refl

-- behind the declarations
pub read_block_items-end : (inner : ConstructReader) (names : Names) (f : ℕ) (ts : List Symbol) → begins_declaration names ts ≡ false → read_block_items inner names f ts ≡ read_statements inner names f ts
unfolding read_block_items read_statements
read_block_items-end inner names zero ts b = refl
read_block_items-end inner names (suc f) ts b = rw b refl

pub read_members-zero : (inner : ConstructReader) (names : Names) (ts : List Symbol) → read_members inner names 0 ts ≡ None
unfolding read_members
read_members-zero inner names ts = refl

pub read_members-some : (inner : ConstructReader) (names : Names) (f : ℕ) (ts : List Symbol) → 0 < f → read_members inner names f ts
    ≡ if_there (after_sign marks.CloseBrace ts) (inner StructMember names ts >>= λ e. read_members inner (declared e.0 names) (f - 1) e.1 >>= λ es. Some (more e.0 es.0, es.1)) (λ rest. Some (no_more, rest))
unfolding read_members
read_members-some inner names zero ts h = absurd (omega arith)
read_members-some inner names (suc f) ts h = rw (less f) refl

pub read_member_declarators-zero : (reader : Reader) (names : Names) (ts : List Symbol) → read_member_declarators reader names 0 ts ≡ None
unfolding read_member_declarators
read_member_declarators-zero reader names ts = refl

pub read_member_declarators-some : (reader : Reader) (names : Names) (f : ℕ) (ts : List Symbol) → 0 < f → read_member_declarators reader names f ts
    ≡ (read_member_declarator reader names ts >>= λ e. if_there (after_sign marks.Comma e.1)
    (after_sign marks.Semicolon e.1 >>= λ rest. Some (more e.0 no_more, rest))
    (λ others. read_member_declarators reader names (f - 1) others >>= λ es. Some (more e.0 es.0, es.1)))
unfolding read_member_declarators
read_member_declarators-some reader names zero ts h = absurd (omega arith)
read_member_declarators-some reader names (suc f) ts h = rw (less f) refl

pub read_enumerators-zero : (reader : Reader) (names : Names) (ts : List Symbol) → read_enumerators reader names 0 ts ≡ None
unfolding read_enumerators
read_enumerators-zero reader names ts = refl

pub read_enumerators-some : (reader : Reader) (names : Names) (f : ℕ) (ts : List Symbol) → 0 < f → read_enumerators reader names f ts
    ≡ (read_enumerator reader names ts >>= λ e. if_there (after_sign marks.Comma e.1)
    (after_sign marks.CloseBrace e.1 >>= λ rest. Some (more e.0 no_more, false, rest))
    (λ others. if_there (after_sign marks.CloseBrace others)
    (read_enumerators reader (declared e.0 names) (f - 1) others >>= λ es. Some (more e.0 es.0, es.1, es.2))
    (λ rest. Some (more e.0 no_more, true, rest))))
unfolding read_enumerators
read_enumerators-some reader names zero ts h = absurd (omega arith)
read_enumerators-some reader names (suc f) ts h = rw (less f) refl

pub read_initials-zero : (reader : Reader) (inner : ConstructReader) (names : Names) (ts : List Symbol) → read_initials reader inner names 0 ts ≡ None
unfolding read_initials
read_initials-zero reader inner names ts = refl

pub read_initials-some : (reader : Reader) (inner : ConstructReader) (names : Names) (f : ℕ) (ts : List Symbol) → 0 < f → read_initials reader inner names f ts
    ≡ (read_initial reader inner names ts >>= λ e. if_there (after_sign marks.Comma e.1)
    (after_sign marks.CloseBrace e.1 >>= λ rest. Some (more e.0 no_more, false, rest))
    (λ others. if_there (after_sign marks.CloseBrace others)
    (read_initials reader inner names (f - 1) others >>= λ es. Some (more e.0 es.0, es.1, es.2))
    (λ rest. Some (more e.0 no_more, true, rest))))
unfolding read_initials
read_initials-some reader inner names zero ts h = absurd (omega arith)
read_initials-some reader inner names (suc f) ts h = rw (less f) refl

pub read_init_declarators-zero : (reader : Reader) (inner : ConstructReader) (type : Bool) (names : Names) (d : Syntax) (ts : List Symbol) → read_init_declarators reader inner type names 0 d ts ≡ None
unfolding read_init_declarators
read_init_declarators-zero reader inner type names d ts = refl

pub read_init_declarators-some : (reader : Reader) (inner : ConstructReader) (type : Bool) (names : Names) (f : ℕ) (d : Syntax) (ts : List Symbol) → 0 < f → read_init_declarators reader inner type names f d ts
    ≡ (read_initialized reader inner type names d ts >>= λ e. if_there (after_sign marks.Comma e.1)
    (after_sign marks.Semicolon e.1 >>= λ rest. Some (more e.0 no_more, rest))
    (λ others. reader (DeclaratorIn WithName) (with_name (declared_name e.0) type names) others >>= λ next.
    read_init_declarators reader inner type (with_name (declared_name e.0) type names) (f - 1) next.0 next.1 >>= λ es. Some (more e.0 es.0, es.1)))
unfolding read_init_declarators
read_init_declarators-some reader inner type names zero d ts h = absurd (omega arith)
read_init_declarators-some reader inner type names (suc f) d ts h = rw (less f) refl
