-- Specifiers that are gone over one after the other.
use Rattle.std.proofs.Common.{◌≡◌, Bool, true, false, ◌||◌, List, [], ◌∷◌, ◌++◌, refl}
use Rattle.c_tree.specs.declared.keyword.Keyword.{Keyword}
use Rattle.c_tree.specs.declared.keyword.Keyword.TheVariants as words
use Rattle.c_tree.specs.Syntax.{Syntax, Syntaxes, no_more, more}
use Rattle.c_grammar.specs.Symbols.{same_keyword}
use Rattle.c_grammar.specs.Specifiers.{storages_of, storages}
use Rattle.c_grammar.specs.UnitGrammar.Names.{has_typedef}

pub typedef_none : has_typedef [] ≡ false
unfolding has_typedef
typedef_none = refl

pub typedef-one : (k : Keyword) → has_typedef (k ∷ []) ≡ same_keyword words.Typedef k
unfolding has_typedef
typedef-one k = by (same_keyword words.Typedef k)
  where
    by : (b : Bool) → (b || false) ≡ b
    by true = refl
    by false = refl

typedef-both : (ks ls : List Keyword) → has_typedef (ks ++ ls) ≡ (has_typedef ks || has_typedef ls)
unfolding has_typedef
typedef-both [] ls = refl
typedef-both (k ∷ ks) ls = by (same_keyword words.Typedef k) (typedef-both ks ls)
  where
    by : (b : Bool) → has_typedef (ks ++ ls) ≡ (has_typedef ks || has_typedef ls) → (b || has_typedef (ks ++ ls)) ≡ ((b || has_typedef ks) || has_typedef ls)
    by true e = refl
    by false e = e

pub typedef-more : (e : Syntax) (es : Syntaxes) → has_typedef (storages (more e es)) ≡ (has_typedef (storages_of e) || has_typedef (storages es))
unfolding storages
typedef-more e es = typedef-both (storages_of e) (storages es)

pub typedef-no_more : has_typedef (storages no_more) ≡ false
unfolding storages has_typedef
typedef-no_more = refl

pub ruleset typedefs = (typedef_none, typedef-one, typedef-more, typedef-no_more)
