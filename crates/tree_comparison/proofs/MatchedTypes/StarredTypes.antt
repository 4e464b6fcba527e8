-- Types under stars, beside types of a unit.
use Rattle.std.proofs.Common.{arith, ◌≡◌, ℕ, zero, suc, ◌+◌, ◌<◌, List, [], ◌∷◌, Bool, true, false, cond, Option, None, Some, refl, ◌∙◌, sym, ap}
use Rattle.c_grammar.specs.Symbols.{is_sign}
use Rattle.c_objects.specs.Facts.{Facts}
use Rattle.c_tree.specs.declared.punctuator.Punctuator.TheVariants as marks
use Rattle.c_tree.specs.Symbol.{Symbol}
use Rattle.c_tree.specs.Syntax.{MaybeSyntax}
use Rattle.c_tree.specs.Syntax as syntax
use Rattle.type_rules.specs.Options.{if_there}
use Rattle.type_rules.specs.Types.{CType, Void, Arith, VaList, Pointer, Array, Func, Struct, Union}
use Rattle.tree_comparison.specs.MatchedTypes.Stars.{stars, under_stars, behind_stars, declared_stars}
use Rattle.hole_matching.proofs.Heads.{same_type-true, same_type-refl}
use Rattle.hole_matching.specs.Holes.{named_type}
use Rattle.hole_matching.specs.MatchedTypes.{MatchedType, matched_type, same_type}
use Rattle.hole_matching.specs.MatchedTypes as matched
use Rattle.hole_matching.specs.Written.{written_stars, around_written}
use Rattle.metal_tree.specs.MetalMachines.Machine.{NamedType}
use Rattle.metal_tree.specs.Views.{starred}

one-deeper : (n : ℕ) (t : MatchedType) → under_stars n (matched.Pointer t) ≡ matched.Pointer (under_stars n t)
one-deeper zero t = refl
one-deeper (suc n) t = ap matched.Pointer (one-deeper n t)

star-by : (c : Bool) (n : ℕ) (t : MatchedType) → under_stars n (cond c (matched.Pointer t) t) ≡ under_stars (cond c 1 0 + n) t
star-by true n t = one-deeper n t ∙ ap (λ k. under_stars k t) (let e : suc n ≡ 1 + n = grind arith in e)
star-by false n t = ap (λ k. under_stars k t) (let e : n ≡ 0 + n = grind arith in e)

pub written_are : (ss : List Symbol) (t : MatchedType) → written_stars ss t ≡ under_stars (stars ss) t
written_are [] t = refl
written_are (s ∷ ss) t = written_are ss (cond (is_sign marks.Star s) (matched.Pointer t) t) ∙ star-by (is_sign marks.Star s) (stars ss) t

pub named_are : (n : ℕ) (t : NamedType) → named_type (starred n t) ≡ under_stars n (named_type t)
named_are zero t = refl
named_are (suc n) t = ap matched.Pointer (named_are n t)

pub through_stars : (u : Facts) (n : ℕ) (c : CType) (t : MatchedType) → same_type (matched_type u c) (under_stars n t) ≡ if_there (behind_stars n c) false (λ x. same_type (matched_type u x) t)
through_stars u zero c t = refl
through_stars u (suc n) Void t = refl
through_stars u (suc n) (Arith k) t = refl
through_stars u (suc n) VaList t = refl
through_stars u (suc n) (Pointer c) t = through_stars u n c t
through_stars u (suc n) (Array c) t = refl
through_stars u (suc n) (Func c) t = refl
through_stars u (suc n) (Struct k) t = refl
through_stars u (suc n) (Union k) t = refl

pub same_turned : (a b : MatchedType) → same_type a b ≡ same_type b a
same_turned a b = by (same_type a b) (same_type b a) refl refl
  where
    by : (c d : Bool) → same_type a b ≡ c → same_type b a ≡ d → c ≡ d
    by true true e f = refl
    by false false e f = refl
    by true false e f = sym (sym f ∙ ap (λ z. same_type b z) (same_type-true a b e) ∙ same_type-refl b)
    by false true e f = sym e ∙ ap (λ z. same_type a z) (same_type-true b a f) ∙ same_type-refl a

around_are : (d : MaybeSyntax) (t : MatchedType) → around_written d t ≡ under_stars (declared_stars d) t
around_are syntax.absent t = refl
around_are (syntax.present (syntax.Primary k)) t = refl
around_are (syntax.present (syntax.Operation k)) t = refl
around_are (syntax.present (syntax.Initializer k)) t = refl
around_are (syntax.present (syntax.Specifier k)) t = refl
around_are (syntax.present (syntax.Declarator (syntax.Named a b c))) t = refl
around_are (syntax.present (syntax.Declarator (syntax.Nested a b c))) t = refl
around_are (syntax.present (syntax.Declarator (syntax.Unnamed a b))) t = written_are a t
around_are (syntax.present (syntax.Part k)) t = refl
around_are (syntax.present (syntax.Outer k)) t = refl
around_are (syntax.present (syntax.Statement k)) t = refl
around_are (syntax.present (syntax.Iteration k)) t = refl
around_are (syntax.present (syntax.Jump k)) t = refl

-- a type behind the stars of a declarator
pub around_type : (u : Facts) (c : CType) (d : MaybeSyntax) (t : MatchedType) → same_type (matched_type u c) (around_written d t) ≡ if_there (behind_stars (declared_stars d) c) false (λ x. same_type (matched_type u x) t)
around_type u c d t = ap (same_type (matched_type u c)) (around_are d t) ∙ through_stars u (declared_stars d) c t

-- a type behind the stars of a hole's type
pub starred_type : (u : Facts) (n : ℕ) (c : CType) (t : NamedType) → same_type (named_type (starred n t)) (matched_type u c) ≡ if_there (behind_stars n c) false (λ x. same_type (matched_type u x) (named_type t))
starred_type u n c t = same_turned (named_type (starred n t)) (matched_type u c) ∙ ap (same_type (matched_type u c)) (named_are n t) ∙ through_stars u n c (named_type t)
