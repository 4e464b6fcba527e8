-- The names that were declared `static`, as they are noted one after the other.
use Rattle.std.proofs.Common.{◌≡◌, ℕ, List, [], ◌∷◌, ◌++◌, length, drop, Bool, true, false, cond, nat_eq, ◌&&◌, ◌||◌, ap, refl, ◌∙◌, sym, subst, arith}
use Rattle.std.proofs.lemmas.Bool.Decides.{nat_tests}
use Rattle.std.proofs.Math.Seq.{drop-append_seam}
use Rattle.type_rules.specs.Functions.{is_file_static, was_static}
use Rattle.type_rules.specs.Options.{if_there}
use Rattle.type_rules.specs.Scopes.{Scopes, Entry, is_among}
use Rattle.type_rules.specs.Stays.{Stays}
use Rattle.unit_typing.specs.Statics.{static_name, statics_in}
use Rattle.unit_typing.specs.Units.{KnowsStatics}

or-assoc : (a b c : Bool) → (a || b) || c ≡ a || (b || c)
or-assoc true b c = refl
or-assoc false b c = refl

among-append : (n : ℕ) (xs ys : List ℕ) → is_among n (xs ++ ys) ≡ is_among n xs || is_among n ys
among-append n [] ys = refl
among-append n (x ∷ xs) ys = ap (λ b. nat_eq n x || b) (among-append n xs ys) ∙ sym (or-assoc (nat_eq n x) (is_among n xs) (is_among n ys))

static-append : (n : ℕ) (xs ys : List Entry) → was_static n (xs ++ ys) ≡ was_static n xs || was_static n ys
static-append n [] ys = refl
static-append n (x ∷ xs) ys =
    ap (λ b. nat_eq x.name n && if_there x.var false is_file_static || b) (static-append n xs ys)
    ∙ sym (or-assoc (nat_eq x.name n && if_there x.var false is_file_static) (was_static n xs) (was_static n ys))

among-one : (n m : ℕ) (b : Bool) → is_among n (cond b (m ∷ []) []) ≡ nat_eq m n && b
among-one n m true = by (nat_eq n m) (nat_eq m n) (grind (arith, nat_tests))
  where
    by : (a c : Bool) → a ≡ c → a || false ≡ c && true
    by true true e = refl
    by false false e = refl
    by true false e = cc
    by false true e = cc
among-one n m false = by (nat_eq m n)
  where
    by : (c : Bool) → false ≡ c && false
    by true = refl
    by false = refl

among-statics : (n : ℕ) (ks : List Entry) → is_among n (statics_in ks) ≡ was_static n ks
among-statics n [] = refl
among-statics n (k ∷ ks) =
    among-append n (static_name k) (statics_in ks)
    ∙ ap (λ b. b || is_among n (statics_in ks)) (among-one n k.name (if_there k.var false is_file_static))
    ∙ ap (λ b. nat_eq k.name n && if_there k.var false is_file_static || b) (among-statics n ks)

-- the names of an external definition more
pub knows-more : (old : List ℕ) (v w : Scopes) (before : ℕ) (new : List Entry) → KnowsStatics old v → Stays v w → before ≡ length v.names → new ≡ drop before w.names → KnowsStatics (old ++ statics_in new) w
knows-more old v w before new h s e k =
    let zs = s.names.0 in
    let same : new ≡ zs = k ∙ ap (λ n. drop n w.names) e ∙ ap (drop (length v.names)) s.names.1 ∙ drop-append_seam v.names zs in
    record {
      known = λ n.
          among-append n old (statics_in new) ∙ ap (λ b. b || is_among n (statics_in new)) (h.known n)
          ∙ ap (λ b. was_static n v.names || b) (among-statics n new ∙ ap (was_static n) same)
          ∙ sym (static-append n v.names zs) ∙ ap (was_static n) (sym s.names.1);
    }

pub knows-none : (v : Scopes) → v.names ≡ [] → KnowsStatics [] v
knows-none v e = record { known = λ n. sym (ap (was_static n) e) }
