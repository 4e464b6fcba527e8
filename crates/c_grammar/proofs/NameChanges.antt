-- The newest change stands in front, and the table says what its list says.
use Rattle.std.proofs.Common.{◌≡◌, ℕ, Bool, true, false, cond, nat_eq, List, [], ◌∷◌, ◌++◌, Option, Some, refl, sym, ap, ◌∙◌, arith}
use Rattle.std.specs.Option.{unwrap_or}
use Rattle.std.proofs.lemmas.Bool.Decides.{nat_tests}
use Rattle.c_grammar.specs.Names.{Names, is_type}
use Rattle.c_grammar.specs.declared.type_names.Change.{Change}
use Rattle.c_grammar.specs.declared.type_names.Change.TheVariants.{Name}
use Rattle.c_grammar.specs.NameChanges.{onto, now_of, in_force, IsKept}

pub onto-push : (es : List Change) (e : Change) (acc : List Change) → onto (es ++ (e ∷ [])) acc ≡ e ∷ onto es acc
unfolding onto
onto-push [] e acc = refl
onto-push (x ∷ es) e acc = onto-push es e (x ∷ acc)

pub onto-none : (acc : List Change) → onto [] acc ≡ acc
unfolding onto
onto-none acc = refl

pub ruleset declarations = (onto-push, onto-none)

turned : (m n : ℕ) → nat_eq m n ≡ nat_eq n m
turned m n = grind (arith, nat_tests)

-- the declaration in force says whether the name is a type
is_type-in_force : (names : Names) (n : ℕ) → is_type names n ≡ unwrap_or (in_force names n) false
unfolding is_type
is_type-in_force [] n = refl
is_type-in_force (d ∷ names) n = rw (turned d.0 n) (by (nat_eq n d.0) (is_type-in_force names n))
  where
    by : (b : Bool) → is_type names n ≡ unwrap_or (in_force names n) false → cond b d.1 (is_type names n) ≡ unwrap_or (cond b (Some d.1) (in_force names n)) false
    by true rest = refl
    by false rest = rest

-- what the table says of a name
pub table_tells : (table : ℕ → Option Bool) (log : List Change) (n : ℕ) (entry : Option Bool) → IsKept table log → entry ≡ table n → unwrap_or entry false ≡ is_type (now_of log) n
table_tells table log n entry kept at = ap (λ o. unwrap_or o false) (at ∙ kept.newest n) ∙ sym (is_type-in_force (now_of log) n)

-- the table after a declaration
pub kept_declared : (old new : ℕ → Option Bool) (log : List Change) (n : ℕ) (b : Bool) (before : Option Bool) → IsKept old log → before ≡ old n
    → ((q : ℕ) → new q ≡ cond (nat_eq n q) (Some b) (old q)) → IsKept new (Name n b before ∷ log)
kept_declared old new log n b before kept was writes = record {
  newest = λ q. writes q ∙ rw (turned n q) (ap (cond (nat_eq q n) (Some b)) (kept.newest q));
  undoes = (was ∙ kept.newest n, kept.undoes);
}
