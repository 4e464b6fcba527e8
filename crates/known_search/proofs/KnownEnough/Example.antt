-- The links of the function that copies a pointer and frees it twice.
use Rattle.std.proofs.Common.{arith, ◌≡◌, ◌⊎◌, inl, inr, ℕ, Bool, true, false, cond, nat_eq, IsTrue, ◌&&◌, Option, Some, None, is_none, refl, sym, ap, true≢false, ◌∙◌}
use Rattle.path_theory.specs.Numbered.{model, origins_of, supergraph_of, objects_of}
use Rattle.path_theory.specs.Relevant.{CallOf}
use Rattle.masked_paths.specs.Example.{frees, copy_and_free, the_copy}
use Rattle.masked_paths.specs.Met.{at_events}
use Rattle.known_search.specs.Closed.{IsClosed}
use Rattle.known_search.specs.KnownEnough.Described.{Describes, AreFollowed}
use Rattle.known_search.specs.KnownEnough.Example.{CopyIsFound}

both : (a b : Bool) → a && b ≡ true → (a ≡ true) × (b ≡ true)
both true true h = (refl, refl)
both true false h = cc
both false b h = cc

and_true : (a b : Bool) → a ≡ true → b ≡ true → a && b ≡ true
and_true true true h k = refl
and_true true false h k = k
and_true false b h k = h

-- the copy is bound, and takes its state from what is copied
abbrev is_bound : ℕ → ℕ → Bool
is_bound f o = nat_eq o 0

abbrev moves : ℕ → ℕ → ℕ → Bool
moves f b o = nat_eq b 1 && nat_eq o 0

abbrev never : ℕ → ℕ → ℕ → ℕ → ℕ → Bool
never k f o h c = false

abbrev found : ℕ → Option ℕ → ℕ → Bool
found f w o = is_none w && nat_eq o 0

is_one : (n : ℕ) → nat_eq n 1 ≡ true → nat_eq n 0 ≡ true → ⊥
is_one n h k = let a : n ≡ 1 = grind arith in let b : n ≡ 0 = grind arith in omega (arith, a, b)

closed : IsClosed (λ f o. IsTrue (is_bound f o)) (λ f b o. IsTrue (moves f b o)) (λ k f o h c. IsTrue (never k f o h c)) (λ k h d f o. IsTrue (never k h d f o)) (λ f w o. IsTrue (found f w o))
closed = record {
  binds = λ f o b. b;
  moves = λ f w b o m p. absurd (is_one b (both (nat_eq b 1) (nat_eq o 0) m).0 (both (is_none w) (nat_eq b 0) p).1);
  enters = λ k f h w b c e p. absurd (true≢false (sym e));
  comes_back = λ k f h w b c d o e p q r. absurd (true≢false (sym e));
  hands_out = λ k f h d o p r. absurd (true≢false (sym r));
}

same_number : (m n : ℕ) → Some m ≡ Some n → m ≡ n
same_number m n e = cc

followed : AreFollowed (model frees) (λ n. Some n) (λ f w o. IsTrue (found f w o)) (objects_of frees the_copy)
followed f o = (
  λ a. (None, (f, refl, a)),
  λ v. (both (is_none v.0) (nat_eq o 0) v.1.2).1,
)

given : (b : Bool) (x : ℕ) → cond b (Some 0) None ≡ Some x → b ≡ true
given true x h = refl
given false x h = cc

copied : (e o b : ℕ) (t : Bool) → nat_eq e 0 && nat_eq o 0 ≡ t → cond t (Some 1) (Some o) ≡ Some b → (b ≡ o) ⊎ IsTrue (moves 0 b o)
copied e o b true h s = let one : 1 ≡ b = cc in inr (and_true (nat_eq b 1) (nat_eq o 0) (ap (λ z. nat_eq z 1) (sym one)) (both (nat_eq e 0) (nat_eq o 0) h).1)
copied e o b false h s = let same : o ≡ b = cc in inl (sym same)

no_call : {B : Type 0} {f h s : ℕ} → CallOf (model frees) (supergraph_of frees copy_and_free) f s h → B
no_call i = absurd (true≢false (sym i.calls))

describes : Describes (model frees) (supergraph_of frees copy_and_free) (origins_of frees) (λ n. Some n) (λ f o. IsTrue (is_bound f o)) (λ f b o. IsTrue (moves f b o)) (λ k f o h c. IsTrue (never k f o h c)) (λ k h d f o. IsTrue (never k h d f o)) (at_events (model frees) (supergraph_of frees copy_and_free))
describes = record {
  one = λ m n f d e. same_number m f d ∙ sym (same_number n f e);
  binds = λ {f = f} {e = e} k g o x i d. (f, refl, (both (nat_eq e 1) (nat_eq o 0) (given (nat_eq e 1 && nat_eq o 0) x d)).1);
  fires = λ {f = f} {e = e} k g o r i d. (f, refl, (both (nat_eq o 0) _ ((both (nat_eq e 1) _ d).1)).0);
  moves = λ {e = e} n o b i d s. copied e o b (nat_eq e 0 && nat_eq o 0) refl s;
  calls = λ i. no_call i;
}

pub copy_is_found : CopyIsFound
copy_is_found = record {
  search = record { checker = frees; at = λ n. Some n; is_bound = is_bound; moves = moves; enters = never; hands = never; found = found; closed = closed; objects = the_copy; followed = followed };
  checker = refl;
  follows = refl;
  describes = describes;
}
