-- What the driver of least sets finds from the entry is what control reaches.
use Rattle.std.proofs.Common.{arith, ◌≡◌, inl, inr, ℕ, zero, suc, List, [], ◌∷◌, Contains, refl, sym, subst, Result, Ok, Err, IfOk}
use Rattle.flow_graph.specs.CPaths.Building.{Graph}
use Rattle.flow_graph.specs.CPaths.Membership.{Among}
use Rattle.least_set.specs.Logs.{IsExactly, IsOnce}
use Rattle.least_set.specs.OnePremise.{Follows, FollowsBase, FollowsOne, Least, LeastBase, LeastOne}
use Rattle.flow_graph.specs.ReachedBlocks.Reached.{Leads, Reaches, Begins, Onward, AreReached}

-- a list has exactly the values among it
among-contains : (xs : List ℕ) (x : ℕ) → Among x xs → Contains xs x
among-contains [] x h = absurd h
among-contains (y ∷ xs) x (inl e) = (0, omega arith, sym e)
among-contains (y ∷ xs) x (inr h) = let k = among-contains xs x h in let within = k.1 in (suc k.0, omega (arith, within), k.2)

contains-among : (xs : List ℕ) (x : ℕ) → Contains xs x → Among x xs
contains-among [] x h = let within = h.1 in absurd (omega (arith, within))
contains-among (y ∷ xs) x (zero, l, e) = inl (sym e)
contains-among (y ∷ xs) x (suc k, l, e) = inr (contains-among xs x (k, omega (arith, l), e))

pub exactly-among : (xs ys : List ℕ) → ys ≡ xs → IsExactly ys (λ x. Among x xs)
exactly-among xs ys e = subst (λ l. IsExactly l (λ x. Among x xs)) (sym e) (contains-among xs, among-contains xs)

pub if-ok : {A E : Type 0} (P Q : A → Type 0) (r : Result A E) → ((a : A) → P a → Q a) → IfOk r P → IfOk r Q
if-ok P Q (Ok a) f h = f a h
if-ok P Q (Err e) f h = tt

module _ (g : Graph) where
  abbrev Base : ℕ → Type 0
  Base b = g.entry ≡ b

  least-reaches : {b : ℕ} → Least Base (Leads g) b → Reaches g b
  least-reaches (LeastBase e) = subst (Reaches g) e Begins
  least-reaches (LeastOne l s) = Onward (least-reaches l) s

  reaches-listed : (log : List ℕ) → ((c : ℕ) → Follows Base (Leads g) log c → Contains log c) → {b : ℕ} → Reaches g b → Contains log b
  reaches-listed log closed Begins = closed g.entry (FollowsBase refl)
  reaches-listed log closed (Onward {b} {c} r s) = closed c (FollowsOne b (reaches-listed log closed r) s)

  pub are-reached : (log list : List ℕ) → list ≡ log → ((c : ℕ) → Follows Base (Leads g) log c → Contains log c) → ((c : ℕ) → Contains log c → Least Base (Leads g) c) → IsOnce log → AreReached g list
  are-reached log list e closed only once =
      subst (AreReached g) (sym e) (record { exact = (λ b h. least-reaches (only b h), λ b r. reaches-listed log closed r); once = once })
