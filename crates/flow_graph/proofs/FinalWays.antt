-- Where ways to blocks end.
use Rattle.std.proofs.Common.{◌≡◌, ◌≢◌, ◌≤◌, ◌<◌, ℕ, true, false, List, [], ◌∷◌, ◌++◌, ◌⊎◌, inl, inr, length, sym, subst}
use Rattle.std.specs.Prelude.{slice_set}
use Rattle.std.proofs.lemmas.Bool.{cases_lt}
use Rattle.std.proofs.lemmas.Bool.Decides.{eqb_tells}
use Rattle.std.proofs.lemmas.List.{get_or-set_same, get_or-set_other, set_past}
use Rattle.std.proofs.lemmas.List.Elements.{All-push}
use Rattle.std.proofs.Math.Dec.{eqb}
use Rattle.flow_graph.specs.CPaths.Graphs.{Block}
use Rattle.flow_graph.specs.CPaths.Forwarders.{Forwards, ComesTo, Stays, Over}
use Rattle.flow_graph.specs.Finals.{AreFinal, AllComeTo}
use Rattle.flow_graph.specs.Targets.{target_of}
use Rattle.flow_graph.proofs.CPaths.ForwardedWalks.{comes_on}

-- a way goes over one block more
pub one_more : (g : List Block) (bs : List ℕ) (b c : ℕ) → AllComeTo g b bs → Forwards g b c → AllComeTo g c (bs ++ b ∷ [])
one_more g bs b c all h = All-push (λ x. ComesTo g x c) bs b (λ k d within. comes_on g (all k d within) (Over h Stays)) (Over h Stays)

-- a way to each block ends there itself
pub all_stay : (g : List Block) (ns : List ℕ) → ((b : ℕ) → target_of ns b ≡ b) → AreFinal g ns
all_stay g ns all b = subst (ComesTo g b) (sym (all b)) Stays

-- what comes to where a way was walked comes to where that ends
pub come_to_final : (g : List Block) (finals passed slice : List ℕ) (walked end : ℕ) → AreFinal g finals → AllComeTo g walked passed → end ≡ target_of finals walked → slice ≡ passed → AllComeTo g end slice
come_to_final g finals passed slice walked end final all is same =
    subst (AllComeTo g end) (sym same) (subst (λ n. AllComeTo g n passed) (sym is) (λ k d within. comes_on g (all k d within) (final walked)))

-- one more block has where ways to it end
pub one_more_final : (g : List Block) (ns : List ℕ) (b end : ℕ) → AreFinal g ns → ComesTo g b end → AreFinal g (slice_set ns b end)
one_more_final g ns b end final comes x = by_length (cases_lt b (length ns))
  where
    by_number : b < length ns → ((eqb x b ≡ true) × (x ≡ b)) ⊎ ((eqb x b ≡ false) × (x ≢ b)) → ComesTo g x (target_of (slice_set ns b end) x)
    by_number within (inl same) = subst (λ y. ComesTo g y (target_of (slice_set ns b end) y)) (sym same.1) (subst (ComesTo g b) (sym (get_or-set_same ns b end b within)) comes)
    by_number within (inr other) = subst (ComesTo g x) (sym (get_or-set_other ns b x end x other.1)) (final x)

    by_length : (b < length ns) ⊎ (length ns ≤ b) → ComesTo g x (target_of (slice_set ns b end) x)
    by_length (inl within) = by_number within (eqb_tells x b)
    by_length (inr past) = subst (λ (ms : List ℕ). ComesTo g x (target_of ms x)) (sym (set_past ns b end past)) (final x)
