-- A rule from a global state that is met at one event alone, in numbers: q = x; kmalloc(n); p = x; free(p). The state `got` holds
-- right behind the call of kmalloc, and in it a rule binds whatever is assigned: p, but never q. So it is enough to follow p, while
-- whoever takes the rule to act in any state follows q too.
use Rattle.std.specs.Prelude.{ℕ, Bool, false, IsTrue, cond, nat_eq, ◌&&◌, ◌||◌, Option, Some, None, is_none, List, [], ◌∷◌}
use Rattle.path_theory.specs.FlatPaths.{InErrors}
use Rattle.path_theory.specs.Numbered.{Checker, BlockProgram, model, origins_of, graphs_of, block_supergraph_of, objects_of}
use Rattle.path_theory.specs.TabulationRules.LeastSets.{HasNumbers}
use Rattle.masked_paths.specs.Matched.{ClosedUnderMatched, ClosedUnderMet, Covers, CoversWhereMet}
use Rattle.masked_paths.specs.Theorems.{matched_of, IsEnoughInBlocks}
use Rattle.masked_paths.specs.MaskedTabulation.Theorems.{Edge, IsTabulated}
use Rattle.masked_paths.specs.MetTheorems.{following_none, met_in_log}

-- object 0 is p and 1 is q; the events are q = x, kmalloc(n), p = x and free(p), in this order; global state 1 is `got`
abbrev pub assigns : ℕ → ℕ → Bool
assigns e o = nat_eq e 0 && nat_eq o 1 || nat_eq e 2 && nat_eq o 0

-- an assignment leaves its object unknown; in `got` the rule gives it state 0; report 0 is of what has a state and is freed
abbrev pub binds_behind : Checker
binds_behind = record {
  start = 0;
  source = λ e o. cond (assigns e o) None (Some o);
  into = λ s o. None;
  out = λ s o. None;
  next_global = λ e f k g. cond (nat_eq e 1) 1 0;
  choose = λ e f k g o x. cond (nat_eq g 1 && assigns e o) (Some 0) x;
  fires = λ e f k g o x r. nat_eq e 3 && (nat_eq o 0 && cond (is_none x) false (nat_eq r 0));
  fires_global = λ e f k g r. false;
}

-- one function of one block
abbrev pub assign_both : BlockProgram
assign_both = record {
  is_root = λ f. nat_eq f 0;
  first = λ f. 0;
  events = λ f b. 0 ∷ 1 ∷ 2 ∷ 3 ∷ [];
  next = λ f b c. false;
  call = λ f b s h c. false;
  ends = λ f b. false;
}

-- the function has number 0
abbrev pub one_function : ℕ → Option ℕ
one_function n = cond (nat_eq n 0) (Some 0) None

-- p alone, whatever is known at the entry
abbrev pub p_is_known : ℕ → Option ℕ → ℕ → Bool
p_is_known f w o = is_none w && nat_eq o 0

abbrev pub p_alone : ℕ → ℕ → Bool
p_alone f o = nat_eq o 0

-- A first run that follows no object ends with the log; where rules act in the states that it has met, p is all that can be known,
-- and it covers that. So p is enough. Where they act in any state, each family that covers what can be known has q.
pub record EnoughWhereMet : Type 0 where
  pub numbers : HasNumbers (model binds_behind) (graphs_of binds_behind assign_both) one_function
  pub log : List (Edge (following_none binds_behind assign_both one_function numbers))
  pub tabulated : IsTabulated (following_none binds_behind assign_both one_function numbers) log
  pub closed : ClosedUnderMet (model binds_behind) (block_supergraph_of binds_behind assign_both) (origins_of binds_behind) (met_in_log (following_none binds_behind assign_both one_function numbers) log)
      (matched_of binds_behind p_is_known)
  pub covers : CoversWhereMet (model binds_behind) (block_supergraph_of binds_behind assign_both) (origins_of binds_behind) (met_in_log (following_none binds_behind assign_both one_function numbers) log)
      (matched_of binds_behind p_is_known) (objects_of binds_behind p_alone)
  pub enough : IsEnoughInBlocks binds_behind assign_both p_alone
  pub reported : InErrors (model binds_behind) (block_supergraph_of binds_behind assign_both) 0
  pub q_in_any_state : (m : ℕ → Option ℕ → ℕ → Bool) (a : ℕ → ℕ → Bool)
      → ClosedUnderMatched (model binds_behind) (block_supergraph_of binds_behind assign_both) (origins_of binds_behind) (matched_of binds_behind m)
      → Covers (model binds_behind) (block_supergraph_of binds_behind assign_both) (origins_of binds_behind) (matched_of binds_behind m) (objects_of binds_behind a)
      → IsTrue (a 0 1)
