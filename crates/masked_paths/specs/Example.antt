-- A function that copies a pointer and frees it twice, in numbers: p = q; free(p); free(p). Nothing ever gives a state to q, so
-- it is enough to follow p; but p has its state from q, so p alone isn't closed.
use Rattle.std.specs.Prelude.{ℕ, Bool, false, cond, nat_eq, ◌&&◌, Some, None, is_none}
use Rattle.path_theory.specs.FlatPaths.{InErrors}
use Rattle.path_theory.specs.Tabulation.{Found}
use Rattle.path_theory.specs.Numbered.{Checker, Program, model, origins_of, supergraph_of, objects_of}
use Rattle.path_theory.specs.Theorems.{IsClosedTable}
use Rattle.masked_paths.specs.Theorems.{IsEnoughTable}

-- object 0 is p and 1 is q; event 0 is the copy, 1 a call of free; state 0 is freed, and report 0 says that it was
abbrev pub frees : Checker
frees = record {
  start = 0;
  source = λ e o. cond (nat_eq e 0 && nat_eq o 0) (Some 1) (Some o);
  into = λ s o. None;
  out = λ s o. None;
  next_global = λ e f k g. g;
  choose = λ e f k g o x. cond (nat_eq e 1 && nat_eq o 0) (Some 0) x;
  fires = λ e f k g o x r. nat_eq e 1 && (nat_eq o 0 && cond (is_none x) false (nat_eq r 0));
  fires_global = λ e f k g r. false;
}

abbrev pub copy_and_free : Program
copy_and_free = record {
  is_root = λ f. nat_eq f 0;
  entry = λ f. 0;
  skips = λ f a b. false;
  goes = λ f a e b. cond (nat_eq a 0) (nat_eq e 0 && nat_eq b 1) (nat_eq e 1 && cond (nat_eq a 1) (nat_eq b 2) (nat_eq a 2 && nat_eq b 3));
  calls = λ f a s h b. false;
  ends = λ f a. false;
}

abbrev pub the_copy : ℕ → ℕ → Bool
the_copy f o = nat_eq o 0

-- It is enough to follow p, and p alone isn't closed. The second call of free is reported; but the path edges of p without a mask
-- don't find it, since p doesn't begin where it is a copy of what isn't followed.
pub record EnoughNotClosed : Type 0 where
  pub enough : IsEnoughTable frees copy_and_free the_copy
  pub not_closed : IsClosedTable frees copy_and_free the_copy → ⊥
  pub reported : InErrors (model frees) (supergraph_of frees copy_and_free) 0
  pub not_found : Found (model frees) (supergraph_of frees copy_and_free) (origins_of frees) (objects_of frees the_copy) 0 → ⊥
