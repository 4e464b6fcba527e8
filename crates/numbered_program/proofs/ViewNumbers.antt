-- NO TWO NUMBERS of a program's rows stand for one thing, and all that is followed has a number.
use Rattle.std.proofs.Common.{◌≡◌, ◌∙◌, refl, sym, ap, ℕ, zero, suc, List, [], Option, None, Some, arith, slice_get}
use Rattle.std.proofs.lemmas.Option.{none-some}
use Rattle.block_flows.specs.Masks.{graphs_under, model_under, objects_under}
use Rattle.c_objects.specs.Objects.{Object}
use Rattle.numbered_program.proofs.EventTables.Numbered.{numbered_in}
use Rattle.flow_graph.specs.CPaths.Building.{Graph}
use Rattle.least_set.specs.Logs.{IsOnce}
use Rattle.numbered_program.proofs.NumberedCalls.FollowedNumbers.{has_number}
use Rattle.numbered_engine.specs.declared.program.ProgramRows.{ProgramRows}
use Rattle.numbered_program.specs.NumberedEvents.Listed.{AreListed, AreViewsOf}
use Rattle.numbered_paths.specs.Views.{AreNumbers}
use Rattle.numbered_program.proofs.FunctionNumbers.{follows_listed}
use Rattle.numbered_program.proofs.ProgramParts.{AreGiven}
use Rattle.numbered_program.proofs.SwappedBlocks.{block_twice}
use Rattle.numbered_program.specs.Views.{block_at, listed_at, views}
use Rattle.numbered_program.proofs.NumberedTuples.Numbers.{item_at, no_item}
use Rattle.path_model.proofs.CheckerGraphs.Numbers.{one-number}
use Rattle.path_model.specs.CheckerGraphs.Graphs.{function_at}
use Rattle.path_model.specs.CheckerModel.Choices.{State}
use Rattle.path_model.specs.CheckerModel.Happenings.{Function}
use Rattle.path_model.specs.CheckerModel.Reports.{Checker}
use Rattle.row_flows.specs.Numbers.{item_numbered}
use Rattle.type_rules.specs.Options.{if_there}
use Rattle.typed_unit.specs.Texts.{Text}

-- an item that stands in a list once has one number
once_numbered : {A : Type 0} (xs : List A) → IsOnce xs → (i j : ℕ) (x : A) → item_numbered xs i ≡ Some x → item_numbered xs j ≡ Some x → i ≡ j
once_numbered xs once zero j x a b = absurd (no_item xs x a)
once_numbered xs once (suc i) zero x a b = absurd (no_item xs x b)
once_numbered xs once (suc i) (suc j) x a b = ap suc (once i j x (sym (item_at xs (suc i) i (omega arith)) ∙ a) (sym (item_at xs (suc j) j (omega arith)) ∙ b))

module _ (c : Checker) (ts : List Text) (gs : List Graph) (lists : List (List Object)) (states : List State) (p : ProgramRows) (H : AreGiven c ts gs lists states p) where
  pub listed_once : (n : ℕ) → IsOnce (listed_at lists n)
  listed_once n = by (slice_get lists n) refl
    where
      by : (q : Option (List Object)) → slice_get lists n ≡ q → IsOnce {M = Object} (if_there q [] (λ os. os))
      by None e = λ i j o a b. absurd (none-some o a)
      by (Some os) e = H.once n os e

  pub numbers : AreNumbers (model_under c ts lists) (objects_under c ts lists) (graphs_under c ts gs lists) (views c ts gs lists states)
  numbers = record {
    functions = λ n m f a b. one-number ts H.apart n m f a b;
    no_object = λ n. refl;
    objects = λ n i j o a b. once_numbered (listed_at lists n) (listed_once n) i j o a b;
    followed = λ n f i o e h. follows_listed ts H.apart n f e lists o ∙ numbered_in (listed_at lists n) i o (sym h);
    numbered = λ n f o e a.
        let k = has_number (listed_at lists n) o (sym (follows_listed ts H.apart n f e lists o) ∙ a) in
        (k.0, k.2);
    no_state = refl;
    states = λ i j x a b. once_numbered states H.states_of.once i j x a b;
    globals = λ g h e. e;
    blocks = λ n b. (block_at gs n b, block_twice gs n b);
  }

  -- ---- what rows of events ask

  pub are_listed : (n : ℕ) (f : Function) → function_at ts n ≡ Some f → AreListed c.machine.rules ts lists f (listed_at lists n) states
  are_listed n f named = record {
    follows = follows_listed ts H.apart n f named lists;
    objects_once = listed_once n;
    named = λ x. (H.states_of.named x).1;
    states_once = H.states_of.once;
  }

  pub are_views : (n : ℕ) → AreViewsOf c ts lists (graphs_under c ts gs lists) (views c ts gs lists states) n (listed_at lists n) states
  are_views n = record { object = λ i. refl; state = λ i. refl; global = λ g. refl }
