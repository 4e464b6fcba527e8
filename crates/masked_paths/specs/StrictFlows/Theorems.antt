-- The theorems of this crate as statements, which contracts can name.
use Rattle.std.specs.Prelude.{◌≡◌, ◌↔◌, ℕ, Bool, false, Option, List}
use Rattle.path_theory.specs.BlockEdges.{Crosses, Shows}
use Rattle.path_theory.specs.Facts.{Fact}
use Rattle.path_theory.specs.Flows.{CallFlow, ReturnFlow}
use Rattle.path_theory.specs.Numbered.{Checker, model, origins_of, objects_of}
use Rattle.masked_paths.specs.Masked.{masked_events}
use Rattle.masked_paths.specs.Theorems.{masked_model, masked_origins_of}
use Rattle.masked_paths.specs.StrictFlows.Among.{origins_among, tested, AreStrict}

-- the tests are those of a function and of one that it calls
pub record FlowAmong (c : Checker) (a : ℕ → ℕ → Bool) (f h : ℕ) (here there : ℕ → Bool) : Type 0 where
  pub crosses : (is_root : Bool) (es : List ℕ) (g i : ℕ) (t u : Fact (model c))
      → Crosses (masked_model c a false) (masked_origins_of c a false) (objects_of c a) f is_root (masked_events (model c) f es) g t i u
      ↔ Crosses (model c) (origins_among (model c) (origins_of c) here there) (tested (model c) here) f is_root es g t i u
  pub shows : (is_root : Bool) (r : ℕ) (es : List ℕ) (g : ℕ) (t : Fact (model c))
      → Shows (masked_model c a false) (masked_origins_of c a false) (objects_of c a) f is_root r (masked_events (model c) f es) g t
      ↔ Shows (model c) (origins_among (model c) (origins_of c) here there) (tested (model c) here) f is_root r es g t
  pub calls : (s : ℕ) (t u : Fact (model c))
      → CallFlow (masked_model c a false) (masked_origins_of c a false) (objects_of c a) (record { caller = f; site = s; callee = h }) h t u
      ↔ CallFlow (model c) (origins_among (model c) (origins_of c) here there) (tested (model c) there) s h t u
  pub returns : (s : ℕ) (t u : Fact (model c))
      → ReturnFlow (masked_model c a false) (masked_origins_of c a false) (objects_of c a) (record { caller = f; site = s; callee = h }) f t u
      ↔ ReturnFlow (model c) (origins_among (model c) (origins_of c) here there) (tested (model c) here) s f t u

abbrev pub StrictFlowsAskLists : Type 0
StrictFlowsAskLists = (c : Checker) (a : ℕ → ℕ → Bool) (f h : ℕ) (here there : ℕ → Bool) → ((o : ℕ) → a f o ≡ here o) → ((o : ℕ) → a h o ≡ there o)
    → FlowAmong c a f h here there

abbrev pub StrictOrigins : Type 0
StrictOrigins = (own : Bool) (test : ℕ → Bool) (z : Option ℕ) → AreStrict own test z
