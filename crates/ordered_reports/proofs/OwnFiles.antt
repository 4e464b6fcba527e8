-- The tokens of a program's units stand in the files of these.
use Rattle.std.proofs.Common.{◌≡◌, ◌+◌, ℕ, zero, suc, List, [], ◌∷◌, Some, slice_get, Bor, refl, subst, arith}
use Rattle.std.proofs.Math.Logic.{∥∥₁_map, ∥∥₁_map₂}
use Rattle.c_tree.specs.TokenPlaces.{AreOfFile}
use Rattle.path_model.specs.CheckerPrograms.Texts.{tokens_of}
use Rattle.typed_unit.specs.Texts.{Text, texts_of}
use Rattle.call_graph.specs.OfPrograms.Definitions.{AreNumbered}
use Rattle.typed_unit.specs.declared.typed_unit.TypedUnit.{TypedUnit}

-- the tokens of each text are of its file
pub record StandInOwnFiles (ts : List Text) : Type 0 where
  pub own : (file : ℕ) → AreOfFile file (tokens_of ts file)

-- the same of texts whose files have the numbers from this one on
abbrev OwnFrom : ℕ → List Text → Type 0
OwnFrom first ts = (n : ℕ) → AreOfFile (first + n) (tokens_of ts n)

own-more : (first : ℕ) (t : Text) (ts : List Text) → AreOfFile first t.tokens → OwnFrom (suc first) ts → OwnFrom first (t ∷ ts)
own-more first t ts here rest zero = let e : first ≡ first + 0 = omega arith in subst (λ file. AreOfFile file t.tokens) e here
own-more first t ts here rest (suc n) = let e : suc first + n ≡ first + suc n = omega arith in subst (λ file. AreOfFile file (tokens_of ts n)) e (rest n)

own-from : (first : ℕ) (units : List (Bor TypedUnit)) → ((i : ℕ) (u : Bor TypedUnit) → slice_get units i ≡ Some u → u.now.unit.file ≡ first + i) → ∥ OwnFrom first (texts_of units) ∥₁
own-from first [] h = ∣ (λ n. tt) ∣₁
own-from first (u ∷ us) h =
    ∥∥₁_map₂ u.now.placed (own-from (suc first) us (λ i w s. let x = h (suc i) w s in omega (arith, x)))
    (λ p rest. own-more first (record { trees = _; table = _; tokens = u.now.unit.tokens.now }) (texts_of us) (subst (λ file. AreOfFile file u.now.unit.tokens.now) here p.of_file) rest)
  where
    here : u.now.unit.file ≡ first
    here = let x = h 0 u refl in omega (arith, x)

pub own-files : (units : List (Bor TypedUnit)) → AreNumbered units → ∥ StandInOwnFiles (texts_of units) ∥₁
own-files units h =
    ∥∥₁_map (own-from 0 units (λ i u s. let x = h i u s in omega (arith, x)))
    (λ own. record { own = λ file. let e : 0 + file ≡ file = omega arith in subst (λ n. AreOfFile n (tokens_of (texts_of units) file)) e (own file) })
