-- One or more things that are read one after the other.
use Rattle.std.proofs.Common.{◌≡◌, ℕ, zero, suc, ◌-◌, ◌<◌, List, [], ◌∷◌, ◌++◌, Bor, Option, None, Some, Result, Ok, Err, IsErrAnd, ap, refl, ◌∙◌, sym, arith}
use Rattle.c_tree.specs.declared.punctuator.Punctuator.{Punctuator}
use Rattle.c_tree.specs.declared.token.Token.{Token}
use Rattle.c_tree.specs.Symbol.{Symbol}
use Rattle.c_expr.specs.declared.fault.ExprFault.{ExprFault}
use Rattle.c_expr.specs.declared.fault.ExprFault.TheVariants.{NoTree}
use Rattle.c_grammar.specs.Symbols.{after_sign}
use Rattle.c_grammar.specs.Found.{◌>>=◌, if_there}
use Rattle.metal_grammar.specs.Written.{Row, lone, row}
use Rattle.metal_grammar.specs.Ways.Steps.{Step, read_row}
use Rattle.metal_clauses.specs.MetalParts.Given.{Gives}
use Rattle.metal_written.specs.Written.{row_from}
use Rattle.metal_written.proofs.Rows.{ending_with, behind-push, behind-lone}

module _ {A : Type 0} (step : Step A) (between : Punctuator) where
  pub row-zero : (ts : List Symbol) → read_row step between zero ts ≡ None
  unfolding read_row
  row-zero ts = refl

  one_more : ℕ → A × List Symbol → Option (Row A × List Symbol)
  one_more f x = if_there (after_sign between x.1) (Some (lone x.0, x.1)) (λ rest. read_row step between f rest >>= λ xs. Some (row x.0 xs.0, xs.1))

  row-suc : (f : ℕ) (ts : List Symbol) → read_row step between (suc f) ts ≡ (step ts >>= one_more f)
  unfolding read_row one_more
  row-suc f ts = refl

  row-some : (f : ℕ) (ts : List Symbol) → 0 < f → read_row step between f ts ≡ (step ts >>= one_more (f - 1))
  row-some zero ts p = absurd (omega arith)
  row-some (suc f) ts p = let e : f ≡ suc f - 1 = omega arith in row-suc f ts ∙ ap (λ g. step ts >>= one_more g) e

  longer : (found : Option (Row A × List Symbol)) (all : List A) (x : A)
      → ending_with all (found >>= λ xs. Some (row x xs.0, xs.1)) ≡ ending_with (all ++ (x ∷ [])) found
  longer None all x = refl
  longer (Some r) all x = ap (λ z. Some (z, r.1)) (sym (behind-push all x r.0))

  goes : (f : ℕ) (x : A) (behind rest : List Symbol) → after_sign between behind ≡ Some rest → one_more f (x, behind) ≡ (read_row step between f rest >>= λ xs. Some (row x xs.0, xs.1))
  unfolding one_more
  goes f x behind rest h = rw h refl

  ends : (f : ℕ) (x : A) (behind : List Symbol) → after_sign between behind ≡ None → one_more f (x, behind) ≡ Some (lone x, behind)
  unfolding one_more
  ends f x behind h = rw h refl

  -- one more joins those before
  pub row-next : (f : ℕ) (ts behind rest : List Symbol) (x : A) (all pushed : List A) (whole : Option (Row A × List Symbol))
      → 0 < f → step ts ≡ Some (x, behind) → after_sign between behind ≡ Some rest → pushed ≡ all ++ (x ∷ [])
      → ending_with all (read_row step between f ts) ≡ whole → ending_with pushed (read_row step between (f - 1) rest) ≡ whole
  row-next f ts behind rest x all pushed whole p h e n w =
      let here : read_row step between f ts ≡ one_more (f - 1) (x, behind) = row-some f ts p ∙ ap (λ s. s >>= one_more (f - 1)) h in
      ap (λ q. ending_with q (read_row step between (f - 1) rest)) n
      ∙ sym (longer (read_row step between (f - 1) rest) all x)
      ∙ sym (ap (ending_with all) (here ∙ goes (f - 1) x behind rest e)) ∙ w

  -- the last one ends them
  pub row-end : (none : A) (f : ℕ) (ts behind : List Symbol) (x : A) (all pushed : List A) (whole : Option (Row A × List Symbol))
      → 0 < f → step ts ≡ Some (x, behind) → after_sign between behind ≡ None → pushed ≡ all ++ (x ∷ [])
      → ending_with all (read_row step between f ts) ≡ whole → whole ≡ Some (row_from none pushed, behind)
  row-end none f ts behind x all pushed whole p h e n w =
      let here : read_row step between f ts ≡ one_more (f - 1) (x, behind) = row-some f ts p ∙ ap (λ s. s >>= one_more (f - 1)) h in
      sym w ∙ ap (ending_with all) (here ∙ ends (f - 1) x behind e) ∙ ap (λ r. Some (r, behind)) (behind-lone none all x ∙ ap (row_from none) (sym n))

  -- where one isn't read, there is none
  pub row-fails : (f : ℕ) (ts : List Symbol) (all : List A) (whole : Option (Row A × List Symbol))
      → step ts ≡ None → ending_with all (read_row step between f ts) ≡ whole → whole ≡ None
  row-fails zero ts all whole h w = sym w ∙ ap (ending_with all) (row-zero ts)
  row-fails (suc f) ts all whole h w = sym w ∙ ap (ending_with all) (row-suc f ts ∙ ap (λ s. s >>= one_more f) h)

  pub row-over : (f : ℕ) (ts : List Symbol) (all : List A) (whole : Option (Row A × List Symbol))
      → f ≡ 0 → ending_with all (read_row step between f ts) ≡ whole → whole ≡ None
  row-over f ts all whole h w = sym w ∙ ap (λ g. ending_with all (read_row step between g ts)) h ∙ ap (ending_with all) (row-zero ts)

-- The same, where the fault is that of one that isn't read.
pub row-gives : {A B C : Type 0} (view : B → C) (step : Step A) (between : Punctuator) (f : ℕ) (ts : List Symbol) (all : List A) (whole : Option (Row A × List Symbol)) (found : Option (C × List Symbol))
    (result : Result (B × Bor (List Token)) ExprFault) (fault : ExprFault)
    → IsErrAnd result (λ e. e ≡ fault) → (fault ≡ NoTree → step ts ≡ None) → ending_with all (read_row step between f ts) ≡ whole → (whole ≡ None → found ≡ None) → Gives view result found
row-gives view step between f ts all whole found (Ok x) fault i n w g = absurd i
row-gives view step between f ts all whole found (Err e) fault i n w g = λ h. g (row-fails step between f ts all whole (n (sym i ∙ h)) w)
