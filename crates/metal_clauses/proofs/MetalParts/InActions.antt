-- Literals and arguments of messages that are read one after the other.
use Rattle.std.proofs.Common.{◌≡◌, ℕ, zero, suc, ◌-◌, ◌<◌, List, [], ◌∷◌, ◌++◌, Option, None, Some, ap, refl, ◌∙◌, sym, arith}
use Rattle.c_tree.specs.declared.punctuator.Punctuator.TheVariants as marks
use Rattle.c_tree.specs.Symbol.{Symbol, Word, Reserved, Sign, IntLiteral, FloatLiteral, CharLiteral, StringLiteral}
use Rattle.c_grammar.specs.Symbols.{after_sign}
use Rattle.c_grammar.specs.Found.{◌>>=◌, if_there}
use Rattle.metal_grammar.specs.Words.{Literal}
use Rattle.metal_grammar.specs.Written.{Row}
use Rattle.metal_grammar.specs.Ways.Steps.{take_literal, more_literals, read_literals, read_identifier, read_identifiers}
use Rattle.metal_written.specs.Written.{row_from, no_literal}
use Rattle.c_grammar.proofs.Options.{parts}
use Rattle.metal_written.proofs.Rows.{behind_all, behind-push, behind-lone}

-- these literals, and those that follow
abbrev pub with_literals : List Literal → List Symbol → Option (Row Literal × List Symbol) → Option (Row Literal × List Symbol)
with_literals all ts None = Some (row_from no_literal all, ts)
with_literals all ts (Some others) = Some (behind_all all others.0, others.1)

read-literals-some : (ts behind : List Symbol) (l : Literal) → take_literal ts ≡ Some (l, behind) → read_literals ts ≡ Some (more_literals l behind (read_literals behind))
read-literals-some [] behind l h = cc
read-literals-some (StringLiteral wide name ∷ ts) behind l h =
    let p = parts (record { wide = wide; name = name }, ts) (l, behind) h in
    ap (λ k. Some (more_literals k ts (read_literals ts))) p.0 ∙ ap (λ r. Some (more_literals l r (read_literals r))) p.1
read-literals-some (Word name ∷ ts) behind l h = cc
read-literals-some (Reserved k ∷ ts) behind l h = cc
read-literals-some (Sign p ∷ ts) behind l h = cc
read-literals-some (IntLiteral v name ∷ ts) behind l h = cc
read-literals-some (FloatLiteral e name ∷ ts) behind l h = cc
read-literals-some (CharLiteral w name ∷ ts) behind l h = cc

read-literals-none : (ts : List Symbol) → take_literal ts ≡ None → read_literals ts ≡ None
read-literals-none [] h = refl
read-literals-none (StringLiteral wide name ∷ ts) h = cc
read-literals-none (Word name ∷ ts) h = refl
read-literals-none (Reserved k ∷ ts) h = refl
read-literals-none (Sign p ∷ ts) h = refl
read-literals-none (IntLiteral v name ∷ ts) h = refl
read-literals-none (FloatLiteral e name ∷ ts) h = refl
read-literals-none (CharLiteral w name ∷ ts) h = refl

joins : (all : List Literal) (l : Literal) (ts behind : List Symbol) (found : Option (Row Literal × List Symbol))
    → with_literals all ts (Some (more_literals l behind found)) ≡ with_literals (all ++ (l ∷ [])) behind found
joins all l ts behind None = ap (λ r. Some (r, behind)) (behind-lone no_literal all l)
joins all l ts behind (Some others) = ap (λ r. Some (r, others.1)) (sym (behind-push all l others.0))

-- the first literal
pub literals-start : (ts behind : List Symbol) (l : Literal) (pushed : List Literal) → take_literal ts ≡ Some (l, behind) → pushed ≡ l ∷ [] → with_literals pushed behind (read_literals behind) ≡ read_literals ts
literals-start ts behind l pushed h n =
    ap (λ p. with_literals p behind (read_literals behind)) n ∙ sym (joins [] l ts behind (read_literals behind)) ∙ start (more_literals l behind (read_literals behind)) ∙ sym (read-literals-some ts behind l h)
  where
    start : (r : Row Literal × List Symbol) → with_literals [] ts (Some r) ≡ Some r
    start r = refl

-- one more joins those before
pub literals-next : (ts behind : List Symbol) (l : Literal) (all pushed : List Literal) (whole : Option (Row Literal × List Symbol))
    → take_literal ts ≡ Some (l, behind) → pushed ≡ all ++ (l ∷ []) → with_literals all ts (read_literals ts) ≡ whole → with_literals pushed behind (read_literals behind) ≡ whole
literals-next ts behind l all pushed whole h n w =
    ap (λ p. with_literals p behind (read_literals behind)) n ∙ sym (joins all l ts behind (read_literals behind)) ∙ sym (ap (with_literals all ts) (read-literals-some ts behind l h)) ∙ w

pub literals-end : (ts : List Symbol) (all : List Literal) (whole : Option (Row Literal × List Symbol)) → take_literal ts ≡ None → with_literals all ts (read_literals ts) ≡ whole → whole ≡ Some (row_from no_literal all, ts)
literals-end ts all whole h w = sym w ∙ ap (with_literals all ts) (read-literals-none ts h)

pub literals-none : (ts : List Symbol) → take_literal ts ≡ None → read_literals ts ≡ None
literals-none ts h = read-literals-none ts h

-- these arguments, and those that follow
abbrev pub with_arguments : List (ℕ × ℕ) → Option (List (ℕ × ℕ) × List Symbol) → Option (List (ℕ × ℕ) × List Symbol)
with_arguments all None = None
with_arguments all (Some others) = Some (all ++ others.0, others.1)

arguments-zero : (ts : List Symbol) → read_identifiers zero ts ≡ None
unfolding read_identifiers
arguments-zero ts = refl

one_more : ℕ → List Symbol → Option (List (ℕ × ℕ) × List Symbol)
one_more f rest = read_identifier rest >>= λ a. read_identifiers f a.1 >>= λ others. Some (a.0 ∷ others.0, others.1)

arguments-suc : (f : ℕ) (ts : List Symbol) → read_identifiers (suc f) ts ≡ if_there (after_sign marks.Comma ts) (Some ([], ts)) (λ rest. one_more f rest)
unfolding read_identifiers one_more
arguments-suc f ts = refl

found : (f : ℕ) (behind rest : List Symbol) (a : ℕ × ℕ) → read_identifier behind ≡ Some (a, rest) → one_more f behind ≡ (read_identifiers f rest >>= λ others. Some (a ∷ others.0, others.1))
unfolding one_more
found f behind rest a e = rw e refl

none : (f : ℕ) (behind : List Symbol) → read_identifier behind ≡ None → one_more f behind ≡ None
unfolding one_more
none f behind e = rw e refl

append-none : (xs : List (ℕ × ℕ)) → xs ++ [] ≡ xs
append-none [] = refl
append-none (x ∷ xs) = ap (λ ys. x ∷ ys) (append-none xs)

append-one : (xs : List (ℕ × ℕ)) (x : ℕ × ℕ) (ys : List (ℕ × ℕ)) → (xs ++ (x ∷ [])) ++ ys ≡ xs ++ (x ∷ ys)
append-one [] x ys = refl
append-one (y ∷ xs) x ys = ap (λ zs. y ∷ zs) (append-one xs x ys)

pub arguments-start : (found : Option (List (ℕ × ℕ) × List Symbol)) → with_arguments [] found ≡ found
arguments-start None = refl
arguments-start (Some others) = refl

longer : (all : List (ℕ × ℕ)) (a : ℕ × ℕ) (found : Option (List (ℕ × ℕ) × List Symbol)) → with_arguments all (found >>= λ others. Some (a ∷ others.0, others.1)) ≡ with_arguments (all ++ (a ∷ [])) found
longer all a None = refl
longer all a (Some others) = ap (λ xs. Some (xs, others.1)) (sym (append-one all a others.0))

pub arguments-next : (f : ℕ) (ts behind rest : List Symbol) (a : ℕ × ℕ) (all pushed : List (ℕ × ℕ)) (whole : Option (List (ℕ × ℕ) × List Symbol))
    → 0 < f → after_sign marks.Comma ts ≡ Some behind → read_identifier behind ≡ Some (a, rest) → pushed ≡ all ++ (a ∷ [])
    → with_arguments all (read_identifiers f ts) ≡ whole → with_arguments pushed (read_identifiers (f - 1) rest) ≡ whole
arguments-next zero ts behind rest a all pushed whole p h e n w = absurd (omega arith)
arguments-next (suc f) ts behind rest a all pushed whole p h e n w =
    let less : suc f - 1 ≡ f = omega arith in
    ap (λ q. with_arguments q (read_identifiers (suc f - 1) rest)) n ∙ ap (λ g. with_arguments (all ++ (a ∷ [])) (read_identifiers g rest)) less
    ∙ sym (longer all a (read_identifiers f rest))
    ∙ sym (ap (with_arguments all) (arguments-suc f ts ∙ ap (λ o. if_there o (Some ([], ts)) (λ r. one_more f r)) h ∙ found f behind rest a e)) ∙ w

pub arguments-end : (f : ℕ) (ts : List Symbol) (all : List (ℕ × ℕ)) (whole : Option (List (ℕ × ℕ) × List Symbol))
    → 0 < f → after_sign marks.Comma ts ≡ None → with_arguments all (read_identifiers f ts) ≡ whole → whole ≡ Some (all, ts)
arguments-end zero ts all whole p h w = absurd (omega arith)
arguments-end (suc f) ts all whole p h w =
    sym w ∙ ap (with_arguments all) (arguments-suc f ts ∙ ap (λ o. if_there o (Some ([], ts)) (λ r. one_more f r)) h) ∙ ap (λ xs. Some (xs, ts)) (append-none all)

pub arguments-fail : (f : ℕ) (ts behind : List Symbol) (all : List (ℕ × ℕ)) (whole : Option (List (ℕ × ℕ) × List Symbol))
    → after_sign marks.Comma ts ≡ Some behind → read_identifier behind ≡ None → with_arguments all (read_identifiers f ts) ≡ whole → whole ≡ None
arguments-fail zero ts behind all whole h e w = sym w ∙ ap (with_arguments all) (arguments-zero ts)
arguments-fail (suc f) ts behind all whole h e w =
    sym w ∙ ap (with_arguments all) (arguments-suc f ts ∙ ap (λ o. if_there o (Some ([], ts)) (λ r. one_more f r)) h ∙ none f behind e)

pub arguments-over : (f : ℕ) (ts : List Symbol) (all : List (ℕ × ℕ)) (whole : Option (List (ℕ × ℕ) × List Symbol)) → f ≡ 0 → with_arguments all (read_identifiers f ts) ≡ whole → whole ≡ None
arguments-over f ts all whole h w = sym w ∙ ap (λ g. with_arguments all (read_identifiers g ts)) h ∙ ap (with_arguments all) (arguments-zero ts)
