-- Bodies are found by the tables of first positions.
use Rattle.std.proofs.Common.{◌≡◌, ℕ, suc, List, [], ◌∷◌, ◌++◌, length, Option, None, Some, cond, nat_eq, Bool, true, false, not, ◌&&◌, ◌||◌, ap, refl, ◌∙◌, sym}
use Rattle.std.specs.Prelude.{is_some}
use Rattle.std.specs.List.{list_any}
use Rattle.std.specs.Option.{option_map}
use Rattle.type_rules.specs.Functions.{Defined}
use Rattle.type_rules.specs.Options.{or_else}
use Rattle.call_graph.specs.OfPrograms.Bodies.{is_in_file, is_external, first_position}
use Rattle.call_graph.specs.OfPrograms.Repeats.{clash, repeats}
use Rattle.call_graph.specs.OfPrograms.Tables.{same_key, is_shared, AreFiled}

-- one definition more
first-behind : (b c : Bool) (j : ℕ) (o : Option ℕ) → cond b (Some 0) (option_map suc (or_else o (cond c (Some j) None))) ≡ or_else (cond b (Some 0) (option_map suc o)) (cond c (Some (suc j)) None)
first-behind true c j o = refl
first-behind false c j (Some i) = refl
first-behind false true j None = refl
first-behind false false j None = refl

first-push : (test : Defined → Bool) (fs : List Defined) (g : Defined) → first_position test (fs ++ (g ∷ [])) ≡ or_else (first_position test fs) (cond (test g) (Some (length fs)) None)
first-push test [] g = refl
first-push test (f ∷ fs) g =
    ap (λ o. cond (test f) (Some 0) (option_map suc o)) (first-push test fs g)
    ∙ first-behind (test f) (test g) (length fs) (first_position test fs)

pub filed-none : (in_file : ℕ × ℕ → Option ℕ) (external : ℕ → Option ℕ) (fs : List Defined) → fs ≡ [] → ((k : ℕ × ℕ) → in_file k ≡ None) → ((n : ℕ) → external n ≡ None) → AreFiled in_file external fs
filed-none in_file external fs e f g = rw e (record { own = λ k. f k; shared = λ n. g n })

pub filed-push : (old new : ℕ × ℕ → Option ℕ) (external wider : ℕ → Option ℕ) (fs longer : List Defined) (g : Defined) (at : ℕ) → AreFiled old external fs → at ≡ length fs → longer ≡ fs ++ (g ∷ [])
    → ((k : ℕ × ℕ) → new k ≡ or_else (old k) (cond (same_key (g.file, g.name) k) (Some at) None))
    → ((n : ℕ) → wider n ≡ or_else (external n) (cond (is_shared g.own g.name n) (Some at) None)) → AreFiled new wider longer
filed-push old new external wider fs longer g at h e l own shared = record {
  own = λ k.
      own k ∙ ap (λ o. or_else o (cond (same_key (g.file, g.name) k) (Some at) None)) (h.own k)
      ∙ ap (λ i. or_else (first_position (is_in_file k.0 k.1) fs) (cond (same_key (g.file, g.name) k) (Some i) None)) e
      ∙ sym (first-push (is_in_file k.0 k.1) fs g)
      ∙ ap (first_position (is_in_file k.0 k.1)) (sym l);
  shared = λ n.
      shared n ∙ ap (λ o. or_else o (cond (is_shared g.own g.name n) (Some at) None)) (h.shared n)
      ∙ ap (λ i. or_else (first_position (is_external n) fs) (cond (is_shared g.own g.name n) (Some i) None)) e
      ∙ sym (first-push (is_external n) fs g)
      ∙ ap (first_position (is_external n)) (sym l);
}

-- there is one that passes the test
some-first : (test : Defined → Bool) (fs : List Defined) → is_some (first_position test fs) ≡ list_any test fs
some-first test [] = refl
some-first test (f ∷ fs) = by (test f) (first_position test fs) (some-first test fs)
  where
    by : (b : Bool) (o : Option ℕ) → is_some o ≡ list_any test fs → is_some (cond b (Some 0) (option_map suc o)) ≡ b || list_any test fs
    by true o e = refl
    by false (Some i) e = e
    by false None e = e

clash-step : (name file own other x y : Bool) → (name && (file || (own && other))) || (x || (other && y)) ≡ ((file && name) || x) || (other && ((own && name) || y))
clash-step true true own other x y = refl
clash-step true false true true true y = refl
clash-step true false true true false y = refl
clash-step true false true false x y = refl
clash-step true false false other x y = refl
clash-step false true true other x y = refl
clash-step false true false other x y = refl
clash-step false false true other x y = refl
clash-step false false false other x y = refl

any-clash : (g : Defined) (fs : List Defined) → repeats fs g ≡ list_any (is_in_file g.file g.name) fs || (not g.own && list_any (is_external g.name) fs)
any-clash g [] = by (not g.own)
  where
    by : (b : Bool) → false ≡ b && false
    by true = refl
    by false = refl
any-clash g (f ∷ fs) =
    ap (λ b. clash f g || b) (any-clash g fs)
    ∙ clash-step (nat_eq f.name g.name) (nat_eq f.file g.file) (not f.own) (not g.own) (list_any (is_in_file g.file g.name) fs) (list_any (is_external g.name) fs)

-- a definition repeats one of these where the tables have its name
pub repeats-found : (g : Defined) (fs : List Defined) → is_some (first_position (is_in_file g.file g.name) fs) || (not g.own && is_some (first_position (is_external g.name) fs)) ≡ repeats fs g
repeats-found g fs =
    ap (λ b. b || (not g.own && is_some (first_position (is_external g.name) fs))) (some-first (is_in_file g.file g.name) fs)
    ∙ ap (λ b. list_any (is_in_file g.file g.name) fs || (not g.own && b)) (some-first (is_external g.name) fs)
    ∙ sym (any-clash g fs)
