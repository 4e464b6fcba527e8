-- The checkers of a request have numbers of their own.
use Rattle.std.proofs.Common.{◌≡◌, inl, inr, ◌≤◌, ℕ, suc, List, [], ◌∷◌, sym, ap, ◌∙◌, arith}
use Rattle.flow_graph.specs.CPaths.Membership.{Among}
use Rattle.path_model.specs.CheckerModel.Reports.{Checker}
use Rattle.command.specs.CheckerReports.Checkers.{numbered_from, checkers_in}
use Rattle.metal_tree.specs.MetalMachines.Machine.{Machine}
use Rattle.ordered_reports.proofs.Agreeing.{HaveOwnNumbers}

module _ (depth : ℕ) (names : List (List ℕ)) where
  numbered-on : (n : ℕ) (ms : List Machine) (c : Checker) → Among c (numbered_from n ms depth names) → n ≤ c.number
  numbered-on n [] c a = absurd a
  numbered-on n (m ∷ ms) c (inl e) = let k = ap (λ (x : Checker). x.number) e in omega (arith, k)
  numbered-on n (m ∷ ms) c (inr a) = let k = numbered-on (suc n) ms c a in omega (arith, k)

  -- checkers with one number are the same
  one-checker : (n : ℕ) (ms : List Machine) (c d : Checker) → Among c (numbered_from n ms depth names) → Among d (numbered_from n ms depth names) → c.number ≡ d.number → c ≡ d
  one-checker n [] c d a b e = absurd a
  one-checker n (m ∷ ms) c d (inl x) (inl y) e = x ∙ sym y
  one-checker n (m ∷ ms) c d (inl x) (inr b) e =
      let k = ap (λ (z : Checker). z.number) x in
      let l = numbered-on (suc n) ms d b in
      absurd (omega (arith, k, l, e))
  one-checker n (m ∷ ms) c d (inr a) (inl y) e =
      let k = ap (λ (z : Checker). z.number) y in
      let l = numbered-on (suc n) ms c a in
      absurd (omega (arith, k, l, e))
  one-checker n (m ∷ ms) c d (inr a) (inr b) e = one-checker (suc n) ms c d a b e

  pub own-numbers : (ms : List Machine) → HaveOwnNumbers (checkers_in ms depth names)
  own-numbers ms c d a b e = one-checker 0 ms c d a b e
