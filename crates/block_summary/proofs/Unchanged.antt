-- Exits of blocks that leave the tuple alone.
use Rattle.std.proofs.Common.{◌≡◌, ◌∙◌, arith, sym, ap, subst, Bool, true, List, [], ◌∷◌, ◌++◌, Contains}
use Rattle.std.specs.Prelude.{cond}
use Rattle.least_set.specs.Logs.{IsExactly, IsOnce}
use Rattle.row_flows.proofs.LeftCalm.{calm_ends, calm_shown}
use Rattle.row_flows.proofs.Lists.{few_once}
use Rattle.row_flows.specs.Concerns.{all_calm}
use Rattle.row_flows.specs.Crossing.{ends, shown}
use Rattle.row_flows.specs.declared.rows.EventRow.{EventRow}
use Rattle.row_flows.specs.declared.tuples.NumberedTuple.{NumberedTuple}
use Rattle.block_summary.specs.Exits.{AreExits, tuples_of}
use Rattle.block_summary.specs.declared.exits.Exits.{Exits}

exactly_all : {A : Type 0} (xs ys : List A) → xs ≡ ys → IsExactly xs (Contains ys)
exactly_all xs ys e = (λ c m. subst (λ l. Contains l c) e m, λ c m. subst (λ l. Contains l c) (sym e) m)

pub unchanged_exits : (rows : List EventRow) (is_root : Bool) (own : List Bool) (t : NumberedTuple) (e : Exits) → e.is_unchanged ≡ true → e.tuples.items ≡ [] → e.firings.items ≡ [] → all_calm t.object rows ≡ true
    → AreExits rows is_root own t e
unchanged_exits rows is_root own t e u ts fs calm =
    let all : tuples_of e t ≡ t ∷ [] = ap (λ b. cond b (t ∷ []) [] ++ e.tuples.items) u ∙ ap (λ l. t ∷ l) ts in record {
      tuples = exactly_all (tuples_of e t) (ends rows is_root own t) (all ∙ sym (calm_ends is_root own t rows calm));
      once = subst IsOnce (sym all) (few_once (t ∷ []) (omega arith));
      firings = exactly_all e.firings.items (shown 0 rows is_root own t) (fs ∙ sym (calm_shown is_root own t 0 rows calm));
    }
