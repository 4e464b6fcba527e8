use Rattle.std.proofs.Common.{◌-◌, ◌<◌, ◌≤◌, ℕ, length}
use Rattle.c_lexer.specs.Tokens.{number_at}
use Rattle.c_lexer.proofs.tokens.index_of.Given as goal

abbrev pub invariant-halving : goal.invariant-halving
invariant-halving l = record {
  within : l.high ≤ length l.tokens;
  order : l.low ≤ l.high;
  below : (k : ℕ) → k < l.low → number_at l.tokens k < l.number;
  above : (k : ℕ) → l.high ≤ k → k < length l.tokens → l.number ≤ number_at l.tokens k;
}

abbrev pub decreases-halving : goal.decreases-halving
decreases-halving l = l.high - l.low
