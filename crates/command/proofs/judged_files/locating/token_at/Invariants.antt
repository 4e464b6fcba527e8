-- the token stands among those that are left
use Rattle.std.proofs.Common.{◌≡◌, ◌-◌, Contains, drop, length}
use Rattle.c_tree.specs.declared.token.Token.{Token}
use Rattle.command.proofs.judged_files.locating.token_at.Given as goal

abbrev pub invariant-loop-place : goal.invariant-loop-place
invariant-loop-place l = (t : Token) × Contains (drop l.position l.tokens) t × (t.place ≡ l.place)

abbrev pub decreases-loop-place : goal.decreases-loop-place
decreases-loop-place l = length l.tokens - l.position
