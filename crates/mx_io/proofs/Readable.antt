-- Reads of readable files.
use Rattle.std.proofs.Common.{◌≡◌, ℕ, Bool, List, subst}
use Rattle.mx_io.specs.Reads.{ReadsReadable}

-- reads behind others of which none failed
pub reads_behind : (readable behind : List ℕ → Bool) (old mid new : List (List ℕ)) → behind ≡ readable → mid ≡ old → ReadsReadable behind mid new → ReadsReadable readable old new
reads_behind readable behind old mid new kept none reads = subst (λ (r : List ℕ → Bool). ReadsReadable r old new) kept (subst (λ (before : List (List ℕ)). ReadsReadable behind before new) none reads)
