-- What is closed over filed moves and calls is closed over those that were filed; and what is found over them is found over these.
use Rattle.std.proofs.Common.{◌≡◌, ℕ, List, subst}
use Rattle.c_objects.specs.Objects.{Object}
use Rattle.known_objects.specs.Linked.{MovesIn, EntersIn, HandsIn}
use Rattle.known_objects.specs.declared.changes.Move.{Move}
use Rattle.known_objects.specs.declared.changes.Numbered.{Numbered}

-- of all three: the depth, and the list
pub same-links : (F : (ℕ → Object → Object → Type 0) → (ℕ → ℕ → Object → ℕ → Object → Type 0) → (ℕ → ℕ → Object → ℕ → Object → Type 0) → Type 0)
    (a b c depth : ℕ) (moves was : List Move) (entries returns calls : List Numbered)
    → a ≡ depth → moves ≡ was → b ≡ depth → entries ≡ calls → c ≡ depth → returns ≡ calls
    → F (MovesIn a moves) (EntersIn b entries) (HandsIn c returns) → F (MovesIn depth was) (EntersIn depth calls) (HandsIn depth calls)
same-links F a b c depth moves was entries returns calls da dm db de dc dr h =
    subst (λ n. F (MovesIn depth was) (EntersIn depth calls) (HandsIn n calls)) dc
    (subst (λ l. F (MovesIn depth was) (EntersIn depth calls) (HandsIn c l)) dr
    (subst (λ n. F (MovesIn depth was) (EntersIn n calls) (HandsIn c returns)) db
    (subst (λ l. F (MovesIn depth was) (EntersIn b l) (HandsIn c returns)) de
    (subst (λ n. F (MovesIn n was) (EntersIn b entries) (HandsIn c returns)) da
    (subst (λ l. F (MovesIn a l) (EntersIn b entries) (HandsIn c returns)) dm h)))))
