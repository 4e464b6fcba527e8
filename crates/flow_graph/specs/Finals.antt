-- Where ways end that lead over blocks that only lead on, as a list by the numbers of blocks.
use Rattle.std.specs.Prelude.{ℕ, List, All}
use Rattle.flow_graph.specs.CPaths.Graphs.{Block}
use Rattle.flow_graph.specs.CPaths.Forwarders.{ComesTo}
use Rattle.flow_graph.specs.Targets.{target_of}

-- control that comes to a block comes to where its way ends
abbrev pub AreFinal : List Block → List ℕ → Type 0
AreFinal g finals = (b : ℕ) → ComesTo g b (target_of finals b)

-- control that comes to any of these blocks comes to the one
abbrev pub AllComeTo : List Block → ℕ → List ℕ → Type 0
AllComeTo g end bs = All (λ b. ComesTo g b end) bs
