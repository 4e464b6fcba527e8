-- Blocks by number.
use Rattle.std.proofs.Common.{◌≡◌, ℕ, zero, suc, ◌<◌, List, [], ◌∷◌, length, map, get_or, Some, refl, sym, ap, ◌∙◌, arith}
use Rattle.std.specs.Prelude.{slice_get, slice_set}
use Rattle.std.proofs.lemmas.Option.{slice_get-map, slice_get-get_or}
use Rattle.std.specs.Option.{option_map}
use Rattle.flow_graph.specs.declared.graph.Block.{Block}
use Rattle.flow_graph.specs.Values.{block_of, blocks_of}

pub block_at : (bs : List Block) (i : ℕ) (d : Block) → i < length bs → slice_get (blocks_of bs) i ≡ Some (block_of (get_or bs i d))
block_at bs i d h = slice_get-map block_of bs i ∙ ap (option_map block_of) (slice_get-get_or bs i d h)

pub block_read : (bs : List Block) (i : ℕ) (x : Block) → i < length bs → x ≡ get_or bs i x → slice_get (blocks_of bs) i ≡ Some (block_of x)
block_read bs i x h e = block_at bs i x h ∙ ap (λ (b : Block). Some (block_of b)) (sym e)
