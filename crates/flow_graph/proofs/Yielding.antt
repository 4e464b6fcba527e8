-- A list that is gone through by value.
use Rattle.std.proofs.Common.{◌≡◌, ◌<◌, ◌∷◌, ◌++◌, ◌+◌, [], ℕ, suc, List, length, map, take, get_or, refl, sym, ap, ◌∙◌, arith}
use Rattle.std.proofs.Math.Seq.{take-suc}
use Rattle.flow_graph.specs.CPaths.Layout.{Entry}
use Rattle.flow_graph.specs.CPaths.Building.{settled}
use Rattle.flow_graph.specs.CPaths.Forwarders.{redirected}
use Rattle.flow_graph.specs.declared.graph.Block.{Block}
use Rattle.flow_graph.specs.declared.draft.Draft.{Draft}
use Rattle.flow_graph.specs.Values.{block_of, blocks_of, draft_of, drafts_of}

pub nothing_left : {X : Type 0} (l : List X) → length l ≡ 0 → l ≡ []
nothing_left [] h = refl
nothing_left (x ∷ xs) h = absurd (omega arith)

pub map_push : {A B : Type 0} (f : A → B) (xs : List A) (x : A) → map f (xs ++ x ∷ []) ≡ map f xs ++ f x ∷ []
map_push f [] x = refl
map_push f (y ∷ xs) x = ap (λ ys. f y ∷ ys) (map_push f xs x)

-- one more of a list stands for what a function gives for one more of another
mapped_step : {A B X Y : Type 0} (f : X → Y) (new : B → Y) (old : A → X) (bs : List B) (ds : List A) (b : B) (d : A) → map new bs ≡ map f (map old ds) → new b ≡ f (old d)
    → map new (bs ++ b ∷ []) ≡ map f (map old (ds ++ d ∷ []))
mapped_step f new old bs ds b d e h =
    map_push new bs b
    ∙ ap (λ ys. ys ++ new b ∷ []) e
    ∙ ap (λ y. map f (map old ds) ++ y ∷ []) h
    ∙ sym (map_push f (map old ds) (old d))
    ∙ sym (ap (map f) (map_push old ds d))

-- one draft more is settled
pub settled_step : (L : List Entry) (bs : List Block) (ds : List Draft) (b : Block) (d : Draft) → blocks_of bs ≡ map (settled L) (drafts_of ds) → block_of b ≡ settled L (draft_of d)
    → blocks_of (bs ++ b ∷ []) ≡ map (settled L) (drafts_of (ds ++ d ∷ []))
settled_step L bs ds b d e h = mapped_step (settled L) block_of draft_of bs ds b d e h

-- one block more is redirected
pub redirected_step : (f : ℕ → ℕ) (bs cs : List Block) (b c : Block) → blocks_of bs ≡ map (redirected f) (blocks_of cs) → block_of b ≡ redirected f (block_of c)
    → blocks_of (bs ++ b ∷ []) ≡ map (redirected f) (blocks_of (cs ++ c ∷ []))
redirected_step f bs cs b c e h = mapped_step (redirected f) block_of block_of bs cs b c e h

-- what was made of those before a place, with what is made of the one there
next_is : (k : ℕ) → suc k ≡ k + 1
next_is k = omega arith

pub taken_step : {A B Y : Type 0} (new : B → Y) (f : A → Y) (bs : List B) (xs : List A) (k : ℕ) (b : B) (d : A) → k < length xs → map new bs ≡ map f (take k xs) → new b ≡ f (get_or xs k d)
    → map new (bs ++ b ∷ []) ≡ map f (take (k + 1) xs)
taken_step new f bs xs k b d within e h =
    map_push new bs b
    ∙ ap (λ ys. ys ++ new b ∷ []) e
    ∙ ap (λ y. map f (take k xs) ++ y ∷ []) h
    ∙ sym (map_push f (take k xs) (get_or xs k d))
    ∙ sym (ap (map f) (take-suc xs k d within))
    ∙ ap (λ m. map f (take m xs)) (next_is k)
