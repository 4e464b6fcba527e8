-- What the blocks of a statement are: built from the end, with the blocks that they lead to already there.
-- A `goto` and a `switch` lead to any of a list of blocks, which are found on the way.
use Rattle.std.specs.Prelude.{◌≡◌, ◌⊎◌, ℕ, not, List, [], ◌∷◌, ◌++◌, Option, Some, None}
use Rattle.flow_graph.specs.CPaths.Membership.{Among}
use Rattle.flow_graph.specs.CPaths.Events.{Event}
use Rattle.flow_graph.specs.CPaths.Forms.{Form}
use Rattle.flow_graph.specs.CPaths.Flow.{Flow, Does, Block, If, While, Do, For, Switch, Case, Default, Label, Goto, Break, Continue, Return, Flows, no_flows, flows}
use Rattle.flow_graph.specs.CPaths.Labels.{if_so, has_default}
use Rattle.flow_graph.specs.CPaths.Graphs.{Block as BasicBlock, Ending, ToAny, Stops}
use Rattle.flow_graph.specs.CPaths.Fragments.{ToEither, Has, Fits, FitsRow}

-- a label, and the block where its statement begins
pub record Entry : Type 0 where
  pub label : ℕ
  pub block : ℕ

-- the list has this label with this block
abbrev pub HasEntry : ℕ → ℕ → List Entry → Type 0
HasEntry L b [] = ⊥
HasEntry L b (p ∷ ps) = ((p.label ≡ L) × (p.block ≡ b)) ⊎ HasEntry L b ps

-- the block h leads to a loop's condition, and that into its body or on
abbrev pub TestAt : (ℕ → List Event → Ending → Type 0) → Option Form → (body next h : ℕ) → Type 0
TestAt H None body next h = H h [] (ToAny (body ∷ []))
TestAt H (Some c) body next h = (t : ℕ) × H h [] (ToAny (t ∷ [])) × Fits H c (ToEither body next) t

-- In H the blocks of the statement begin at b and lead on to next, by `break` to brk and by `continue` to cont. J L b says
-- that b is the block of a `goto` to the label L. These are its cases for the innermost switch round it, and its labels.
abbrev mutual
  pub Built : (ℕ → List Event → Ending → Type 0) → (J : ℕ → ℕ → Type 0) → Flow → (next brk cont b : ℕ) → (cases : List ℕ) → (labels : List Entry) → Type 0
  Built H J (Does r) next brk cont b cs ls = FitsRow H r next b × (cs ≡ []) × (ls ≡ [])
  Built H J (Block ss) next brk cont b cs ls = BuiltIn H J ss next brk cont b cs ls
  Built H J (If c s t) next brk cont b cs ls =
      (m n : ℕ) × (cx cy : List ℕ) × (lx ly : List Entry) × Built H J t next brk cont n cy ly × Built H J s next brk cont m cx lx × Fits H c (ToEither m n) b × (cs ≡ cy ++ cx) × (ls ≡ ly ++ lx)
  Built H J (While c s) next brk cont b cs ls =
      (m : ℕ) × TestAt H (Some c) m next b × Built H J s b next b m cs ls
  Built H J (Do s c) next brk cont b cs ls =
      (h : ℕ) × TestAt H (Some c) b next h × Built H J s h next h b cs ls
  Built H J (For i c u s) next brk cont b cs ls =
      (h t m : ℕ) × FitsRow H i h b × FitsRow H u h t × TestAt H c m next h × Built H J s t next t m cs ls
  Built H J (Switch r s) next brk cont b cs ls =
      (v m : ℕ) × (cx targets : List ℕ) × FitsRow H r v b × H v [] (ToAny targets) × Built H J s next next cont m cx ls × (targets ≡ cx ++ if_so (not (has_default s)) next) × (cs ≡ [])
  Built H J (Case s) next brk cont b cs ls = (cx : List ℕ) × Built H J s next brk cont b cx ls × (cs ≡ cx ++ b ∷ [])
  Built H J (Default s) next brk cont b cs ls = (cx : List ℕ) × Built H J s next brk cont b cx ls × (cs ≡ cx ++ b ∷ [])
  Built H J (Label L s) next brk cont b cs ls = (lx : List Entry) × Built H J s next brk cont b cs lx × (ls ≡ lx ++ record { label = L; block = b } ∷ [])
  Built H J (Goto L) next brk cont b cs ls = J L b × (cs ≡ []) × (ls ≡ [])
  Built H J Break next brk cont b cs ls = (b ≡ brk) × (cs ≡ []) × (ls ≡ [])
  Built H J Continue next brk cont b cs ls = (b ≡ cont) × (cs ≡ []) × (ls ≡ [])
  Built H J (Return r e) next brk cont b cs ls = (x : ℕ) × H x (e ∷ []) Stops × FitsRow H r x b × (cs ≡ []) × (ls ≡ [])

  pub BuiltIn : (ℕ → List Event → Ending → Type 0) → (J : ℕ → ℕ → Type 0) → Flows → (next brk cont b : ℕ) → (cases : List ℕ) → (labels : List Entry) → Type 0
  BuiltIn H J no_flows next brk cont b cs ls = (b ≡ next) × (cs ≡ []) × (ls ≡ [])
  BuiltIn H J (flows s ss) next brk cont b cs ls =
      (m : ℕ) × (cx cy : List ℕ) × (lx ly : List Entry) × BuiltIn H J ss next brk cont m cy ly × Built H J s m brk cont b cx lx × (cs ≡ cy ++ cx) × (ls ≡ ly ++ lx)

-- the block b of g leads to exactly the blocks of the label L
abbrev pub GotoAt : List BasicBlock → List Entry → ℕ → ℕ → Type 0
GotoAt g labels L b = (bs : List ℕ) × Has g b [] (ToAny bs) × ((c : ℕ) → Among c bs → HasEntry L c labels) × ((c : ℕ) → HasEntry L c labels → Among c bs)

-- The graph g has the blocks of this body, which begin at entry. Its end gives this exit, and a `break` or a `continue` with
-- nothing round it to leave leads to a dead block.
pub record IsGraphOf (g : List BasicBlock) (body : Flow) (exit : Event) (entry : ℕ) : Type 0 where
  pub last : ℕ
  pub dead : ℕ
  pub cases : List ℕ
  pub labels : List Entry
  pub built : Built (Has g) (GotoAt g labels) body last dead dead entry cases labels
  pub at_last : Has g last (exit ∷ []) Stops
  pub at_dead : Has g dead [] (ToAny [])
