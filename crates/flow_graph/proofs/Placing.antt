-- How statements that were built one after the other are put together.
use Rattle.std.proofs.Common.{◌≡◌, ℕ, List, [], ◌∷◌, ◌++◌, refl, sym, ap, ◌∙◌, subst, append_assoc, append-nil}
use Rattle.std.specs.Prelude.{not}
use Rattle.flow_graph.specs.CPaths.Forms.{Form, Row}
use Rattle.flow_graph.specs.CPaths.Flow.{Flow, If, Switch, Flows, flows}
use Rattle.flow_graph.specs.CPaths.Fragments.{ToEither}
use Rattle.flow_graph.specs.CPaths.Graphs.{ToAny}
use Rattle.flow_graph.specs.CPaths.Layout.{Entry}
use Rattle.flow_graph.specs.CPaths.Listing.{if_so, has_default}
use Rattle.flow_graph.specs.CPaths.Building.{Draft, Made, Placed, Settled, push, simple, form_blocks, row_blocks, flow_blocks, flows_blocks}
use Rattle.flow_graph.specs.declared.statements.Ahead.{Ahead}
use Rattle.flow_graph.specs.declared.statements.BodyBuilder.{BodyBuilder}
use Rattle.flow_graph.specs.Values.{drafts_of, made}
use Rattle.flow_graph.specs.Statements.{IsPlaced, blocks_ahead, rows_ahead}

-- without cases and labels
pub placed_simply : (old new : BodyBuilder) (c : List ℕ) (b : ℕ) (m : Made) → made new.blocks.drafts.items b ≡ m → new.labels ≡ old.labels → IsPlaced old new c c b (simple m)
placed_simply old new c b m e h = record {
  drafts = ap (λ (m : Made). m.drafts) e;
  block = ap (λ (m : Made). m.block) e;
  cases = sym (append-nil c);
  labels = h ∙ sym (append-nil old.labels);
}

-- the same, where the plain builder says that there are none
pub placed_as : (old new : BodyBuilder) (c : List ℕ) (b : ℕ) (p : Placed) → simple (made new.blocks.drafts.items b) ≡ p → new.labels ≡ old.labels → IsPlaced old new c c b p
placed_as old new c b p e h = record {
  drafts = ap (λ (p : Placed). p.drafts) e;
  block = ap (λ (p : Placed). p.block) e;
  cases = sym (append-nil c) ∙ ap (λ (p : Placed). c ++ p.cases) e;
  labels = h ∙ sym (append-nil old.labels) ∙ ap (λ (p : Placed). old.labels ++ p.labels) e;
}

-- one behind the other, where the second is built first
pub placed_both : (old mid new : BodyBuilder) (c d e : List ℕ) (a b : ℕ) (n m : Placed) → IsPlaced old mid c d a n → IsPlaced mid new d e b m
    → IsPlaced old new c e b (record { drafts = m.drafts; block = m.block; cases = n.cases ++ m.cases; labels = n.labels ++ m.labels })
placed_both old mid new c d e a b n m h k = record {
  drafts = k.drafts;
  block = k.block;
  cases = k.cases ∙ ap (λ xs. xs ++ m.cases) h.cases ∙ append_assoc c n.cases m.cases;
  labels = k.labels ∙ ap (λ xs. xs ++ m.labels) h.labels ∙ append_assoc old.labels n.labels m.labels;
}

-- an expression before it
pub placed_before : (old mid new : BodyBuilder) (c d : List ℕ) (a b : ℕ) (m : Placed) (x : Made) → IsPlaced old mid c d a m → made new.blocks.drafts.items b ≡ x → new.labels ≡ mid.labels
    → IsPlaced old new c d b (record { drafts = x.drafts; block = x.block; cases = m.cases; labels = m.labels })
placed_before old mid new c d a b m x h e l = record {
  drafts = ap (λ (m : Made). m.drafts) e;
  block = ap (λ (m : Made). m.block) e;
  cases = h.cases;
  labels = l ∙ h.labels;
}

-- one statement before others
pub placed_more : (old mid new : BodyBuilder) (c d e : List ℕ) (a b brk cont next : ℕ) (s : Flow) (ss : Flows) (ds : List Draft)
    → IsPlaced old mid c d a (flows_blocks ss next brk cont ds) → IsPlaced mid new d e b (flow_blocks s a brk cont (drafts_of mid.blocks.drafts.items))
    → IsPlaced old new c e b (flows_blocks (flows s ss) next brk cont ds)
placed_more old mid new c d e a b brk cont next s ss ds h k =
    let n = flows_blocks ss next brk cont ds in
    let same : flow_blocks s a brk cont (drafts_of mid.blocks.drafts.items) ≡ flow_blocks s n.block brk cont n.drafts
    = ap (λ x. flow_blocks s x brk cont (drafts_of mid.blocks.drafts.items)) h.block ∙ ap (λ d. flow_blocks s n.block brk cont d) h.drafts in
    placed_both old mid new c d e a b n (flow_blocks s n.block brk cont n.drafts) h (subst (λ p. IsPlaced mid new d e b p) same k)

-- an `if`: the second statement first, then the first, then the condition
pub if_placed : (old mid last new : BodyBuilder) (c d e : List ℕ) (fails holds b next brk cont : ℕ) (x : Form) (s t : Flow) (ds : List Draft)
    → IsPlaced old mid c d fails (flow_blocks t next brk cont ds) → IsPlaced mid last d e holds (flow_blocks s next brk cont (drafts_of mid.blocks.drafts.items))
    → made new.blocks.drafts.items b ≡ form_blocks x (ToEither holds fails) (drafts_of last.blocks.drafts.items) → new.labels ≡ last.labels
    → IsPlaced old new c e b (flow_blocks (If x s t) next brk cont ds)
if_placed old mid last new c d e fails holds b next brk cont x s t ds h k made_is kept =
    let n = flow_blocks t next brk cont ds in
    let m = flow_blocks s next brk cont n.drafts in
    let second : IsPlaced mid last d e holds m = subst (λ xs. IsPlaced mid last d e holds (flow_blocks s next brk cont xs)) h.drafts k in
    let both = placed_both old mid last c d e fails holds n m h second in
    placed_before old last new c e holds b (record { drafts = m.drafts; block = m.block; cases = n.cases ++ m.cases; labels = n.labels ++ m.labels }) (form_blocks x (ToEither m.block n.block) m.drafts) both
    (made_is
    ∙ ap (λ a. form_blocks x (ToEither a fails) (drafts_of last.blocks.drafts.items)) second.block
    ∙ ap (λ a. form_blocks x (ToEither m.block a) (drafts_of last.blocks.drafts.items)) h.block
    ∙ ap (λ xs. form_blocks x (ToEither m.block n.block) xs) second.drafts)
    kept

-- a `switch`: its body with a list of its own, the choice, and the value before it
pub switch_placed : (old mid last : BodyBuilder) (c cases targets : List ℕ) (inside choice b next brk cont : ℕ) (r : Row) (s : Flow) (ds : List Draft) (between : Made)
    → IsPlaced old mid [] cases inside (flow_blocks s next next cont ds)
    → targets ≡ cases ++ if_so (not (has_default s)) next
    → between ≡ push (drafts_of mid.blocks.drafts.items) [] (Settled (ToAny targets))
    → made last.blocks.drafts.items b ≡ row_blocks r between.block between.drafts → last.labels ≡ mid.labels
    → IsPlaced old last c c b (flow_blocks (Switch r s) next brk cont ds)
switch_placed old mid last c cases targets inside choice b next brk cont r s ds between placed completed pushed made_is kept =
    let m = flow_blocks s next next cont ds in
    let all : targets ≡ m.cases ++ if_so (not (has_default s)) next = completed ∙ ap (λ xs. xs ++ if_so (not (has_default s)) next) placed.cases in
    let v : between ≡ push m.drafts [] (Settled (ToAny (m.cases ++ if_so (not (has_default s)) next))) = pushed ∙ ap (λ xs. push xs [] (Settled (ToAny targets))) placed.drafts ∙ ap (λ xs. push m.drafts [] (Settled (ToAny xs))) all in
    let same : made last.blocks.drafts.items b ≡ row_blocks r (push m.drafts [] (Settled (ToAny (m.cases ++ if_so (not (has_default s)) next)))).block (push m.drafts [] (Settled (ToAny (m.cases ++ if_so (not (has_default s)) next)))).drafts
    = made_is ∙ ap (λ (x : Made). row_blocks r x.block x.drafts) v in record {
      drafts = ap (λ (x : Made). x.drafts) same;
      block = ap (λ (x : Made). x.block) same;
      cases = sym (append-nil c);
      labels = kept ∙ placed.labels;
    }

-- a `case` or a `default` before a statement
pub case_placed : (old new : BodyBuilder) (c d e : List ℕ) (b : ℕ) (m : Placed) → IsPlaced old new c d b m → e ≡ d ++ b ∷ []
    → IsPlaced old new c e b (record { drafts = m.drafts; block = m.block; cases = m.cases ++ m.block ∷ []; labels = m.labels })
case_placed old new c d e b m h pushed = record {
  drafts = h.drafts;
  block = h.block;
  cases = pushed ∙ ap (λ xs. xs ++ b ∷ []) h.cases ∙ append_assoc c m.cases (b ∷ []) ∙ ap (λ n. c ++ (m.cases ++ n ∷ [])) h.block;
  labels = h.labels;
}

-- a label before a statement
pub label_placed : (old mid new : BodyBuilder) (c d : List ℕ) (label b : ℕ) (m : Placed) → IsPlaced old mid c d b m → drafts_of new.blocks.drafts.items ≡ drafts_of mid.blocks.drafts.items
    → new.labels ≡ mid.labels ++ record { label = label; block = b } ∷ []
    → IsPlaced old new c d b (record { drafts = m.drafts; block = m.block; cases = m.cases; labels = m.labels ++ record { label = label; block = m.block } ∷ [] })
label_placed old mid new c d label b m h kept pushed = record {
  drafts = kept ∙ h.drafts;
  block = h.block;
  cases = h.cases;
  labels = pushed
      ∙ ap (λ (ls : List Entry). ls ++ record { label = label; block = b } ∷ []) h.labels
      ∙ append_assoc old.labels m.labels (record { label = label; block = b } ∷ [])
      ∙ ap (λ (n : ℕ). old.labels ++ (m.labels ++ record { label = label; block = n } ∷ [])) h.block;
}

-- a `switch` keeps the cases of the one round it
pub switch_within : (old new : BodyBuilder) (c : List ℕ) (b next brk cont : ℕ) (r : Row) (s : Flow) (ds : List Draft)
    → IsPlaced old new [] [] b (flow_blocks (Switch r s) next brk cont ds) → IsPlaced old new c c b (flow_blocks (Switch r s) next brk cont ds)
switch_within old new c b next brk cont r s ds h = record { drafts = h.drafts; block = h.block; cases = sym (append-nil c); labels = h.labels }
