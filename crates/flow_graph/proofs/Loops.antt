-- Loops, put together from their parts.
use Rattle.std.proofs.Common.{◌≡◌, ℕ, ◌<◌, List, [], ◌∷◌, ◌++◌, Option, Some, length, get_or, refl, sym, ap, ◌∙◌, subst, arith}
use Rattle.std.proofs.lemmas.Option.{slice_get_within, slice_get-get_or}
use Rattle.std.proofs.lemmas.List.{length-map}
use Rattle.flow_graph.specs.CPaths.Forms.{Form, Row, done}
use Rattle.flow_graph.specs.CPaths.Flow.{Flow, While, Do, For}
use Rattle.flow_graph.specs.CPaths.Fragments.{Way}
use Rattle.flow_graph.specs.CPaths.Building.{Draft, Made, Placed, Waits, push, form_blocks, row_blocks, test_blocks, flow_blocks}
use Rattle.flow_graph.proofs.CPaths.DraftGrowth.{get_seam, form_grown, row_grown, flow_grown}
use Rattle.flow_graph.specs.declared.draft.Draft as drafts
use Rattle.flow_graph.specs.declared.statements.BodyBuilder.{BodyBuilder}
use Rattle.flow_graph.specs.Values.{draft_of, drafts_of, made}
use Rattle.flow_graph.specs.Statements.{IsPlaced}

-- the body of a loop whose head is h, and whose `continue` leads to t, and the test behind it
pub record IsLoop (old new : BodyBuilder) (old_cases new_cases : List ℕ) (c : Option Form) (s : Flow) (next inside : ℕ) (h t : Made) : Type 0 where
  pub tested : drafts_of new.blocks.drafts.items ≡ (let m = flow_blocks s t.block next t.block t.drafts in test_blocks c m.block next h.block m.drafts)
  pub begins : inside ≡ (flow_blocks s t.block next t.block t.drafts).block
  pub cases : new_cases ≡ old_cases ++ (flow_blocks s t.block next t.block t.drafts).cases
  pub labels : new.labels ≡ old.labels ++ (flow_blocks s t.block next t.block t.drafts).labels

pub looped : (old mid last new : BodyBuilder) (d e : List ℕ) (c : Option Form) (s : Flow) (next head around inside : ℕ) (h t : Made)
    → head ≡ h.block → made mid.blocks.drafts.items around ≡ t → mid.labels ≡ old.labels
    → IsPlaced mid last d e inside (flow_blocks s around next around (drafts_of mid.blocks.drafts.items))
    → drafts_of new.blocks.drafts.items ≡ test_blocks c inside next head (drafts_of last.blocks.drafts.items) → new.labels ≡ last.labels
    → IsLoop old new d e c s next inside h t
looped old mid last new d e c s next head around inside h t at_head at_around none placed tested kept =
    let there = drafts_of mid.blocks.drafts.items in
    let same : flow_blocks s around next around there ≡ flow_blocks s t.block next t.block t.drafts = ap (λ (m : Made). flow_blocks s m.block next m.block m.drafts) at_around in record {
      tested = tested
          ∙ ap (λ n. test_blocks c inside next n (drafts_of last.blocks.drafts.items)) at_head
          ∙ ap (λ n. test_blocks c n next h.block (drafts_of last.blocks.drafts.items)) placed.block
          ∙ ap (λ ds. test_blocks c (flow_blocks s around next around there).block next h.block ds) placed.drafts
          ∙ ap (λ (m : Placed). test_blocks c m.block next h.block m.drafts) same;
      begins = placed.block ∙ ap (λ (m : Placed). m.block) same;
      cases = placed.cases ∙ ap (λ (m : Placed). d ++ m.cases) same;
      labels = kept ∙ placed.labels ∙ ap (λ ls. ls ++ (flow_blocks s around next around there).labels) none ∙ ap (λ (m : Placed). old.labels ++ m.labels) same;
    }

pub while_placed : (old new : BodyBuilder) (d e : List ℕ) (x : Form) (s : Flow) (next brk cont inside head : ℕ) (ds : List Draft) → head ≡ (push ds [] Waits).block
    → IsLoop old new d e (Some x) s next inside (push ds [] Waits) (push ds [] Waits) → IsPlaced old new d e head (flow_blocks (While x s) next brk cont ds)
while_placed old new d e x s next brk cont inside head ds h l = record { drafts = l.tested; block = h; cases = l.cases; labels = l.labels }

pub do_placed : (old new : BodyBuilder) (d e : List ℕ) (x : Form) (s : Flow) (next brk cont inside : ℕ) (ds : List Draft)
    → IsLoop old new d e (Some x) s next inside (push ds [] Waits) (push ds [] Waits) → IsPlaced old new d e inside (flow_blocks (Do s x) next brk cont ds)
do_placed old new d e x s next brk cont inside ds l = record { drafts = l.tested; block = l.begins; cases = l.cases; labels = l.labels }

pub for_placed : (old new : BodyBuilder) (d e : List ℕ) (c : Option Form) (u : Row) (s : Flow) (next brk cont inside head : ℕ) (ds : List Draft) → head ≡ (push ds [] Waits).block
    → (let h = push ds [] Waits in IsLoop old new d e c s next inside h (row_blocks u h.block h.drafts)) → IsPlaced old new d e head (flow_blocks (For done c u s) next brk cont ds)
for_placed old new d e c u s next brk cont inside head ds h l = record { drafts = l.tested; block = h; cases = l.cases; labels = l.labels }

-- the first part of a `for`
pub first_placed : (old mid new : BodyBuilder) (d e : List ℕ) (i u : Row) (c : Option Form) (s : Flow) (next brk cont head b : ℕ) (ds : List Draft)
    → IsPlaced old mid d e head (flow_blocks (For done c u s) next brk cont ds) → made new.blocks.drafts.items b ≡ row_blocks i head (drafts_of mid.blocks.drafts.items) → new.labels ≡ mid.labels
    → IsPlaced old new d e b (flow_blocks (For i c u s) next brk cont ds)
first_placed old mid new d e i u c s next brk cont head b ds placed first kept =
    let p = flow_blocks (For done c u s) next brk cont ds in
    let same : made new.blocks.drafts.items b ≡ row_blocks i p.block p.drafts = first ∙ ap (λ n. row_blocks i n (drafts_of mid.blocks.drafts.items)) placed.block ∙ ap (λ xs. row_blocks i p.block xs) placed.drafts in record {
      drafts = ap (λ (m : Made). m.drafts) same;
      block = ap (λ (m : Made). m.block) same;
      cases = placed.cases;
      labels = kept ∙ placed.labels;
    }

below : (a b c d : ℕ) → a < b → c ≡ b → c ≡ d → a < d
below a b c d h e k = omega arith

-- the head of a loop is still there behind its body
pub head_within : (s : Flow) (u : Row) (next head : ℕ) (ds : List Draft) (xs : List drafts.Draft) → head ≡ (push ds [] Waits).block
    → (let h = push ds [] Waits in let t = row_blocks u h.block h.drafts in drafts_of xs ≡ (flow_blocks s t.block next t.block t.drafts).drafts) → head < length xs
head_within s u next head ds xs at_head built =
    let h = push ds [] Waits in
    let t = row_blocks u h.block h.drafts in
    let w : Draft = record { events = []; ending = Waits } in
    let seam = get_seam ds w in
    let stays = (flow_grown s t.block next t.block t.drafts).same (length ds) w ((row_grown u h.block h.drafts).same (length ds) w seam) in
    let within : length ds < length (flow_blocks s t.block next t.block t.drafts).drafts = slice_get_within _ _ _ stays in
    let sizes : length (drafts_of xs) ≡ length (flow_blocks s t.block next t.block t.drafts).drafts = ap length built in
    let mapped : length (drafts_of xs) ≡ length xs = length-map xs draft_of in
    below head (length (flow_blocks s t.block next t.block t.drafts).drafts) (length (drafts_of xs)) (length xs) (subst (λ n. n < length (flow_blocks s t.block next t.block t.drafts).drafts) (sym at_head) within) sizes mapped

-- what was there before an expression is there behind it
pub still_within : (x : Form) (way : Way) (head b : ℕ) (xs ys : List drafts.Draft) → head < length xs → made ys b ≡ form_blocks x way (drafts_of xs) → head < length ys
still_within x way head b xs ys h built =
    let d : Draft = record { events = []; ending = Waits } in
    let inside : head < length (drafts_of xs) = below head (length xs) (length xs) (length (drafts_of xs)) h refl (sym (length-map xs draft_of)) in
    let stays = (form_grown x way (drafts_of xs)).same head (get_or (drafts_of xs) head d) (slice_get-get_or (drafts_of xs) head d inside) in
    let within : head < length (form_blocks x way (drafts_of xs)).drafts = slice_get_within _ _ _ stays in
    let sizes : length (drafts_of ys) ≡ length (form_blocks x way (drafts_of xs)).drafts = ap (λ (m : Made). length m.drafts) built in
    below head (length (form_blocks x way (drafts_of xs)).drafts) (length (drafts_of ys)) (length ys) within sizes (length-map ys draft_of)
