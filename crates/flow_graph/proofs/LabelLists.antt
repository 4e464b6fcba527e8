-- The blocks of labels, one label more.
use Rattle.std.proofs.Common.{◌≡◌, ℕ, Bool, true, false, cond, nat_eq, List, [], ◌∷◌, ◌++◌, Option, None, Some, refl, sym, ap, ◌∙◌, append_assoc, append-nil, arith}
use Rattle.std.specs.Prelude.{◌==◌, Vec}
use Rattle.flow_graph.specs.CPaths.Listing.{if_so}
use Rattle.flow_graph.specs.CPaths.Layout as layout
use Rattle.flow_graph.specs.CPaths.Building.{label_blocks}
use Rattle.flow_graph.specs.declared.labels.Entry.{Entry}
use Rattle.flow_graph.specs.Labels.{entry_in, entries_in, items_of}

pub label_push : (label : ℕ) (es : List Entry) (e : Entry) → label_blocks label (entries_in (es ++ e ∷ [])) ≡ label_blocks label (entries_in es) ++ if_so (e.label == label) e.block
label_push label [] e = append-nil (if_so (e.label == label) e.block)
label_push label (x ∷ es) e =
    ap (λ bs. if_so (x.label == label) x.block ++ bs) (label_push label es e)
    ∙ sym (append_assoc (if_so (x.label == label) x.block) (label_blocks label (entries_in es)) (if_so (e.label == label) e.block))

-- the map of all labels with one block more
module _ {A : Type 0} (old new : ℕ → Option (Vec ℕ A)) (key x : ℕ) (w : Vec ℕ A) where
  pub pushed : w.items ≡ items_of (old key) ++ x ∷ [] → ((q : ℕ) → new q ≡ cond (nat_eq key q) (Some w) (old q))
      → (label : ℕ) → items_of (new label) ≡ items_of (old label) ++ if_so (key == label) x
  pushed d u label = by (nat_eq key label) refl
    where
      by : (b : Bool) → nat_eq key label ≡ b → items_of (new label) ≡ items_of (old label) ++ if_so (key == label) x
      by true e = let q : key ≡ label = grind arith in ap items_of (u label ∙ ap (λ b. cond b (Some w) (old label)) e) ∙ d ∙ ap (λ k. items_of (old k) ++ x ∷ []) q ∙ ap (λ b. items_of (old label) ++ if_so b x) (sym e)
      by false e = ap items_of (u label ∙ ap (λ b. cond b (Some w) (old label)) e) ∙ sym (append-nil (items_of (old label))) ∙ ap (λ b. items_of (old label) ++ if_so b x) (sym e)

  pub unpushed : w.items ≡ items_of (old key) → ((q : ℕ) → new q ≡ cond (nat_eq key q) (Some w) (old q)) → (label : ℕ) → items_of (new label) ≡ items_of (old label)
  unpushed d u label = by (nat_eq key label) refl
    where
      by : (b : Bool) → nat_eq key label ≡ b → items_of (new label) ≡ items_of (old label)
      by true e = let q : key ≡ label = grind arith in ap items_of (u label ∙ ap (λ b. cond b (Some w) (old label)) e) ∙ d ∙ ap (λ k. items_of (old k)) q
      by false e = ap items_of (u label ∙ ap (λ b. cond b (Some w) (old label)) e)
