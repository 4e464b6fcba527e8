-- What the plain builder makes of an expression, put together from what it makes of the parts. Each part is built behind the
-- one that it leads to.
use Rattle.std.proofs.Common.{◌≡◌, ℕ, List, ◌∷◌, [], refl, sym, ap, ◌∙◌}
use Rattle.c_tree.specs.Node.{Node, Nodes, more}
use Rattle.path_theory.specs.Marks.{EventMark}
use Rattle.flow_graph.specs.CPaths.Events.{Event}
use Rattle.flow_graph.specs.CPaths.Facts.{Facts}
use Rattle.flow_graph.specs.CPaths.Forms.{Form, Plain, Inverts, Keeps, Both, Any, Chooses, Follows, Row, done, operand, item}
use Rattle.flow_graph.specs.CPaths.Fragments.{Way, To, ToEither}
use Rattle.flow_graph.specs.CPaths.TreeForms.{form_of, operands}
use Rattle.flow_graph.specs.CPaths.TreeFlow.{declarator_then, declarators_row}
use Rattle.flow_graph.specs.CPaths.Building.{Draft, Made, lead, split_blocks, form_blocks, row_blocks}
use Rattle.flow_graph.specs.Chosen.{chosen_blocks}
use Rattle.flow_graph.proofs.Backwards.{operands_split, declarator_split}

-- what stands behind a row
row_on : (r : Row) (m n : Made) → m ≡ n → row_blocks r m.block m.drafts ≡ row_blocks r n.block n.drafts
row_on r m n e = ap (λ (c : Made). row_blocks r c.block c.drafts) e

form_on : (x : Form) (m n : Made) → m ≡ n → form_blocks x (To m.block) m.drafts ≡ form_blocks x (To n.block) n.drafts
form_on x m n e = ap (λ (c : Made). form_blocks x (To c.block) c.drafts) e

pub plain_row : (n : Node) (r : Row) (way : Way) (ds : List Draft) (a b : Made) → a ≡ split_blocks n way ds → b ≡ row_blocks r a.block a.drafts → b ≡ form_blocks (Plain n r) way ds
plain_row n r way ds a b e h = h ∙ row_on r a (split_blocks n way ds) e

pub row_operand : (x : Form) (r : Row) (v : ℕ) (ds : List Draft) (a b : Made) → a ≡ row_blocks r v ds → b ≡ form_blocks x (To a.block) a.drafts → b ≡ row_blocks (operand x r) v ds
row_operand x r v ds a b e h = h ∙ form_on x a (row_blocks r v ds) e

pub plain_operand : (n : Node) (x : Form) (r : Row) (way : Way) (ds : List Draft) (a b c : Made) → a ≡ split_blocks n way ds → b ≡ row_blocks r a.block a.drafts → c ≡ form_blocks x (To b.block) b.drafts
    → c ≡ form_blocks (Plain n (operand x r)) way ds
plain_operand n x r way ds a b c e h k = plain_row n (operand x r) way ds a c e (row_operand x r a.block a.drafts b c h k)

pub plain_operands : (n : Node) (x y : Form) (r : Row) (way : Way) (ds : List Draft) (a b c d : Made) → a ≡ split_blocks n way ds → b ≡ row_blocks r a.block a.drafts → c ≡ form_blocks y (To b.block) b.drafts → d ≡ form_blocks x (To c.block) c.drafts
    → d ≡ form_blocks (Plain n (operand x (operand y r))) way ds
plain_operands n x y r way ds a b c d e h k l = plain_operand n x (operand y r) way ds a c d e (row_operand y r a.block a.drafts b c h k) l

pub called : (F : Facts) (n : Node) (x : Form) (ns : Nodes) (r : Row) (way : Way) (ds : List Draft) (a b c d : Made) → a ≡ split_blocks n way ds → b ≡ row_blocks r a.block a.drafts → c ≡ row_blocks (operands F ns done) b.block b.drafts → d ≡ form_blocks x (To c.block) c.drafts
    → d ≡ form_blocks (Plain n (operand x (operands F ns r))) way ds
called F n x ns r way ds a b c d e h k l =
    plain_operand n x (operands F ns r) way ds a c d e (k ∙ row_on (operands F ns done) b (row_blocks r a.block a.drafts) h ∙ sym (operands_split F ns r a.block a.drafts)) l

pub arrow_read : (n : Node) (x : Form) (i : Event) (r : Row) (way : Way) (ds : List Draft) (a b c d : Made) → a ≡ split_blocks n way ds → b ≡ row_blocks r a.block a.drafts → c ≡ lead b.drafts (i ∷ []) b.block → d ≡ form_blocks x (To c.block) c.drafts
    → d ≡ form_blocks (Plain n (operand x (item (EventMark i) r))) way ds
arrow_read n x i r way ds a b c d e h k l =
    plain_operand n x (item (EventMark i) r) way ds a c d e (k ∙ ap (λ (m : Made). lead m.drafts (i ∷ []) m.block) h) l

pub both_value : (x y : Form) (r : Row) (v : ℕ) (ds : List Draft) (a b c : Made) → a ≡ row_blocks r v ds → b ≡ form_blocks y (ToEither a.block a.block) a.drafts → c ≡ form_blocks x (ToEither b.block a.block) b.drafts
    → c ≡ form_blocks (Both x y r) (To v) ds
both_value x y r v ds a b c e h k =
    k ∙ ap (λ (m : Made). form_blocks x (ToEither m.block a.block) m.drafts) h
    ∙ ap (λ (m : Made). let d = form_blocks y (ToEither m.block m.block) m.drafts in form_blocks x (ToEither d.block m.block) d.drafts) e

pub both_condition : (x y : Form) (r : Row) (t f : ℕ) (ds : List Draft) (a b : Made) → a ≡ form_blocks y (ToEither t f) ds → b ≡ form_blocks x (ToEither a.block f) a.drafts → b ≡ form_blocks (Both x y r) (ToEither t f) ds
both_condition x y r t f ds a b e h = h ∙ ap (λ (m : Made). form_blocks x (ToEither m.block f) m.drafts) e

pub any_value : (x y : Form) (r : Row) (v : ℕ) (ds : List Draft) (a b c : Made) → a ≡ row_blocks r v ds → b ≡ form_blocks y (ToEither a.block a.block) a.drafts → c ≡ form_blocks x (ToEither a.block b.block) b.drafts
    → c ≡ form_blocks (Any x y r) (To v) ds
any_value x y r v ds a b c e h k =
    k ∙ ap (λ (m : Made). form_blocks x (ToEither a.block m.block) m.drafts) h
    ∙ ap (λ (m : Made). let d = form_blocks y (ToEither m.block m.block) m.drafts in form_blocks x (ToEither m.block d.block) d.drafts) e

pub any_condition : (x y : Form) (r : Row) (t f : ℕ) (ds : List Draft) (a b : Made) → a ≡ form_blocks y (ToEither t f) ds → b ≡ form_blocks x (ToEither t a.block) a.drafts → b ≡ form_blocks (Any x y r) (ToEither t f) ds
any_condition x y r t f ds a b e h = h ∙ ap (λ (m : Made). form_blocks x (ToEither t m.block) m.drafts) e

pub inverts_value : (x : Form) (r : Row) (v : ℕ) (ds : List Draft) (a b : Made) → a ≡ row_blocks r v ds → b ≡ form_blocks x (To a.block) a.drafts → b ≡ form_blocks (Inverts x r) (To v) ds
inverts_value x r v ds a b e h = row_operand x r v ds a b e h

pub follows_condition : (x y : Form) (r : Row) (t f : ℕ) (ds : List Draft) (a b : Made) → a ≡ form_blocks y (ToEither t f) ds → b ≡ form_blocks x (To a.block) a.drafts → b ≡ form_blocks (Follows x y r) (ToEither t f) ds
follows_condition x y r t f ds a b e h = h ∙ form_on x a (form_blocks y (ToEither t f) ds) e

pub chosen : (x y z : Form) (way : Way) (ds : List Draft) (a b c : Made) → a ≡ form_blocks y way ds → b ≡ form_blocks z way a.drafts → c ≡ form_blocks x (ToEither a.block b.block) b.drafts → c ≡ chosen_blocks x y z way ds
chosen x y z way ds a b c e h k =
    k ∙ ap (λ (m : Made). form_blocks x (ToEither a.block m.block) m.drafts) h
    ∙ ap (λ (m : Made). let d = form_blocks z way m.drafts in form_blocks x (ToEither m.block d.block) d.drafts) e

pub chosen_value : (x y z : Form) (r : Row) (v : ℕ) (ds : List Draft) (a b : Made) → a ≡ row_blocks r v ds → b ≡ chosen_blocks x y z (To a.block) a.drafts → b ≡ form_blocks (Chooses x y z r) (To v) ds
chosen_value x y z r v ds a b e h = h ∙ ap (λ (m : Made). chosen_blocks x y z (To m.block) m.drafts) e

-- one tree before others
pub operands_more : (F : Facts) (n : Node) (ns : Nodes) (v : ℕ) (ds : List Draft) (a b : Made) → a ≡ row_blocks (operands F ns done) v ds → b ≡ form_blocks (form_of F n) (To a.block) a.drafts → b ≡ row_blocks (operands F (more n ns) done) v ds
operands_more F n ns v ds a b e h = row_operand (form_of F n) (operands F ns done) v ds a b e h

-- one declarator before others
pub declarators_more : (F : Facts) (n : Node) (ns : Nodes) (v : ℕ) (ds : List Draft) (a b : Made) → a ≡ row_blocks (declarators_row F ns) v ds → b ≡ row_blocks (declarator_then F n done) a.block a.drafts → b ≡ row_blocks (declarators_row F (more n ns)) v ds
declarators_more F n ns v ds a b e h = h ∙ row_on (declarator_then F n done) a (row_blocks (declarators_row F ns) v ds) e ∙ sym (declarator_split F n (declarators_row F ns) v ds)
