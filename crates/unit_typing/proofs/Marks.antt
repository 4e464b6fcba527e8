-- The way back to a mark is the end of the scope that began there.
use Rattle.std.proofs.Common.{◌≡◌, ◌∙◌, List, [], ◌++◌, ap, refl, sym, subst, length, take, append_assoc}
use Rattle.std.proofs.Math.Seq.{take-append_seam}
use Rattle.std.proofs.lemmas.List.{append-nil}
use Rattle.c_tree.specs.Node.{Node, MaybeNode, absent, present, Nodes}
use Rattle.type_rules.specs.Moves.{opened_block, left_params}
use Rattle.type_rules.specs.Roles.{Role, Plain, Callee, Alone, Declares, Defines, Formal, Member, Inside, Formals, Body}
use Rattle.type_rules.specs.Scopes.{Scopes, deeper, leave, leave_formals}
use Rattle.type_rules.specs.Ways.ScopesByCase.{scoped, scoped_maybe, scoped_each}
use Rattle.type_rules.specs.Stays.{Begins, Stays}
use Rattle.type_rules.specs.Theorems.{ScopesStay}
use Rattle.unit_typing.specs.declared.scopes.Mark.{Mark}
use Rattle.unit_typing.specs.Scopes.{IsMark, back_to, back_with_formals}

pub left : (mark : Mark) (v w : Scopes) → IsMark mark v → Begins v.names w.names → Begins v.tags w.tags → back_to mark w ≡ leave v w
left mark v w m names tags =
    let ns : take mark.names w.names ≡ v.names = ap (λ n. take n w.names) m.names ∙ ap (take (length v.names)) names.1 ∙ take-append_seam v.names names.0 in
    let ts : take mark.tags w.tags ≡ v.tags = ap (λ n. take n w.tags) m.tags ∙ ap (take (length v.tags)) tags.1 ∙ take-append_seam v.tags tags.0 in
    rw (ns, ts, m.depth) refl

pub left_formals : (mark : Mark) (v w : Scopes) → IsMark mark v → Begins v.names w.names → Begins v.tags w.tags → back_with_formals mark w ≡ leave_formals v w
left_formals mark v w m names tags =
    let ns : take mark.names w.names ≡ v.names = ap (λ n. take n w.names) m.names ∙ ap (take (length v.names)) names.1 ∙ take-append_seam v.names names.0 in
    let ts : take mark.tags w.tags ≡ v.tags = ap (λ n. take n w.tags) m.tags ∙ ap (take (length v.tags)) tags.1 ∙ take-append_seam v.tags tags.0 in
    rw (ns, ts, m.depth, m.names, m.tags) refl

begins-trans : {A : Type 0} (xs ys zs : List A) → Begins xs ys → Begins ys zs → Begins xs zs
begins-trans {A = A} xs ys zs h k = (h.0 ++ k.0, k.1 ∙ ap (λ (ws : List A). ws ++ k.0) h.1 ∙ append_assoc xs h.0 k.0)

stays-trans : (u v w : Scopes) → Stays u v → Stays v w → Stays u w
stays-trans u v w h k = record {
  names = begins-trans u.names v.names w.names h.names k.names;
  tags = begins-trans u.tags v.tags w.tags h.tags k.tags;
  depth = k.depth ∙ h.depth;
}

stays-same : (v : Scopes) → Stays v v
stays-same v = record { names = ([], sym (append-nil v.names)); tags = ([], sym (append-nil v.tags)); depth = refl }

stays-maybe : ScopesStay → (v : Scopes) (r : Role) (e : MaybeNode) → Stays v (scoped_maybe v r e)
stays-maybe h v r absent = stays-same v
stays-maybe h v r (present e) = (h v r).0 e

-- the scope of a block begins with what was in force before it
block-names : (v : Scopes) (r : Role) → Begins v.names (opened_block v r).names
block-names v Body = (v.formal_names, refl)
block-names v Plain = ([], sym (append-nil v.names))
block-names v Callee = ([], sym (append-nil v.names))
block-names v Alone = ([], sym (append-nil v.names))
block-names v (Declares s t) = ([], sym (append-nil v.names))
block-names v (Defines s t) = ([], sym (append-nil v.names))
block-names v (Formal t) = ([], sym (append-nil v.names))
block-names v (Member n t) = ([], sym (append-nil v.names))
block-names v (Inside n) = ([], sym (append-nil v.names))
block-names v Formals = ([], sym (append-nil v.names))

block-tags : (v : Scopes) (r : Role) → Begins v.tags (opened_block v r).tags
block-tags v Body = (v.formal_tags, refl)
block-tags v Plain = ([], sym (append-nil v.tags))
block-tags v Callee = ([], sym (append-nil v.tags))
block-tags v Alone = ([], sym (append-nil v.tags))
block-tags v (Declares s t) = ([], sym (append-nil v.tags))
block-tags v (Defines s t) = ([], sym (append-nil v.tags))
block-tags v (Formal t) = ([], sym (append-nil v.tags))
block-tags v (Member n t) = ([], sym (append-nil v.tags))
block-tags v (Inside n) = ([], sym (append-nil v.tags))
block-tags v Formals = ([], sym (append-nil v.tags))

-- the end of a block
pub left_block : ScopesStay → (mark : Mark) (v : Scopes) (r : Role) (es : Nodes) → IsMark mark v
    → back_to mark (scoped_each (opened_block v r) Plain es) ≡ leave v (scoped_each (opened_block v r) Plain es)
left_block h mark v r es m =
    let o = opened_block v r in
    let w = scoped_each o Plain es in
    let k = (h o Plain).1 es in
    left mark v w m (begins-trans v.names o.names w.names (block-names v r) k.names) (begins-trans v.tags o.tags w.tags (block-tags v r) k.tags)

-- the end of a `for` with a declaration
pub left_for : ScopesStay → (mark : Mark) (v : Scopes) (d : Node) (c s : MaybeNode) (b : Node) → IsMark mark v
    → back_to mark (scoped (scoped_maybe (scoped_maybe (scoped (deeper v) Plain d) Plain c) Plain s) Plain b)
    ≡ leave v (scoped (scoped_maybe (scoped_maybe (scoped (deeper v) Plain d) Plain c) Plain s) Plain b)
left_for h mark v d c s b m =
    let w1 = scoped (deeper v) Plain d in
    let w2 = scoped_maybe w1 Plain c in
    let w3 = scoped_maybe w2 Plain s in
    let w4 = scoped w3 Plain b in
    let k1 = (h (deeper v) Plain).0 d in
    let k2 = stays-trans (deeper v) w1 w2 k1 (stays-maybe h w1 Plain c) in
    let k3 = stays-trans (deeper v) w2 w3 k2 (stays-maybe h w2 Plain s) in
    let k4 = stays-trans (deeper v) w3 w4 k3 ((h w3 Plain).0 b) in
    left mark v w4 m k4.names k4.tags

-- The same where code goes: the scopes behind the beginning, those behind the parts, and those behind the end.
pub block_end : ScopesStay → (mark : Mark) (v : Scopes) (r : Role) (es : Nodes) (a b n : Scopes) → IsMark mark v
    → a ≡ opened_block v r → b ≡ scoped_each a Plain es → n ≡ back_to mark b → n ≡ leave v (scoped_each (opened_block v r) Plain es)
block_end h mark v r es a b n m e f g = g ∙ ap (back_to mark) (f ∙ ap (λ o. scoped_each o Plain es) e) ∙ left_block h mark v r es m

pub for_end : ScopesStay → (mark : Mark) (v : Scopes) (d : Node) (c s : MaybeNode) (b : Node) (v0 v1 v2 v3 v4 n : Scopes) → IsMark mark v
    → v0 ≡ deeper v → v1 ≡ scoped v0 Plain d → v2 ≡ scoped_maybe v1 Plain c → v3 ≡ scoped_maybe v2 Plain s → v4 ≡ scoped v3 Plain b → n ≡ back_to mark v4
    → n ≡ leave v (scoped (scoped_maybe (scoped_maybe (scoped (deeper v) Plain d) Plain c) Plain s) Plain b)
for_end h mark v d c s b v0 v1 v2 v3 v4 n m e0 e1 e2 e3 e4 g =
    let f1 = e1 ∙ ap (λ o. scoped o Plain d) e0 in
    let f2 = e2 ∙ ap (λ o. scoped_maybe o Plain c) f1 in
    let f3 = e3 ∙ ap (λ o. scoped_maybe o Plain s) f2 in
    let f4 = e4 ∙ ap (λ o. scoped o Plain b) f3 in
    g ∙ ap (back_to mark) f4 ∙ left_for h mark v d c s b m

pub params_end : ScopesStay → (mark : Mark) (v : Scopes) (r : Role) (es : Nodes) (a b n : Scopes) → IsMark mark v
    → a ≡ deeper v → b ≡ scoped_each a Plain es → ((u : Scopes) → IsMark mark u → Stays (deeper u) b → n ≡ left_params r u b)
    → n ≡ left_params r v (scoped_each (deeper v) Plain es)
params_end h mark v r es a b n m e f k =
    let q = f ∙ ap (λ o. scoped_each o Plain es) e in
    k v m (subst (λ (w : Scopes). Stays (deeper v) w) (sym q) ((h (deeper v) Plain).1 es)) ∙ ap (left_params r v) q
