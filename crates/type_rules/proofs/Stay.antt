-- Behind a node, the names and tags of before are still in force, in the same scope.
use Rattle.std.proofs.Common.{◌≡◌, ℕ, Bool, true, false, cond, List, [], ◌∷◌, ◌++◌, length, take, Option, None, Some, ap, refl, ◌∙◌, sym, subst}
use Rattle.c_tree.specs.declared.token.Token.{Token}
use Rattle.c_tree.specs.Node.{Node, Shape, Specifier, Declarator, Part, Statement, Iteration, SpecifierShape, StructTag, StructBody, EnumTag, EnumBody, StructDeclaration, Params, Enumerator, Block, ForDeclaration, Nodes, no_more, more}
use Rattle.type_rules.specs.Declarators.{enumerator}
use Rattle.type_rules.specs.Definition.{after, after_all}
use Rattle.type_rules.specs.Moves.{mention, declares, declares_member, opened, closed, left_params, behind_declarator, behind_members, behind_specifier}
use Rattle.type_rules.specs.Options.{if_there}
use Rattle.type_rules.specs.Parts.{Slot, Visit, visit, Parts, none, part}
use Rattle.type_rules.specs.Roles.{Role, Formals, given}
use Rattle.type_rules.specs.Scopes.{Scopes, Entry, Tag, Sort, Enums, with_name, with_member, leave, leave_formals}
use Rattle.type_rules.specs.Scopes as held
use Rattle.type_rules.specs.Stays.{Begins, Stays}
use Rattle.type_rules.specs.Tags.{Mention, WithBody, sort_of, is_enum, has_body, meant, mentioned, a_tag, with_tag, with_struct, body_opened}

nil-right : {A : Type 0} (xs : List A) → xs ++ [] ≡ xs
nil-right [] = refl
nil-right (x ∷ xs) = ap (λ ys. x ∷ ys) (nil-right xs)

append-twice : {A : Type 0} (xs ys zs : List A) → (xs ++ ys) ++ zs ≡ xs ++ (ys ++ zs)
append-twice [] ys zs = refl
append-twice (x ∷ xs) ys zs = ap (λ l. x ∷ l) (append-twice xs ys zs)

begins-all : {A : Type 0} (xs : List A) → Begins xs xs
begins-all xs = ([], sym (nil-right xs))

begins-more : {A : Type 0} (xs ys : List A) → Begins xs (xs ++ ys)
begins-more xs ys = (ys, refl)

begins-trans : {A : Type 0} (xs ys zs : List A) → Begins xs ys → Begins ys zs → Begins xs zs
begins-trans xs ys zs h k = (h.0 ++ k.0, k.1 ∙ ap (λ l. l ++ k.0) h.1 ∙ append-twice xs h.0 k.0)

pub take-begins : {A : Type 0} (xs zs : List A) → take (length xs) (xs ++ zs) ≡ xs
take-begins [] zs = refl
take-begins (x ∷ xs) zs = ap (λ l. x ∷ l) (take-begins xs zs)

stays-same : (v w : Scopes) → w.names ≡ v.names → w.tags ≡ v.tags → w.depth ≡ v.depth → Stays v w
stays-same v w h k l = record {
  names = subst (λ (x : List Entry). Begins v.names x) (sym h) (begins-all v.names);
  tags = subst (λ (x : List Tag). Begins v.tags x) (sym k) (begins-all v.tags);
  depth = l;
}

pub stays-all : (v : Scopes) → Stays v v
stays-all v = stays-same v v refl refl refl

pub stays-trans : (v w u : Scopes) → Stays v w → Stays w u → Stays v u
stays-trans v w u h k = record {
  names = begins-trans v.names w.names u.names h.names k.names;
  tags = begins-trans v.tags w.tags u.tags h.tags k.tags;
  depth = k.depth ∙ h.depth;
}

stays-named : (v : Scopes) (k : Entry) → Stays v (with_name v k)
stays-named v k = record { names = begins-more v.names (k ∷ []); tags = begins-all v.tags; depth = refl }

stays-tagged : (v : Scopes) (g : Tag) → Stays v (with_tag v g)
stays-tagged v g = record { names = begins-all v.names; tags = begins-more v.tags (g ∷ []); depth = refl }

struct-step : (b : Bool) (v : Scopes) (t : Option ℕ) → Stays v (cond b v (record v { structs = v.structs ++ (t ∷ []) }))
struct-step true v t = stays-all v
struct-step false v t = stays-same v (record v { structs = v.structs ++ (t ∷ []) }) refl refl refl

stays-counted : (v : Scopes) (s : Sort) (t : Option ℕ) → Stays v (with_struct v s t)
stays-counted v s t = struct-step (is_enum s) v t

body-step : (b : Bool) (v : Scopes) (g : Tag) → Stays v (cond b (with_tag v g) v)
body-step true v g = stays-tagged v g
body-step false v g = stays-all v

mention-step : (o : Option Tag) (b : Bool) (v new : Scopes) (f : Tag → Tag) → Stays v new → Stays v (if_there o new (λ g. cond b (with_tag v (f g)) v))
mention-step None b v new f h = h
mention-step (Some g) b v new f h = body-step b v (f g)

stays-mentioned : (v : Scopes) (how : Mention) (s : Sort) (name : ℕ) → Stays v (mentioned v how s name)
stays-mentioned v how s name =
    let g = a_tag v how s name (length v.structs) in
    mention-step (meant v how s name) (has_body how) v (with_struct (with_tag v g) s (Some name)) (λ g. a_tag v how s name g.number)
    (stays-trans v (with_tag v g) (with_struct (with_tag v g) s (Some name)) (stays-tagged v g) (stays-counted (with_tag v g) s (Some name)))

stays-opened : (v : Scopes) (s : Sort) (tag : Option Token) → Stays v (body_opened v s tag)
stays-opened v s None = stays-counted v s None
stays-opened v s (Some tag) = stays-mentioned v WithBody s tag.name

named-step : (o : Option Entry) (m : Option held.Member) (w : Scopes) → Stays w (if_there o (if_there m w (with_member w)) (with_name w))
named-step (Some k) m w = stays-named w k
named-step None (Some m) w = stays-same w (with_member w m) refl refl refl
named-step None None w = stays-all w

stays-left : (r : Role) (v w : Scopes) → Stays v (left_params r v w)
stays-left Formals v w = stays-same v (leave_formals v w) refl refl refl
stays-left _ v w = stays-same v (leave v w) refl refl refl

stays-members : (v : Scopes) (r : Role) (specs : Node) (es : Nodes) (w : Scopes) → Stays w (behind_members v r specs es w)
stays-members v r specs no_more w = stays-same w (behind_members v r specs no_more w) refl refl refl
stays-members v r specs (more e es) w = stays-all w

closed-specifier : (v : Scopes) (r : Role) (k : SpecifierShape) (w : Scopes) → Stays (opened v r (Specifier k)) w → Stays v (behind_specifier v r k w)
closed-specifier v r (StructTag which tag) w h = stays-trans v w (behind_specifier v r (StructTag which tag) w) h (stays-mentioned w (mention r) (sort_of which) tag.name)
closed-specifier v r (EnumTag tag) w h = stays-trans v w (behind_specifier v r (EnumTag tag) w) h (stays-mentioned w (mention r) Enums tag.name)
closed-specifier v r (StructBody which tag members) w h =
    let u = behind_specifier v r (StructBody which tag members) w in
    stays-trans v w u (stays-trans v (body_opened v (sort_of which) tag) w (stays-opened v (sort_of which) tag) h) (stays-same w u refl refl refl)
closed-specifier v r (EnumBody tag enumerators comma) w h = stays-trans v (body_opened v Enums tag) w (stays-opened v Enums tag) h
closed-specifier v r (StructDeclaration specs declarators) w h = stays-trans v w (behind_members v r specs declarators w) h (stays-members v r specs declarators w)
closed-specifier v r _ w h = h

closed-stays : (v : Scopes) (r : Role) (s : Shape) (w : Scopes) → Stays (opened v r s) w → Stays v (closed v r s w)
closed-stays v r (Specifier k) w h = closed-specifier v r k w h
closed-stays v r (Declarator d) w h = stays-trans v w (behind_declarator r d w) h (named-step (declares w r d) (declares_member r d) w)
closed-stays v r (Part (Params params variadic)) w h = stays-left r v w
closed-stays v r (Part (Enumerator name value)) w h = stays-trans v w (with_name w (enumerator w name)) h (stays-named w (enumerator w name))
closed-stays v r (Statement (Block items)) w h = stays-same v (leave v w) refl refl refl
closed-stays v r (Iteration (ForDeclaration declaration condition step inner)) w h = stays-same v (leave v w) refl refl refl
closed-stays v r _ w h = h

mutual
  pub after-stays : (v : Scopes) (r : Role) (e : Visit) → Stays v (after v r e)
  after-stays v r (visit i p s es) = closed-stays v r s (after_all (given v r) (opened v r s) es) (after_all-stays (given v r) (opened v r s) es)

  pub after_all-stays : (roles : Slot → Role) (v : Scopes) (es : Parts) → Stays v (after_all roles v es)
  after_all-stays roles v none = stays-all v
  after_all-stays roles v (part slot e es) = stays-trans v (after v (roles slot) e) (after_all roles (after v (roles slot) e) es) (after-stays v (roles slot) e) (after_all-stays roles (after v (roles slot) e) es)
