-- What holes take stands in the subject that is matched: what holds of each node of that holds of those of what they take.
use Rattle.std.proofs.Common.{◌≡◌, ℕ, nat_eq, List, [], ◌∷◌, ◌++◌, Bool, true, false, cond, not, ◌&&◌, ◌||◌, Option, None, Some, inl, inr, refl, sym, subst, ◌∙◌}
use Rattle.std.specs.Prelude.{⊤}
use Rattle.c_objects.specs.Objects.{Object}
use Rattle.c_tree.specs.PathSubjects.Subjects.{Subject, Tree, DerefOf}
use Rattle.c_tree.specs.Node.{Node, node, Shape, Primary, Operation, Initializer, Specifier, Declarator, Part, Outer, Statement, Iteration, Jump, PrimaryShape, OperationShape, InitializerShape, PartShape, Ident, Constant, StrConst, Paren, VaArg, Offsetof, Hole, Index, Call, Member, Arrow, CompoundLit, Unary, SizeofType, Cast, Binary, Cond, Assign, Init, Braces, Designated, IndexDesignator, Nodes}
use Rattle.c_tree.specs.Node as nodes
use Rattle.flow_graph.specs.CPaths.Events.{Event, Evaluated, Declared, Branched, Exited}
use Rattle.hole_matching.specs.Alternatives.{BasesStand, matched_alternative, has_end_of_path, all_hold, object_taken, bound_object}
use Rattle.hole_matching.specs.Holes.{Setting}
use Rattle.hole_matching.specs.Matched.{nothing_taken}
use Rattle.hole_matching.specs.Matching.{Taken, One, Many, Taking, Binding, slot, first_taken, Seat, Callee, Argument, Elsewhere, first_seat, next_seat, TakesRest, Stands, StandAll}
use Rattle.hole_matching.specs.Pattern.{Pattern, hole, likewise, other, Patterns, no_more, more}
use Rattle.hole_matching.specs.Subjects.{inside, inner, trees_then, primary_parts, operation_parts, initializer_parts, part_parts, shape_parts, parts_of}
use Rattle.hole_matching.specs.Written.{pattern_of}
use Rattle.hole_matching.proofs.Alternatives.{alternative-sound}
use Rattle.hole_matching.proofs.Bindings.{at-first}
use Rattle.metal_tree.specs.MetalMachines.Machine.{Item, Base, Holds, EndOfPath, Dest}
use Rattle.path_model.specs.CheckerModel.Choices.{applied, is_split}
use Rattle.path_model.proofs.CheckerModel.Sources.{tested, untested}
use Rattle.type_rules.specs.Parts.{Slot, plain, none, part, Parts, flat, parts, each}
use Rattle.type_rules.specs.Parts as trees
use Rattle.event_places.proofs.EachNode.{Everywhere, InParts, OfSubject, behind-each}
use Rattle.event_places.proofs.Objects.{IsOfName, OfEvent, subject-name}

module _ (Q : Node → Type 0) where
  -- each of these subjects
  abbrev pub OfSubjects : List Subject → Type 0
  OfSubjects [] = ⊤
  OfSubjects (s ∷ ss) = OfSubject Q s × OfSubjects ss

  abbrev pub OfTaken : Taken → Type 0
  OfTaken (One s) = OfSubject Q s
  OfTaken (Many ss) = OfSubjects ss

  abbrev OfTakings : List Taking → Type 0
  OfTakings [] = ⊤
  OfTakings (t ∷ ts) = OfTaken t.taken × OfTakings ts

  takings-both : (xs ys : List Taking) → OfTakings xs → OfTakings ys → OfTakings (xs ++ ys)
  takings-both [] ys h k = k
  takings-both (x ∷ xs) ys h k = (h.0, takings-both xs ys h.1 k)

  -- what stands in parentheses
  inside-has : (e : Node) → Everywhere Q (flat e) → Everywhere Q (flat (inside e))
  inside-has (node i p (Primary (Paren e))) h = inside-has e h.1.0
  inside-has e h = h

  inner-has : (s : Subject) → OfSubject Q s → OfSubject Q (inner s)
  inner-has (Tree e) h = inside-has e h
  inner-has (DerefOf x) h = h

  -- the parts by which a subject is matched
  trees-have : (slot : Slot) (es : Nodes) (rest : Parts) (ss : List Subject) → InParts Q (each slot es rest) → OfSubjects ss → OfSubjects (trees_then es ss)
  trees-have slot nodes.no_more rest ss h k = k
  trees-have slot (nodes.more e es) rest ss h k = (h.0, trees-have slot es rest ss h.1 k)

  primary-have : (k : PrimaryShape) → InParts Q (trees.primary_parts k) → OfSubjects (primary_parts k)
  primary-have (VaArg list of) h = (h.0, (h.1.0, tt))
  primary-have (Offsetof of member path) h = (h.0, trees-have plain path none [] h.1 tt)
  primary-have k h = tt

  operation-have : (k : OperationShape) → InParts Q (trees.operation_parts k) → OfSubjects (operation_parts k)
  operation-have (Index array index) h = h
  operation-have (Call callee paren arguments) h = (h.0, trees-have plain arguments none [] h.1 tt)
  operation-have (Member operand member) h = h
  operation-have (Arrow operand member) h = h
  operation-have (CompoundLit of braces) h = h
  operation-have (Unary op operand) h = h
  operation-have (SizeofType of) h = h
  operation-have (Cast to operand) h = h
  operation-have (Binary op left right) h = h
  operation-have (Cond condition then otherwise) h = h
  operation-have (Assign op left right) h = h

  initializer-have : (k : InitializerShape) → InParts Q (trees.initializer_parts k) → OfSubjects (initializer_parts k)
  initializer-have (Init name declarator initial) h = h.1
  initializer-have (Braces elements comma) h = trees-have plain elements none [] h tt
  initializer-have (Designated designators initial) h =
      let last = part plain (flat initial) none in trees-have plain designators last (Tree initial ∷ []) h (behind-each Q plain designators last h)

  part-have : (k : PartShape) → InParts Q (trees.part_parts k) → OfSubjects (part_parts k)
  part-have (IndexDesignator index) h = h
  part-have k h = tt

  shape-have : (s : Shape) → InParts Q (parts s) → OfSubjects (shape_parts s)
  shape-have (Primary k) h = primary-have k h
  shape-have (Operation k) h = operation-have k h
  shape-have (Initializer k) h = initializer-have k h
  shape-have (Part k) h = part-have k h
  shape-have s h = tt

  parts-have : (s : Subject) → OfSubject Q s → OfSubjects (parts_of s)
  parts-have (Tree (node i p s)) h = shape-have s h.1
  parts-have (DerefOf x) h = (h, tt)

  -- what the holes of a pattern take
  rest-takes : (g : Setting) (seat : Seat) (p : Pattern) (ps : Patterns) (ss : List Subject) (ts : List Taking) → OfSubjects ss → TakesRest g seat p ps ss ts → OfTakings ts
  rest-takes g Callee p ps ss ts k h = absurd h
  rest-takes g Elsewhere p ps ss ts k h = absurd h
  rest-takes g Argument (hole n) no_more ss ts k h = subst OfTakings (sym h.1) (k, tt)
  rest-takes g Argument (hole n) (more q qs) ss ts k h = absurd h
  rest-takes g Argument (likewise a qs) ps ss ts k h = absurd h
  rest-takes g Argument other ps ss ts k h = absurd h

  mutual
    stands-takes : (g : Setting) (p : Pattern) (s : Subject) (ts : List Taking) → OfSubject Q s → Stands g p s ts → OfTakings ts
    stands-takes g (hole n) s ts k h = subst OfTakings (sym h.1) (inner-has s k, tt)
    stands-takes g (likewise a ps) s ts k h = stand-takes g (first_seat a) ps (parts_of (inner s)) ts (parts-have (inner s) (inner-has s k)) h.1
    stands-takes g other s ts k h = absurd h

    stand-takes : (g : Setting) (seat : Seat) (ps : Patterns) (ss : List Subject) (ts : List Taking) → OfSubjects ss → StandAll g seat ps ss ts → OfTakings ts
    stand-takes g seat no_more ss ts k h = subst OfTakings (sym h.1) tt
    stand-takes g seat (more p ps) ss ts k (inl r) = rest-takes g seat p ps ss ts k r
    stand-takes g seat (more p ps) ss ts k (inr r) =
        let all = subst OfSubjects r.4 k in
        subst OfTakings (sym r.5) (takings-both r.2 r.3 (stands-takes g p r.0 r.2 all.0 r.6) (stand-takes g (next_seat seat) ps r.1 r.3 all.1 r.7))

  bases-take : (g : Setting) (items : List Item) (s : Subject) (ts : List Taking) → OfSubject Q s → BasesStand g items s ts → OfTakings ts
  bases-take g [] s ts k h = subst OfTakings (sym h) tt
  bases-take g (Base e ∷ items) s ts k h = subst OfTakings (sym h.2) (takings-both h.0 h.1 (stands-takes g (pattern_of e) s h.0 k h.3) (bases-take g items s h.1 k h.4))
  bases-take g (Holds c ∷ items) s ts k h = bases-take g items s ts k h
  bases-take g (EndOfPath ∷ items) s ts k h = bases-take g items s ts k h

  -- and what is bound to one
  first-has : (n : ℕ) (ts : List Taking) (x : Taken) → OfTakings ts → first_taken n ts ≡ Some x → OfTaken x
  first-has n [] x h e = cc
  first-has n (t ∷ ts) x h e = by (nat_eq t.hole n) (first-has n ts x h.1) e
    where
      by : (b : Bool) → (first_taken n ts ≡ Some x → OfTaken x) → cond b (Some t.taken) (first_taken n ts) ≡ Some x → OfTaken x
      by true later k = let s : t.taken ≡ x = cc in subst OfTaken s h.0
      by false later k = later k

  matched-has : (g : Setting) (items : List Item) (s : Subject) (b : Binding) (n : ℕ) (x : Taken) → OfSubject Q s → matched_alternative g items s ≡ Some b → slot n b ≡ Some x → OfTaken x
  matched-has g items s b n x h e k = let m = alternative-sound g items s b e in first-has n m.takings x (bases-take g items s m.takings h m.bases) (sym (m.joint.first n) ∙ k)

  -- where no hole takes anything
  nothing-has : (g : Setting) (b : Binding) (n : ℕ) (x : Taken) → Some nothing_taken ≡ Some b → slot n b ≡ Some x → OfTaken x
  nothing-has g b n x e k =
      let s : nothing_taken ≡ b = cc in
      let start = at-first g.facts in
      let empty : slot n nothing_taken ≡ None = start.first n in
      no-taken x (sym empty ∙ subst (λ (c : Binding). slot n c ≡ Some x) (sym s) k)
    where
      no-taken : (y : Taken) → None ≡ Some y → OfTaken y
      no-taken y q = cc

  -- WHAT A HOLE HAS TAKEN at an event
  pub taken-has : (g : Setting) (e : Event) (d : Dest) (items : List Item) (b : Binding) (n : ℕ) (x : Taken) → OfEvent Q g.facts e → applied g e d items ≡ Some b → slot n b ≡ Some x → OfTaken x
  taken-has g (Evaluated s) d items b n x h e k = matched-has g items s b n x h (untested (is_split d || has_end_of_path items) (matched_alternative g items s) b e).1 k
  taken-has g (Declared y) d items b n x h e k = cc
  taken-has g (Branched t truth) d items b n x h e k = matched-has g items (Tree t) b n x h (untested (not (is_split d) || has_end_of_path items) (matched_alternative g items (Tree t)) b e).1 k
  taken-has g (Exited function place) d items b n x h e k = nothing-has g b n x (tested (has_end_of_path items && all_hold g items nothing_taken) (Some nothing_taken) b e).1 k

  -- and the variable of the object to which it is bound
  pub bound-name : (g : Setting) (e : Event) (d : Dest) (items : List Item) (b : Binding) (n : ℕ) (o : Object) → OfEvent Q g.facts e → applied g e d items ≡ Some b → bound_object g n b ≡ Some o → IsOfName Q g.facts o.base
  bound-name g e d items b n o h a k = by (slot n b) refl k
    where
      by : (x : Option Taken) → slot n b ≡ x → object_taken g x ≡ Some o → IsOfName Q g.facts o.base
      by None s q = cc
      by (Some (One s)) q r = subject-name Q g.facts g.depth s o (taken-has g e d items b n (One s) h a q) r
      by (Some (Many ss)) q r = cc
