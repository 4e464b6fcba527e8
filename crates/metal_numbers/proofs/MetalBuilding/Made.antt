-- The machine that is made is that of the text.
use Rattle.std.proofs.Common.{◌≡◌, ℕ, ◌<◌, List, [], ◌∷◌, length, take, map, filter, Option, ap, refl, ◌∙◌, sym, arith}
use Rattle.std.proofs.lemmas.List.{length-map, length-take-le}
use Rattle.metal_tree.specs.MetalMachines.Machine as machines
use Rattle.metal_grammar.specs.Words.{Spelling}
use Rattle.metal_grammar.specs.Written.{Clause, members}
use Rattle.metal_grammar.specs.Holes.{DeclaredHole}
use Rattle.metal_grammar.specs.Rules.{holes_of, rules_of, variables_among}
use Rattle.metal_grammar.specs.Meaning.{Numbering, source_of, dest_of, action_of, item_of, in_order, hole_of, states_mentioned, globals_among, states_among, rule_of, numbering_of, machine_name, machine_of}
use Rattle.metal_tree.specs.declared.holes.HoleDecl.{HoleDecl}
use Rattle.metal_tree.specs.declared.states.States.{States}
use Rattle.metal_tree.specs.declared.rules.Rule.{Rule}
use Rattle.metal_tree.specs.Parts.{state_names}
use Rattle.metal_tree.specs.Parts as tree
use Rattle.metal_tree.specs.Views.{hole_view, rule_views}
use Rattle.metal_written.specs.declared.placed.PlacedRule.{PlacedRule}
use Rattle.metal_written.specs.Placed.{placed_view, placed_views}
use Rattle.metal_written.specs.Written.{state_view, alternative_view, alternatives_row, no_alternative, destination_view, maybe_action_view}
use Rattle.metal_written.proofs.Rows.{members-row}
use Rattle.metal_numbers.specs.declared.metal_declared.declared_holes.DeclaredHole as kept
use Rattle.metal_numbers.specs.MetalDeclared.DeclaredHoles.{declared_views}
use Rattle.metal_numbers.specs.Numbers.{variables_in}
use Rattle.metal_numbers.specs.declared.metal_building.building.Builder.{Builder}
use Rattle.metal_numbers.specs.MetalBuilding.Builders.{numbers, IsRight}

abbrev machine : ℕ → ℕ → List machines.Hole → List ℕ → List (List ℕ) → List machines.Rule → machines.Machine
machine name variables holes globals states rules = record { name = name; variables = variables; holes = holes; globals = globals; states = states; rules = rules }

twice-mapped : {A B C : Type 0} (f : B → C) (g : A → B) (xs : List A) → map f (map g xs) ≡ map (λ x. f (g x)) xs
twice-mapped f g [] = refl
twice-mapped f g (x ∷ xs) = ap (λ ys. f (g x) ∷ ys) (twice-mapped f g xs)

-- each part is that of the text
made_machine : (spelling : Spelling) (cs : List Clause) (name variables : ℕ) (holes : List HoleDecl) (globals : List ℕ) (states : List States) (rules : List Rule)
    → name ≡ machine_name cs
    → variables ≡ length (filter (λ h. h.is_state) (holes_of spelling cs))
    → map hole_view holes ≡ map hole_of (in_order (holes_of spelling cs))
    → globals ≡ globals_among spelling (states_mentioned (rules_of cs))
    → map state_names states ≡ map (states_among spelling (states_mentioned (rules_of cs))) (variables_among (holes_of spelling cs))
    → rule_views rules ≡ map (rule_of (numbering_of spelling cs)) (rules_of cs)
    → tree.machine_of name variables holes globals states rules ≡ machine_of spelling cs
made_machine spelling cs name variables holes globals states rules a b c d e f =
    let hs = holes_of spelling cs in
    let mentioned = states_mentioned (rules_of cs) in
    let g = e ∙ twice-mapped (states_among spelling mentioned) (λ h. h.name) (filter (λ h. h.is_state) hs) in
    ap (λ n. machine n variables (map hole_view holes) globals (map state_names states) (rule_views rules)) a
    ∙ ap (λ n. machine (machine_name cs) n (map hole_view holes) globals (map state_names states) (rule_views rules)) b
    ∙ ap (λ h. machine (machine_name cs) (length (filter (λ h. h.is_state) hs)) h globals (map state_names states) (rule_views rules)) c
    ∙ ap (λ g. machine (machine_name cs) (length (filter (λ h. h.is_state) hs)) (map hole_of (in_order hs)) g (map state_names states) (rule_views rules)) d
    ∙ ap (λ s. machine (machine_name cs) (length (filter (λ h. h.is_state) hs)) (map hole_of (in_order hs)) (globals_among spelling mentioned) s (rule_views rules)) g
    ∙ ap (λ r. machine (machine_name cs) (length (filter (λ h. h.is_state) hs)) (map hole_of (in_order hs)) (globals_among spelling mentioned) (map (λ h. states_among spelling mentioned h.name) (filter (λ h. h.is_state) hs)) r) f

-- the machine that rules are built for
pub made_by : (b : Builder) (cs : List Clause) (declared ordered : List kept.DeclaredHole) (name : ℕ) (holes : List HoleDecl) (placed : List PlacedRule) (rules : List Rule)
    → IsRight b → numbers b ≡ numbering_of b.names.now cs → variables_in b.numbering ≡ variables_among (declared_views declared) → declared_views declared ≡ holes_of b.names.now cs
    → placed_views placed ≡ rules_of cs → name ≡ machine_name cs → declared_views ordered ≡ in_order (declared_views declared) → map hole_view holes ≡ map hole_of (declared_views ordered)
    → rule_views rules ≡ map (rule_of (numbers b)) (placed_views placed)
    → tree.machine_of name (length b.numbering.states.now) holes b.numbering.globals.now b.numbering.states.now rules ≡ machine_of b.names.now cs
made_by b cs declared ordered name holes placed rules right n v d p a o h r =
    let spelling = b.names.now in
    let number = b.numbering in
    let mentioned : map state_view number.mentioned.now ≡ states_mentioned (rules_of cs) = ap (λ k. k.states) n in
    let front = length-take-le (length number.states.now) number.holes.now right.numbering.within in
    let front_length : length (variables_in number) ≡ length (variables_among (declared_views declared)) = ap length v in
    let as_many = length-map (filter (λ h. h.is_state) (declared_views declared)) (λ h. h.name) in
    let states_length : length number.states.now ≡ length (filter (λ h. h.is_state) (declared_views declared)) = omega (arith, front, front_length, as_many) in
    made_machine spelling cs name (length number.states.now) holes number.globals.now number.states.now rules a
    (states_length ∙ ap (λ hs. length (filter (λ h. h.is_state) hs)) d)
    (h ∙ ap (map hole_of) (o ∙ ap in_order d))
    (right.numbering.globals ∙ ap (globals_among spelling) mentioned)
    (right.numbering.states ∙ ap (λ ms. map (states_among spelling ms) (variables_in number)) mentioned ∙ ap (map (states_among spelling (states_mentioned (rules_of cs)))) (v ∙ ap variables_among d))
    (r ∙ ap (λ k. map (rule_of k) (placed_views placed)) n ∙ ap (map (rule_of (numbering_of spelling cs))) p)

abbrev rule : ℕ → ℕ → machines.Source → List (List machines.Item) → machines.Dest → Option (List machines.Piece) → machines.Rule
rule number position source alternatives dest action = record { number = number; position = position; source = source; alternatives = alternatives; dest = dest; action = action }

alternatives-made : (n : Numbering) (r : PlacedRule) → map (λ items. map (item_of n) (members items)) (members (alternatives_row r.rule.alternatives)) ≡ map (λ items. map (item_of n) (members (alternative_view items))) r.rule.alternatives.now
alternatives-made n r =
    let all = r.rule.alternatives.now in
    let some = r.rule.some in
    let e = length-map all alternative_view in
    ap (map (λ items. map (item_of n) (members items))) (members-row no_alternative (map alternative_view all) (omega (arith, some, e)))
    ∙ twice-mapped (λ items. map (item_of n) (members items)) alternative_view all

-- a rule by its parts
pub made_rule : (n : Numbering) (r : PlacedRule) (source : machines.Source) (alternatives : List (List machines.Item)) (dest : machines.Dest) (action : Option (List machines.Piece))
    → source ≡ source_of n (state_view r.source) → alternatives ≡ map (λ items. map (item_of n) (members (alternative_view items))) r.rule.alternatives.now
    → dest ≡ dest_of n (destination_view r.rule.destination) → action ≡ action_of n (maybe_action_view r.rule.action)
    → rule r.number r.position source alternatives dest action ≡ rule_of n (placed_view r)
made_rule n r source alternatives dest action a b c d =
    let from = source_of n (state_view r.source) in
    let patterns = map (λ items. map (item_of n) (members items)) (members (alternatives_row r.rule.alternatives)) in
    let to = dest_of n (destination_view r.rule.destination) in
    ap (λ s. rule r.number r.position s alternatives dest action) a
    ∙ ap (λ xs. rule r.number r.position from xs dest action) (b ∙ sym (alternatives-made n r))
    ∙ ap (λ t. rule r.number r.position from patterns t action) c
    ∙ ap (rule r.number r.position from patterns to) d
