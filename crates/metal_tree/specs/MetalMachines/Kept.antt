-- What every machine keeps to.
use Rattle.std.specs.Prelude.{◌≡◌, ℕ, ◌+◌, Bool, true, false, cond, not, nat_eq, nat_lt, nat_le, ◌&&◌, ◌||◌, is_some, List, [], ◌∷◌, ◌++◌, length, flat_map, filter, get_or, Option, None, Some}
pub use Rattle.metal_tree.specs.MetalMachines.Lists.{all_of, any_of, is_among}
use Rattle.metal_tree.specs.MetalMachines.Machine.{first_named, Piece, Bytes, HoleText, Source, FromGlobal, FromObject, Target, ToGlobal, ToObject, ToUnknown, Dest, Always, ByTruth, CalloutRow, InFunction, NeverHolds, AlwaysHolds, Item, Base, Holds, EndOfPath, Rule, Machine}
use Rattle.metal_tree.specs.MetalMachines.Limits.{IsLimited}
use Rattle.metal_tree.specs.MetalMachines.Numbers.{holes_in}

abbrev pub targets : Dest → List Target
targets (Always t) = t ∷ []
targets (ByTruth on_true on_false) = on_true ∷ on_false ∷ []

-- whether a callout asks of a hole
abbrev pub asks_hole : CalloutRow → Bool
asks_hole InFunction = false
asks_hole NeverHolds = false
asks_hole AlwaysHolds = false
asks_hole _ = true

abbrev pub holes_of_item : Item → List ℕ
holes_of_item (Base e) = holes_in e
holes_of_item _ = []

abbrev pub asked_of_item : Item → List ℕ
asked_of_item (Holds c) = cond (asks_hole c.row) (c.hole ∷ []) []
asked_of_item _ = []

abbrev pub bound_in : List Item → List ℕ
bound_in items = flat_map holes_of_item items

abbrev pub asked_in : List Item → List ℕ
asked_in items = flat_map asked_of_item items

abbrev pub hole_of_piece : Piece → List ℕ
hole_of_piece (HoleText hole) = hole ∷ []
hole_of_piece (Bytes bytes) = []

abbrev pub named_in : Option (List Piece) → List ℕ
named_in None = []
named_in (Some pieces) = flat_map hole_of_piece pieces

-- the variable that a state is of
abbrev pub variable_of_source : Source → List ℕ
variable_of_source (FromGlobal state) = []
variable_of_source (FromObject variable state) = variable ∷ []

abbrev pub variable_of_target : Target → List ℕ
variable_of_target (ToGlobal state) = []
variable_of_target (ToObject variable state) = variable ∷ []
variable_of_target (ToUnknown variable) = variable ∷ []

abbrev pub variables_of_states : Rule → List ℕ
variables_of_states r = variable_of_source r.source ++ flat_map variable_of_target (targets r.dest)

-- all holes that a rule names
abbrev pub named_outside_states : Rule → List ℕ
named_outside_states r = flat_map bound_in r.alternatives ++ flat_map asked_in r.alternatives ++ named_in r.action

abbrev pub named_by : Rule → List ℕ
named_by r = variables_of_states r ++ named_outside_states r

-- Numbers are in range: holes and variables, states of the machine behind `start` and `stop`, and states of a variable.
abbrev pub is_state_of : Machine → ℕ → ℕ → Bool
is_state_of m variable state = nat_lt variable m.variables && nat_lt state (length (get_or m.states variable []))

abbrev pub is_source_of : Machine → Source → Bool
is_source_of m (FromGlobal state) = nat_lt state (length m.globals + first_named)
is_source_of m (FromObject variable state) = is_state_of m variable state

abbrev pub is_target_of : Machine → Target → Bool
is_target_of m (ToGlobal state) = nat_lt state (length m.globals + first_named)
is_target_of m (ToObject variable state) = is_state_of m variable state
is_target_of m (ToUnknown variable) = nat_lt variable m.variables

abbrev pub is_in_range : Machine → Rule → Bool
is_in_range m r =
    is_source_of m r.source && all_of (is_target_of m) (targets r.dest) && all_of (λ hole. nat_lt hole (length m.holes)) (named_by r)

-- no two of these differ
abbrev pub are_one : List ℕ → Bool
are_one [] = true
are_one (n ∷ ns) = all_of (nat_eq n) ns

abbrev pub is_variable : Machine → ℕ → Bool
is_variable m hole = nat_lt hole m.variables

-- A rule is about one variable at most.
abbrev pub has_one_variable : Machine → Rule → Bool
has_one_variable m r = are_one (filter (is_variable m) (named_by r))

abbrev pub is_end : Item → Bool
is_end EndOfPath = true
is_end _ = false

abbrev pub has_end : List Item → Bool
has_end items = any_of is_end items

abbrev pub is_global : Target → Bool
is_global (ToGlobal state) = true
is_global _ = false

-- A split has no action, and stands at no end of a path; both of its targets are states of the machine, or both of one variable.
abbrev pub is_split_well : Rule → Dest → Bool
is_split_well r (Always t) = true
is_split_well r (ByTruth on_true on_false) =
    not (is_some r.action) && not (any_of has_end r.alternatives)
    && ((is_global on_true && is_global on_false) || (not (is_global on_true) && not (is_global on_false) && are_one (variable_of_target on_true ++ variable_of_target on_false)))

-- No rule leaves `stop`; from a state of a variable a rule goes to one of it; and among states of the machine it names no variable.
abbrev pub goes_from : Machine → Rule → Source → Bool
goes_from m r (FromGlobal state) = not (nat_eq state 1) && (any_of (λ t. not (is_global t)) (targets r.dest) || not (any_of (is_variable m) (named_outside_states r)))
goes_from m r (FromObject variable state) = all_of (λ t. not (is_global t)) (targets r.dest)

-- at the end of a path the variable of the source needs no pattern, unless a callout there asks of it
abbrev pub is_excused : Rule → List Item → ℕ → Bool
is_excused r items hole = has_end items && is_among (variable_of_source r.source) hole && not (is_among (asked_in items) hole)

abbrev pub binds : Rule → List Item → ℕ → Bool
binds r items hole = is_among (bound_in items) hole || is_excused r items hole

-- Each alternative binds the variable of the states, and each hole that a callout or the message asks of.
abbrev pub binds_all : Rule → Bool
binds_all r = all_of (λ items. all_of (binds r items) (variables_of_states r ++ flat_map asked_in r.alternatives ++ named_in r.action)) r.alternatives

pub record IsKeptBy (m : Machine) (r : Rule) : Type 0 where
  pub range : is_in_range m r ≡ true
  pub variable : has_one_variable m r ≡ true
  pub split : is_split_well r r.dest ≡ true
  pub source : goes_from m r r.source ≡ true
  pub bound : binds_all r ≡ true

abbrev pub AreKept : Machine → List Rule → Type 0
AreKept m [] = Unit {0}
AreKept m (r ∷ rs) = IsKeptBy m r × AreKept m rs

-- A machine keeps to the limits, its numbers are in range, and each of its rules is sound.
pub record IsKept (m : Machine) : Type 0 where
  pub limits : IsLimited m
  pub rules : AreKept m m.rules
