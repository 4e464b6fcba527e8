-- The followed calls by the tables of functions are those of their program.
use Rattle.std.proofs.Common.{◌≡◌, ℕ, ◌<◌, List, [], length, Option, None, Some, slice_get, Bor, cond, Bool, true, false, refl, sym, ap, ◌∙◌}
use Rattle.std.specs.Option.{option_map}
use Rattle.std.proofs.lemmas.Option.{same_Some}
use Rattle.flow_graph.specs.CPaths.Building.{Graph}
use Rattle.flow_graph.specs.CPaths.Fragments.{Has}
use Rattle.flow_graph.specs.CPaths.Graphs.{Block, Ending, ToAny, Calls, Stops}
use Rattle.c_tree.specs.Node.{Node}
use Rattle.c_tree.specs.Views.{node_of}
use Rattle.type_rules.specs.Definition.{Table}
use Rattle.type_rules.specs.Functions.{Defined}
use Rattle.type_rules.specs.Options.{if_there, ◌>?◌}
use Rattle.call_graph.specs.Followed.{machine_calls, body_followed, followed}
use Rattle.path_model.proofs.CheckerGraphs.Units.{functions-are, objects-are, place-filed}
use Rattle.path_model.specs.CheckerModel.Calls.{actuals_of}
use Rattle.path_model.specs.CheckerModel.Reports.{Checker}
use Rattle.path_model.specs.CheckerPrograms.Texts.{functions_in, function_of, callee_of, site, type_table}
use Rattle.typed_unit.specs.Texts.{Text, texts_of}
use Rattle.flow_graph.specs.Seen.{graph_in}
use Rattle.function_tables.specs.declared.table.BlockTable.{BlockTable}
use Rattle.function_tables.specs.declared.table.FunctionTable.{FunctionTable}
use Rattle.path_model.specs.CheckerGraphs.Ends.{call_in, call_at}
use Rattle.function_tables.specs.Tables.{IsBlockTable, AreBlockTables}
use Rattle.metal_tree.specs.MetalMachines.Machine.{Machine}
use Rattle.relevant.specs.ProgramRows.Ends.{callee_at, Followed, followed_at, IsSite}
use Rattle.relevant.proofs.ProgramRows.Lists.{zip-at, zip-there}
use Rattle.call_graph.specs.OfPrograms.Bodies.{body_of}
use Rattle.call_graph.specs.OfPrograms.Calls.{called_name, body_called}
use Rattle.call_graph.specs.OfPrograms.Definitions.{definitions, trees_in}
use Rattle.call_graph.proofs.OfPrograms.Found.{body-below}
use Rattle.relevant.specs.declared.relevant_objects.rows.FollowedCall.{FollowedCall}
use Rattle.relevant.specs.RelevantRows.Rows.{Passes}
use Rattle.typed_unit.specs.declared.typed_unit.TypedUnit.{TypedUnit}

-- what a step behind something that may be missing gives
pub behind : {A B : Type 0} (o : Option A) (f : A → Option B) (y : B) → (o >? f) ≡ Some y → (x : A) × (o ≡ Some x) × (f x ≡ Some y)
behind None f y e = cc
behind (Some x) f y e = (x, refl, e)

-- ---- the parts of a followed call

-- what is known of the end of a block by a table
pub record IsEnd (t : FunctionTable) (b : ℕ) (callee : ℕ) (call : Node) : Type 0 where
  pub callee_is : callee_at t b ≡ Some callee
  pub call_is : call_at (graph_in t.graph.now) b ≡ Some call

pub end-of : (t : FunctionTable) (caller b : ℕ) (f : Followed) → followed_at t caller b ≡ Some f → (caller ≡ f.caller) × IsEnd t b f.callee f.call
end-of t caller b f e = by (callee_at t b) (call_at (graph_in t.graph.now) b) refl refl e
  where
    by : (m : Option ℕ) (n : Option Node) → callee_at t b ≡ m → call_at (graph_in t.graph.now) b ≡ n → (m >? λ k. option_map (λ c. record { caller = caller; callee = k; call = c }) n) ≡ Some f → (caller ≡ f.caller) × IsEnd t b f.callee f.call
    by None n a c e = cc
    by (Some m) None a c e = cc
    by (Some m) (Some n) a c e =
        let same = same_Some (record { caller = caller; callee = m; call = n }) f e in
        (ap (λ (x : Followed). x.caller) same, record { callee_is = a ∙ ap (λ (x : Followed). Some x.callee) same; call_is = c ∙ ap (λ (x : Followed). Some x.call) same })

pub end-followed : (t : FunctionTable) (caller b callee : ℕ) (call : Node) → IsEnd t b callee call → followed_at t caller b ≡ Some (record { caller = caller; callee = callee; call = call })
end-followed t caller b callee call e =
    ap (λ m. m >? λ k. option_map (λ n. record { caller = caller; callee = k; call = n }) (call_at (graph_in t.graph.now) b)) e.callee_is
    ∙ ap (option_map (λ n. record { caller = caller; callee = callee; call = n })) e.call_is

calls-in : (end : Ending) (n : Node) → call_in end ≡ Some n → (next : ℕ) × (end ≡ Calls n next)
calls-in (Calls m next) n e = (next, ap (λ x. Calls x next) (same_Some m n e))
calls-in (ToAny bs) n e = cc
calls-in Stops n e = cc

-- the block ends in this call
pub block-ends : (g : Graph) (b : ℕ) (n : Node) → call_at g b ≡ Some n → (s : Block) × (slice_get g.blocks b ≡ Some s) × (call_in s.ending ≡ Some n)
block-ends g b n e = behind (slice_get g.blocks b) (λ s. call_in s.ending) n e

pub has-call : (g : Graph) (b : ℕ) (n : Node) → call_at g b ≡ Some n → (next : ℕ) × (s : Block) × Has g.blocks b s.events (Calls n next)
has-call g b n e =
    let s = block-ends g b n e in
    let k = calls-in (s.0).ending n s.2 in
    (k.0, s.0, s.1 ∙ ap (λ x. Some (record { events = (s.0).events; ending = x })) k.1)

-- ---- what the tables say of it

module _ (m : Machine) (depth : ℕ) (ts : List Text) (d : Defined) (t : FunctionTable) (A : AreBlockTables m depth ts d (graph_in t.graph.now).blocks t.blocks.items) where
  abbrev Follows : Node → ℕ → Type 0
  Follows call callee = followed m (type_table ts d.file) d.file (functions_in ts) call ≡ Some callee

  -- the call is followed into this function
  pub end-follows : (b callee : ℕ) (call : Node) → IsEnd t b callee call → followed m (type_table ts d.file) d.file (functions_in ts) call ≡ Some callee
  end-follows b callee call e =
      let s = block-ends (graph_in t.graph.now) b call e.call_is in
      let k = behind (slice_get t.blocks.items b) (λ x. x.callee) callee e.callee_is in
      let is = zip-at (IsBlockTable m depth ts d) (graph_in t.graph.now).blocks t.blocks.items b s.0 k.0 A s.1 k.1 in
      sym (is.callee call s.2) ∙ k.2

  -- and each that is stands so in the table
  pub follows-end : (b callee next : ℕ) (s : Block) (call : Node) → slice_get (graph_in t.graph.now).blocks b ≡ Some s → s.ending ≡ Calls call next → followed m (type_table ts d.file) d.file (functions_in ts) call ≡ Some callee → IsEnd t b callee call
  follows-end b callee next s call at ends f =
      let k = zip-there (IsBlockTable m depth ts d) (graph_in t.graph.now).blocks t.blocks.items b s A at in
      let is = zip-at (IsBlockTable m depth ts d) (graph_in t.graph.now).blocks t.blocks.items b s k.0 A at k.1 in
      let calls : call_in s.ending ≡ Some call = ap call_in ends in
      record {
        callee_is = ap (λ o. o >? λ (x : BlockTable). x.callee) k.1 ∙ is.callee call calls ∙ f;
        call_is = ap (λ o. o >? λ (x : Block). call_in x.ending) at ∙ calls;
      }

-- ---- the function into which a call is followed

module _ (m : Machine) (table : Table) (file : ℕ) (fs : List Defined) (call : Node) (callee : ℕ) where
  body-is : (name : ℕ) → body_followed m file fs name ≡ Some callee → body_of file name fs ≡ Some callee
  body-is name e = by (machine_calls name m) e
    where
      by : (b : Bool) → cond b None (body_of file name fs) ≡ Some callee → body_of file name fs ≡ Some callee
      by true e = cc
      by false e = e

  -- it is the one that is called
  pub followed-called : followed m table file fs call ≡ Some callee → body_called table file fs call ≡ Some callee
  followed-called e =
      let k = behind (called_name table call) (body_followed m file fs) callee e in
      ap (λ o. o >? λ name. body_of file name fs) k.1 ∙ body-is k.0 k.2

  -- and one of the program
  pub followed-within : followed m table file fs call ≡ Some callee → callee < length fs
  followed-within e =
      let k = behind (called_name table call) (body_followed m file fs) callee e in
      body-below file k.0 callee fs (body-is k.0 k.2)

-- ---- what a call passes

module _ (c : Checker) (units : List (Bor TypedUnit)) (k : FollowedCall) (d e : Defined) where
  abbrev T : List Text
  T = texts_of units

  abbrev fs : List Defined
  fs = definitions (trees_in units)

  abbrev call : Node
  call = node_of k.site.call.now

  -- it passes what the call of the program does
  pub call-passes : IsSite units k → slice_get fs k.caller ≡ Some d → slice_get fs k.callee ≡ Some e → followed c.machine (type_table T d.file) d.file (functions_in T) call ≡ Some k.callee → Passes c.depth k (site c.depth T (function_of d) call)
  call-passes is at into follows =
      let filed : d.place.file ≡ d.file = place-filed (trees_in units) k.caller d at in
      let called : callee_of T d.place.file call ≡ Some e =
      ap (λ (i : ℕ). callee_of T i call) filed
      ∙ ap (λ o. o >? slice_get (functions_in T)) (followed-called c.machine (type_table T d.file) d.file (functions_in T) call k.callee follows)
      ∙ ap (λ (l : List Defined). slice_get l k.callee) (functions-are units)
      ∙ into in
      record {
        formals = is.formals e into ∙ sym (ap (λ o. if_there o [] (λ (x : Defined). x.formals)) called);
        actuals = ap (λ u. actuals_of u c.depth call) (sym (objects-are units d.place.file k.site.unit (ap (slice_get units) filed ∙ is.unit d at)));
      }
