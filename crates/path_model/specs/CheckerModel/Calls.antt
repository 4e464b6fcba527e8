-- CALLS (refine and restore): which states a callee begins with, and which the caller has behind the call.
use Rattle.std.specs.Prelude.{◌≡◌, ◌⊎◌, ◌≤◌, ℕ, List, [], ◌∷◌, slice_get, true, cond, Option, None, Some}
use Rattle.c_objects.specs.Facts.{Facts}
use Rattle.c_objects.specs.ObjectOf.{object_of}
use Rattle.c_objects.specs.Objects.{Object, IsObject, if_object, path, same_var, is_static_var, are_static, is_static}
use Rattle.c_objects.specs.Paths.{rebase}
use Rattle.c_tree.specs.Node.{Node, node, Operation, Call, Nodes, no_more, more}
use Rattle.type_rules.specs.Options.{or_else, ◌>?◌}
use Rattle.type_rules.specs.Vars.{CVar}
use Rattle.path_model.specs.CheckerModel.Happenings.{Site}
use Rattle.c_objects.specs.Replaced.{replaced}

-- the objects of trees, and of the actuals of a call
abbrev pub objects_of : Facts → ℕ → Nodes → List (Option Object)
objects_of u depth no_more = []
objects_of u depth (more e es) = object_of u depth e ∷ objects_of u depth es

abbrev pub actuals_of : Facts → ℕ → Node → List (Option Object)
actuals_of u depth (node i p (Operation (Call callee paren arguments))) = objects_of u depth arguments
actuals_of u depth _ = []

-- they are objects
abbrev pub AreObjects : ℕ → List (Option Object) → Type 0
AreObjects depth [] = Unit {0}
AreObjects depth (a ∷ actuals) = ((o : Object) → a ≡ Some o → IsObject depth o) × AreObjects depth actuals

abbrev pub first_actual : List (Option Object) → Option Object
first_actual [] = None
first_actual (x ∷ xs) = x

abbrev pub behind_first : {A : Type 0} → List A → List A
behind_first [] = []
behind_first (x ∷ xs) = xs

-- AT THE ENTRY. The caller's object whose state this one of the callee has: behind a formal that of the actual, and a global
-- object its own. A formal without an actual has none; actuals behind the last formal stand for nothing.
abbrev pub passed : ℕ → List (Option CVar) → List (Option Object) → Object → Option Object
passed depth [] actuals c = cond (is_static_var c.base) (Some c) None
passed depth (None ∷ xs) actuals c = passed depth xs (behind_first actuals) c
passed depth (Some x ∷ xs) actuals c = cond (same_var c.base x) (first_actual actuals >? λ a. rebase depth c (path x []) a) (passed depth xs (behind_first actuals) c)

-- Index variables of the caller mean nothing in the callee, so all of them have static storage.
abbrev pub into : ℕ → Site → Object → Option Object
into depth s c = if_object depth c >? λ o. cond (are_static o.selectors) (passed depth s.formals s.actuals o) None

-- AT THE RETURN. An object of the callee becomes this one of the caller where the actual at this position stands in the place of its formal.
-- Its index variables all have static storage.
pub record BecomesThrough (depth : ℕ) (formals : List (Option CVar)) (actuals : List (Option Object)) (position : ℕ) (c o : Object) : Type 0 where
  pub formal : CVar
  pub actual : Object
  pub is_formal : slice_get formals position ≡ Some (Some formal)
  pub is_actual : slice_get actuals position ≡ Some (Some actual)
  pub object : IsObject depth c
  pub static : are_static c.selectors ≡ true
  pub becomes : rebase depth c (path formal []) actual ≡ Some o

-- it does so through the first actual through which any does
pub record BecomesFirst (depth : ℕ) (formals : List (Option CVar)) (actuals : List (Option Object)) (c o : Object) : Type 0 where
  pub position : ℕ
  pub through : BecomesThrough depth formals actuals position c o
  pub first : (n : ℕ) (d : Object) → BecomesThrough depth formals actuals n d o → position ≤ n

-- none does so through any
abbrev pub NoneBecomes : ℕ → List (Option CVar) → List (Option Object) → Object → Type 0
NoneBecomes depth formals actuals o = (n : ℕ) (d : Object) → BecomesThrough depth formals actuals n d o → ⊥

-- a global object that no other becomes is the same in the callee
pub record IsOwn (depth : ℕ) (formals : List (Option CVar)) (actuals : List (Option Object)) (c o : Object) : Type 0 where
  pub none : NoneBecomes depth formals actuals o
  pub static : is_static o ≡ true
  pub same : c ≡ o

-- WHAT A CALL HANDS BACK: this object of the callee to this one of the caller
abbrev pub IsHandedBack : ℕ → Site → Object → Object → Type 0
IsHandedBack depth s c o = BecomesFirst depth s.formals s.actuals c o ⊎ IsOwn depth s.formals s.actuals c o

-- BEHIND THE CALL an object to which one of the callee is handed back has the state of that. Every other object is saved: it has the state that
-- it had at the call.
pub record HandsBack {State : Type 0} (depth : ℕ) (s : Site) (callee caller behind : Object → Option State) : Type 0 where
  pub handed : (c o : Object) → IsHandedBack depth s c o → behind o ≡ callee c
  pub saved : (o : Object) → ((c : Object) → IsHandedBack depth s c o → ⊥) → behind o ≡ caller o

-- THE SAME BY COMPUTATION, the other way round: from an object of the caller to the one of the callee that becomes it (`handed_back_objects_become_theirs`,
-- `calls_hand_back_what_becomes`). First through one actual.
abbrev pub if_static : Object → Option Object
if_static c = cond (are_static c.selectors) (Some c) None

abbrev pub reaching : ℕ → CVar → Object → Object → Option Object
reaching depth x a o = if_object depth o >? replaced depth (path x []) a >? if_static

-- through the first actual that reaches it
abbrev pub reached : ℕ → List (Option CVar) → List (Option Object) → Object → Option Object
reached depth [] actuals o = None
reached depth (None ∷ xs) actuals o = reached depth xs (behind_first actuals) o
reached depth (Some x ∷ xs) actuals o = or_else (first_actual actuals >? λ a. reaching depth x a o) (reached depth xs (behind_first actuals) o)

-- and of a global object that none reaches, its own
abbrev pub out : ℕ → Site → Object → Option Object
out depth s o = or_else (reached depth s.formals s.actuals o) (cond (is_static o) (Some o) None)

abbrev pub returned : {State : Type 0} → Option Object → (Object → Option State) → (Object → Option State) → Object → Option State
returned None callee caller o = caller o
returned (Some c) callee caller o = callee c
