-- The lists of events and marks that one evaluation gives (ISO 9899:1990, 6.3): operands from left to right, and the
-- logical operators, the conditional operator and the comma in their own order (6.3.13 to 6.3.15, 6.3.17).
use Rattle.std.specs.Prelude.{◌≡◌, Bool, true, false, not, List, [], Option, None, Some}
use Rattle.flow_graph.specs.CPaths.Events.{Item, branched}
use Rattle.flow_graph.specs.CPaths.Words.{Nothing, Only, Then, Either}
use Rattle.flow_graph.specs.CPaths.Forms.{Form, Plain, Inverts, Keeps, Both, Any, Chooses, Follows, Row, done, operand, item}

abbrev mutual
  -- an evaluation for the value (None), or as a condition that comes out as this truth
  pub Evaluates : Form → Option Bool → List Item → Type 0
  Evaluates (Plain n r) None = Happens r
  Evaluates (Plain n r) (Some t) = Then (Happens r) (Only (branched n t))
  Evaluates (Inverts x r) None = Then (Evaluates x None) (Happens r)
  Evaluates (Inverts x r) (Some t) = Evaluates x (Some (not t))
  Evaluates (Keeps x r) None = Then (Evaluates x None) (Happens r)
  Evaluates (Keeps x r) (Some t) = Evaluates x (Some t)
  Evaluates (Both x y r) None =
      Then (Either (Evaluates x (Some false)) (Then (Evaluates x (Some true)) (Either (Evaluates y (Some false)) (Evaluates y (Some true))))) (Happens r)
  Evaluates (Both x y r) (Some false) = Either (Evaluates x (Some false)) (Then (Evaluates x (Some true)) (Evaluates y (Some false)))
  Evaluates (Both x y r) (Some true) = Then (Evaluates x (Some true)) (Evaluates y (Some true))
  Evaluates (Any x y r) None =
      Then (Either (Evaluates x (Some true)) (Then (Evaluates x (Some false)) (Either (Evaluates y (Some false)) (Evaluates y (Some true))))) (Happens r)
  Evaluates (Any x y r) (Some true) = Either (Evaluates x (Some true)) (Then (Evaluates x (Some false)) (Evaluates y (Some true)))
  Evaluates (Any x y r) (Some false) = Then (Evaluates x (Some false)) (Evaluates y (Some false))
  Evaluates (Chooses x y z r) None =
      Then (Either (Then (Evaluates x (Some true)) (Evaluates y None)) (Then (Evaluates x (Some false)) (Evaluates z None))) (Happens r)
  Evaluates (Chooses x y z r) (Some t) =
      Either (Then (Evaluates x (Some true)) (Evaluates y (Some t))) (Then (Evaluates x (Some false)) (Evaluates z (Some t)))
  Evaluates (Follows x y r) None = Then (Evaluates x None) (Then (Evaluates y None) (Happens r))
  Evaluates (Follows x y r) (Some t) = Then (Evaluates x None) (Evaluates y (Some t))

  -- what happens in order
  pub Happens : Row → List Item → Type 0
  Happens done = Nothing
  Happens (operand x r) = Then (Evaluates x None) (Happens r)
  Happens (item i r) = Then (Only i) (Happens r)

-- l is what one evaluation for the value gives
abbrev pub Value : Form → List Item → Type 0
Value e l = Evaluates e None l

-- l is what one evaluation gives that comes out as t
abbrev pub Condition : Form → Bool → List Item → Type 0
Condition e t l = Evaluates e (Some t) l

-- a condition that is left out is true, and nothing happens
abbrev pub MaybeCondition : Option Form → Bool → List Item → Type 0
MaybeCondition None t l = (t ≡ true) × (l ≡ [])
MaybeCondition (Some e) t l = Condition e t l
