-- The walk of `met_example` over a list of events, and what it says of the list.
use Rattle.std.proofs.Common.{◌≡◌, ◌↔◌, ◌⊎◌, inl, inr, Bool, true, false, cond, IsTrue, ◌||◌, Some, None, List, [], ◌∷◌, refl, sym, ap, ◌∙◌, true≢false}
use Rattle.masked_paths.specs.declared.met_example.Event.{Event}
use Rattle.masked_paths.specs.declared.met_example.Global.{Global}
use Rattle.masked_paths.specs.declared.met_example.Pointer.{Pointer}
use Rattle.masked_paths.specs.Met.{BoundAmong}
use Rattle.masked_paths.specs.MetWalk.{allocations, global_of, rule_binds}
use Rattle.masked_paths.proofs.BoundEvents.{none_bound, bound_first, bound_later, bound_cases}

-- the rule binds at the first event, or at a later one, before which the global state is that behind the first
abbrev pub bound_in : List Event → Global → Pointer → Bool
bound_in [] g o = false
bound_in (e ∷ es) g o = rule_binds e g o || bound_in es (global_of e) o

given : (b : Bool) (x : Unit {0}) → cond b (Some tt) None ≡ Some x → b ≡ true
given true x d = refl
given false x d = cc

gives : (b : Bool) (x : Unit {0}) → b ≡ true → cond b (Some x) None ≡ Some x
gives true x d = refl
gives false x d = absurd (true≢false (sym d))

either : (a b : Bool) → a || b ≡ true → (a ≡ true) ⊎ (b ≡ true)
either true b d = inl refl
either false b d = inr d

pub or_first : (a b : Bool) → a ≡ true → a || b ≡ true
or_first a b d = ap (λ z. z || b) d

or_second : (a b : Bool) → b ≡ true → a || b ≡ true
or_second true b d = refl
or_second false b d = d

found : (es : List Event) (g : Global) (o : Pointer) → IsTrue (bound_in es g o) → BoundAmong allocations tt true es g o
found [] g o d = absurd (true≢false (sym d))
found (e ∷ es) g o d = elim (either (rule_binds e g o) (bound_in es (global_of e) o) d) [
  | inl b ↦ bound_first allocations tt true o e es g (tt, gives (rule_binds e g o) tt b)
  | inr b ↦ bound_later allocations tt true o e es g (found es (global_of e) o b)
]

holds : (es : List Event) (g : Global) (o : Pointer) → BoundAmong allocations tt true es g o → IsTrue (bound_in es g o)
holds [] g o w = none_bound allocations tt true o g w
holds (e ∷ es) g o w = elim (bound_cases allocations tt true o e es g w) [
  | inl b ↦ or_first (rule_binds e g o) (bound_in es (global_of e) o) (given (rule_binds e g o) b.0 b.1)
  | inr v ↦ or_second (rule_binds e g o) (bound_in es (global_of e) o) (holds es (global_of e) o v)
]

-- it is what the events bind
pub walked : (es : List Event) (g : Global) (o : Pointer) → IsTrue (bound_in es g o) ↔ BoundAmong allocations tt true es g o
walked es g o = (found es g o, holds es g o)

-- the same of an answer
pub answered : (b : Bool) (es : List Event) (g : Global) (o : Pointer) → bound_in es g o ≡ b → IsTrue b ↔ BoundAmong allocations tt true es g o
answered b es g o d = (λ t. found es g o (d ∙ t), λ w. sym d ∙ holds es g o w)
