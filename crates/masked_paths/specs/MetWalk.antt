-- The checker of `MetExample` over named events: behind a call of kmalloc, and there alone, a rule gives a state to what is assigned.
use Rattle.std.specs.Prelude.{Bool, true, false, Some, None, cond}
use Rattle.path_theory.specs.Model.{Model}
use Rattle.masked_paths.specs.declared.met_example.Event.{Event}
use Rattle.masked_paths.specs.declared.met_example.Event.TheVariants.{AssignQ, Allocate, AssignP}
use Rattle.masked_paths.specs.declared.met_example.Global.{Global}
use Rattle.masked_paths.specs.declared.met_example.Global.TheVariants.{Start, Got}
use Rattle.masked_paths.specs.declared.met_example.Pointer.{Pointer}
use Rattle.masked_paths.specs.declared.met_example.Pointer.TheVariants.{P, Q}

abbrev pub assigned : Event → Pointer → Bool
assigned AssignQ Q = true
assigned AssignP P = true
assigned _ _ = false

abbrev pub global_of : Event → Global
global_of Allocate = Got
global_of _ = Start

-- the rule acts in the state `Got`, before the event
abbrev pub rule_binds : Event → Global → Pointer → Bool
rule_binds e Got o = assigned e o
rule_binds e Start o = false

-- one function without calls, one state and no reports
abbrev pub allocations : Model
allocations = record {
  Fn = Unit {0};
  Event = Event;
  Site = Unit {0};
  Obj = Pointer;
  Global = Global;
  State = Unit {0};
  Report = Unit {0};
  start = Start;
  moved = λ e m o. cond (assigned e o) None (m o);
  entered = λ s m o. m o;
  returned = λ s n m o. n o;
  next_global = λ e f k g. global_of e;
  choose = λ e f k g o x. cond (rule_binds e g o) (Some tt) x;
  Fires = λ e f k g o x r. ⊥;
  FiresGlobal = λ e f k g r. ⊥;
}
