-- The program's blocks and edges, and the objects that are followed in each of its functions.
use Rattle.std.specs.Prelude.{◌≡◌, Bool, true, false, Some, None, List, [], ◌∷◌}
use Rattle.path_examples.specs.declared.checker.Variable.TheVariants.{WalkFormal, WalkLocal, StartFormal, HelpFormal}
use Rattle.path_examples.specs.declared.checker.Event.{Event}
use Rattle.path_examples.specs.declared.checker.Event.TheVariants.{Lock, Unlock, Copy, Disable, Leave}
use Rattle.path_examples.specs.declared.checker.Interrupts.{Interrupts}
use Rattle.path_examples.specs.declared.checker.Interrupts.TheVariants.{Enabled, Disabled}
use Rattle.path_examples.specs.declared.program.Function.{Function}
use Rattle.path_examples.specs.declared.program.Function.TheVariants.{Walk, Start, Help}
use Rattle.path_examples.specs.declared.program.CallSite.{CallSite}
use Rattle.path_examples.specs.declared.program.CallSite.TheVariants.{WalkAgain, FirstHelp, SecondHelp}
use Rattle.path_examples.specs.declared.program.Block.{Block}
use Rattle.path_examples.specs.declared.program.Block.TheVariants.{Entry, Calling, Otherwise, Between, After, Exit}
use Rattle.path_theory.specs.Supergraph.{Supergraph}
use Rattle.path_theory.specs.Facts.{Fact, NoObject, HasObject, Objects}
use Rattle.path_theory.specs.FlowGraphs.{FlowGraphs, supergraph}
use Rattle.path_examples.specs.Checker.{locks}

abbrev pub IsRoot : Function → Type 0
IsRoot Walk = Unit {0}
IsRoot Start = Unit {0}
IsRoot Help = ⊥

abbrev pub events_of : Function → Block → List Event
events_of Walk Entry = Lock WalkFormal ∷ Copy ∷ []
events_of Walk Otherwise = Disable ∷ []
events_of Walk After = Unlock WalkLocal ∷ []
events_of Help Entry = Lock HelpFormal ∷ []
events_of _ Exit = Leave ∷ []
events_of _ _ = []

abbrev pub Next : Function → Block → Block → Type 0
Next Walk Entry Calling = Unit {0}
Next Walk Entry Otherwise = Unit {0}
Next Walk Otherwise After = Unit {0}
Next Walk After Exit = Unit {0}
Next Start After Exit = Unit {0}
Next Help Entry Exit = Unit {0}
Next _ _ _ = ⊥

-- each call site has one caller, one block that ends in it, one callee, and one block behind it
abbrev pub caller_of : CallSite → Function
caller_of WalkAgain = Walk
caller_of FirstHelp = Start
caller_of SecondHelp = Start

abbrev pub block_of : CallSite → Block
block_of WalkAgain = Calling
block_of FirstHelp = Entry
block_of SecondHelp = Between

abbrev pub callee_of : CallSite → Function
callee_of WalkAgain = Walk
callee_of FirstHelp = Help
callee_of SecondHelp = Help

abbrev pub behind_of : CallSite → Block
behind_of WalkAgain = After
behind_of FirstHelp = Between
behind_of SecondHelp = After

pub record Calls (f : Function) (b : Block) (s : CallSite) (h : Function) (c : Block) : Type 0 where
  pub caller : f ≡ caller_of s
  pub block : b ≡ block_of s
  pub callee : h ≡ callee_of s
  pub behind : c ≡ behind_of s

abbrev pub Ends : Function → Block → Type 0
Ends f Exit = Unit {0}
Ends f _ = ⊥

abbrev pub graphs : FlowGraphs locks
graphs = record { IsRoot = IsRoot; Block = Block; first = λ f. Entry; events = events_of; Next = Next; Call = Calls; Ends = Ends }

abbrev pub program : Supergraph locks
program = supergraph locks graphs

-- each function's own variables are followed
abbrev pub followed : Objects locks
followed Walk WalkFormal = Unit {0}
followed Walk WalkLocal = Unit {0}
followed Start StartFormal = Unit {0}
followed Help HelpFormal = Unit {0}
followed _ _ = ⊥

-- whether a context is followed in a root's own frame
abbrev pub is_own : Function → Interrupts → Fact locks → Bool
is_own Help g t = false
is_own f Disabled t = false
is_own f Enabled NoObject = true
is_own f Enabled (HasObject o None) = true
is_own f Enabled (HasObject o (Some x)) = false
