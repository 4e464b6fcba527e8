use Rattle.std.proofs.Common.{◌≡◌, ◌∙◌, ◌⊎◌, inl, inr, ap, sym}
use Rattle.c_tree.specs.Symbol.{symbols_of}
use Rattle.c_lexer.specs.declared.c_reading.mode.Mode.TheVariants.{Metal}
use Rattle.metal_reader.specs.declared.metal_faults.fault.MetalFault.TheVariants as faults
use Rattle.request_files.specs.FrontEnd.Refusals.{unmade_as}
use Rattle.request_files.specs.declared.front_end.refusal.Refusal.TheVariants.{NoMemory}
use Rattle.request_files.proofs.FrontEnd.MoreNames.{still_lexed}
use Rattle.request_files.proofs.FrontEnd.NoMachine.{no_machine, text_of}
use Rattle.request_files.proofs.front_end.machines.read_checker.Goals as goal

pub unmade-requires : goal.unmade-requires
unmade-requires c = record {
  text = λ rule e. text_of c.read_machine.new.names (symbols_of c.args.tokens.now.all) c.args.tokens.now.end.place.file c.in-Err.fault rule c.in-Err.ensures.refused e;
}

pub returns-in-Err-clause-refused : goal.returns-in-Err-clause-refused
returns-in-Err-clause-refused c = λ found e.
    no_machine c.read_machine.new.names c.args.tokens.now c.args.tokens.now.end.place.file c.in-Err.fault found c.in-Err.ensures.refused (sym c.unmade.ensures ∙ e)

pub returns-in-Ok-clause-lexed : goal.returns-in-Ok-clause-lexed
returns-in-Ok-clause-lexed c = λ number word pieces x. still_lexed number c.args.names.now c.read_machine.new.names _ c.in-Ok.ensures.adds Metal word pieces c.args.tokens.now x

pub returns-in-Err-clause-lexed : goal.returns-in-Err-clause-lexed
returns-in-Err-clause-lexed c = λ number word pieces x. still_lexed number c.args.names.now c.read_machine.new.names _ c.in-Err.ensures.adds Metal word pieces c.args.tokens.now x

pub returns-in-Err-clause-named : goal.returns-in-Err-clause-named
returns-in-Err-clause-named c = by c.in-Err.ensures.named
  where
    by : {N : Type 0} → (c.in-Err.fault ≡ faults.NoMemory) ⊎ N → (c.unmade.result ≡ NoMemory) ⊎ N
    by (inl e) = inl (c.unmade.ensures ∙ ap (unmade_as c.args.tokens.now) e)
    by (inr n) = inr n
