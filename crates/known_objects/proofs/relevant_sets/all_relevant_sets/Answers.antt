use Rattle.std.proofs.Common.{ap, map}
use Rattle.function_tables.proofs.EngineTables.Places.{if-ok}
use Rattle.typed_unit.specs.Texts.{texts_of}
use Rattle.known_objects.proofs.RelevantSets.{relevant-sets}
use Rattle.known_objects.proofs.relevant_sets.all_relevant_sets.Goals as goal

pub returns : goal.returns
returns c =
    if-ok _ _ c.sets_of.result
    (λ sets zip. relevant-sets c.args.depth (texts_of c.args.program.now.units.items) c.args.tables.now (map (λ os. os.items) c.in_ok-lists.lists.items) (map (λ os. os.items) c.as_slice.result.now)
    (map (λ s. s.keys) sets.items) c.in_ok-lists.ensures (ap (map (λ os. os.items)) c.as_slice.ensures.value) zip)
    c.sets_of.ensures
