use Rattle.std.proofs.Common.{◌≡◌, ◌∙◌, ◌++◌, [], ◌∷◌, length, ap, ℕ, Option, Some, None, cond, nat_eq, arith}
use Rattle.std.specs.Map.{lookup}
use Rattle.std.proofs.lemmas.Grind.{common_steps}
use Rattle.indexmap.specs.IndexMap.{get}
use Rattle.type_rules.specs.Options.{or_else}
use Rattle.call_graph.specs.OfPrograms.Definitions.{defined_by}
use Rattle.call_graph.specs.OfPrograms.Tables.{same_key, is_shared}
use Rattle.call_graph.proofs.OfPrograms.Filed.{filed-push}
use Rattle.call_graph.proofs.OfPrograms.Listed.{defined-push, map-length}
use Rattle.typed_unit.specs.Functions.{function_of}
use Rattle.call_graph.proofs.programs.functions.Functions.push.Goals as goal

pub invariant_of-self-2 : goal.invariant_of-self-2
invariant_of-self-2 c =
    let f = c.args.function.now in
    let all = c.args.self.now.all.items in
    let items : c.push.new.self.items ≡ all ++ (c.args.function ∷ []) = grind (arith, common_steps) in
    let at : c.len-position.result ≡ length all = grind (arith, common_steps) in
    record {
      filed =
          filed-push (get same_key c.args.self.now.in_file) (get same_key c.note_in_file.new.in_file) (get nat_eq c.args.self.now.external) (get nat_eq c.note_external.new.external) (defined_by all) (defined_by c.push.new.self.items) (function_of f) c.len-position.result
          c.args.self.now.filed (at ∙ map-length all) (defined-push all c.push.new.self.items c.args.function items)
          (λ k. c.in_ok-note_in_file.ensures.noted k ∙ ap (λ (o : Option ℕ). or_else o (cond (same_key (f.file, f.name) k) (Some c.len-position.result) None)) (ap (lookup (same_key k)) c.reserve-2.ensures.entries))
          (λ n. c.in_ok-note_external.ensures.noted n ∙ ap (λ (o : Option ℕ). or_else o (cond (is_shared f.own f.name n) (Some c.len-position.result) None)) (ap (lookup (nat_eq n)) c.reserve-3.ensures.entries));
    }
