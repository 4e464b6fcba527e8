use Rattle.std.proofs.Common.{◌≡◌, ◌∙◌, ℕ, Option, Some, None, ap, sym}
use Rattle.type_rules.specs.Options.{or_else}
use Rattle.call_graph.specs.OfPrograms.Bodies.{is_in_file, is_external, first_position}
use Rattle.call_graph.specs.OfPrograms.Definitions.{defined_by}
use Rattle.call_graph.proofs.programs.functions.Functions.body_of.Goals as goal

pub returns-in-Some : goal.returns-in-Some
returns-in-Some c =
    let fs = defined_by c.args.self.now.all.items in
    let own : first_position (is_in_file c.args.file c.args.name) fs ≡ Some c.in-Some.number = sym (c.args.self.now.filed.own (c.args.file, c.args.name)) ∙ sym c.get.ensures.value ∙ sym c.copied.ensures ∙ c.in-Some.is in
    sym (ap (λ (o : Option ℕ). or_else o (first_position (is_external c.args.name) fs)) own)

pub returns-in-Some-copied : goal.returns-in-Some-copied
returns-in-Some-copied c =
    let fs = defined_by c.args.self.now.all.items in
    let own : first_position (is_in_file c.args.file c.args.name) fs ≡ None = sym (c.args.self.now.filed.own (c.args.file, c.args.name)) ∙ sym c.get.ensures.value ∙ sym c.copied.ensures ∙ c.in_default.is in
    let shared : first_position (is_external c.args.name) fs ≡ Some c.in-Some-copied.number = sym (c.args.self.now.filed.shared c.args.name) ∙ sym c.get-2.ensures.value ∙ sym c.copied-2.ensures ∙ c.in-Some-copied.is in
    sym (ap (λ (o : Option ℕ). or_else o (first_position (is_external c.args.name) fs)) own ∙ shared)

pub returns-in-None : goal.returns-in-None
returns-in-None c =
    let fs = defined_by c.args.self.now.all.items in
    let own : first_position (is_in_file c.args.file c.args.name) fs ≡ None = sym (c.args.self.now.filed.own (c.args.file, c.args.name)) ∙ sym c.get.ensures.value ∙ sym c.copied.ensures ∙ c.in_default.is in
    let shared : first_position (is_external c.args.name) fs ≡ None = sym (c.args.self.now.filed.shared c.args.name) ∙ sym c.get-2.ensures.value ∙ sym c.copied-2.ensures ∙ c.in-None.is in
    sym (ap (λ (o : Option ℕ). or_else o (first_position (is_external c.args.name) fs)) own ∙ shared)
