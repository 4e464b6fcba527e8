use Rattle.std.proofs.Common.{◌≡◌, ◌∙◌, ℕ, Bool, true, false, not, ◌&&◌, ◌||◌, Option, ap, sym}
use Rattle.std.specs.Prelude.{is_some}
use Rattle.call_graph.specs.OfPrograms.Bodies.{is_in_file, is_external, first_position}
use Rattle.call_graph.specs.OfPrograms.Definitions.{defined_by}
use Rattle.call_graph.proofs.OfPrograms.Filed.{repeats-found}
use Rattle.typed_unit.specs.Functions.{function_of}
use Rattle.call_graph.proofs.programs.functions.Functions.repeats.Goals as goal

pub returns-then-contains_key : goal.returns-then-contains_key
returns-then-contains_key c =
    let f = c.args.function.now in
    let fs = defined_by c.args.self.now.all.items in
    let own : is_some (first_position (is_in_file f.file f.name) fs) ≡ true = sym (ap (λ (o : Option ℕ). is_some o) (c.args.self.now.filed.own (f.file, f.name))) ∙ sym c.contains_key.ensures ∙ c.if-contains_key.true in
    sym (ap (λ (b : Bool). b || (not f.own && is_some (first_position (is_external f.name) fs))) own) ∙ repeats-found (function_of f) fs

pub returns-then-not-function : goal.returns-then-not-function
returns-then-not-function c =
    let f = c.args.function.now in
    let fs = defined_by c.args.self.now.all.items in
    let own : is_some (first_position (is_in_file f.file f.name) fs) ≡ false = sym (ap (λ (o : Option ℕ). is_some o) (c.args.self.now.filed.own (f.file, f.name))) ∙ sym c.contains_key.ensures ∙ c.if-contains_key.false in
    let shared : c.contains_key-then-not-function.result ≡ is_some (first_position (is_external f.name) fs) = c.contains_key-then-not-function.ensures ∙ ap (λ (o : Option ℕ). is_some o) (c.args.self.now.filed.shared f.name) in
    shared
    ∙ sym (ap (λ (b : Bool). not b && is_some (first_position (is_external f.name) fs)) c.if-not-function.true)
    ∙ sym (ap (λ (b : Bool). b || (not f.own && is_some (first_position (is_external f.name) fs))) own)
    ∙ repeats-found (function_of f) fs

pub returns-else-not-function : goal.returns-else-not-function
returns-else-not-function c =
    let f = c.args.function.now in
    let fs = defined_by c.args.self.now.all.items in
    let own : is_some (first_position (is_in_file f.file f.name) fs) ≡ false = sym (ap (λ (o : Option ℕ). is_some o) (c.args.self.now.filed.own (f.file, f.name))) ∙ sym c.contains_key.ensures ∙ c.if-contains_key.false in
    ap not c.if-not-function.false
    ∙ sym (ap (λ (b : Bool). not b && is_some (first_position (is_external f.name) fs)) c.if-not-function.false)
    ∙ sym (ap (λ (b : Bool). b || (not f.own && is_some (first_position (is_external f.name) fs))) own)
    ∙ repeats-found (function_of f) fs
