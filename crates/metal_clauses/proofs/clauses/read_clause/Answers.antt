use Rattle.std.proofs.Common.{◌≡◌, ◌&&◌, ap, ◌∙◌, sym, rules}
use Rattle.c_tree.specs.Symbol.{symbols_of}
use Rattle.metal_grammar.specs.Ways.Steps.{read_content}
use Rattle.metal_written.specs.Written.{content_view, maybe_head_view}
use Rattle.metal_clauses.proofs.InClauses.{clause-longer}
use Rattle.metal_clauses.proofs.clauses.read_clause.Goals.{then-is_first, else-is_first}
use Rattle.metal_clauses.proofs.clauses.read_clause.Goals as goal

pub returns-then-not-is_at_end-clause-found : goal.returns-then-not-is_at_end-clause-found
returns-then-not-is_at_end-clause-found c = λ b k e.
    let behind = symbols_of c.in-Some.behind.now in
    let alone : c.if-is_first.read_content ≡ (c.args.is_first && c.args.is_last) = elim c.if-is_first.branch [ then-is_first w ↦ search rules | else-is_first w ↦ search rules ] in
    clause-longer c.args.names.now b c.args.is_first c.args.is_last (symbols_of c.args.tokens.now) (maybe_head_view c.in-Some.head) behind (symbols_of c.in_ok-content.rest.now) (content_view c.in_ok-content.content)
    (sym c.in-Some.ensures.found) (ap (λ a. read_content c.args.names.now a behind) (sym alone) ∙ c.in_ok-content.ensures.found) (sym c.if-not-is_at_end.ensures)
