use Rattle.std.proofs.Common.{map, Vec, Global, ◌+◌, ◌^◌, ◌≤◌, ℕ, length, arith, sym, ◌∙◌, ap}
use Rattle.std.proofs.lemmas.Option.{slice_get_within}
use Rattle.mx_base.proofs.NameFacts.{no_repeats, number_at, number_next, after_insert, known_text, length_after, length-names}
use Rattle.mx_base.proofs.NameLaws.{number_stands}
use Rattle.mx_base.proofs.names.Names.intern.Goals as goal

pub returns-in-Some-clause-number : goal.returns-in-Some-clause-number
returns-in-Some-clause-number c =
    rw (← c.self.view_is) (number_at (λ v. v.items) c.args.text.now c.self.inside.texts.keys c.in-Some.number (sym c.in-Some.ensures.index))

pub returns-in-Some-clause-names : goal.returns-in-Some-clause-names
returns-in-Some-clause-names c =
    rw (← c.self.view_is) (known_text (λ v. v.items) c.args.text.now c.self.inside.texts.keys (sym c.in-Some.ensures.found))

pub returns-in-Some-clause-own : goal.returns-in-Some-clause-own
returns-in-Some-clause-own c = number_stands _ _ _ _ (returns-in-Some-clause-number c) (returns-in-Some-clause-names c) (rw (← c.self.view_is) c.self.invariant.1)

pub invariant_of-self-2 : goal.invariant_of-self-2
invariant_of-self-2 c =
    let fits : length c.self.inside.texts.keys + 1 ≤ 2 ^ 31 = omega (arith, length-names (λ (v : Vec ℕ Global). v.items) c.self.inside.texts.keys, ap length c.self.view_is) in (
      rw c.in_ok-insert.ensures.keys (length_after (λ (v : Vec ℕ Global). v.items) _ c.self.inside.texts.keys c.in_ok-owned.owned (2 ^ 31) fits),
      no_repeats (λ v. v.items) _ c.in_ok-insert.ensures.unique,
    )

pub returns-clause-number : goal.returns-clause-number
returns-clause-number c =
    rw (← c.self.view_is) (c.len-number.ensures.len ∙ number_next (λ v. v.items) c.args.text.now c.self.inside.texts.keys (sym c.in_default.ensures.found))

pub returns-clause-names : goal.returns-clause-names
returns-clause-names c =
    rw (← c.self.view_is) (ap (map (λ v. v.items)) c.in_ok-insert.ensures.keys ∙ after_insert (λ v. v.items) c.args.text.now c.self.inside.texts.keys c.in_ok-owned.owned c.in_ok-owned.ensures.items)

pub returns-clause-distinct : goal.returns-clause-distinct
returns-clause-distinct c = no_repeats (λ v. v.items) _ c.in_ok-insert.ensures.unique

pub returns-clause-own : goal.returns-clause-own
returns-clause-own c = number_stands _ _ _ _ (returns-clause-number c) (returns-clause-names c) (returns-clause-distinct c)

pub returns-clause-within : goal.returns-clause-within
returns-clause-within c = slice_get_within _ _ _ (returns-clause-own c).here
