-- Where a place is looked for by a rule's number, its token is the one that counting finds.
use Rattle.std.proofs.Common.{◌≡◌, ◌∙◌, ℕ, List, Option, None, Some, ap, refl, sym}
use Rattle.std.specs.Option.{option_map}
use Rattle.c_tree.specs.declared.place.Place.{Place}
use Rattle.c_tree.specs.Symbol.{Symbol}
use Rattle.metal_grammar.specs.Words.{Spelling}
use Rattle.metal_grammar.specs.Written.{Clause}
use Rattle.metal_grammar.specs.Grammar.{IsText}
use Rattle.metal_grammar.specs.Rules.{rules_of, rule_position}
use Rattle.metal_clauses.specs.Places.{place_in}
use Rattle.metal_reader.specs.MetalPositions.Positions.{beginnings, position_with}
use Rattle.metal_reader.proofs.MetalPositions.Counting.{rules_are_counted}

same-place : (a b : Place) → Some a ≡ Some b → a ≡ b
same-place a b h = cc

module _ (names : Spelling) (ts : List Symbol) (cs : List Clause) (file rule : ℕ) (text : IsText names cs ts) where
  -- there is such a rule
  pub found_counted : (place : Place) → Some place ≡ option_map (place_in file) (rule_position rule (rules_of cs)) → position_with 0 rule (beginnings 0 0 ts) ≡ Some place.token
  found_counted place e = by (position_with 0 rule (beginnings 0 0 ts)) (e ∙ ap (option_map (place_in file)) (rules_are_counted names ts cs rule text))
    where
      by : (o : Option ℕ) → Some place ≡ option_map (place_in file) o → o ≡ Some place.token
      by None h = cc
      by (Some position) h = ap (λ p. Some p.token) (sym (same-place place (place_in file position) h))

  -- there is none
  pub none_counted : None ≡ option_map (place_in file) (rule_position rule (rules_of cs)) → position_with 0 rule (beginnings 0 0 ts) ≡ None
  none_counted e = by (position_with 0 rule (beginnings 0 0 ts)) (e ∙ ap (option_map (place_in file)) (rules_are_counted names ts cs rule text))
    where
      by : (o : Option ℕ) → None ≡ option_map (place_in file) o → o ≡ None
      by None h = refl
      by (Some position) h = cc
