-- The visit in order gives the type that is defined, or the first fault.
use Rattle.std.proofs.Common.{◌≡◌, List, [], ◌∷◌, Option, None, Some, Result, Ok, Err, ap, refl, ◌∙◌, sym}
use Rattle.type_rules.specs.Definition.{behind_parts, after, if_fine, type_of, types_of, Meeting, Out, meetings_then, meetings_all_then, first_fault}
use Rattle.type_rules.specs.Faults.{Fault}
use Rattle.type_rules.specs.Moves.{opened}
use Rattle.type_rules.specs.Options.{or_else, ok, err, unless_fault, ◌>?◌, ◌>>=◌}
use Rattle.type_rules.specs.Order.{visited, visited_all}
use Rattle.type_rules.specs.Parts.{Slot, Visit, visit, Parts, none, part}
use Rattle.type_rules.specs.Roles.{Role, given}
use Rattle.type_rules.specs.Rows.{row, entry_fault}
use Rattle.type_rules.specs.Scopes.{Scopes}
use Rattle.type_rules.specs.Types.{CType}

ok-node : {A B : Type 0} (f : Option Fault) (a : Result A Fault) (k : A → Result B Fault) → ok (unless_fault f (a >>= k)) ≡ if_fine f (ok a >? λ x. ok (k x))
ok-node None (Ok x) k = refl
ok-node None (Err e) k = refl
ok-node (Some f) a k = refl

ok-more : (a : Result CType Fault) (b : Result (List CType) Fault) → ok (a >>= λ t. b >>= λ ts. Ok (t ∷ ts)) ≡ (ok a >? λ t. ok b >? λ ts. Some (t ∷ ts))
ok-more (Ok t) (Ok ts) = refl
ok-more (Ok t) (Err e) = refl
ok-more (Err e) b = refl

mutual
  pub visited-ok : (v : Scopes) (r : Role) (e : Visit) → ok (visited v r e) ≡ type_of v r e
  visited-ok v r (visit i p s es) =
      ok-node (entry_fault v s) (visited_all (given v r) (opened v r s) es) (λ ts. row v (behind_parts v r s es) r p s ts)
      ∙ ap (λ o. if_fine (entry_fault v s) (o >? λ ts. ok (row v (behind_parts v r s es) r p s ts))) (visited_all-ok (given v r) (opened v r s) es)

  pub visited_all-ok : (roles : Slot → Role) (v : Scopes) (es : Parts) → ok (visited_all roles v es) ≡ types_of roles v es
  visited_all-ok roles v none = refl
  visited_all-ok roles v (part slot e es) =
      ok-more (visited v (roles slot) e) (visited_all roles (after v (roles slot) e) es)
      ∙ ap (λ o. o >? λ t. ok (visited_all roles (after v (roles slot) e) es) >? λ ts. Some (t ∷ ts)) (visited-ok v (roles slot) e)
      ∙ ap (λ o. type_of v (roles slot) e >? λ t. o >? λ ts. Some (t ∷ ts)) (visited_all-ok roles (after v (roles slot) e) es)

node-first : {A B : Type 0} (f : Option Fault) (a : Result A Fault) (k : A → Result B Fault) (rest : Option Fault) → or_else f (or_else (err a) (or_else (ok a >? λ x. err (k x)) rest)) ≡ or_else (err (unless_fault f (a >>= k))) rest
node-first None (Ok x) k rest = refl
node-first None (Err e) k rest = refl
node-first (Some f) a k rest = refl

more-first : (a : Result CType Fault) (b : Result (List CType) Fault) (rest : Option Fault) → or_else (err a) (or_else (err b) rest) ≡ or_else (err (a >>= λ t. b >>= λ ts. Ok (t ∷ ts))) rest
more-first (Ok t) (Ok ts) rest = refl
more-first (Ok t) (Err e) rest = refl
more-first (Err e) b rest = refl

mutual
  pub visited-first : (v : Scopes) (r : Role) (e : Visit) (xs : List Meeting) → first_fault (meetings_then v r e xs) ≡ or_else (err (visited v r e)) (first_fault xs)
  visited-first v r (visit i p s es) xs =
      ap (or_else (entry_fault v s)) (visited_all-first (given v r) (opened v r s) es (Out v r (visit i p s es) ∷ xs))
      ∙ ap (λ o. or_else (entry_fault v s) (or_else (err (visited_all (given v r) (opened v r s) es)) (or_else (o >? λ ts. err (row v (behind_parts v r s es) r p s ts)) (first_fault xs)))) (sym (visited_all-ok (given v r) (opened v r s) es))
      ∙ node-first (entry_fault v s) (visited_all (given v r) (opened v r s) es) (λ ts. row v (behind_parts v r s es) r p s ts) (first_fault xs)

  pub visited_all-first : (roles : Slot → Role) (v : Scopes) (es : Parts) (xs : List Meeting) → first_fault (meetings_all_then roles v es xs) ≡ or_else (err (visited_all roles v es)) (first_fault xs)
  visited_all-first roles v none xs = refl
  visited_all-first roles v (part slot e es) xs =
      visited-first v (roles slot) e (meetings_all_then roles (after v (roles slot) e) es xs)
      ∙ ap (or_else (err (visited v (roles slot) e))) (visited_all-first roles (after v (roles slot) e) es xs)
      ∙ more-first (visited v (roles slot) e) (visited_all roles (after v (roles slot) e) es) (first_fault xs)

or_else-none : {A : Type 0} (o : Option A) → or_else o None ≡ o
or_else-none None = refl
or_else-none (Some x) = refl

-- the first fault among parts is that of their visit
pub first-fault : (roles : Slot → Role) (v : Scopes) (es : Parts) → first_fault (meetings_all_then roles v es []) ≡ err (visited_all roles v es)
first-fault roles v es = visited_all-first roles v es [] ∙ or_else-none (err (visited_all roles v es))
