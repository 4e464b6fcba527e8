-- What begins with a path, and another object in the place of it.
use Rattle.std.proofs.Common.{arith, ◌≡◌, ℕ, List, [], ◌∷◌, ◌++◌, Bool, true, false, Option, None, Some, refl, ◌∙◌, ap, cond, not, ◌&&◌, is_some}
use Rattle.c_objects.specs.Objects.{Selector, Object, path, same_var, same_selector}
use Rattle.c_objects.specs.Paths.{append, behind, rest, begins_with, rebase}
use Rattle.c_objects.proofs.Vars.{same_var-true, same_var-refl, same_selector-true, same_selector-refl}
use Rattle.type_rules.specs.Options.{◌>?◌}
use Rattle.type_rules.specs.Vars.{CVar}

step-behind : (ps ss r : List Selector) (p s : Selector) (b : Bool) → same_selector p s ≡ b → cond b (behind ps ss) None ≡ Some r → ((behind ps ss ≡ Some r) → ss ≡ (ps ++ r)) → (s ∷ ss) ≡ (p ∷ (ps ++ r))
step-behind ps ss r p s true e h k = let same = same_selector-true p s e in let l = k h in grind arith
step-behind ps ss r p s false e h k = cc

pub behind-some : (ps ss r : List Selector) → behind ps ss ≡ Some r → ss ≡ (ps ++ r)
behind-some [] ss r h = grind arith
behind-some (p ∷ ps) [] r h = cc
behind-some (p ∷ ps) (s ∷ ss) r h = step-behind ps ss r p s (same_selector p s) refl h (behind-some ps ss r)

pub behind-itself : (ps r : List Selector) → behind ps (ps ++ r) ≡ Some r
behind-itself [] r = refl
behind-itself (p ∷ ps) r = ap (λ b. cond b (behind ps (ps ++ r)) None) (same_selector-refl p) ∙ behind-itself ps r

pub rest-itself : (base : CVar) (ps r : List Selector) (b : Bool) → rest (record { address = b; base = base; selectors = ps ++ r }) (path base ps) ≡ Some r
rest-itself base ps r b = ap (λ x. cond x (behind ps (ps ++ r)) None) (same_var-refl base) ∙ behind-itself ps r

found : (o : Object) (base : CVar) (ps : List Selector) (a b : Bool) (k : Option (List Selector)) → o.address ≡ a → same_var base o.base ≡ b → behind ps o.selectors ≡ k → (not a && not false && is_some (cond b k None)) ≡ true → (r : List Selector) × (o ≡ path base (ps ++ r))
found o base ps false true (Some r) ea eb ek h = let s = behind-some ps o.selectors r ek in let v = same_var-true base o.base eb in (r, grind arith)
found o base ps false true None ea eb ek h = cc
found o base ps false false k ea eb ek h = cc
found o base ps true b k ea eb ek h = cc

pub begins-rest : (o : Object) (base : CVar) (ps : List Selector) → begins_with o (path base ps) ≡ true → (r : List Selector) × (o ≡ path base (ps ++ r))
begins-rest o base ps h = found o base ps o.address (same_var base o.base) (behind ps o.selectors) refl refl refl h

pub rest-begins : (o : Object) (base : CVar) (ps r : List Selector) → o ≡ path base (ps ++ r) → begins_with o (path base ps) ≡ true
rest-begins o base ps r h = ap (λ x. begins_with x (path base ps)) h ∙ ap is_some (rest-itself base ps r false)

pub rest-rebased : (depth : ℕ) (base : CVar) (ps r : List Selector) (a : Object) → rebase depth (path base (ps ++ r)) (path base ps) a ≡ append depth a r
rest-rebased depth base ps r a = ap (λ x. x >? λ q. append depth a q) (rest-itself base ps r false)
