-- What a visit leaves in force.
use Rattle.std.specs.Prelude.{◌≡◌, List, ◌++◌}
use Rattle.type_rules.specs.Scopes.{Scopes}

-- the second list begins with the first
abbrev pub Begins : {A : Type 0} → List A → List A → Type 0
Begins {A} xs ys = (zs : List A) × (ys ≡ xs ++ zs)

-- The names and tags of before stay in front, and the scope is the same.
pub record Stays (v w : Scopes) : Type 0 where
  pub names : Begins v.names w.names
  pub tags : Begins v.tags w.tags
  pub depth : w.depth ≡ v.depth
