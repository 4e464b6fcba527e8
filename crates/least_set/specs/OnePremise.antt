-- What follows by rules of one premise.
use Rattle.std.specs.Prelude.{List, Contains}

module _ {M : Type 0} (Base : M → Type 0) (Goes : M → M → Type 0) where
  -- What follows in one step from values that are known.
  pub data Follows (known : List M) (c : M) : Type 0 where
    FollowsBase : Base c → Follows known c
    FollowsOne : (a : M) → Contains known a → Goes a c → Follows known c

  -- The least set that has the base and what follows from it.
  pub data Least : M → Type 0 where
    LeastBase : {c : M} → Base c → Least c
    LeastOne : {a c : M} → Least a → Goes a c → Least c
