-- What follows by rules of one and of two premises.
-- A rule of two premises is split: its first premise leaves a waiter at a context, and its second is an end of that context.
use Rattle.std.specs.Prelude.{◌≡◌, ◌↔◌, ℕ, List, Contains, Some, slice_get}
use Rattle.least_set.specs.Logs.{Adds, IsExactly, SomeGives}
use Rattle.least_set.specs.Indexes.{Extends}
use Rattle.least_set.specs.declared.two_premises.Entered.{Entered}
use Rattle.least_set.specs.declared.two_premises.Wait.{Wait}

module _ {M K W : Type 0} (Base : M → Type 0) (Goes : M → M → Type 0) (Waits : M → K → W → Type 0) (Ends : M → K → Type 0) (Wakes : W → M → M → Type 0) where
  -- What follows in one step from values that are known.
  pub data Follows (known : List M) (c : M) : Type 0 where
    FollowsBase : Base c → Follows known c
    FollowsOne : (a : M) → Contains known a → Goes a c → Follows known c
    FollowsTwo : (a b : M) (k : K) (w : W) → Contains known a → Waits a k w → Contains known b → Ends b k → Wakes w b c → Follows known c

  -- The least set that has the base and what follows from it.
  pub data Least : M → Type 0 where
    LeastBase : {c : M} → Base c → Least c
    LeastOne : {a c : M} → Least a → Goes a c → Least c
    LeastTwo : {a b c : M} {k : K} {w : W} → Least a → Waits a k w → Least b → Ends b k → Wakes w b c → Least c

-- Just what the value e gives by itself.
pub record Enters {M K W : Type 0} (Goes : M → M → Type 0) (Waits : M → K → W → Type 0) (Ends : M → K → Type 0) (e : M) (v : Entered M K W) : Type 0 where
  pub next : IsExactly v.next.items (Goes e)
  pub waits : IsExactly v.waits.items (λ w. Waits e w.on w.waiter)
  pub end : (k : K) → (v.end ≡ Some k) ↔ Ends e k

-- What the value at a place of the log gives a waiter as an end.
abbrev pub Met : {M W : Type 0} → (W → M → M → Type 0) → List M → W → ℕ → M → Type 0
Met {M} Wakes log w j c = (b : M) × (slice_get log j ≡ Some b) × Wakes w b c

-- Somebody on the list waits so.
abbrev pub Kept : {K W : Type 0} → List (Wait K W) → K → W → Type 0
Kept {K} {W} xs k w = (x : Wait K W) × Contains xs x × ((x.on ≡ k) × (x.waiter ≡ w))

-- What the known ends answer those on the list.
abbrev pub Answers : {M K W : Type 0} → (W → M → M → Type 0) → List M → (K → List ℕ) → List (Wait K W) → M → Type 0
Answers Wakes log ended = SomeGives (λ x. SomeGives (Met Wakes log x.waiter) (ended x.on))

module _ {M K W : Type 0} (Goes : M → M → Type 0) (Waits : M → K → W → Type 0) (Ends : M → K → Type 0) (Wakes : W → M → M → Type 0) where
  -- What is new as the value e is worked off: what it gives alone, what the known ends answer its waiters, and what it gives as an end those that wait.
  pub data Gives (log : List M) (waiting : K → List W) (ended : K → List ℕ) (e c : M) : Type 0 where
    GivesNext : Goes e c → Gives log waiting ended e c
    GivesAnswer : (k : K) (w : W) (j : ℕ) → Waits e k w → Contains (ended k) j → Met Wakes log w j c → Gives log waiting ended e c
    GivesWoken : (k : K) (w : W) → Ends e k → Contains (waiting k) w → Wakes w e c → Gives log waiting ended e c

  -- The value e, at place i of the log, is worked off.
  pub record Processed (i : ℕ) (e : M) (old new : List M) (W₀ W₁ : K → List W) (D₀ D₁ : K → List ℕ) : Type 0 where
    pub members : Adds (Gives old W₁ D₀ e) old new
    pub waiters : Extends (Waits e) W₀ W₁
    pub ends : Extends (λ k j. Ends e k × (i ≡ j)) D₀ D₁
