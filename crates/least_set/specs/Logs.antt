-- Logs: lists that grow at their end, by values that aren't there yet.
use Rattle.std.specs.Prelude.{◌≡◌, ℕ, ◌≤◌, List, ◌++◌, Contains, Some, length, take, slice_get}

-- The list has exactly the values of which P holds.
abbrev pub IsExactly : {M : Type 0} → List M → (M → Type 0) → Type 0
IsExactly xs P = ((c : _) → Contains xs c → P c) × ((c : _) → P c → Contains xs c)

-- One of the list gives the value.
abbrev pub SomeGives : {T M : Type 0} → (T → M → Type 0) → List T → M → Type 0
SomeGives {T} G xs c = (x : T) × Contains xs x × G x c

-- No value stands at two places.
abbrev pub IsOnce : {M : Type 0} → List M → Type 0
IsOnce {M} log = (i j : ℕ) (c : M) → slice_get log i ≡ Some c → slice_get log j ≡ Some c → i ≡ j

-- Each value follows from those that stand before it.
abbrev pub InOrder : {M : Type 0} → (List M → M → Type 0) → List M → Type 0
InOrder {M} Follows log = (j : ℕ) (c : M) → slice_get log j ≡ Some c → Follows (take j log) c

-- The first so many are exactly those of which P holds.
pub record BeginsWith {M : Type 0} (P : M → Type 0) (log : List M) : Type 0 where
  pub count : ℕ
  pub within : count ≤ length log
  pub exact : IsExactly (take count log) P

-- The list grew at its end by values of P, and now has all of them.
pub record Adds {M : Type 0} (P : M → Type 0) (old new : List M) : Type 0 where
  pub more : List M
  pub whole : new ≡ old ++ more
  pub added : (c : M) → P c → Contains new c
  pub only : (c : M) → Contains more c → P c
