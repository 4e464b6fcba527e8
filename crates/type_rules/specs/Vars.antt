-- Variables: what a name stands for, if it stands for a variable.
use Rattle.std.specs.Prelude.{ℕ}

-- A variable by its linkage and storage (ISO 9899:1990, 6.1.2.2, 6.1.2.4). The token of a declared variable is that of its name.
-- The first three have static storage, and what a return leaves behind counts as if it had. The last two are what a return and a
-- call leave behind; no name stands for them, and the token of a call is that of its opening parenthesis.
pub data CVar : Type 0 where
  -- one over all files, by its name
  Extern : ℕ → CVar
  -- one in its file: file, name
  FileStatic : ℕ → ℕ → CVar
  -- one a declaration: file, token, name
  LocalStatic : ℕ → ℕ → ℕ → CVar
  Param : ℕ → ℕ → ℕ → CVar
  Local : ℕ → ℕ → ℕ → CVar
  Result : CVar
  Called : ℕ → ℕ → ℕ → CVar
