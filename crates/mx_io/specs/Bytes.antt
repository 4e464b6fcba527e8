-- The names of the plain lists in which files, sinks and runs are spoken of.
use Rattle.std.specs.Prelude.{ℕ, Bool, List, Option}

-- a text: names of files and reporters, contents, what is written
abbrev pub Bytes : Type 0
Bytes = List ℕ

-- names of files, each a text; the words of a command are such too
abbrev pub Words : Type 0
Words = List Bytes

-- what is told of the bytes in each file, by its name: all of them, or nothing
abbrev pub Told : Type 0
Told = Bytes → Option Bytes

-- which files are readable, by their names
abbrev pub Readable : Type 0
Readable = Bytes → Bool
