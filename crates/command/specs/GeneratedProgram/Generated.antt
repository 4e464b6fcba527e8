-- THE GENERATED PROGRAM of a number: chains of functions that hand a pointer on, each of at most eight, and two functions that call
-- each other.
use Rattle.std.specs.Prelude.{ℕ, ◌+◌, ◌%◌, ◌==◌, Bool, ◌||◌, if◌then◌else◌, ◌++◌, flat_map, codes}
use Rattle.std.specs.Fmt.{decimal}
use Rattle.std.specs.List.{range_with_len}
use Rattle.mx_io.specs.Bytes.{Bytes}

-- whether a chain ends with the function of this number, of so many: it has eight functions then, or is the last one
abbrev pub ends_chain : ℕ → ℕ → Bool
ends_chain count number = (number % 8 == 7) || (number + 1 == count)

-- a function that frees what its parameter points to
abbrev pub freeing_line : ℕ → Bytes
freeing_line number = codes "void f" ++ (decimal number ++ codes "(char *p){ kfree(p); }\n")

-- a function that hands its parameter to the next function, and then uses it
abbrev pub handing_line : ℕ → Bytes
handing_line number = codes "void f" ++ (decimal number ++ (codes "(char *p){ f" ++ (decimal (number + 1) ++ codes "(p); *p; }\n")))

abbrev pub line_of : ℕ → ℕ → Bytes
line_of count number = if ends_chain count number then freeing_line number else handing_line number

-- two functions, each of which frees what its parameter points to, and hands it to the other
abbrev pub circle : Bytes
circle = codes "void c0(char *p){ kfree(p); c1(p); }\nvoid c1(char *q){ kfree(q); c0(q); }\n"

-- a line for each number below this one, and then the circle
abbrev pub generated : ℕ → Bytes
generated count = flat_map (line_of count) (range_with_len 0 count) ++ circle
