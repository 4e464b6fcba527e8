-- Some generated programs, and how long they are.
use Rattle.std.specs.Prelude.{◌≡◌, ◌++◌, length, codes}
use Rattle.std.specs.Fmt.{digits}
use Rattle.std.proofs.Common.{refl}
use Rattle.command.specs.GeneratedProgram.Generated.{generated, circle}

of_one : generated 1 ≡ codes "void f0(char *p){ kfree(p); }\n" ++ circle
unfolding digits
of_one = refl

of_two : generated 2 ≡ codes "void f0(char *p){ f1(p); *p; }\nvoid f1(char *p){ kfree(p); }\n" ++ circle
unfolding digits
of_two = refl

bytes_of_one : length (generated 1) ≡ 104
unfolding digits
bytes_of_one = refl

bytes_of_sixteen : length (generated 16) ≡ 580
unfolding digits
bytes_of_sixteen = refl
