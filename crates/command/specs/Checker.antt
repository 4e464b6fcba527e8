-- THE FIXED CHECKER: what is freed is neither used nor freed again.
use Rattle.std.specs.Prelude.{◌++◌, codes}
use Rattle.mx_io.specs.Bytes.{Bytes}

abbrev pub free_text : Bytes
free_text =
    codes "sm free_checker {\n"
    ++ (codes " state decl any_pointer v;\n"
    ++ (codes " start: { kfree(v) } ==> v.freed ;\n"
    ++ (codes " v.freed: { *v } ==> v.stop, { err(\"using %s after free!\", mc_identifier(v)); }\n"
    ++ (codes "        | { kfree(v) } ==> v.stop, { err(\"double free of %s!\", mc_identifier(v)); } ;\n"
    ++ codes "}\n"))))
