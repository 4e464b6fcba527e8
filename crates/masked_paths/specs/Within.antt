-- The flows of a mask said of the checker itself: with origins within what is followed in a caller and its callee.
-- An engine's steps are stated with these, over the checker's own events and call sites.
use Rattle.path_theory.specs.Model.{Model}
use Rattle.path_theory.specs.Origins.{Origins}
use Rattle.masked_paths.specs.Masked.{Mask, source_in, into_in, out_in}

-- an event is one of the caller's
abbrev pub origins_within : (M : Model) (L : Origins M) → Mask M → M.Fn → M.Fn → Origins M
origins_within M L a f h = record {
  source = λ e o. source_in M L a (record { fn = f; event = e }) o;
  into = λ s c. into_in M L a (record { caller = f; site = s; callee = h }) c;
  out = λ s o. out_in M L a (record { caller = f; site = s; callee = h }) o;
}
