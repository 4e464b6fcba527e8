-- What flows into a callee and back under a mask is what flows there with origins within what is followed.
use Rattle.std.proofs.Common.{◌↔◌}
use Rattle.path_theory.specs.Model.{Model}
use Rattle.path_theory.specs.Origins.{Origins}
use Rattle.path_theory.specs.Facts.{Fact}
use Rattle.path_theory.specs.Flows.{CallFlow, CallNone, CallObject, ReturnFlow, ReturnNone, ReturnObject}
use Rattle.masked_paths.specs.Masked.{Mask, kept, masked, masked_origins}
use Rattle.masked_paths.specs.Within.{origins_within}

module _ (M : Model) (L : Origins M) (a : Mask M) (f h : M.Fn) (s : M.Site) where
  abbrev N : Model
  N = masked M L a

  abbrev W : Origins M
  W = origins_within M L a f h

  call_out : {t u : Fact M} → CallFlow N (masked_origins M L a) (kept M a) (record { caller = f; site = s; callee = h }) h t u
      → CallFlow M W (kept M a) s h t u
  call_out CallNone = CallNone
  call_out (CallObject c x i v) = CallObject c x i v

  call_in : {t u : Fact M} → CallFlow M W (kept M a) s h t u
      → CallFlow N (masked_origins M L a) (kept M a) (record { caller = f; site = s; callee = h }) h t u
  call_in CallNone = CallNone
  call_in (CallObject c x i v) = CallObject c x i v

  pub same_call_flow : (t u : Fact M)
      → CallFlow N (masked_origins M L a) (kept M a) (record { caller = f; site = s; callee = h }) h t u ↔ CallFlow M W (kept M a) s h t u
  same_call_flow t u = (call_out, call_in)

  return_out : {t u : Fact M} → ReturnFlow N (masked_origins M L a) (kept M a) (record { caller = f; site = s; callee = h }) f t u
      → ReturnFlow M W (kept M a) s f t u
  return_out ReturnNone = ReturnNone
  return_out (ReturnObject o c x i d) = ReturnObject o c x i d

  return_in : {t u : Fact M} → ReturnFlow M W (kept M a) s f t u
      → ReturnFlow N (masked_origins M L a) (kept M a) (record { caller = f; site = s; callee = h }) f t u
  return_in ReturnNone = ReturnNone
  return_in (ReturnObject o c x i d) = ReturnObject o c x i d

  pub same_return_flow : (t u : Fact M)
      → ReturnFlow N (masked_origins M L a) (kept M a) (record { caller = f; site = s; callee = h }) f t u ↔ ReturnFlow M W (kept M a) s f t u
  same_return_flow t u = (return_out, return_in)
