-- Such masks have the same path edges, and so the same tuples and reports of what is followed.
use Rattle.std.proofs.Common.{Bool, IsTrue, sym, ◌∙◌}
use Rattle.path_theory.specs.Model.{Model}
use Rattle.path_theory.specs.Origins.{Origins}
use Rattle.path_theory.specs.Paths.{Reported}
use Rattle.path_theory.specs.Supergraph.{Supergraph}
use Rattle.path_theory.specs.Facts.{Fact, Objects}
use Rattle.path_theory.specs.Tabulation.{PathEdge, AtRoot, AlongSkip, AlongEvent, IntoCallee, OverCall, AroundCall, Found, FoundObject, FoundGlobal}
use Rattle.path_theory.specs.Realised.{Realised}
use Rattle.path_theory.proofs.Entries.{realised, path_edge}
use Rattle.path_theory.proofs.Reports.{reported, found}
use Rattle.masked_paths.specs.Masked.{masked, masked_origins, GoesAt, CallsAt, masked_supergraph}
use Rattle.masked_paths.proofs.MaskedLaws.{masked_local, masked_closed}
use Rattle.masked_paths.proofs.MaskedEntries.{followed_in}
use Rattle.suffix_summary.proofs.SameFlows.{gives_too, a, b, SameOrigins, Followed, starts_on, event_on, call_on, return_on}

module _ (M : Model) (L O : Origins M) (follows : M.Fn → M.Obj → Bool) (l n : Bool) (S : SameOrigins M L O follows l n) (K : Supergraph M) where
  abbrev N : Model
  N = masked M L (a M L O follows l n)

  abbrev P : Model
  P = masked M O (b M L O follows l n)

  abbrev NO : Origins N
  NO = masked_origins M L (a M L O follows l n)

  abbrev PO : Origins P
  PO = masked_origins M O (b M L O follows l n)

  abbrev NK : Supergraph N
  NK = masked_supergraph M L (a M L O follows l n) K

  abbrev PK : Supergraph P
  PK = masked_supergraph M O (b M L O follows l n) K

  abbrev A : Objects M
  A f o = IsTrue (follows f o)

  abbrev F : M.Fn → Fact M → Type 0
  F = Followed M L O follows l n S

  edge_on : {f : M.Fn} {k : Bool} {g₀ g : M.Global} {t₀ t : Fact M} {p : K.Place} → PathEdge N NK NO A f k g₀ t₀ p g t
      → PathEdge P PK PO A f k g₀ t₀ p g t × F f t
  edge_on (AtRoot r s) = let x = starts_on M L O follows l n S s in (AtRoot r x.0, x.1)
  edge_on (AlongSkip D s) = let d = edge_on D in (AlongSkip d.0 s, d.1)
  edge_on (AlongEvent D e (GoesAt j) w) =
      let d = edge_on D in
      let x = event_on M L O follows l n S d.1 w in
      (AlongEvent d.0 _ (GoesAt j) x.0, x.1)
  edge_on (IntoCallee D s (CallsAt j) c) =
      let d = edge_on D in
      let x = call_on M L O follows l n S c in
      (IntoCallee d.0 _ (CallsAt j) x.0, x.1)
  edge_on (OverCall D s (CallsAt j) c C e r) =
      let d = edge_on D in
      let x = edge_on C in
      let y = return_on M L O follows l n S r in
      (OverCall d.0 _ (CallsAt j) (call_on M L O follows l n S c).0 x.0 e y.0, y.1)
  edge_on (AroundCall {f = f} {h = h} {o = o} D s (CallsAt {s = c} j) C e d) =
      let w = edge_on D in
      let x = edge_on C in
      (AroundCall w.0 _ (CallsAt j) x.0 e (sym (S.out f h c o w.1) ∙ d), w.1)

  found_on : {r : M.Report} → Found N NK NO A r → Found P PK PO A r
  found_on (FoundObject {f = f} D e (GoesAt {e = c} j) o x i v y) = FoundObject (edge_on D).0 _ (GoesAt j) o x i (gives_too (S.source f c o y.0) v) y
  found_on (FoundGlobal D e (GoesAt j) y) = FoundGlobal (edge_on D).0 _ (GoesAt j) y

  pub realised_on : {f : M.Fn} {k : Bool} {g₀ g : M.Global} {t₀ : Fact M} (t : Fact M) {p : K.Place} → F f t
      → Realised N NK NO f k g₀ t₀ p g t → Realised P PK PO f k g₀ t₀ p g t
  realised_on {f = f} t i w =
      realised P PK PO (masked_local M O (b M L O follows l n)) A
      (edge_on (path_edge N NK NO (masked_local M L (a M L O follows l n)) A (masked_closed M L (a M L O follows l n) K) t w (followed_in M L (a M L O follows l n) f t i))).0

  pub reported_on : (r : M.Report) → Reported N NK r → Reported P PK r
  reported_on r w =
      reported P PK PO (masked_local M O (b M L O follows l n)) A r
      (found_on (found N NK NO (masked_local M L (a M L O follows l n)) A (masked_closed M L (a M L O follows l n) K) r w))
