-- Whatever covers a family that is closed under the rules of matched calls and returns is enough, where rules are taken to act in
-- any global state: the instance of `MetObjects` in which each is met.
use Rattle.std.proofs.Common.{Bool, Option, Some, None}
use Rattle.path_theory.specs.Model.{Model}
use Rattle.path_theory.specs.Supergraph.{Supergraph}
use Rattle.path_theory.specs.Origins.{Origins, IsLocal}
use Rattle.path_theory.specs.Facts.{Objects}
use Rattle.path_theory.specs.Relevant.{EventOf}
use Rattle.path_theory.proofs.Splitting.{split}
use Rattle.path_theory.proofs.Known.{event_of}
use Rattle.masked_paths.specs.Enough.{IsEnough}
use Rattle.masked_paths.specs.Met.{MetStates, CoversMet, at_events}
use Rattle.masked_paths.specs.Matched.{Matched, ClosedUnderMatched, Covers, HandsBackWhatWasHanded}
use Rattle.masked_paths.proofs.MetObjects.{enough_of_met}

module _ (M : Model) (K : Supergraph M) where
  -- a path comes to events of traces alone
  pub events_cover_met : CoversMet M K (at_events M K)
  events_cover_met = record { met = λ P e t. event_of M K (split M K P).run e t }

  -- so a family of met states may be taken at such events alone
  pub met_at_events : (R : MetStates M) → CoversMet M K R → CoversMet M K (λ f e k g. EventOf M K f e × R f e k g)
  met_at_events R T = record { met = λ P e t. (event_of M K (split M K P).run e t, T.met P e t) }

module _ (M : Model) (K : Supergraph M) (L : Origins M) (I : IsLocal M L) (P : Matched M) (C : ClosedUnderMatched M K L P) where
  -- whatever covers what can be known is enough
  pub enough_of_matched : (A : Objects M) → Covers M K L P A → IsEnough M K L A
  enough_of_matched A V = enough_of_met M K L I (at_events M K) (events_cover_met M K) P C A V

  -- what can be known covers itself, where calls hand back what they were handed
  pub covers_itself : HandsBackWhatWasHanded M K L (λ f o. (w : Option M.Obj) × P f w o)
      → ((f : M.Fn) (e : M.Event) (k : Bool) (g : M.Global) (o : M.Obj) (r : M.Report) → EventOf M K f e
      → M.Fires e f k g o None r → (w : Option M.Obj) × P f w o)
      → Covers M K L P (λ f o. (w : Option M.Obj) × P f w o)
  covers_itself H F = record {
    known = λ w o i. (w, i);
    fires = λ k g o r i j. F _ _ k g o r i j;
    handed = λ o c i d a. (Some c, C.enters a.0 c o i (H.same o c i d a) a.1);
  }
