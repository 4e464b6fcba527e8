-- Where the contents of all files of a request are told, what may be so is so.
use Rattle.std.proofs.Common.{◌≡◌, inl, inr, ℕ, zero, suc, List, [], ◌∷◌, Option, None, Some, slice_get, sym, ap, subst}
use Rattle.mx_io.specs.Reads.{Stands}
use Rattle.report_model.specs.declared.report.Report.{Report}
use Rattle.request_files.specs.Faults.{Located}
use Rattle.request_files.specs.Turns.{Turn, turns}
use Rattle.request_files.specs.Faults.{Before}
use Rattle.command.specs.JudgedFiles.FirstFault.{IsFirstFault}
use Rattle.command.specs.JudgedFiles.Judged.{AreAllSound, AreAccepted}
use Rattle.request_files.specs.Reading.{Agree, AreSound, FaultyAt, at_first}
use Rattle.request_files.specs.Telling.{may_hold, surely_holds, Tells}

some_is : {A : Type 0} (x y : A) → Some x ≡ Some y → x ≡ y
some_is x y h = cc

sure : (o : Option (List ℕ)) (c x : List ℕ) → o ≡ Some c → Stands o x → o ≡ Some x
sure None c x e s = cc
sure (Some z) c x e s = ap Some (sym s)

module _ (told : List ℕ → Option (List ℕ)) where
  agree_sure : (ts : List Turn) (cs xs : List (List ℕ)) → Tells told ts cs → Agree (may_hold told) ts xs → Agree (surely_holds told) ts xs
  agree_sure ts cs [] k a = tt
  agree_sure [] cs (x ∷ xs) k a = absurd a
  agree_sure (t ∷ ts) [] (x ∷ xs) k a = absurd k
  agree_sure (t ∷ ts) (c ∷ cs) (x ∷ xs) k a = (sure (told t.word) c x k.0 a.0, agree_sure ts cs xs k.1 a.1)

  sure_at : (ts : List Turn) (cs : List (List ℕ)) (n : ℕ) (t : Turn) (x : List ℕ) → Tells told ts cs → slice_get ts n ≡ Some t → may_hold told t.word x → surely_holds told t.word x
  sure_at [] cs n t x k e a = cc
  sure_at (u ∷ ts) [] n t x k e a = absurd k
  sure_at (u ∷ ts) (c ∷ cs) zero t x k e a = sure (told t.word) c x (subst (λ (v : Turn). told v.word ≡ Some c) (some_is u t e) k.0) a
  sure_at (u ∷ ts) (c ∷ cs) (suc n) t x k e a = sure_at ts cs n t x k.1 e a

  sound_sure : (ts : List Turn) (cs xs : List (List ℕ)) (end : Before) → Tells told ts cs → AreSound (may_hold told) at_first ts xs end → AreSound (surely_holds told) at_first ts xs end
  sound_sure ts cs xs end k s = record { agree = agree_sure ts cs xs k s.agree; sound = s.sound }

  faulty_sure : (ts : List Turn) (cs : List (List ℕ)) (p : ℕ) (l : Located) → Tells told ts cs → FaultyAt (may_hold told) at_first ts p l → FaultyAt (surely_holds told) at_first ts p l
  faulty_sure ts cs p l k f =
      let t = f.is_turn in
      record {
        is_turn = record { contents = t.contents; here = t.here; before = sound_sure ts cs t.contents t.here k t.before; count = t.count; turn = t.turn; is = t.is };
        bytes = f.bytes;
        holds = sure_at ts cs p t.turn f.bytes k t.is f.holds;
        faulty = f.faulty;
      }

  module _ (checkers sources contents : List (List ℕ)) (k : Tells told (turns checkers sources) contents) where
    all_sure : (xs : List (List ℕ)) → AreAllSound (may_hold told) checkers sources xs → AreAllSound (surely_holds told) checkers sources xs
    all_sure xs s = record { end = s.end; sound = sound_sure (turns checkers sources) contents xs s.end k s.sound; count = s.count }

    pub first_sure : (l : Located) → IsFirstFault (may_hold told) checkers sources l → IsFirstFault (surely_holds told) checkers sources l
    first_sure l (inl f) = inl (f.0, faulty_sure (turns checkers sources) contents f.0 l k f.1)
    first_sure l (inr f) = inr (record { contents = f.contents; sound = all_sure f.contents f.sound; fault = f.fault })

    pub accepted_sure : (depth : ℕ) (reports : List Report) → AreAccepted (may_hold told) checkers sources depth reports → AreAccepted (surely_holds told) checkers sources depth reports
    accepted_sure depth reports a = record { contents = a.contents; sound = all_sure a.contents a.sound; judged = a.judged }
