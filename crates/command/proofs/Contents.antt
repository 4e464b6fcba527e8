-- Two files whose contents are told: what was judged is what they mean.
use Rattle.std.proofs.Common.{◌≡◌, ℕ, List, [], ◌∷◌, length, Option, Some, None, ◌∙◌, subst, arith}
use Rattle.mx_io.specs.Reads.{Stands}
use Rattle.report_model.specs.declared.report.Report.{Report}
use Rattle.command.specs.JudgedFiles.Judged.{AreAccepted, AreJudged}
use Rattle.request_files.specs.Reading.{Agree}
use Rattle.request_files.specs.Telling.{may_hold}
use Rattle.request_files.specs.Turns.{turns}

told_bytes : (told : Option (List ℕ)) (b x : List ℕ) → told ≡ Some x → Stands told b → b ≡ x
told_bytes None b x e s = cc
told_bytes (Some y) b x e s = let same : y ≡ x = cc in s ∙ same

module _ (told : List ℕ → Option (List ℕ)) (checker source x y : List ℕ) (first : told checker ≡ Some x) (second : told source ≡ Some y) where
  two-contents : (bs : List (List ℕ)) → Agree (may_hold told) (turns (checker ∷ []) (source ∷ [])) bs → length bs ≡ 2 → bs ≡ x ∷ y ∷ []
  two-contents [] a h = absurd (omega (arith, h))
  two-contents (b ∷ []) a h = absurd (omega (arith, h))
  two-contents (b ∷ c ∷ []) a h =
      let b-is : b ≡ x = told_bytes (told checker) b x first a.0 in
      let c-is : c ≡ y = told_bytes (told source) c y second a.1.0 in
      cc
  two-contents (b ∷ c ∷ d ∷ bs) a h = absurd (omega (arith, h))

  pub judged_as_told : (depth : ℕ) (reports : List Report) → AreAccepted (may_hold told) (checker ∷ []) (source ∷ []) depth reports → AreJudged (checker ∷ []) (source ∷ []) (x ∷ y ∷ []) depth reports
  judged_as_told depth reports a =
      subst (λ bs. AreJudged (checker ∷ []) (source ∷ []) bs depth reports) (two-contents a.contents a.sound.sound.agree a.sound.count) a.judged
