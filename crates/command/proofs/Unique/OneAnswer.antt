-- Where what stands in the files that are read is told, a request has at most one list of reports or one first fault, and never both.
use Rattle.std.proofs.Common.{◌≡◌, inl, inr, ℕ, List, Option, None, Some, sym, ◌∙◌, subst}
use Rattle.std.proofs.Math.Logic.{∥∥₁_elim}
use Rattle.std.specs.Coded.{Coded-set, codes}
use Rattle.path_model.specs.CheckerPrograms.Texts.{functions_in}
use Rattle.call_graph.specs.OfPrograms.Repeats.{link_fault}
use Rattle.report_model.specs.declared.report.Report.{Report}
use Rattle.request_files.specs.Faults.{Located}
use Rattle.request_files.specs.Turns.{turns}
use Rattle.command.proofs.Turns.{all_turns}
use Rattle.command.specs.CheckerReports.Checkers.{checkers_in}
use Rattle.command.specs.CheckerReports.Errors.{AreErrors}
use Rattle.command.specs.JudgedFiles.FirstFault.{IsFirstFault}
use Rattle.command.specs.JudgedFiles.Judged.{AreJudged, AreAllSound, AreAccepted, HaveMeanings}
use Rattle.command.specs.JudgedFiles.Linking.{AreUnlinked, HaveLinkFault}
use Rattle.mx_io.specs.Reads.{Stands}
use Rattle.request_files.specs.Reading.{FaultyAt, UnsoundAt, at_first}
use Rattle.request_files.specs.Telling.{may_hold, surely_holds}
use Rattle.request_files.proofs.Unique.NamesStay.{none_once}
use Rattle.request_files.proofs.Unique.OneFirst.{one_run, one_first, all_sound, none_unsound}
use Rattle.command.proofs.Unique.OneMeaning.{one_meaning, one_unlinked}
use Rattle.command.proofs.Unique.OneReports.{one_reports}

none_some : {A : Type 0} (o : Option A) (x : A) → o ≡ None → o ≡ Some x → ⊥
none_some {A = A} o x e f = clash x (sym e ∙ f)
  where
    clash : (y : A) → None ≡ Some y → ⊥
    clash y h = cc

reports-set : (a b : List Report) (p q : a ≡ b) → p ≡ q
reports-set = Coded-set (hlevel codes)

-- ONE LIST OF REPORTS
pub one_judged : (checkers sources contents : List (List ℕ)) (depth : ℕ) (a b : List Report) → AreJudged checkers sources contents depth a → AreJudged checkers sources contents depth b → a ≡ b
one_judged checkers sources contents depth a b x y =
    let m = one_meaning checkers sources contents x.names y.names x.machines y.machines x.texts y.texts x.meanings y.meanings in
    let r : ∥ AreErrors (checkers_in y.machines depth y.names) y.texts a ∥₁ =
    subst (λ ts. ∥ AreErrors (checkers_in y.machines depth y.names) ts a ∥₁) m.2
    (subst (λ ms. ∥ AreErrors (checkers_in ms depth y.names) x.texts a ∥₁) m.1
    (subst (λ ns. ∥ AreErrors (checkers_in x.machines depth ns) x.texts a ∥₁) m.0 x.reports_are)) in
    ∥∥₁_elim r (reports-set a b) (λ p. ∥∥₁_elim y.reports_are (reports-set a b) (λ q. one_reports (checkers_in y.machines depth y.names) y.texts a b p q))

one_link_fault : (checkers sources contents : List (List ℕ)) (l m : Located) → HaveLinkFault checkers sources contents l → HaveLinkFault checkers sources contents m → l ≡ m
one_link_fault checkers sources contents l m x y =
    let e = one_meaning checkers sources contents x.names y.names x.machines y.machines x.texts y.texts x.meanings y.meanings in
    let u : AreUnlinked y.names y.texts l = subst (λ ts. AreUnlinked y.names ts l) e.2 (subst (λ ns. AreUnlinked ns x.texts l) e.0 x.unlinked) in
    one_unlinked checkers sources contents y.names y.machines y.texts l m y.meanings u y.unlinked

linked_or_not : (checkers sources contents : List (List ℕ)) (depth : ℕ) (a : List Report) (l : Located) → AreJudged checkers sources contents depth a → HaveLinkFault checkers sources contents l → ⊥
linked_or_not checkers sources contents depth a l x y =
    let e = one_meaning checkers sources contents x.names y.names x.machines y.machines x.texts y.texts x.meanings y.meanings in
    let u : AreUnlinked x.names x.texts l = subst (λ ts. AreUnlinked x.names ts l) (sym e.2) (subst (λ ns. AreUnlinked ns y.texts l) (sym e.0) y.unlinked) in
    none_some (link_fault (functions_in x.texts)) (u.name, u.place) x.linked u.again

module _ (H K : List ℕ → List ℕ → Type 0) (meet : (w x y : List ℕ) → H w x → K w y → x ≡ y) (checkers sources : List (List ℕ)) where
  pub same_contents : (xs ys : List (List ℕ)) → AreAllSound H checkers sources xs → AreAllSound K checkers sources ys → xs ≡ ys
  same_contents xs ys a b = (one_run H K meet (turns checkers sources) xs ys at_first a.end b.end none_once a.sound.agree b.sound.agree a.sound.sound b.sound.sound (a.count ∙ sym b.count)).0

  pub one_accepted : (depth : ℕ) (a b : List Report) → AreAccepted H checkers sources depth a → AreAccepted K checkers sources depth b → a ≡ b
  one_accepted depth a b x y =
      let c = same_contents x.contents y.contents x.sound y.sound in
      one_judged checkers sources y.contents depth a b (subst (λ z. AreJudged checkers sources z depth a) c x.judged) y.judged

  -- which mean the same
  pub one_meant : (depth : ℕ) (a b : List Report) (x : AreAccepted H checkers sources depth a) (y : AreAccepted K checkers sources depth b)
      → (x.judged.names ≡ y.judged.names) × (x.judged.machines ≡ y.judged.machines) × (x.judged.texts ≡ y.judged.texts)
  one_meant depth a b x y =
      let c = same_contents x.contents y.contents x.sound y.sound in
      one_meaning checkers sources y.contents x.judged.names y.judged.names x.judged.machines y.judged.machines x.judged.texts y.judged.texts
      (subst (λ z. HaveMeanings checkers sources z x.judged.names x.judged.machines x.judged.texts) c x.judged.meanings) y.judged.meanings

  not_faulty : (contents : List (List ℕ)) (p : ℕ) (l : Located) → FaultyAt H at_first (turns checkers sources) p l → AreAllSound K checkers sources contents → ⊥
  not_faulty contents p l f a = all_sound H K meet (turns checkers sources) contents a.end p l f a.sound (a.count ∙ sym (all_turns checkers sources))

  not_unsound : (contents : List (List ℕ)) (p : ℕ) → UnsoundAt H at_first (turns checkers sources) p → AreAllSound K checkers sources contents → ⊥
  not_unsound contents p u a = none_unsound H K meet (turns checkers sources) contents a.end p u a.sound (a.count ∙ sym (all_turns checkers sources))

  -- a file that isn't sound is in no accepted request
  pub unsound_or_accepted : (depth : ℕ) (a : List Report) (p : ℕ) → UnsoundAt H at_first (turns checkers sources) p → AreAccepted K checkers sources depth a → ⊥
  unsound_or_accepted depth a p u x = not_unsound x.contents p u x.sound

  pub never_both : (depth : ℕ) (a : List Report) (l : Located) → IsFirstFault H checkers sources l → AreAccepted K checkers sources depth a → ⊥
  never_both depth a l (inl f) x = not_faulty x.contents f.0 l f.1 x.sound
  never_both depth a l (inr f) x =
      let c = same_contents f.contents x.contents f.sound x.sound in
      linked_or_not checkers sources x.contents depth a l x.judged (subst (λ z. HaveLinkFault checkers sources z l) c f.fault)

module _ (H K : List ℕ → List ℕ → Type 0) (meet : (w x y : List ℕ) → H w x → K w y → x ≡ y) (checkers sources : List (List ℕ)) where
  teem : (w x y : List ℕ) → K w x → H w y → x ≡ y
  teem w x y k h = sym (meet w y x h k)

  pub one_first_fault : (l m : Located) → IsFirstFault H checkers sources l → IsFirstFault K checkers sources m → l ≡ m
  one_first_fault l m (inl x) (inl y) = one_first H K meet (turns checkers sources) x.0 y.0 l m x.1 y.1
  one_first_fault l m (inl x) (inr y) = absurd (not_faulty H K meet checkers sources y.contents x.0 l x.1 y.sound)
  one_first_fault l m (inr x) (inl y) = absurd (not_faulty K H teem checkers sources x.contents y.0 m y.1 x.sound)
  one_first_fault l m (inr x) (inr y) =
      let c = same_contents H K meet checkers sources x.contents y.contents x.sound y.sound in
      one_link_fault checkers sources y.contents l m (subst (λ z. HaveLinkFault checkers sources z l) c x.fault) y.fault

some_is : {A : Type 0} (x y : A) → Some x ≡ Some y → x ≡ y
some_is x y h = cc

-- what surely stands in a file is what may
pub surely_may : (told : List ℕ → Option (List ℕ)) (w x y : List ℕ) → surely_holds told w x → may_hold told w y → x ≡ y
surely_may told w x y s m = by (told w) s m
  where
    by : (o : Option (List ℕ)) → o ≡ Some x → Stands o y → x ≡ y
    by None e n = cc
    by (Some z) e n = sym (some_is z x e) ∙ sym n

pub may_surely : (told : List ℕ → Option (List ℕ)) (w x y : List ℕ) → may_hold told w x → surely_holds told w y → x ≡ y
may_surely told w x y m s = sym (surely_may told w y x s m)
