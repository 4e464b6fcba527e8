-- The files of a request have one meaning, and one fault of linking.
use Rattle.std.proofs.Common.{◌≡◌, ℕ, List, [], length, Contains, Some, slice_get, sym, ap, ◌∙◌, subst}
use Rattle.c_tree.specs.declared.place.Place.{Place}
use Rattle.c_tree.specs.declared.token.Token.{Token}
use Rattle.typed_unit.specs.Texts.{Text}
use Rattle.metal_tree.specs.MetalMachines.Machine.{Machine}
use Rattle.request_files.specs.Faults.{Located}
use Rattle.request_files.specs.Meanings.{HaveMachines, HaveTexts}
use Rattle.command.specs.JudgedFiles.Judged.{HaveMeanings}
use Rattle.command.specs.JudgedFiles.Linking.{IsWhere, AreUnlinked}
use Rattle.request_files.proofs.Unique.NamesStay.{none_once}
use Rattle.request_files.proofs.Unique.OneFile.{same_located}
use Rattle.request_files.proofs.Unique.OneKind.{parted, machines_many, machines_once, one_machines, one_texts, one_token, texts_rise}

some_is : {A : Type 0} (x y : A) → Some x ≡ Some y → x ≡ y
some_is x y h = cc

-- ONE MEANING
pub one_meaning : (checkers sources contents names grown : List (List ℕ)) (ms ns : List Machine) (ts us : List Text) → HaveMeanings checkers sources contents names ms ts → HaveMeanings checkers sources contents grown ns us → (names ≡ grown) × (ms ≡ ns) × (ts ≡ us)
one_meaning checkers sources contents names grown ms ns ts us a b =
    let n : length a.checker_contents ≡ length b.checker_contents = machines_many 0 [] a.between checkers a.checker_contents ms a.machines_are ∙ sym (machines_many 0 [] b.between checkers b.checker_contents ns b.machines_are) in
    let p = parted a.checker_contents a.source_contents b.checker_contents b.source_contents n (sym a.whole ∙ b.whole) in
    let x : HaveMachines 0 [] a.between checkers b.checker_contents ms = subst (λ z. HaveMachines 0 [] a.between checkers z ms) p.0 a.machines_are in
    let m = one_machines 0 [] a.between b.between checkers b.checker_contents ms ns none_once x b.machines_are in
    let y : HaveTexts 0 b.between names sources b.source_contents ts = subst (λ z. HaveTexts 0 z names sources b.source_contents ts) m.0 (subst (λ z. HaveTexts 0 a.between names sources z ts) p.1 a.texts_are) in
    let once = machines_once 0 [] b.between checkers b.checker_contents ns none_once b.machines_are in
    let t = one_texts 0 b.between names grown sources b.source_contents ts us once y b.texts_are in
    (t.0, m.1, t.1)

one_where : (checkers sources contents names : List (List ℕ)) (ms : List Machine) (ts : List Text) (p : Place) (f g : List ℕ) (i j : ℕ) → HaveMeanings checkers sources contents names ms ts → IsWhere names ts p f i → IsWhere names ts p g j → (f ≡ g) × (i ≡ j)
one_where checkers sources contents names ms ts p f g i j h a b =
    let t : a.text ≡ b.text = some_is a.text b.text (sym a.here ∙ b.here) in
    let r = texts_rise 0 h.between names sources h.source_contents ts p.file b.text h.texts_are b.here in
    let c : Contains b.text.tokens a.token = subst (λ (z : Text). Contains z.tokens a.token) t a.among in
    let q : a.token.place.token ≡ b.token.place.token = ap (λ (z : Place). z.token) (a.place_is ∙ sym b.place_is) in
    let e = one_token 0 r.0 b.text.tokens a.token b.token r.1 c b.among q in
    (some_is f g (sym a.file_is ∙ ap (λ (z : Token). slice_get names z.source) e ∙ b.file_is), sym a.line_is ∙ ap (λ (z : Token). z.line) e ∙ b.line_is)

-- ONE FAULT OF LINKING
pub one_unlinked : (checkers sources contents names : List (List ℕ)) (ms : List Machine) (ts : List Text) (l m : Located) → HaveMeanings checkers sources contents names ms ts → AreUnlinked names ts l → AreUnlinked names ts m → l ≡ m
one_unlinked checkers sources contents names ms ts l m h a b =
    let e : (a.name, a.place) ≡ (b.name, b.place) = some_is _ _ (sym a.again ∙ b.again) in
    let p : a.place ≡ b.place = ap (λ (z : ℕ × Place). z.1) e in
    let x : IsWhere names ts b.place l.file l.line = subst (λ z. IsWhere names ts z l.file l.line) p a.there in
    let w = one_where checkers sources contents names ms ts b.place l.file m.file l.line m.line h x b.there in
    same_located l m (a.fault_is ∙ sym b.fault_is) w.0 w.1
