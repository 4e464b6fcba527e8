-- A file is without fault, and leaves one state for the next; or it has one fault; and never both.
use Rattle.std.proofs.Common.{◌≡◌, ◌⊎◌, inl, inr, ℕ, List, Some, slice_get, sym, ap, ◌∙◌, subst, arith}
use Rattle.mx_base.specs.Names.{HasNoRepeats}
use Rattle.c_lexer.specs.declared.c_reading.mode.Mode.TheVariants.{C}
use Rattle.c_lexer.specs.CReading.Pieces.{Piece, beginning, behind_all}
use Rattle.c_lexer.specs.CReading.Reading.{IsReading}
use Rattle.c_lexer.proofs.CReading.Readings.{no_reading, one_fault}
use Rattle.request_files.specs.Turns.{Kind, CheckerFile, SourceFile, Turn}
use Rattle.request_files.specs.declared.fault.Fault.{Fault}
use Rattle.request_files.specs.declared.front_end.refusal.Faulty.{Faulty}
use Rattle.request_files.specs.FrontEnd.Faults.{of_reading}
use Rattle.request_files.specs.FrontEnd.Found.{HasNoTokens}
use Rattle.request_files.specs.Faults.{Before, Located, HasFault, HasFaultIn, HasNoMeaning, mode_of}
use Rattle.request_files.specs.Meanings.{IsFine}
use Rattle.request_files.specs.Reading.{IsSound}
use Rattle.request_files.proofs.Unique.OneChecker.{one_machine, fine_checker, one_checker_fault, checker_once}
use Rattle.request_files.proofs.Unique.OneList.{names_once}
use Rattle.request_files.proofs.Unique.OneSource.{one_text, fine_text, one_text_fault}

pub same_located : (l m : Located) → l.fault ≡ m.fault → l.file ≡ m.file → l.line ≡ m.line → l ≡ m
same_located l m f s n =
    ap (λ (x : Fault). record l { fault = x }) f
    ∙ ap (λ (x : List ℕ). record l { fault = m.fault; file = x }) s
    ∙ ap (λ (x : ℕ). record m { line = x }) n

same_before : (a b : Before) → a.left ≡ b.left → a.names ≡ b.names → a ≡ b
same_before a b l n = ap (λ (x : ℕ). record a { left = x }) l ∙ ap (λ (x : List (List ℕ)). record b { names = x }) n

one_fine : (kind : Kind) (number : ℕ) (word : List ℕ) (before names grown : List (List ℕ)) (bytes : List ℕ) → HasNoRepeats before → IsFine kind number word before names bytes → IsFine kind number word before grown bytes → names ≡ grown
one_fine CheckerFile number word before names grown bytes once a b = (one_machine number word before bytes once names grown a.0 b.0 a.1 b.1).0
one_fine SourceFile number word before names grown bytes once a b = (one_text number word before bytes once names grown a.0 b.0 a.1 b.1).0

fine_once : (kind : Kind) (number : ℕ) (word : List ℕ) (before names : List (List ℕ)) (bytes : List ℕ) → HasNoRepeats before → IsFine kind number word before names bytes → HasNoRepeats names
fine_once CheckerFile number word before names bytes once a = checker_once number word before bytes once names a.0 a.1
fine_once SourceFile number word before names bytes once a = names_once C number word before names bytes a.1.list once a.1.tokens

module _ (b : Before) (t : Turn) (bytes : List ℕ) (once : HasNoRepeats b.names) where
  -- ONE STATE for the next file
  pub one_next : (n m : Before) → IsSound b t bytes n → IsSound b t bytes m → n ≡ m
  one_next n m x y = same_before n m (x.left ∙ sym y.left) (one_fine t.kind t.number t.word b.names n.names m.names bytes once x.fine y.fine)

  pub next_once : (n : Before) → IsSound b t bytes n → HasNoRepeats n.names
  next_once n x = fine_once t.kind t.number t.word b.names n.names bytes once x.fine

  -- what has a meaning or none has a reading
  fine_reading : (kind : Kind) (names : List (List ℕ)) → IsFine kind t.number t.word b.names names bytes → (pieces : List Piece) × IsReading (mode_of kind) t.word pieces bytes
  fine_reading CheckerFile names x = (x.1.tokens.tokens.pieces, x.1.tokens.tokens.reading)
  fine_reading SourceFile names x = (x.1.tokens.pieces, x.1.tokens.reading)

  has_reading : (kind : Kind) (names : List (List ℕ)) (found : Faulty) → HasNoMeaning kind t.number t.word b.names names bytes found → (pieces : List Piece) × IsReading (mode_of kind) t.word pieces bytes
  has_reading CheckerFile names found n = (n.1.tokens.pieces, n.1.tokens.reading)
  has_reading SourceFile names found n = (n.1.pieces, n.1.reading)

  unread_or_read : (kind : Kind) (names : List (List ℕ)) (found : Faulty) → HasNoTokens (mode_of kind) t.word names bytes found → (pieces : List Piece) × IsReading (mode_of kind) t.word pieces bytes → ⊥
  unread_or_read kind names found x r = no_reading (mode_of kind) t.word x.pieces r.0 bytes x.kind x.faulty r.1

  fine_or_none : (kind : Kind) (names grown : List (List ℕ)) (found : Faulty) → IsFine kind t.number t.word b.names names bytes → HasNoMeaning kind t.number t.word b.names grown bytes found → ⊥
  fine_or_none CheckerFile names grown found x n = fine_checker t.number t.word b.names bytes once names grown x.0 found x.1 n
  fine_or_none SourceFile names grown found x n = fine_text t.number t.word b.names bytes once names grown x.0 found x.1 n

  one_meant : (kind : Kind) (names grown : List (List ℕ)) (x y : Faulty) → HasNoMeaning kind t.number t.word b.names names bytes x → HasNoMeaning kind t.number t.word b.names grown bytes y → (names ≡ grown) × (x ≡ y)
  one_meant CheckerFile names grown x y n k = one_checker_fault t.number t.word b.names bytes once names grown x y n k
  one_meant SourceFile names grown x y n k = one_text_fault t.number t.word b.names bytes once names grown x y n k

  fine_in : (kind : Kind) (names : List (List ℕ)) (l : Located) → IsFine kind t.number t.word b.names names bytes → HasFaultIn kind t.number t.word b.names bytes l → ⊥
  fine_in kind names l x h = by h.faulty
    where
      by : HasNoTokens (mode_of kind) t.word h.names bytes h.found ⊎ HasNoMeaning kind t.number t.word b.names h.names bytes h.found → ⊥
      by (inl n) = unread_or_read kind h.names h.found n (fine_reading kind names x)
      by (inr n) = fine_or_none kind names h.names h.found x n

  -- NEVER BOTH
  pub sound_or_faulty : (n : Before) (l : Located) → IsSound b t bytes n → HasFault b t bytes l → ⊥
  sound_or_faulty n l x (inl (large, e)) = let a = x.fits in absurd (omega (arith, a, large))
  sound_or_faulty n l x (inr (small, h)) = fine_in t.kind n.names l x.fine h

  some_is : {A : Type 0} (x y : A) → Some x ≡ Some y → x ≡ y
  some_is x y h = cc

  one_in : (kind : Kind) (l m : Located) → HasFaultIn kind t.number t.word b.names bytes l → HasFaultIn kind t.number t.word b.names bytes m → l ≡ m
  one_in kind l m g h = by g.faulty h.faulty
    where
      by : HasNoTokens (mode_of kind) t.word g.names bytes g.found ⊎ HasNoMeaning kind t.number t.word b.names g.names bytes g.found
          → HasNoTokens (mode_of kind) t.word h.names bytes h.found ⊎ HasNoMeaning kind t.number t.word b.names h.names bytes h.found → l ≡ m
      by (inl x) (inl y) =
          let f = one_fault (mode_of kind) t.word x.pieces y.pieces bytes x.kind y.kind x.faulty y.faulty in
          let p = ap (λ ps. behind_all (beginning t.word) ps) f.0 in
          let s : l.file ≡ (behind_all (beginning t.word) x.pieces).file = some_is _ _ (sym g.file_is ∙ x.file) in
          let z : m.file ≡ (behind_all (beginning t.word) y.pieces).file = some_is _ _ (sym h.file_is ∙ y.file) in
          same_located l m
          (sym g.fault_is ∙ x.fault ∙ ap of_reading f.1 ∙ sym y.fault ∙ h.fault_is)
          (s ∙ ap (λ q. q.file) p ∙ sym z)
          (sym g.line_is ∙ x.line ∙ ap (λ q. q.line) p ∙ sym y.line ∙ h.line_is)
      by (inl x) (inr n) = absurd (unread_or_read kind g.names g.found x (has_reading kind h.names h.found n))
      by (inr n) (inl y) = absurd (unread_or_read kind h.names h.found y (has_reading kind g.names g.found n))
      by (inr n) (inr k) =
          let e = one_meant kind g.names h.names g.found h.found n k in
          let s : slice_get h.names h.found.source ≡ Some l.file = subst (λ ns. slice_get ns h.found.source ≡ Some l.file) e.0 (subst (λ (x : Faulty). slice_get g.names x.source ≡ Some l.file) e.1 g.file_is) in
          same_located l m
          (sym g.fault_is ∙ ap (λ x. x.fault) e.1 ∙ h.fault_is)
          (some_is _ _ (sym s ∙ h.file_is))
          (sym g.line_is ∙ ap (λ x. x.line) e.1 ∙ h.line_is)

  -- ONE FAULT
  pub one_fault_of : (l m : Located) → HasFault b t bytes l → HasFault b t bytes m → l ≡ m
  one_fault_of l m (inl (large, e)) (inl (large2, f)) = e ∙ sym f
  one_fault_of l m (inl (large, e)) (inr (small, h)) = absurd (omega (arith, large, small))
  one_fault_of l m (inr (small, h)) (inl (large, e)) = absurd (omega (arith, large, small))
  one_fault_of l m (inr (small, g)) (inr (small2, h)) = one_in t.kind l m g h
