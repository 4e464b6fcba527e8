-- One file after the other.
use Rattle.std.proofs.Common.{◌≡◌, ℕ, zero, suc, get_or, take, ◌+◌, ◌-◌, ◌<◌, ◌≤◌, List, [], ◌∷◌, ◌++◌, length, map, Option, Some, slice_get, refl, sym, ap, ◌∙◌, subst, zero-add, arith, length-append}
use Rattle.std.proofs.lemmas.List.{append_assoc}
use Rattle.mx_base.specs.Names.{AddsAtMost}
use Rattle.mx_io.specs.Reads.{Stands}
use Rattle.typed_unit.specs.Texts.{Text}
use Rattle.metal_tree.specs.MetalMachines.Machine.{Machine}
use Rattle.request_files.specs.Faults.{Before, Located, HasFault, before_file}
use Rattle.request_files.specs.InTurn.{AreReadCheckers, AreReadSources}
use Rattle.request_files.specs.Meanings.{HaveMachines, HaveTexts, IsChecker, IsSource}
use Rattle.request_files.specs.Reading.{Agree, AreSoundFrom, AreSound, FailedAt, FaultyAt, IsSound, IsTurn}
use Rattle.request_files.specs.Ways.Stages.{HasLoadedChecker, HasLoadedSource}
use Rattle.request_files.specs.Telling.{may_hold}
use Rattle.request_files.specs.Turns.{Kind, CheckerFile, SourceFile, Turn, numbered}

-- ---- the turns

abbrev pub turn_of : Kind → ℕ → List ℕ → Turn
turn_of kind number word = record { kind = kind; number = number; word = word }

numbered_at : (kind : Kind) (n : ℕ) (words : List (List ℕ)) (i : ℕ) (word : List ℕ) → slice_get words i ≡ Some word → slice_get (numbered kind n words) i ≡ Some (turn_of kind (n + i) word)
numbered_at kind n [] i word e = cc
numbered_at kind n (w ∷ ws) zero word e = let h : w ≡ word = cc in ap (λ x. Some (turn_of kind n x)) h ∙ ap (λ m. Some (turn_of kind m word)) (omega arith)
numbered_at kind n (w ∷ ws) (suc i) word e = numbered_at kind (n + 1) ws i word e ∙ ap (λ m. Some (turn_of kind m word)) (omega arith)

-- the turn of the file at a position
turn_at : (kind : Kind) (words : List (List ℕ)) (i : ℕ) (word : List ℕ) → slice_get words i ≡ Some word → slice_get (numbered kind 0 words) i ≡ Some (turn_of kind i word)
turn_at kind words i word e = numbered_at kind 0 words i word e ∙ ap (λ m. Some (turn_of kind m word)) (zero-add i)

-- ---- one file more

agree-push : (Holds : List ℕ → List ℕ → Type 0) (ts : List Turn) (bs : List (List ℕ)) (t : Turn) (x : List ℕ) → Agree Holds ts bs → slice_get ts (length bs) ≡ Some t → Holds t.word x → Agree Holds ts (bs ++ x ∷ [])
agree-push Holds [] [] t x a at s = cc
agree-push Holds (u ∷ ts) [] t x a at s = let e : u ≡ t = cc in (subst (λ (k : Turn). Holds k.word x) (sym e) s, tt)
agree-push Holds [] (y ∷ bs) t x a at s = absurd a
agree-push Holds (u ∷ ts) (y ∷ bs) t x a at s = (a.0, agree-push Holds ts bs t x a.1 at s)

sound-push : (b end next : Before) (ts : List Turn) (bs : List (List ℕ)) (t : Turn) (x : List ℕ) → AreSoundFrom b ts bs end → slice_get ts (length bs) ≡ Some t → IsSound end t x next → AreSoundFrom b ts (bs ++ x ∷ []) next
sound-push b end next [] [] t x a at i = cc
sound-push b end next (u ∷ ts) [] t x a at i =
    let e : u ≡ t = cc in
    (next, subst (λ (k : Before). IsSound k u x next) a (subst (λ (k : Turn). IsSound end k x next) (sym e) i), refl)
sound-push b end next [] (y ∷ bs) t x a at i = absurd a
sound-push b end next (u ∷ ts) (y ∷ bs) t x (m, s, a) at i = (m, s, sound-push m end next ts bs t x a at i)

module _ (told : List ℕ → Option (List ℕ)) (b here : Before) (kind : Kind) (words bs : List (List ℕ)) (position : ℕ) (word : List ℕ)
    (read : AreSound (may_hold told) b (numbered kind 0 words) bs here) (count : length bs ≡ position) (at : slice_get words position ≡ Some word) where
  turn_here : slice_get (numbered kind 0 words) (length bs) ≡ Some (turn_of kind position word)
  turn_here = ap (slice_get (numbered kind 0 words)) count ∙ turn_at kind words position word at

  -- a file more
  read-push : (x : List ℕ) (next : Before) → Stands (told word) x → IsSound here (turn_of kind position word) x next → AreSound (may_hold told) b (numbered kind 0 words) (bs ++ x ∷ []) next
  read-push x next s i = record {
    agree = agree-push (may_hold told) (numbered kind 0 words) bs (turn_of kind position word) x read.agree turn_here s;
    sound = sound-push b here next (numbered kind 0 words) bs (turn_of kind position word) x read.sound turn_here i;
  }

  abbrev turn_now : IsTurn (may_hold told) b (numbered kind 0 words) position
  turn_now = record { contents = bs; here = here; before = read; count = count; turn = turn_of kind position word; is = turn_at kind words position word at }

  -- a read that failed
  pub failed_now : (old new : List (List ℕ)) → new ≡ old ++ word ∷ [] → FailedAt (may_hold told) b (numbered kind 0 words) old new position
  failed_now old new e = record { is_turn = turn_now; grew = e }

  -- a file with a fault
  pub faulty_now : (bytes : List ℕ) (fault : Located) → Stands (told word) bytes → HasFault here (turn_of kind position word) bytes fault → FaultyAt (may_hold told) b (numbered kind 0 words) position fault
  faulty_now bytes fault s h = record { is_turn = turn_now; bytes = bytes; holds = s; faulty = h }

-- ---- names that grow

pub adds_few : (a b : List (List ℕ)) (n : ℕ) → AddsAtMost a b n → length b ≤ length a + n
adds_few a b n x = omega (arith, x.few, ap length x.behind, length-append a x.more)

pub adds_both : (a b c : List (List ℕ)) (m n k : ℕ) → AddsAtMost a b m → AddsAtMost b c n → m + n ≤ k → AddsAtMost a c k
adds_both a b c m n k x y h = record {
  more = x.more ++ y.more;
  behind = y.behind ∙ ap (λ l. l ++ y.more) x.behind ∙ append_assoc a x.more y.more;
  few = omega (arith, h, x.few, y.few, length-append x.more y.more);
}

-- ---- one checker more, one C file more

machines-push : (n : ℕ) (before middle names words bs : List (List ℕ)) (ms : List Machine) (w x : List ℕ) (m : Machine) → HaveMachines n before middle words bs ms → IsChecker (n + length words) w middle names x m
    → HaveMachines n before names (words ++ w ∷ []) (bs ++ x ∷ []) (ms ++ m ∷ [])
machines-push n before middle names [] [] [] w x m h k =
    let e : n + length {A = List ℕ} [] ≡ n = omega arith in
    (names, subst (λ z. IsChecker n w z names x m) h (subst (λ j. IsChecker j w middle names x m) e k), refl)
machines-push n before middle names [] [] (z ∷ ms) w x m h k = absurd h
machines-push n before middle names [] (y ∷ bs) ms w x m h k = absurd h
machines-push n before middle names (v ∷ ws) [] ms w x m h k = absurd h
machines-push n before middle names (v ∷ ws) (y ∷ bs) [] w x m h k = absurd h
machines-push n before middle names (v ∷ ws) (y ∷ bs) (z ∷ ms) w x m (j, c, a) k =
    let e : n + suc (length ws) ≡ n + 1 + length ws = omega arith in
    (j, c, machines-push (n + 1) j middle names ws bs ms w x m a (subst (λ i. IsChecker i w middle names x m) e k))

texts-push : (n : ℕ) (before middle names words bs : List (List ℕ)) (ts : List Text) (w x : List ℕ) (t : Text) → HaveTexts n before middle words bs ts → IsSource (n + length words) w middle names x t
    → HaveTexts n before names (words ++ w ∷ []) (bs ++ x ∷ []) (ts ++ t ∷ [])
texts-push n before middle names [] [] [] w x t h k =
    let e : n + length {A = List ℕ} [] ≡ n = omega arith in
    (names, subst (λ z. IsSource n w z names x t) h (subst (λ j. IsSource j w middle names x t) e k), refl)
texts-push n before middle names [] [] (z ∷ ts) w x t h k = absurd h
texts-push n before middle names [] (y ∷ bs) ts w x t h k = absurd h
texts-push n before middle names (v ∷ ws) [] ts w x t h k = absurd h
texts-push n before middle names (v ∷ ws) (y ∷ bs) [] w x t h k = absurd h
texts-push n before middle names (v ∷ ws) (y ∷ bs) (z ∷ ts) w x t (j, c, a) k =
    let e : n + suc (length ws) ≡ n + 1 + length ws = omega arith in
    (j, c, texts-push (n + 1) j middle names ws bs ts w x t a (subst (λ i. IsSource i w middle names x t) e k))

count-push : (bs ws : List (List ℕ)) (b w : List ℕ) → length bs ≡ length ws → length (bs ++ b ∷ []) ≡ length (ws ++ w ∷ [])
count-push bs ws b w e = omega (arith, e, length-append bs (b ∷ []), length-append ws (w ∷ []))

module _ (told : List ℕ → Option (List ℕ)) (b here : Before) (words front grown : List (List ℕ)) (position size : ℕ) (word : List ℕ) (count : length front ≡ position) (at : slice_get words position ≡ Some word) where
  behind_front : position ≡ 0 + length front
  behind_front = sym count ∙ sym (zero-add (length front))

  pub checkers-next : (ms : List Machine) (m : Machine) → AreReadCheckers (may_hold told) b words front ms here → HasLoadedChecker (told word) here position grown word size m
      → AreReadCheckers (may_hold told) b words (front ++ word ∷ []) (ms ++ m ∷ []) (before_file (here.left - size) grown)
  checkers-next ms m r l = record {
    contents = r.contents ++ l.bytes ∷ [];
    count = count-push r.contents front l.bytes word r.count;
    read = read-push told b here CheckerFile words r.contents position word r.read (r.count ∙ count) at l.bytes (before_file (here.left - size) grown) l.stands
        (record { fits = l.fits; fine = (m, l.checker); left = ap (λ n. here.left - n) (sym l.sized) });
    have = machines-push 0 b.names here.names grown front r.contents ms word l.bytes m r.have (subst (λ n. IsChecker n word here.names grown l.bytes m) behind_front l.checker);
  }

  pub sources-next : (ts : List Text) (t : Text) → AreReadSources (may_hold told) b words front ts here → HasLoadedSource (told word) here position grown word size t
      → AreReadSources (may_hold told) b words (front ++ word ∷ []) (ts ++ t ∷ []) (before_file (here.left - size) grown)
  sources-next ts t r l = record {
    contents = r.contents ++ l.bytes ∷ [];
    count = count-push r.contents front l.bytes word r.count;
    read = read-push told b here SourceFile words r.contents position word r.read (r.count ∙ count) at l.bytes (before_file (here.left - size) grown) l.stands
        (record { fits = l.fits; fine = (t, l.source); left = ap (λ n. here.left - n) (sym l.sized) });
    have = texts-push 0 b.names here.names grown front r.contents ts word l.bytes t r.have (subst (λ n. IsSource n word here.names grown l.bytes t) behind_front l.source);
  }

-- ---- the words so far

pub take_next : {X : Type 0} (xs : List X) (i : ℕ) (x : X) → slice_get xs i ≡ Some x → take (i + 1) xs ≡ take i xs ++ x ∷ []
take_next [] i x e = cc
take_next (y ∷ ys) zero x e = let h : y ≡ x = cc in ap (λ z. z ∷ []) h
take_next (y ∷ ys) (suc i) x e = let s : suc i + 1 ≡ suc (i + 1) = omega arith in ap (λ m. take m (y ∷ ys)) s ∙ ap (λ l. y ∷ l) (take_next ys i x e)

-- the element at an index, seen through a function
pub named_at : {X Y : Type 0} (f : X → Y) (xs : List X) (i : ℕ) (x : X) → i < length xs → x ≡ get_or xs i x → slice_get (map f xs) i ≡ Some (f x)
named_at f [] i x h e = absurd (omega (arith, h))
named_at f (y ∷ xs) zero x h e = ap (λ z. Some (f z)) (sym e)
named_at f (y ∷ xs) (suc i) x h e = named_at f xs i x (omega (arith, h)) e

pub length_take : {X : Type 0} (xs : List X) (i : ℕ) → i ≤ length xs → length (take i xs) ≡ i
length_take [] zero h = refl
length_take [] (suc i) h = absurd (omega (arith, h))
length_take (x ∷ xs) zero h = refl
length_take (x ∷ xs) (suc i) h = ap suc (length_take xs i (omega (arith, h)))
