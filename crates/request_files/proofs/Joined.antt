-- The checkers, and then the C files.
use Rattle.std.proofs.Common.{◌≡◌, ℕ, zero, suc, ◌+◌, ◌<◌, List, [], ◌∷◌, ◌++◌, length, Option, Some, slice_get, refl, sym, ap, ◌∙◌, subst, arith, length-append}
use Rattle.std.specs.Borrow.{Bor}
use Rattle.typed_unit.specs.Texts.{Text}
use Rattle.metal_tree.specs.MetalMachines.Machine.{Machine}
use Rattle.request_files.specs.Faults.{Before, Located, before_file}
use Rattle.request_files.specs.InTurn.{AnswersUnread, AreReadCheckers, AreReadSources, AreReadFiles}
use Rattle.request_files.specs.Reading.{Agree, AreSoundFrom, AreSound, IsTurn, FailedAt, FaultyAt, at_first}
use Rattle.request_files.specs.Telling.{may_hold}
use Rattle.request_files.specs.Turns.{CheckerFile, SourceFile, Kind, Turn, numbered, turns}
use Rattle.request_files.specs.Views.{located_of, words_of}
use Rattle.request_files.specs.declared.fault.LocatedFault.{LocatedFault}
use Rattle.request_files.specs.declared.unread.Unread.{Unread}
use Rattle.request_files.specs.declared.unread.Unread.TheVariants as unread

module _ (Holds : List ℕ → List ℕ → Type 0) where
  agree-front : (ts us : List Turn) (bs : List (List ℕ)) → Agree Holds ts bs → Agree Holds (ts ++ us) bs
  agree-front ts us [] h = tt
  agree-front [] us (b ∷ bs) h = absurd h
  agree-front (t ∷ ts) us (b ∷ bs) h = (h.0, agree-front ts us bs h.1)

  agree-both : (ts us : List Turn) (bs cs : List (List ℕ)) → length bs ≡ length ts → Agree Holds ts bs → Agree Holds us cs → Agree Holds (ts ++ us) (bs ++ cs)
  agree-both [] us [] cs e h k = k
  agree-both [] us (b ∷ bs) cs e h k = absurd h
  agree-both (t ∷ ts) us [] cs e h k = absurd (omega (arith, e))
  agree-both (t ∷ ts) us (b ∷ bs) cs e h k = (h.0, agree-both ts us bs cs (omega (arith, e)) h.1 k)

sound-front : (b end : Before) (ts us : List Turn) (bs : List (List ℕ)) → AreSoundFrom b ts bs end → AreSoundFrom b (ts ++ us) bs end
sound-front b end ts us [] h = h
sound-front b end [] us (x ∷ bs) h = absurd h
sound-front b end (t ∷ ts) us (x ∷ bs) (next, i, h) = (next, i, sound-front next end ts us bs h)

sound-both : (b middle end : Before) (ts us : List Turn) (bs cs : List (List ℕ)) → length bs ≡ length ts → AreSoundFrom b ts bs middle → AreSoundFrom middle us cs end → AreSoundFrom b (ts ++ us) (bs ++ cs) end
sound-both b middle end [] us [] cs e h k = subst (λ (x : Before). AreSoundFrom x us cs end) h k
sound-both b middle end [] us (x ∷ bs) cs e h k = absurd h
sound-both b middle end (t ∷ ts) us [] cs e h k = absurd (omega (arith, e))
sound-both b middle end (t ∷ ts) us (x ∷ bs) cs e (next, i, h) k = (next, i, sound-both next middle end ts us bs cs (omega (arith, e)) h k)

here-front : (ts us : List Turn) (i : ℕ) (t : Turn) → slice_get ts i ≡ Some t → slice_get (ts ++ us) i ≡ Some t
here-front [] us i t e = cc
here-front (x ∷ ts) us zero t e = e
here-front (x ∷ ts) us (suc i) t e = here-front ts us i t e

here-behind : (ts us : List Turn) (i : ℕ) (t : Turn) → slice_get us i ≡ Some t → slice_get (ts ++ us) (length ts + i) ≡ Some t
here-behind [] us i t e = let z : length {A = Turn} [] + i ≡ i = omega arith in ap (slice_get us) z ∙ e
here-behind (x ∷ ts) us i t e = let s : suc (length ts) + i ≡ suc (length ts + i) = omega arith in ap (slice_get (x ∷ (ts ++ us))) s ∙ here-behind ts us i t e

numbered-length : (kind : Kind) (n : ℕ) (words : List (List ℕ)) → length (numbered kind n words) ≡ length words
numbered-length kind n [] = refl
numbered-length kind n (w ∷ ws) = ap suc (numbered-length kind (n + 1) ws)

-- a place in a list is before its end
here-within : (ts : List Turn) (i : ℕ) (t : Turn) → slice_get ts i ≡ Some t → i < length ts
here-within [] i t e = cc
here-within (x ∷ ts) zero t e = omega arith
here-within (x ∷ ts) (suc i) t e = let h = here-within ts i t e in omega (arith, h)

module _ (Holds : List ℕ → List ℕ → Type 0) (checkers sources : List (List ℕ)) where
  -- ---- what the reading of checkers came to

  abbrev turn_front : (position : ℕ) → IsTurn Holds at_first (numbered CheckerFile 0 checkers) position → IsTurn Holds at_first (turns checkers sources) position
  turn_front position t = record {
    contents = t.contents;
    here = t.here;
    before = record {
      agree = agree-front Holds (numbered CheckerFile 0 checkers) (numbered SourceFile 0 sources) t.contents t.before.agree;
      sound = sound-front at_first t.here (numbered CheckerFile 0 checkers) (numbered SourceFile 0 sources) t.contents t.before.sound;
    };
    count = t.count;
    turn = t.turn;
    is = here-front (numbered CheckerFile 0 checkers) (numbered SourceFile 0 sources) position t.turn t.is;
  }

  pub unread_front : (old new : List (List ℕ)) (e : Unread) → AnswersUnread Holds at_first (numbered CheckerFile 0 checkers) old new e → AnswersUnread Holds at_first (turns checkers sources) old new e
  unread_front old new (unread.NotRead p) a = record { is_turn = turn_front p a.is_turn; grew = a.grew }
  unread_front old new (unread.Faulty p l) a = (record { is_turn = turn_front p a.0.is_turn; bytes = a.0.bytes; holds = a.0.holds; faulty = a.0.faulty }, a.1)
  unread_front old new unread.NoMemory a = a

  -- ---- what the reading of C files behind them came to

  module _ (machines : List Machine) (middle : Before) (r : AreReadCheckers Holds at_first checkers checkers machines middle) where
    full : length r.contents ≡ length (numbered CheckerFile 0 checkers)
    full = r.count ∙ sym (numbered-length CheckerFile 0 checkers)

    sound_both : (contents : List (List ℕ)) (end : Before) → AreSound Holds middle (numbered SourceFile 0 sources) contents end → AreSound Holds at_first (turns checkers sources) (r.contents ++ contents) end
    sound_both contents end s = record {
      agree = agree-both Holds (numbered CheckerFile 0 checkers) (numbered SourceFile 0 sources) r.contents contents full r.read.agree s.agree;
      sound = sound-both at_first middle end (numbered CheckerFile 0 checkers) (numbered SourceFile 0 sources) r.contents contents full r.read.sound s.sound;
    }

    abbrev turn_behind : (position : ℕ) → IsTurn Holds middle (numbered SourceFile 0 sources) position → IsTurn Holds at_first (turns checkers sources) (length checkers + position)
    turn_behind position t = record {
      contents = r.contents ++ t.contents;
      here = t.here;
      before = sound_both t.contents t.here t.before;
      count = omega (arith, r.count, t.count, length-append r.contents t.contents);
      turn = t.turn;
      is = ap (λ n. slice_get (turns checkers sources) (n + position)) (sym (numbered-length CheckerFile 0 checkers)) ∙ here-behind (numbered CheckerFile 0 checkers) (numbered SourceFile 0 sources) position t.turn t.is;
    }

    pub failed_behind : (position : ℕ) (old mid new : List (List ℕ)) → mid ≡ old → FailedAt Holds middle (numbered SourceFile 0 sources) mid new position
        → FailedAt Holds at_first (turns checkers sources) old new (length checkers + position)
    failed_behind position old mid new e f = record { is_turn = turn_behind position f.is_turn; grew = f.grew ∙ ap (λ l. l ++ f.is_turn.turn.word ∷ []) e }

    pub faulty_behind : (position : ℕ) (fault : Located) → FaultyAt Holds middle (numbered SourceFile 0 sources) position fault → FaultyAt Holds at_first (turns checkers sources) (length checkers + position) fault
    faulty_behind position fault f = record { is_turn = turn_behind position f.is_turn; bytes = f.bytes; holds = f.holds; faulty = f.faulty }

    pub all_read : (texts : List Text) (end : Before) → AreReadSources Holds middle sources sources texts end → AreReadFiles Holds checkers sources end.names machines texts
    all_read texts end s = record {
      checker_contents = r.contents;
      source_contents = s.contents;
      end = end;
      sound = sound_both s.contents end s.read;
      between = middle.names;
      machines_are = r.have;
      texts_are = s.have;
    }

-- the position of a file whose turn it is
turn_within : (Holds : List ℕ → List ℕ → Type 0) (b : Before) (sources : List (List ℕ)) (position : ℕ) → IsTurn Holds b (numbered SourceFile 0 sources) position → position < length sources
turn_within Holds b sources position t = let h = here-within (numbered SourceFile 0 sources) position t.turn t.is in omega (arith, h, numbered-length SourceFile 0 sources)

sources_length : (ws : List (Bor (List ℕ))) → length (words_of ws) ≡ length ws
sources_length [] = refl
sources_length (w ∷ ws) = ap suc (sources_length ws)

module _ (Holds : List ℕ → List ℕ → Type 0) (b : Before) (sources : List (Bor (List ℕ))) (old new : List (List ℕ)) (e : Unread) (position : ℕ) where
  -- the position of a C file that wasn't read
  pub position_failed : e ≡ unread.NotRead position → AnswersUnread Holds b (numbered SourceFile 0 (words_of sources)) old new e → position < length sources
  position_failed is a =
      let f : FailedAt Holds b (numbered SourceFile 0 (words_of sources)) old new position = subst (AnswersUnread Holds b (numbered SourceFile 0 (words_of sources)) old new) is a in
      let h = turn_within Holds b (words_of sources) position f.is_turn in
      omega (arith, h, sources_length sources)

  -- and of one with a fault
  pub position_faulty : (l : LocatedFault) → e ≡ unread.Faulty position l → AnswersUnread Holds b (numbered SourceFile 0 (words_of sources)) old new e → position < length sources
  position_faulty l is a =
      let f : FaultyAt Holds b (numbered SourceFile 0 (words_of sources)) position (located_of l) × (new ≡ old) = subst (AnswersUnread Holds b (numbered SourceFile 0 (words_of sources)) old new) is a in
      let h = turn_within Holds b (words_of sources) position f.0.is_turn in
      omega (arith, h, sources_length sources)

-- names that stand before no file
pub at_the_first : (P : Before → Type 0) (left : ℕ) (names : List (List ℕ)) → names ≡ [] → P (before_file left names) → P (before_file left [])
at_the_first P left names fresh h = subst (λ ns. P (before_file left ns)) fresh h

module _ (told at : List ℕ → Option (List ℕ)) (checkers sources : List (Bor (List ℕ))) (machines : List Machine) (middle : Before)
    (r : AreReadCheckers (may_hold told) at_first (words_of checkers) (words_of checkers) machines middle) (same : at ≡ told)
    (old mid new : List (List ℕ)) (none : mid ≡ old) (e : Unread) (a : AnswersUnread (may_hold at) middle (numbered SourceFile 0 (words_of sources)) mid new e) (position : ℕ) where
  answers : (u : Unread) → e ≡ u → AnswersUnread (may_hold told) middle (numbered SourceFile 0 (words_of sources)) mid new u
  answers u is =
      subst (AnswersUnread (may_hold told) middle (numbered SourceFile 0 (words_of sources)) mid new) is
      (subst (λ (t : List ℕ → Option (List ℕ)). AnswersUnread (may_hold t) middle (numbered SourceFile 0 (words_of sources)) mid new e) same a)

  pub failed_at_behind : e ≡ unread.NotRead position → FailedAt (may_hold told) at_first (turns (words_of checkers) (words_of sources)) old new (length checkers + position)
  failed_at_behind is =
      subst (λ n. FailedAt (may_hold told) at_first (turns (words_of checkers) (words_of sources)) old new (n + position)) (sources_length checkers)
      (failed_behind (may_hold told) (words_of checkers) (words_of sources) machines middle r position old mid new none (answers (unread.NotRead position) is))

  pub faulty_at_behind : (l : LocatedFault) → e ≡ unread.Faulty position l → FaultyAt (may_hold told) at_first (turns (words_of checkers) (words_of sources)) (length checkers + position) (located_of l) × (new ≡ old)
  faulty_at_behind l is =
      let x = answers (unread.Faulty position l) is in (
        subst (λ n. FaultyAt (may_hold told) at_first (turns (words_of checkers) (words_of sources)) (n + position) (located_of l)) (sources_length checkers)
            (faulty_behind (may_hold told) (words_of checkers) (words_of sources) machines middle r position (located_of l) x.0),
        x.1 ∙ none,
      )
