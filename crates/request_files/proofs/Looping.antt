-- One turn of the loops over words.
use Rattle.std.proofs.Common.{◌≡◌, ℕ, zero, suc, get_or, take, ◌+◌, ◌-◌, ◌*◌, ◌<◌, ◌≤◌, List, [], ◌∷◌, ◌++◌, length, map, Option, Some, None, slice_get, refl, sym, ap, ◌∙◌, subst, arith}
use Rattle.std.specs.Borrow.{Bor, MutBor}
use Rattle.std.specs.Slice.Iter.{iter_mut_rest, iter_mut_steps}
use Rattle.std.specs.declared.slice.IterMut.{IterMut}
use Rattle.metal_numbers.specs.MetalBuilding.Places.{HasPlaces}
use Rattle.metal_tree.specs.Whole.{machine_view}
use Rattle.metal_tree.specs.declared.machine.Machine.{Machine}
use Rattle.mx_io.specs.Reads.{Stands}
use Rattle.typed_unit.specs.declared.typed_unit.TypedUnit.{TypedUnit}
use Rattle.request_files.specs.Faults.{Before, HasFault, before_file}
use Rattle.request_files.specs.InTurn.{AreReadCheckers, AreReadSources}
use Rattle.request_files.specs.Reading.{AreSound, FailedAt, FaultyAt}
use Rattle.request_files.specs.Ways.Stages.{AnswersStopped, HasLoadedChecker, HasLoadedSource, failed_after_stop}
use Rattle.request_files.specs.Telling.{may_hold}
use Rattle.request_files.specs.Turns.{Kind, numbered}
use Rattle.request_files.specs.Views.{located_of, machines_of, text_of, texts_of, words_of}
use Rattle.request_files.specs.declared.fault.LocatedFault.{LocatedFault}
use Rattle.request_files.specs.declared.stopped.Stopped.{Stopped}
use Rattle.request_files.specs.declared.stopped.Stopped.TheVariants as stops
use Rattle.request_files.proofs.Turns.{turn_of, failed_now, faulty_now, checkers-next, sources-next, take_next, length_take}

word_at : (ws : List (Bor (List ℕ))) (i : ℕ) (d : Bor (List ℕ)) → i < length ws → slice_get (words_of ws) i ≡ Some (get_or ws i d).now
word_at [] i d h = absurd (omega (arith, h))
word_at (w ∷ ws) zero d h = refl
word_at (w ∷ ws) (suc i) d h = word_at ws i d (omega (arith, h))

words_length : (ws : List (Bor (List ℕ))) → length (words_of ws) ≡ length ws
words_length [] = refl
words_length (w ∷ ws) = ap suc (words_length ws)

views-push : {X Y : Type 0} (f : X → Y) (xs : List X) (x : X) → map f (xs ++ x ∷ []) ≡ map f xs ++ f x ∷ []
views-push f [] x = refl
views-push f (y ∷ ys) x = ap (λ l. f y ∷ l) (views-push f ys x)

module _ (told at : List ℕ → Option (List ℕ)) (b : Before) (ws : List (Bor (List ℕ))) (index position : ℕ) (here : Before) (d : Bor (List ℕ)) (lt : index < length ws) (position_is : position ≡ index) (same : at ≡ told) where
  word_here : slice_get (words_of ws) position ≡ Some (get_or ws index d).now
  word_here = ap (slice_get (words_of ws)) position_is ∙ word_at ws index d lt

  front_length : length (take index (words_of ws)) ≡ position
  front_length = length_take (words_of ws) index (omega (arith, lt, words_length ws)) ∙ sym position_is

  module _ (kind : Kind) (bs : List (List ℕ)) (r : AreSound (may_hold told) b (numbered kind 0 (words_of ws)) bs here) (count : length bs ≡ length (take index (words_of ws)))
      (old mid new : List (List ℕ)) (stop : Stopped) (failed : new ≡ failed_after_stop mid (get_or ws index d).now stop) (none : mid ≡ old) where
    pub not_read : stop ≡ stops.NotRead → FailedAt (may_hold told) b (numbered kind 0 (words_of ws)) old new position
    not_read e = failed_now told b here kind (words_of ws) bs position (get_or ws index d).now r (count ∙ front_length) word_here old new
        (failed ∙ ap (failed_after_stop mid (get_or ws index d).now) e ∙ ap (λ l. l ++ (get_or ws index d).now ∷ []) none)

    -- the number with which a file was read is its position
    pub faulty : (number : ℕ) (l : LocatedFault) → stop ≡ stops.Faulty l → AnswersStopped (at (get_or ws index d).now) here (turn_of kind number (get_or ws index d).now) stop → number ≡ position
        → FaultyAt (may_hold told) b (numbered kind 0 (words_of ws)) position (located_of l) × (new ≡ old)
    faulty number l e a is =
        let x : (bytes : List ℕ) × Stands (at (get_or ws index d).now) bytes × HasFault here (turn_of kind position (get_or ws index d).now) bytes (located_of l) =
        subst (λ n. AnswersStopped (at (get_or ws index d).now) here (turn_of kind n (get_or ws index d).now) (stops.Faulty l)) is
        (subst (AnswersStopped (at (get_or ws index d).now) here (turn_of kind number (get_or ws index d).now)) e a) in (
          faulty_now told b here kind (words_of ws) bs position (get_or ws index d).now r (count ∙ front_length) word_here x.0 (located_of l)
              (subst (λ (t : List ℕ → Option (List ℕ)). Stands (t (get_or ws index d).now) x.0) same x.1) x.2,
          failed ∙ ap (failed_after_stop mid (get_or ws index d).now) e ∙ none,
        )

  -- one checker more
  pub checkers_more : (grown : List (List ℕ)) (size number : ℕ) (old new : List Machine) (m : Machine)
      → AreReadCheckers (may_hold told) b (words_of ws) (take index (words_of ws)) (machines_of old) here
      → HasLoadedChecker (at (get_or ws index d).now) here number grown (get_or ws index d).now size (machine_view m)
      → number ≡ position → new ≡ old ++ m ∷ []
      → AreReadCheckers (may_hold told) b (words_of ws) (take (index + 1) (words_of ws)) (machines_of new) (before_file (here.left - size) grown)
  checkers_more grown size number old new m r l number_is items =
      let loaded = subst (λ (t : List ℕ → Option (List ℕ)). HasLoadedChecker (t (get_or ws index d).now) here number grown (get_or ws index d).now size (machine_view m)) same l in
      let placed = subst (λ n. HasLoadedChecker (told (get_or ws index d).now) here n grown (get_or ws index d).now size (machine_view m)) number_is loaded in
      let next = checkers-next told b here (words_of ws) (take index (words_of ws)) grown position size (get_or ws index d).now front_length word_here (machines_of old) (machine_view m) r placed in
      subst (λ ms. AreReadCheckers (may_hold told) b (words_of ws) (take (index + 1) (words_of ws)) ms (before_file (here.left - size) grown)) (sym (ap machines_of items ∙ views-push machine_view old m))
      (subst (λ front. AreReadCheckers (may_hold told) b (words_of ws) front (machines_of old ++ machine_view m ∷ []) (before_file (here.left - size) grown)) (sym (take_next (words_of ws) index (get_or ws index d).now (word_at ws index d lt))) next)

  -- one C file more
  pub sources_more : (grown : List (List ℕ)) (size number : ℕ) (old new : List TypedUnit) (u : TypedUnit)
      → AreReadSources (may_hold told) b (words_of ws) (take index (words_of ws)) (texts_of old) here
      → HasLoadedSource (at (get_or ws index d).now) here number grown (get_or ws index d).now size (text_of u)
      → number ≡ position → new ≡ old ++ u ∷ []
      → AreReadSources (may_hold told) b (words_of ws) (take (index + 1) (words_of ws)) (texts_of new) (before_file (here.left - size) grown)
  sources_more grown size number old new u r l number_is items =
      let loaded = subst (λ (t : List ℕ → Option (List ℕ)). HasLoadedSource (t (get_or ws index d).now) here number grown (get_or ws index d).now size (text_of u)) same l in
      let placed = subst (λ n. HasLoadedSource (told (get_or ws index d).now) here n grown (get_or ws index d).now size (text_of u)) number_is loaded in
      let next = sources-next told b here (words_of ws) (take index (words_of ws)) grown position size (get_or ws index d).now front_length word_here (texts_of old) (text_of u) r placed in
      subst (λ ts. AreReadSources (may_hold told) b (words_of ws) (take (index + 1) (words_of ws)) ts (before_file (here.left - size) grown)) (sym (ap texts_of items ∙ views-push text_of old u))
      (subst (λ front. AreReadSources (may_hold told) b (words_of ws) front (texts_of old ++ text_of u ∷ []) (before_file (here.left - size) grown)) (sym (take_next (words_of ws) index (get_or ws index d).now (word_at ws index d lt))) next)

-- where a place is taken for each file, as many are left as files are
pub place_taken : {T : Type 0} (before after : IterMut T) (place : Option (MutBor T)) (files index : ℕ) → iter_mut_steps before place after → files ≤ index + length (iter_mut_rest before) → files ≤ index + 1 + length (iter_mut_rest after)
place_taken before after None files index taken h = omega (arith, taken.0, h)
place_taken before after (Some x) files index taken h = omega (arith, ap length taken, h)

-- names, and the bytes that may still come
pub room_left : (a b whole rest size k i most : ℕ) → b ≤ a + k → k ≤ 2 * size + 1 → size ≤ rest → a + 2 * rest ≤ whole + i → b + 2 * (rest - size) ≤ whole + (i + 1)
room_left a b whole rest size k i most h j f r = omega (arith, h, j, f, r)

pub checker_fits : (told : Option (List ℕ)) (b : Before) (number : ℕ) (names : List (List ℕ)) (word : List ℕ) (size : ℕ) (m : _) → HasLoadedChecker told b number names word size m → size ≤ b.left
checker_fits told b number names word size m l = omega (arith, l.fits, l.sized)

pub source_fits : (told : Option (List ℕ)) (b : Before) (number : ℕ) (names : List (List ℕ)) (word : List ℕ) (size : ℕ) (t : _) → HasLoadedSource told b number names word size t → size ≤ b.left
source_fits told b number names word size t l = omega (arith, l.fits, l.sized)

-- what is known of each by its position is known where one more was put behind
at-push : {X : Type 0} (P : ℕ → X → Type 0) (old : List X) (x y : X) (i : ℕ) → ((j : ℕ) (z : X) → slice_get old j ≡ Some z → P j z) → P (length old) x → slice_get (old ++ x ∷ []) i ≡ Some y → P i y
at-push P [] x y zero h e s = let g : x ≡ y = cc in subst (P zero) g e
at-push P [] x y (suc i) h e s = let none : ⊥ = cc in absurd none
at-push P (w ∷ ws) x y zero h e s = h zero y s
at-push P (w ∷ ws) x y (suc i) h e s = at-push (λ j. P (suc j)) ws x y i (λ j z q. h (suc j) z q) e s

-- each unit has its position as number
pub numbered-push : (old new : List TypedUnit) (u : TypedUnit) → ((i : ℕ) (v : TypedUnit) → slice_get old i ≡ Some v → v.unit.file ≡ i) → u.unit.file ≡ length old → new ≡ old ++ u ∷ []
    → (i : ℕ) (v : TypedUnit) → slice_get new i ≡ Some v → v.unit.file ≡ i
numbered-push old new u h e items i v s = at-push (λ j (w : TypedUnit). w.unit.file ≡ j) old u v i h e (subst (λ l. slice_get l i ≡ Some v) items s)

-- the rules of each checker stand in the file with its position as number
pub places-push : (old new : List Machine) (m : Machine) (number : ℕ) → ((i : ℕ) (n : Machine) → slice_get old i ≡ Some n → HasPlaces i n.rules.now) → HasPlaces number m.rules.now → number ≡ length old → new ≡ old ++ m ∷ []
    → (i : ℕ) (n : Machine) → slice_get new i ≡ Some n → HasPlaces i n.rules.now
places-push old new m number h p e items i n s =
    at-push (λ j (o : Machine). HasPlaces j o.rules.now) old m n i h (subst (λ j. HasPlaces j m.rules.now) e p) (subst (λ l. slice_get l i ≡ Some n) items s)
