-- Where no definition repeats an earlier one, no two of them clash.
use Rattle.std.proofs.Common.{◌≡◌, ℕ, suc, zero, ◌<◌, List, [], ◌∷◌, ◌++◌, length, get_or, Option, None, Some, cond, Bool, true, false, ◌||◌, ap, refl, sym, subst, append_assoc, arith}
use Rattle.std.proofs.lemmas.List.Quantifiers.{all_pairs_push}
use Rattle.std.specs.Option.{option_map}
use Rattle.type_rules.specs.Functions.{Defined}
use Rattle.call_graph.specs.OfPrograms.Repeats.{clash, repeats, AreApart, first_repeat, link_fault, name_and_place}

none-front : (a b : Bool) → a || b ≡ false → a ≡ false
none-front true b h = cc
none-front false b h = refl

none-behind : (a b : Bool) → a || b ≡ false → b ≡ false
none-behind true b h = cc
none-behind false b h = h

none-at : (g : Defined) (fs : List Defined) → repeats fs g ≡ false → (k : ℕ) (d : Defined) → k < length fs → clash (get_or fs k d) g ≡ false
none-at g [] h k d l = absurd (grind arith)
none-at g (f ∷ fs) h zero d l = none-front (clash f g) (repeats fs g) h
none-at g (f ∷ fs) h (suc k) d l = none-at g fs (none-behind (clash f g) (repeats fs g) h) k d (grind arith)

append-none : (fs : List Defined) → fs ++ [] ≡ fs
append-none [] = refl
append-none (f ∷ fs) = ap (λ (gs : List Defined). f ∷ gs) (append-none fs)

pub apart-behind : (earlier fs : List Defined) → AreApart earlier → first_repeat earlier fs ≡ None → AreApart (earlier ++ fs)
apart-behind earlier [] h e = subst AreApart (sym (append-none earlier)) h
apart-behind earlier (f ∷ fs) h e = by (repeats earlier f) refl e (apart-behind (earlier ++ (f ∷ [])) fs)
  where
    by : (b : Bool) → repeats earlier f ≡ b → cond b (Some f) (first_repeat (earlier ++ (f ∷ [])) fs) ≡ None
        → (AreApart (earlier ++ (f ∷ [])) → first_repeat (earlier ++ (f ∷ [])) fs ≡ None → AreApart ((earlier ++ (f ∷ [])) ++ fs)) → AreApart (earlier ++ (f ∷ fs))
    by true r n further = cc
    by false r n further =
        subst AreApart (append_assoc earlier (f ∷ []) fs)
        (further (all_pairs_push (λ g k. clash g k ≡ false) earlier f h (none-at f earlier r)) n)

none-apart : AreApart []
none-apart i j d l m = absurd (grind arith)

no-fault : (o : Option Defined) → option_map name_and_place o ≡ None → o ≡ None
no-fault None h = refl
no-fault (Some f) h = cc

-- a program without a link fault
pub linked-apart : (fs : List Defined) → link_fault fs ≡ None → AreApart fs
linked-apart fs e = apart-behind [] fs none-apart (no-fault (first_repeat [] fs) e)
