-- Beginnings of a list of one set and then one of another.
use Rattle.std.proofs.Common.{◌≡◌, List, [], ◌++◌, ◌⊎◌, inl, inr, refl, sym, ap, ◌∙◌, subst, append_assoc}
use Rattle.flow_graph.specs.CPaths.Events.{Item}
use Rattle.flow_graph.specs.CPaths.Words.{Then, Either}

-- some list of A goes on with one of T, and l is a beginning of the whole
pub record Ahead (A T : List Item → Type 0) (l : List Item) : Type 0 where
  pub first : List Item
  pub then : List Item
  pub rest : List Item
  pub is_first : A first
  pub is_then : T then
  pub whole : l ++ rest ≡ first ++ then

pub ahead_then : (A B T : List Item → Type 0) (l : List Item) → Ahead A (Ahead B T) l → Ahead (Then A B) T l
ahead_then A B T l a =
    let b = a.is_then in
    record {
      first = a.first ++ b.first;
      then = b.then;
      rest = a.rest ++ b.rest;
      is_first = (a.first, b.first, a.is_first, b.is_first, refl);
      is_then = b.is_then;
      whole = sym (append_assoc l a.rest b.rest) ∙ ap (λ m. m ++ b.rest) a.whole ∙ append_assoc a.first a.then b.rest ∙ ap (λ m. a.first ++ m) b.whole ∙ sym (append_assoc a.first b.first b.then);
    }

pub ahead_maps : (A B T U : List Item → Type 0) → ((w : List Item) → A w → B w) → ((w : List Item) → T w → U w) → (l : List Item) → Ahead A T l → Ahead B U l
ahead_maps A B T U f h l a = record { first = a.first; then = a.then; rest = a.rest; is_first = f a.first a.is_first; is_then = h a.then a.is_then; whole = a.whole }

pub ahead_or : (A T U : List Item → Type 0) (l : List Item) → Ahead A (λ m. T m ⊎ U m) l → Ahead A T l ⊎ Ahead A U l
ahead_or A T U l a =
    elim a.is_then [
      | inl t ↦ inl (record { first = a.first; then = a.then; rest = a.rest; is_first = a.is_first; is_then = t; whole = a.whole })
      | inr t ↦ inr (record { first = a.first; then = a.then; rest = a.rest; is_first = a.is_first; is_then = t; whole = a.whole })
    ]

pub ahead_prefix : (A T : List Item → Type 0) (l r : List Item) → Ahead A T (l ++ r) → Ahead A T l
ahead_prefix A T l r a = record { first = a.first; then = a.then; rest = r ++ a.rest; is_first = a.is_first; is_then = a.is_then; whole = sym (append_assoc l r a.rest) ∙ a.whole }

pub ahead_either : (A B T : List Item → Type 0) (l : List Item) → Ahead A T l ⊎ Ahead B T l → Ahead (Either A B) T l
ahead_either A B T l (inl a) = ahead_maps A (Either A B) T T (λ w h. inl h) (λ w h. h) l a
ahead_either A B T l (inr a) = ahead_maps B (Either A B) T T (λ w h. inr h) (λ w h. h) l a

-- with nothing before it
pub ahead_nothing : (T : List Item → Type 0) → ((l r : List Item) → T (l ++ r) → T l) → (l : List Item) → Ahead (λ w. w ≡ []) T l → T l
ahead_nothing T c l a = c l a.rest (subst T (sym (a.whole ∙ ap (λ m. m ++ a.then) a.is_first)) a.is_then)

pub ahead_or_then : (V A B T U : List Item → Type 0) (l : List Item) → Ahead V (Either (Ahead A T) (Ahead B U)) l → Either (Ahead (Then V A) T) (Ahead (Then V B) U) l
ahead_or_then V A B T U l a = elim (ahead_or V (Ahead A T) (Ahead B U) l a) [ inl p ↦ inl (ahead_then V A T l p) | inr p ↦ inr (ahead_then V B U l p) ]

pub ahead_second : (A T U : List Item → Type 0) (l : List Item) → ((m : List Item) → T m → U m) → Ahead A T l → Ahead A U l
ahead_second A T U l f a = ahead_maps A A T U (λ w h. h) f l a

pub ahead_inl : (A B T : List Item → Type 0) (l : List Item) → Ahead A T l → Ahead (Either A B) T l
ahead_inl A B T l a = ahead_either A B T l (inl a)

pub ahead_inr : (A B T : List Item → Type 0) (l : List Item) → Ahead B T l → Ahead (Either A B) T l
ahead_inr A B T l a = ahead_either A B T l (inr a)

pub either_order : (A B T : List Item → Type 0) (l : List Item) → Either (Ahead B T) (Ahead A T) l → Ahead (Either A B) T l
either_order A B T l (inl a) = ahead_inr A B T l a
either_order A B T l (inr a) = ahead_inl A B T l a

-- the cases of two operands in one, by what follows the first at true and at false
pub and_value : (X1 X0 Y1 Y0 C : List Item → Type 0) (l : List Item) → Either (Ahead X1 (Either (Ahead Y1 C) (Ahead Y0 C))) (Ahead X0 C) l → Ahead (Either X0 (Then X1 (Either Y0 Y1))) C l
and_value X1 X0 Y1 Y0 C l (inl a) = ahead_inr X0 _ C l (ahead_then X1 (Either Y0 Y1) C l (ahead_second X1 _ _ l (either_order Y0 Y1 C) a))
and_value X1 X0 Y1 Y0 C l (inr a) = ahead_inl X0 _ C l a

pub or_value : (X1 X0 Y1 Y0 C : List Item → Type 0) (l : List Item) → Either (Ahead X1 C) (Ahead X0 (Either (Ahead Y1 C) (Ahead Y0 C))) l → Ahead (Either X1 (Then X0 (Either Y0 Y1))) C l
or_value X1 X0 Y1 Y0 C l (inl a) = ahead_inl X1 _ C l a
or_value X1 X0 Y1 Y0 C l (inr a) = ahead_inr X1 _ C l (ahead_then X0 (Either Y0 Y1) C l (ahead_second X0 _ _ l (either_order Y0 Y1 C) a))

pub choose_value : (X1 X0 Y Z C : List Item → Type 0) (l : List Item) → Either (Ahead X1 (Ahead Y C)) (Ahead X0 (Ahead Z C)) l → Ahead (Either (Then X1 Y) (Then X0 Z)) C l
choose_value X1 X0 Y Z C l (inl a) = ahead_inl _ _ C l (ahead_then X1 Y C l a)
choose_value X1 X0 Y Z C l (inr a) = ahead_inr _ _ C l (ahead_then X0 Z C l a)

pub and_cond : (X1 X0 Y1 Y0 T F : List Item → Type 0) (l : List Item) → Either (Ahead X1 (Either (Ahead Y1 T) (Ahead Y0 F))) (Ahead X0 F) l → Either (Ahead (Then X1 Y1) T) (Ahead (Either X0 (Then X1 Y0)) F) l
and_cond X1 X0 Y1 Y0 T F l (inl a) = elim (ahead_or_then X1 Y1 Y0 T F l a) [ inl b ↦ inl b | inr b ↦ inr (ahead_inr X0 _ F l b) ]
and_cond X1 X0 Y1 Y0 T F l (inr a) = inr (ahead_inl X0 _ F l a)

pub or_cond : (X1 X0 Y1 Y0 T F : List Item → Type 0) (l : List Item) → Either (Ahead X1 T) (Ahead X0 (Either (Ahead Y1 T) (Ahead Y0 F))) l → Either (Ahead (Either X1 (Then X0 Y1)) T) (Ahead (Then X0 Y0) F) l
or_cond X1 X0 Y1 Y0 T F l (inl a) = inl (ahead_inl X1 _ T l a)
or_cond X1 X0 Y1 Y0 T F l (inr a) = elim (ahead_or_then X0 Y1 Y0 T F l a) [ inl b ↦ inl (ahead_inr X1 _ T l b) | inr b ↦ inr b ]

pub choose_cond : (X1 X0 Y1 Y0 Z1 Z0 T F : List Item → Type 0) (l : List Item) → Either (Ahead X1 (Either (Ahead Y1 T) (Ahead Y0 F))) (Ahead X0 (Either (Ahead Z1 T) (Ahead Z0 F))) l → Either (Ahead (Either (Then X1 Y1) (Then X0 Z1)) T) (Ahead (Either (Then X1 Y0) (Then X0 Z0)) F) l
choose_cond X1 X0 Y1 Y0 Z1 Z0 T F l (inl a) = elim (ahead_or_then X1 Y1 Y0 T F l a) [ inl b ↦ inl (ahead_inl _ _ T l b) | inr b ↦ inr (ahead_inl _ _ F l b) ]
choose_cond X1 X0 Y1 Y0 Z1 Z0 T F l (inr a) = elim (ahead_or_then X0 Z1 Z0 T F l a) [ inl b ↦ inl (ahead_inr _ _ T l b) | inr b ↦ inr (ahead_inr _ _ F l b) ]
