-- The lists of all evaluations and of all steps are right.
use Rattle.std.proofs.Common.{◌≡◌, Bool, true, false, not, List, [], ◌∷◌, ◌++◌, ◌⊎◌, inl, inr, Option, None, Some, refl, sym, ap, subst}
use Rattle.flow_graph.specs.CPaths.Events.{Item, branched}
use Rattle.flow_graph.specs.CPaths.Membership.{Among}
use Rattle.flow_graph.specs.CPaths.Words.{Nothing, Only, Then, Either}
use Rattle.flow_graph.specs.CPaths.Forms.{Form, Plain, Inverts, Keeps, Both, Any, Chooses, Follows, Row, done, operand, item}
use Rattle.flow_graph.specs.CPaths.Evaluation.{Evaluates, Happens, MaybeCondition}
use Rattle.flow_graph.specs.CPaths.Listing.{before_each, joined, words_of, words_in, words_of_maybe}

pub among_front : {A : Type 0} (a : A) (xs ys : List A) → Among a xs → Among a (xs ++ ys)
among_front a [] ys h = absurd h
among_front a (x ∷ xs) ys (inl h) = inl h
among_front a (x ∷ xs) ys (inr h) = inr (among_front a xs ys h)

pub among_back : {A : Type 0} (a : A) (xs ys : List A) → Among a ys → Among a (xs ++ ys)
among_back a [] ys h = h
among_back a (x ∷ xs) ys h = inr (among_back a xs ys h)

pub among_either : {A : Type 0} (a : A) (xs ys : List A) → Among a (xs ++ ys) → Among a xs ⊎ Among a ys
among_either a [] ys h = inr h
among_either a (x ∷ xs) ys (inl h) = inl (inl h)
among_either a (x ∷ xs) ys (inr h) = elim (among_either a xs ys h) [ inl y ↦ inl (inr y) | inr y ↦ inr y ]

pub among_before : (a b : List Item) (bs : List (List Item)) → Among b bs → Among (a ++ b) (before_each a bs)
among_before a b [] h = absurd h
among_before a b (c ∷ bs) (inl h) = inl (ap (λ x. a ++ x) h)
among_before a b (c ∷ bs) (inr h) = inr (among_before a b bs h)

pub of_before : (a l : List Item) (bs : List (List Item)) → Among l (before_each a bs) → (b : List Item) × Among b bs × (l ≡ a ++ b)
of_before a l [] h = absurd h
of_before a l (c ∷ bs) (inl h) = (c, inl refl, h)
of_before a l (c ∷ bs) (inr h) = let b = of_before a l bs h in (b.0, inr b.1, b.2)

-- the list has exactly the lists of the set
pub record Lists (A : List Item → Type 0) (ws : List (List Item)) : Type 0 where
  pub all : (l : List Item) → A l → Among l ws
  pub only : (l : List Item) → Among l ws → A l

pub lists_only : (i : Item) → Lists (Only i) ((i ∷ []) ∷ [])
lists_only i = record { all = λ l e. inl e; only = λ l h. elim h [ inl e ↦ e | inr x ↦ absurd x ] }

pub lists_nothing : Lists Nothing ([] ∷ [])
lists_nothing = record { all = λ l e. inl e; only = λ l h. elim h [ inl e ↦ e | inr x ↦ absurd x ] }

among_joined : (a b : List Item) (xs ys : List (List Item)) → Among a xs → Among b ys → Among (a ++ b) (joined xs ys)
among_joined a b [] ys h k = absurd h
among_joined a b (x ∷ xs) ys (inl h) k = among_front (a ++ b) (before_each x ys) (joined xs ys) (subst (λ z. Among (a ++ b) (before_each z ys)) h (among_before a b ys k))
among_joined a b (x ∷ xs) ys (inr h) k = among_back (a ++ b) (before_each x ys) (joined xs ys) (among_joined a b xs ys h k)

of_joined : (l : List Item) (xs ys : List (List Item)) → Among l (joined xs ys) → (a b : List Item) × Among a xs × Among b ys × (l ≡ a ++ b)
of_joined l [] ys h = absurd h
of_joined l (x ∷ xs) ys h = elim (among_either l (before_each x ys) (joined xs ys) h) [
  | inl y ↦ let b = of_before x l ys y in (x, b.0, inl refl, b.1, b.2)
  | inr y ↦ let b = of_joined l xs ys y in (b.0, b.1, inr b.2, b.3, b.4)
]

pub lists_then : (A B : List Item → Type 0) (xs ys : List (List Item)) → Lists A xs → Lists B ys → Lists (Then A B) (joined xs ys)
lists_then A B xs ys a b = record {
  all = λ l h. subst (λ z. Among z (joined xs ys)) (sym h.4) (among_joined h.0 h.1 xs ys (a.all h.0 h.2) (b.all h.1 h.3));
  only = λ l h. let s = of_joined l xs ys h in (s.0, s.1, a.only s.0 s.2, b.only s.1 s.3, s.4);
}

pub lists_either : (A B : List Item → Type 0) (xs ys : List (List Item)) → Lists A xs → Lists B ys → Lists (Either A B) (xs ++ ys)
lists_either A B xs ys a b = record {
  all = λ l h. elim h [ inl x ↦ among_front l xs ys (a.all l x) | inr x ↦ among_back l xs ys (b.all l x) ];
  only = λ l h. elim (among_either l xs ys h) [ inl x ↦ inl (a.only l x) | inr x ↦ inr (b.only l x) ];
}

mutual
  pub words_listed : (e : Form) (o : Option Bool) → Lists (Evaluates e o) (words_of e o)
  words_listed (Plain n r) None = row_listed r
  words_listed (Plain n r) (Some t) = lists_then _ _ _ _ (row_listed r) (lists_only (branched n t))
  words_listed (Inverts x r) None = lists_then _ _ _ _ (words_listed x None) (row_listed r)
  words_listed (Inverts x r) (Some t) = words_listed x (Some (not t))
  words_listed (Keeps x r) None = lists_then _ _ _ _ (words_listed x None) (row_listed r)
  words_listed (Keeps x r) (Some t) = words_listed x (Some t)
  words_listed (Both x y r) None = lists_then _ _ _ _ (lists_either _ _ _ _ (words_listed x (Some false)) (lists_then _ _ _ _ (words_listed x (Some true)) (lists_either _ _ _ _ (words_listed y (Some false)) (words_listed y (Some true))))) (row_listed r)
  words_listed (Both x y r) (Some false) = lists_either _ _ _ _ (words_listed x (Some false)) (lists_then _ _ _ _ (words_listed x (Some true)) (words_listed y (Some false)))
  words_listed (Both x y r) (Some true) = lists_then _ _ _ _ (words_listed x (Some true)) (words_listed y (Some true))
  words_listed (Any x y r) None = lists_then _ _ _ _ (lists_either _ _ _ _ (words_listed x (Some true)) (lists_then _ _ _ _ (words_listed x (Some false)) (lists_either _ _ _ _ (words_listed y (Some false)) (words_listed y (Some true))))) (row_listed r)
  words_listed (Any x y r) (Some true) = lists_either _ _ _ _ (words_listed x (Some true)) (lists_then _ _ _ _ (words_listed x (Some false)) (words_listed y (Some true)))
  words_listed (Any x y r) (Some false) = lists_then _ _ _ _ (words_listed x (Some false)) (words_listed y (Some false))
  words_listed (Chooses x y z r) None = lists_then _ _ _ _ (lists_either _ _ _ _ (lists_then _ _ _ _ (words_listed x (Some true)) (words_listed y None)) (lists_then _ _ _ _ (words_listed x (Some false)) (words_listed z None))) (row_listed r)
  words_listed (Chooses x y z r) (Some t) = lists_either _ _ _ _ (lists_then _ _ _ _ (words_listed x (Some true)) (words_listed y (Some t))) (lists_then _ _ _ _ (words_listed x (Some false)) (words_listed z (Some t)))
  words_listed (Follows x y r) None = lists_then _ _ _ _ (words_listed x None) (lists_then _ _ _ _ (words_listed y None) (row_listed r))
  words_listed (Follows x y r) (Some t) = lists_then _ _ _ _ (words_listed x None) (words_listed y (Some t))

  pub row_listed : (r : Row) → Lists (Happens r) (words_in r)
  row_listed done = lists_nothing
  row_listed (operand x r) = lists_then _ _ _ _ (words_listed x None) (row_listed r)
  row_listed (item i r) = lists_then _ _ _ _ (lists_only i) (row_listed r)

pub maybe_listed : (c : Option Form) (t : Bool) → Lists (MaybeCondition c t) (words_of_maybe c t)
maybe_listed None true = record { all = λ l h. inl h.1; only = λ l h. elim h [ inl e ↦ (refl, e) | inr x ↦ absurd x ] }
maybe_listed None false = record { all = λ l h. let bad : false ≡ true = h.0 in cc; only = λ l h. absurd h }
maybe_listed (Some e) t = words_listed e (Some t)
