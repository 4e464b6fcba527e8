-- A token that stands among others is found at its place.
use Rattle.std.proofs.Common.{◌≡◌, ℕ, List, [], ◌∷◌, Bool, true, false, cond, Some, inl, inr, refl, sym, ap, subst, ◌∙◌}
use Rattle.std.proofs.lemmas.Bool.{eq-eqb, true≢false}
use Rattle.c_tree.specs.TokenPlaces.{AreOfFile}
use Rattle.c_tree.specs.declared.place.Place.{Place}
use Rattle.c_tree.specs.declared.token.Token.{Token}
use Rattle.flow_graph.specs.CPaths.Membership.{Among}
use Rattle.hole_matching.specs.Message.{from_place, is_at}
use Rattle.path_model.specs.CheckerModel.Reports.{first_token, token_at}

-- a token among these stands at the place
pub record HaveTokenAt (ts : List Token) (p : Place) : Type 0 where
  pub token : Token
  pub among : Among token ts
  pub place : token.place ≡ p

pub further : (t : Token) (ts : List Token) (p : Place) → HaveTokenAt ts p → HaveTokenAt (t ∷ ts) p
further t ts p h = record { token = h.token; among = inr h.among; place = h.place }

pub is-there : (p : Place) (t : Token) → t.place ≡ p → is_at p t ≡ true
is-there p t e = subst (λ (q : Place). is_at q t ≡ true) e (rw (eq-eqb t.place.file t.place.file refl) (eq-eqb t.place.token t.place.token refl))

-- the first one there is found
pub found : (p : Place) (ts : List Token) (t : Token) → Among t ts → t.place ≡ p → (u : Token) × (token_at p ts ≡ Some u)
found p [] t h e = absurd h
found p (x ∷ ts) t h e = by (λ k. found p ts t k e) (is_at p x) refl h
  where
    at : (b : Bool) → (u : Token) × (first_token (from_place p ts) ≡ Some u) → (u : Token) × (first_token (cond b (x ∷ ts) (from_place p ts)) ≡ Some u)
    at true later = (x, refl)
    at false later = later

    by : (Among t ts → (u : Token) × (token_at p ts ≡ Some u)) → (b : Bool) → is_at p x ≡ b → Among t (x ∷ ts) → (u : Token) × (first_token (cond b (x ∷ ts) (from_place p ts)) ≡ Some u)
    by later b q (inr k) = at b (later k)
    by later true q (inl s) = (x, refl)
    by later false q (inl s) = absurd (true≢false (sym (is-there p x (sym (ap (λ (y : Token). y.place) s) ∙ e)) ∙ q))

pub of-file : (file : ℕ) (ts : List Token) → AreOfFile file ts → (t : Token) → Among t ts → t.place.file ≡ file
of-file file [] h t k = absurd k
of-file file (x ∷ ts) h t (inl s) = ap (λ (y : Token). y.place.file) s ∙ h.0
of-file file (x ∷ ts) h t (inr k) = of-file file ts h.1 t k
