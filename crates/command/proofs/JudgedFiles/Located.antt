-- The token at a place of texts.
use Rattle.std.proofs.Common.{◌≡◌, ◌≢◌, ℕ, zero, suc, ◌+◌, ◌<◌, List, [], ◌∷◌, length, drop, get_or, Contains, Bool, true, not, ◌&&◌, eqb, Some, slice_get, add-one, ap, refl, sym, ◌∙◌, subst, true≢false, arith}
use Rattle.std.proofs.lemmas.Bool.Decides.{Decides-eqb}
use Rattle.std.proofs.lemmas.List.{length-map}
use Rattle.std.proofs.lemmas.Option.{slice_get_within}
use Rattle.c_tree.specs.declared.place.Place.{Place}
use Rattle.c_tree.specs.declared.token.Token.{Token}
use Rattle.typed_unit.specs.Texts.{Text}
use Rattle.command.specs.JudgedFiles.Linking.{HaveToken, IsWhere}
use Rattle.request_files.specs.Ways.Stages.{AreNamed, IsNamed}
use Rattle.request_files.specs.Views.{text_of, texts_of}
use Rattle.typed_unit.specs.declared.typed_unit.TypedUnit.{TypedUnit}

differ : (p q : Place) (b : Bool) → b ≡ not (eqb p.file q.file && eqb p.token q.token) → b ≡ true → p ≢ q
differ p q b h t e =
    let f : eqb p.file q.file ≡ true = (Decides-eqb p.file q.file).1 (ap (λ (r : Place). r.file) e) in
    let g : eqb p.token q.token ≡ true = (Decides-eqb p.token q.token).1 (ap (λ (r : Place). r.token) e) in
    true≢false (sym t ∙ h ∙ (λ i. not (f i && g i)))

-- a token at the place among these
abbrev IsAmong : List Token → Place → Type 0
IsAmong ts place = (t : Token) × Contains ts t × (t.place ≡ place)

behind : (ts : List Token) (i : ℕ) (d : Token) (place : Place) → (get_or ts i d).place ≢ place → IsAmong (drop i ts) place → IsAmong (drop (suc i) ts) place
behind [] zero d place n (t, (k, h, e), p) = absurd (omega (arith, h))
behind [] (suc i) d place n (t, (k, h, e), p) = absurd (omega (arith, h))
behind (x ∷ ts) zero d place n (t, (zero, h, e), p) = absurd (n (ap (λ (u : Token). u.place) e ∙ p))
behind (x ∷ ts) zero d place n (t, (suc k, h, e), p) = (t, (k, omega (arith, h), e), p)
behind (x ∷ ts) (suc i) d place n w = behind ts i d place n w

-- the first of those that are left isn't at the place, so that the one there is behind it
pub further : (ts : List Token) (i : ℕ) (d : Token) (place : Place) (b : Bool) → b ≡ not (eqb (get_or ts i d).place.file place.file && eqb (get_or ts i d).place.token place.token) → b ≡ true
    → IsAmong (drop i ts) place → IsAmong (drop (i + 1) ts) place
further ts i d place b h t w = subst (λ n. IsAmong (drop n ts) place) (sym (add-one i)) (behind ts i d place (differ (get_or ts i d).place place b h t) w)

-- ---- the unit in which it stands

-- the unit at a position has the text there
pub unit_text : (units : List TypedUnit) (i : ℕ) (text : Text) (d : TypedUnit) → slice_get (texts_of units) i ≡ Some text → text ≡ text_of (get_or units i d)
unit_text [] i text d e = cc
unit_text (u ∷ units) zero text d e = let s : text_of u ≡ text = cc in sym s
unit_text (u ∷ units) (suc i) text d e = unit_text units i text d e

pub unit_within : (names : List (List ℕ)) (units : List TypedUnit) (place : Place) → HaveToken names (texts_of units) place → place.file < length units
unit_within names units place h = let k = slice_get_within (texts_of units) place.file h.text h.here in omega (arith, k, length-map units text_of)

named-of : (names : List (List ℕ)) (ts : List Token) (t : Token) → AreNamed names ts → Contains ts t → IsNamed names t.source
named-of names [] t n (k, h, e) = absurd (omega (arith, h))
named-of names (u ∷ ts) t n (zero, h, e) = subst (λ (v : Token). IsNamed names v.source) e n.0
named-of names (u ∷ ts) t n (suc k, h, e) = named-of names ts t n.1 (k, omega (arith, h), e)

module _ (names : List (List ℕ)) (units : List TypedUnit) (place : Place) (h : HaveToken names (texts_of units) place) (d : TypedUnit) where
  text-is : h.text ≡ text_of (get_or units place.file d)
  text-is = unit_text units place.file h.text d h.here

  -- a token stands there
  pub token_there : (t : Token) × Contains (get_or units place.file d).unit.tokens.now t × (t.place ≡ place)
  token_there = (h.token, subst (λ (x : Text). Contains x.tokens h.token) text-is h.among, h.place_is)

  -- the presumed file of a token of this unit is a name
  pub source_within : (t : Token) → Contains (get_or units place.file d).unit.tokens.now t → t.source < length names
  source_within t among =
      let n = named-of names (get_or units place.file d).unit.tokens.now t (subst (λ (x : Text). AreNamed names x.tokens) text-is h.named) among in
      slice_get_within names t.source n.0 n.1

  pub where_is : (t : Token) (file text : List ℕ) → Contains (get_or units place.file d).unit.tokens.now t → t.place ≡ place → slice_get names t.source ≡ Some text → file ≡ text → IsWhere names (texts_of units) place file t.line
  where_is t file text among at named e = record {
    text = text_of (get_or units place.file d);
    here = h.here ∙ ap Some text-is;
    token = t;
    among = among;
    place_is = at;
    file_is = named ∙ ap Some (sym e);
    line_is = refl;
  }
