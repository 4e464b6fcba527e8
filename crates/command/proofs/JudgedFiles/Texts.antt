-- The texts of C files: there are few functions in them, and the name of each is a token whose presumed file is a name.
use Rattle.std.proofs.Common.{◌≡◌, ℕ, zero, suc, ◌+◌, ◌-◌, ◌≤◌, ◌<◌, ◌⊎◌, inl, inr, List, [], ◌∷◌, ◌++◌, length, Contains, Some, slice_get, refl, sym, ap, ◌∙◌, subst, arith, length-append}
use Rattle.std.proofs.lemmas.List.Elements.{Contains-append_cases}
use Rattle.c_grammar.specs.CPlaces.Lines.{row_line}
use Rattle.c_grammar.specs.CPlaces.Stands.{Stands}
use Rattle.c_tree.specs.declared.token.Token.{Token}
use Rattle.c_lexer.specs.CReading.Pieces.{beginning}
use Rattle.c_lexer.specs.CReading.Reading.{lexemes}
use Rattle.c_lexer.specs.declared.c_reading.mode.Mode.TheVariants.{C}
use Rattle.type_rules.specs.Functions.{Defined, functions_of}
use Rattle.path_model.specs.CheckerPrograms.Texts.{functions_in}
use Rattle.typed_unit.specs.Texts.{Text}
use Rattle.command.specs.JudgedFiles.Linking.{HaveToken}
use Rattle.command.proofs.JudgedFiles.Defining.{Each, each-also, IsNamedAt, AreNamedAt, few_functions, functions_named}
use Rattle.command.proofs.JudgedFiles.Sizes.{few_lexemes, few_stripped}
use Rattle.command.proofs.JudgedFiles.Tokens.{IsOf, tokens_of, tokens_few, kept_of, among_each}
use Rattle.request_files.proofs.Unique.NamesStay.{AreKept, tokens_keep}
use Rattle.request_files.specs.Faults.{Before}
use Rattle.request_files.specs.Meanings.{HaveTexts, IsSource}
use Rattle.request_files.specs.Reading.{AreSoundFrom, AreSound, at_first}
use Rattle.request_files.specs.Ways.Stages.{AreNamed}
use Rattle.request_files.specs.Turns.{Turn}

-- a token of these, in this file, with a presumed file that names have
abbrev IsThere : ℕ → List (List ℕ) → List Token → Token → Type 0
IsThere number names ts t = Contains ts t × IsOf number names t

-- what holds of the text of one file, of so many bytes
record IsFit (number : ℕ) (names : List (List ℕ)) (size : ℕ) (t : Text) : Type 0 where
  few : length (functions_of t.trees) ≤ size
  tokens : Each (IsOf number names) t.tokens
  named : AreNamedAt (IsThere number names t.tokens) (functions_of t.trees)

source-fit : (number : ℕ) (word : List ℕ) (before names : List (List ℕ)) (bytes : List ℕ) (t : Text) → IsSource number word before names bytes t → IsFit number names (length bytes) t
source-fit number word before names bytes t s =
    let trees = s.typed.trees_are in
    let lexed = s.tokens.lexes.tokens in
    let spelled = lexemes C (beginning word) s.tokens.pieces in
    let stands : Stands (row_line t.trees) 0 trees.high t.tokens [] = subst (λ ts. Stands (row_line t.trees) 0 trees.high ts []) (sym s.kept) trees.stand in
    let tokens : Each (IsOf number names) t.tokens = subst (Each (IsOf number names)) (sym s.kept) (kept_of number names s.list.all (tokens_of number names 0 spelled s.list.all lexed)) in
    let functions = few_functions t.trees trees.high t.tokens stands in
    let stripped-few = few_stripped s.list.all in
    let as-many = tokens_few number names 0 spelled s.list.all lexed in
    let few = few_lexemes (beginning word) s.tokens.pieces bytes s.tokens.reading in
    record {
      few = omega (arith, functions, stripped-few, as-many, few, ap length s.kept);
      tokens = tokens;
      named = functions_named (IsThere number names t.tokens) t.trees trees.high t.tokens stands (among_each (IsOf number names) t.tokens tokens);
    }

-- names keep their numbers when more files are read
texts-keep : (number : ℕ) (before names words bs : List (List ℕ)) (ts : List Text) → HaveTexts number before names words bs ts → AreKept before names
texts-keep number before names [] [] [] h = subst (AreKept before) (sym h) (λ n x e. e)
texts-keep number before names [] [] (t ∷ ts) h = absurd h
texts-keep number before names [] (b ∷ bs) ts h = absurd h
texts-keep number before names (w ∷ ws) [] ts h = absurd h
texts-keep number before names (w ∷ ws) (b ∷ bs) [] h = absurd h
texts-keep number before names (w ∷ ws) (b ∷ bs) (t ∷ ts) (middle, s, h) = λ n x e. texts-keep (number + 1) middle names ws bs ts h n x (tokens_keep C number w before middle b s.list s.tokens n x e)

of-more : (number : ℕ) (front names : List (List ℕ)) → AreKept front names → (t : Token) → IsOf number front t → IsOf number names t
of-more number front names k t h = (h.0, (h.1.0, k t.source h.1.0 h.1.1))

named-also : (P Q : Token → Type 0) → ((t : Token) → P t → Q t) → (fs : List Defined) → AreNamedAt P fs → AreNamedAt Q fs
named-also P Q h [] a = tt
named-also P Q h (f ∷ fs) a = (record { token = a.0.token; holds = h a.0.token a.0.holds; place = a.0.place }, named-also P Q h fs a.1)

text-fit : (number : ℕ) (word : List ℕ) (before middle names : List (List ℕ)) (bytes : List ℕ) (t : Text) → IsSource number word before middle bytes t → AreKept middle names → IsFit number names (length bytes) t
text-fit number word before middle names bytes t h k =
    let s = source-fit number word before middle bytes t h in
    record {
      few = s.few;
      tokens = each-also (IsOf number middle) (IsOf number names) (of-more number middle names k) t.tokens s.tokens;
      named = named-also (IsThere number middle t.tokens) (IsThere number names t.tokens) (λ u x. (x.0, of-more number middle names k u x.1)) (functions_of t.trees) s.named;
    }

-- ---- the texts of all files

abbrev sizes : List (List ℕ) → ℕ
sizes [] = 0
sizes (b ∷ bs) = length b + sizes bs

few-in : (number : ℕ) (before names words bs : List (List ℕ)) (ts : List Text) → HaveTexts number before names words bs ts → length (functions_in ts) ≤ sizes bs
few-in number before names [] [] [] h = omega arith
few-in number before names [] [] (t ∷ ts) h = absurd h
few-in number before names [] (b ∷ bs) ts h = absurd h
few-in number before names (w ∷ ws) [] ts h = absurd h
few-in number before names (w ∷ ws) (b ∷ bs) [] h = absurd h
few-in number before names (w ∷ ws) (b ∷ bs) (t ∷ ts) (middle, s, h) =
    let a = (source-fit number w before middle b t s).few in
    let c = few-in (number + 1) middle names ws bs ts h in
    omega (arith, a, c, length-append (functions_of t.trees) (functions_in ts))

sizes-append : (bs cs : List (List ℕ)) → sizes (bs ++ cs) ≡ sizes bs + sizes cs
sizes-append [] cs = omega arith
sizes-append (b ∷ bs) cs = let a = sizes-append bs cs in omega (arith, a)

sizes-sound : (b end : Before) (ts : List Turn) (bs : List (List ℕ)) → AreSoundFrom b ts bs end → sizes bs ≤ b.left
sizes-sound b end ts [] a = omega arith
sizes-sound b end [] (x ∷ bs) a = absurd a
sizes-sound b end (t ∷ ts) (x ∷ bs) (next, s, a) =
    let c = sizes-sound next end ts bs a in
    let d = s.fits in
    let e = s.left in
    omega (arith, c, d, e)

-- fewer than 2^32 functions
pub few_in_all : (Holds : List ℕ → List ℕ → Type 0) (ts : List Turn) (bs cs before names words : List (List ℕ)) (texts : List Text) (end : Before) → AreSound Holds at_first ts (bs ++ cs) end → HaveTexts 0 before names words cs texts
    → length (functions_in texts) < 4294967296
few_in_all Holds ts bs cs before names words texts end s h =
    let a = few-in 0 before names words cs texts h in
    let b = sizes-sound at_first end ts (bs ++ cs) s.sound in
    let c = sizes-append bs cs in
    omega (arith, a, b, c)

-- a function of the first of these functions is one of them
named-at : (P : Token → Type 0) (fs : List Defined) (f : Defined) → AreNamedAt P fs → Contains fs f → IsNamedAt P f
named-at P [] f a c = let x = c.1 in absurd (omega (arith, x))
named-at P (g ∷ fs) f a (zero, lt, e) = subst (IsNamedAt P) e a.0
named-at P (g ∷ fs) f a (suc k, lt, e) = named-at P fs f a.1 (k, omega (arith, lt), e)

all-named : (number : ℕ) (names : List (List ℕ)) (ts : List Token) → Each (IsOf number names) ts → AreNamed names ts
all-named number names [] h = tt
all-named number names (t ∷ ts) h = (h.0.1, all-named number names ts h.1)

-- where the name of a function of these texts stands, of which the first has this number
record IsWithin (number : ℕ) (names : List (List ℕ)) (ts : List Text) (f : Defined) : Type 0 where
  position : ℕ
  text : Text
  here : slice_get ts position ≡ Some text
  token : Token
  among : Contains text.tokens token
  place_is : token.place ≡ f.place
  file_is : token.place.file ≡ number + position
  named : AreNamed names text.tokens

within : (number : ℕ) (before names words bs : List (List ℕ)) (ts : List Text) → HaveTexts number before names words bs ts → (f : Defined) → Contains (functions_in ts) f → IsWithin number names ts f
within number before names [] [] [] h f c = let x = c.1 in absurd (omega (arith, x))
within number before names [] [] (t ∷ ts) h f c = absurd h
within number before names [] (b ∷ bs) ts h f c = absurd h
within number before names (w ∷ ws) [] ts h f c = absurd h
within number before names (w ∷ ws) (b ∷ bs) [] h f c = absurd h
within number before names (w ∷ ws) (b ∷ bs) (t ∷ ts) (middle, s, h) f c =
    by (text-fit number w before middle names b t s (texts-keep (number + 1) middle names ws bs ts h)) (within (number + 1) middle names ws bs ts h f) (Contains-append_cases (functions_of t.trees) (functions_in ts) f c)
  where
    by : IsFit number names (length b) t → (Contains (functions_in ts) f → IsWithin (number + 1) names ts f) → Contains (functions_of t.trees) f ⊎ Contains (functions_in ts) f → IsWithin number names (t ∷ ts) f
    by fit behind (inl here) =
        let x = named-at (IsThere number names t.tokens) (functions_of t.trees) f fit.named here in
        record {
          position = 0;
          text = t;
          here = refl;
          token = x.token;
          among = x.holds.0;
          place_is = x.place;
          file_is = x.holds.1.0 ∙ omega arith;
          named = all-named number names t.tokens fit.tokens;
        }
    by fit behind (inr there) =
        let x = behind there in
        record {
          position = suc x.position;
          text = x.text;
          here = x.here;
          token = x.token;
          among = x.among;
          place_is = x.place_is;
          file_is = x.file_is ∙ omega arith;
          named = x.named;
        }

-- the name of each function stands at a token of its file
pub have_token : (before names words bs : List (List ℕ)) (ts : List Text) → HaveTexts 0 before names words bs ts → (f : Defined) → Contains (functions_in ts) f → HaveToken names ts f.place
have_token before names words bs ts h f c =
    let x = within 0 before names words bs ts h f c in
    let file : x.position ≡ f.place.file = sym (ap (λ (p : _). p.file) (sym x.place_is) ∙ x.file_is ∙ omega arith) in
    record { text = x.text; here = subst (λ n. slice_get ts n ≡ Some x.text) file x.here; token = x.token; among = x.among; place_is = x.place_is; named = x.named }
