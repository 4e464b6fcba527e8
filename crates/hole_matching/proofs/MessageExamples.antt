-- Messages, by computation: over the tokens of `g(p->f, (a));`, whose node `p->f` begins at the third.
use Rattle.std.proofs.Common.{◌≡◌, ℕ, [], ◌∷◌, ◌++◌, None, Some, refl, replicate}
use Rattle.std.specs.Prelude.{codes}
use Rattle.c_objects.specs.Objects.{Deref, Field, path}
use Rattle.c_objects.proofs.Building.{p, names}
use Rattle.c_tree.specs.declared.place.Place.{Place}
use Rattle.c_tree.specs.declared.token.Token.{Token}
use Rattle.c_tree.specs.declared.token.TokenKind.{TokenKind}
use Rattle.c_tree.specs.declared.token.TokenKind.TheVariants as kinds
use Rattle.c_tree.specs.declared.punctuator.Punctuator.TheVariants as marks
use Rattle.c_tree.specs.declared.token.Mark.TheVariants as marked
use Rattle.c_tree.specs.Node.{Node, node, Primary, Operation, Initializer, Declarator, Ident, Paren, Arrow, Init, Named, no_more}
use Rattle.hole_matching.specs.Matching.{One, Many}
use Rattle.metal_tree.specs.MetalMachines.Machine.{Bytes, HoleText}
use Rattle.hole_matching.specs.Message.{Source, message, shortened}
use Rattle.c_tree.specs.PathSubjects.Subjects.{Tree, DerefOf}
use Rattle.hole_matching.proofs.Building.{setting}

-- a token with this spelling, as the one of this number
abbrev at : TokenKind → ℕ → ℕ → Token
at t name k = record { kind = t; name = name; start = 0; len = 0; line = 0; col = 0; source = 0; place = record { file = 0; token = k } }

abbrev plain : ℕ → ℕ → Token
plain name k = at (kinds.Word marked.Plain) name k

-- the spellings 11 to 16 are `(`, `->`, `,`, `)`, `;` and `*`
abbrev source : Source
source = record {
  names = names ++ (codes "(" ∷ codes "->" ∷ codes "," ∷ codes ")" ∷ codes ";" ∷ codes "*" ∷ []);
  tokens =
      plain 6 0 ∷ at (kinds.Punct marks.OpenParen) 11 1 ∷ plain 0 2 ∷ at (kinds.Punct marks.Arrow) 12 3 ∷ plain 8 4
      ∷ at (kinds.Punct marks.Comma) 13 5 ∷ at (kinds.Punct marks.OpenParen) 11 6 ∷ plain 2 7
      ∷ at (kinds.Punct marks.CloseParen) 14 8 ∷ at (kinds.Punct marks.CloseParen) 14 9 ∷ at (kinds.Punct marks.Semicolon) 15 10 ∷ [];
}

abbrev here : ℕ → Place
here k = record { file = 0; token = k }

abbrev pointer : Node
pointer = node 0 (here 2) (Primary (Ident (plain 0 2)))

abbrev behind : Node
behind = node 8 (here 2) (Operation (Arrow pointer (plain 8 4)))

abbrev array : Node
array = node 2 (here 7) (Primary (Ident (plain 2 7)))

abbrev in_parens : Node
in_parens = node 99 (here 6) (Primary (Paren array))

-- a state variable by its object's text, at the place of a tree, and with `%` as a byte
pub by_object : message setting source (Bytes (codes "using ") ∷ HoleText 0 ∷ Bytes (codes "!") ∷ []) (Some (One (Tree behind)) ∷ []) (Some (path p (Deref ∷ Field 8 ∷ []))) ≡ codes "using p->f!"
by_object = refl

-- another hole by the spellings of its tokens with one blank between
by_spellings : message setting source (HoleText 1 ∷ []) (None ∷ Some (One (Tree behind)) ∷ []) None ≡ codes "p -> f"
by_spellings = refl

-- the `*p` that is read out of `p->f`
by_star : message setting source (HoleText 1 ∷ []) (None ∷ Some (One (DerefOf pointer)) ∷ []) None ≡ codes "* p"
by_star = refl

-- arguments with `,` between, and with their parentheses; none
by_arguments : message setting source (Bytes (codes "g: ") ∷ HoleText 3 ∷ []) (None ∷ None ∷ None ∷ Some (Many (Tree behind ∷ Tree in_parens ∷ [])) ∷ []) None ≡ codes "g: p -> f , ( a )"
by_arguments = refl

by_no_arguments : message setting source (Bytes (codes "g: ") ∷ HoleText 3 ∷ []) (None ∷ None ∷ None ∷ Some (Many []) ∷ []) None ≡ codes "g: "
by_no_arguments = refl

-- 200 bytes stand whole, and of 201 the first 200 with `...`; literal bytes are never cut
whole : shortened (replicate 200 97) ≡ replicate 200 97
whole = refl

cut : shortened (replicate 201 97) ≡ (replicate 200 97 ++ codes "...")
cut = refl

literal_bytes : message setting source (Bytes (replicate 201 97) ∷ []) [] None ≡ replicate 201 97
literal_bytes = refl

-- the tokens of an initialized name are those of its line: over `* q = p;`, whose spelling 17 is `=`
abbrev initialized_source : Source
initialized_source = record {
  names = source.names ++ (codes "=" ∷ []);
  tokens =
      at (kinds.Punct marks.Star) 16 0 ∷ plain 5 1 ∷ at (kinds.Punct marks.Assign) 17 2 ∷ plain 0 3 ∷ at (kinds.Punct marks.Semicolon) 15 4 ∷ [];
}

abbrev initialized : Node
initialized =
    node 99 (here 0) (Initializer (Init (node 5 (here 1) (Primary (Ident (plain 5 1)))) (node 98 (here 0) (Declarator (Named (at (kinds.Punct marks.Star) 16 0 ∷ []) (plain 5 1) no_more))) (node 0 (here 3) (Primary (Ident (plain 0 3))))))

by_initialized : message setting initialized_source (HoleText 1 ∷ []) (None ∷ Some (One (Tree initialized)) ∷ []) None ≡ codes "* q = p"
by_initialized = refl
