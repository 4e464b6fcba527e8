-- Specifiers that are gone over one after the other.
use Rattle.std.proofs.Common.{◌≡◌, ℕ, ◌+◌, ◌<◌, ◌≤◌, Bool, ◌||◌, false, List, [], ◌++◌, length, get_or, drop, ap, refl, sym, ◌∙◌}
use Rattle.std.proofs.lemmas.List.{drop_all, append_assoc, append-nil}
use Rattle.c_tree.specs.declared.keyword.Keyword.{Keyword}
use Rattle.c_tree.specs.declared.tree.Tree.{Tree}
use Rattle.c_tree.specs.Forget.{syntaxes_of, view, view_all}
use Rattle.c_tree.specs.Syntax.{Syntax, Syntaxes, no_more, more}
use Rattle.c_tree.proofs.Rows.{nodes_drop}
use Rattle.c_grammar.specs.Specifiers.{type_words_of, other_types_of, storages_of, inlines_of, type_words, other_types, storages, inlines}

pub view_drop : (items : List Tree) (i : ℕ) (d : Tree) → i < length items → view_all (drop i items) ≡ more (view (get_or items i d)) (view_all (drop (i + 1) items))
view_drop items i d h = ap syntaxes_of (nodes_drop items i d h)

pub view_end : (items : List Tree) (i : ℕ) → length items ≤ i → view_all (drop i items) ≡ no_more
view_end items i h = ap view_all (drop_all i items h)

type_words-more : (e : Syntax) (es : Syntaxes) → type_words (more e es) ≡ type_words_of e ++ type_words es
unfolding type_words
type_words-more e es = refl

type_words-none : type_words no_more ≡ []
unfolding type_words
type_words-none = refl

storages-more : (e : Syntax) (es : Syntaxes) → storages (more e es) ≡ storages_of e ++ storages es
unfolding storages
storages-more e es = refl

storages-none : storages no_more ≡ []
unfolding storages
storages-none = refl

other_types-more : (e : Syntax) (es : Syntaxes) → other_types (more e es) ≡ other_types_of e + other_types es
unfolding other_types
other_types-more e es = refl

other_types-none : other_types no_more ≡ 0
unfolding other_types
other_types-none = refl

inlines-more : (e : Syntax) (es : Syntaxes) → inlines (more e es) ≡ (inlines_of e || inlines es)
unfolding inlines
inlines-more e es = refl

inlines-none : inlines no_more ≡ false
unfolding inlines
inlines-none = refl

-- words that are gathered: those so far, and those of the specifiers that are left
gathered : (one : Syntax → List Keyword) (all : Syntaxes → List Keyword) → ((e : Syntax) (es : Syntaxes) → all (more e es) ≡ one e ++ all es)
    → (items : List Tree) (i : ℕ) (d : Tree) (ws xs new whole : List Keyword) → i < length items → new ≡ ws ++ xs → xs ≡ one (view (get_or items i d))
    → ws ++ all (view_all (drop i items)) ≡ whole → new ++ all (view_all (drop (i + 1) items)) ≡ whole
gathered one all grows items i d ws xs new whole h n x w =
    ap (λ s. s ++ all (view_all (drop (i + 1) items))) (n ∙ ap (λ y. ws ++ y) x)
    ∙ append_assoc ws (one (view (get_or items i d))) (all (view_all (drop (i + 1) items)))
    ∙ ap (λ y. ws ++ y) (sym (ap all (view_drop items i d h) ∙ grows (view (get_or items i d)) (view_all (drop (i + 1) items))))
    ∙ w

pub type_words-next : (items : List Tree) (i : ℕ) (d : Tree) (ws xs new whole : List Keyword) → i < length items → new ≡ ws ++ xs → xs ≡ type_words_of (view (get_or items i d))
    → ws ++ type_words (view_all (drop i items)) ≡ whole → new ++ type_words (view_all (drop (i + 1) items)) ≡ whole
type_words-next = gathered type_words_of type_words type_words-more

pub storages-next : (items : List Tree) (i : ℕ) (d : Tree) (ws xs new whole : List Keyword) → i < length items → new ≡ ws ++ xs → xs ≡ storages_of (view (get_or items i d))
    → ws ++ storages (view_all (drop i items)) ≡ whole → new ++ storages (view_all (drop (i + 1) items)) ≡ whole
storages-next = gathered storages_of storages storages-more

pub type_words-end : (items : List Tree) (i : ℕ) (ws whole : List Keyword) → length items ≤ i → ws ++ type_words (view_all (drop i items)) ≡ whole → ws ≡ whole
type_words-end items i ws whole h w = sym (append-nil ws) ∙ sym (ap (λ y. ws ++ y) (ap type_words (view_end items i h) ∙ type_words-none)) ∙ w

pub storages-end : (items : List Tree) (i : ℕ) (ws whole : List Keyword) → length items ≤ i → ws ++ storages (view_all (drop i items)) ≡ whole → ws ≡ whole
storages-end items i ws whole h w = sym (append-nil ws) ∙ sym (ap (λ y. ws ++ y) (ap storages (view_end items i h) ∙ storages-none)) ∙ w

pub other_types-next : (items : List Tree) (i : ℕ) (d : Tree) (n : ℕ) → i < length items → n ≡ other_types_of (view (get_or items i d)) → other_types (view_all (drop i items)) ≡ n + other_types (view_all (drop (i + 1) items))
other_types-next items i d n h e = ap other_types (view_drop items i d h) ∙ other_types-more (view (get_or items i d)) (view_all (drop (i + 1) items)) ∙ ap (λ x. x + other_types (view_all (drop (i + 1) items))) (sym e)

pub other_types-end : (items : List Tree) (i : ℕ) → length items ≤ i → other_types (view_all (drop i items)) ≡ 0
other_types-end items i h = ap other_types (view_end items i h) ∙ other_types-none

pub inlines-next : (items : List Tree) (i : ℕ) (d : Tree) (b : Bool) → i < length items → b ≡ inlines_of (view (get_or items i d)) → inlines (view_all (drop i items)) ≡ (b || inlines (view_all (drop (i + 1) items)))
inlines-next items i d b h e = ap inlines (view_drop items i d h) ∙ inlines-more (view (get_or items i d)) (view_all (drop (i + 1) items)) ∙ ap (λ x. x || inlines (view_all (drop (i + 1) items))) (sym e)

pub inlines-end : (items : List Tree) (i : ℕ) → length items ≤ i → inlines (view_all (drop i items)) ≡ false
inlines-end items i h = ap inlines (view_end items i h) ∙ inlines-none
