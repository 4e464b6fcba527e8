-- The words stand for the request that is read.
use Rattle.std.proofs.Common.{◌≡◌, ℕ, ◌-◌, Bool, true, false, cond, not, ◌&&◌, List, [], ◌∷◌, ◌++◌, length, take, drop, Option, None, Some, is_some, unwrap_or, codes, ap, refl, sym, ◌∙◌, subst, true≢false}
use Rattle.std.specs.List.{list_any, list_all, flat_map}
use Rattle.std.specs.Str.{bytes_eq}
use Rattle.std.proofs.lemmas.List.{take-append-drop}
use Rattle.std.proofs.lemmas.Slice.Eq.{bytes_eq-Decides}
use Rattle.mx_io.specs.Bytes.{Bytes, Words}
use Rattle.command_words.specs.declared.given.Waits.{Waits}
use Rattle.command_words.specs.declared.given.Waits.TheVariants.{ForOption, ForDepth, ForFormat}
use Rattle.command_words.specs.Words.{Setting, DepthApart, DepthJoined, FormatApart, FormatJoined, Stats, spelled, is_setting, is_depth_digit, is_option, starts_with_minus, are_few, depths, formats, marks, IsOnly, depth_or_usual, is_marked, divider, Request, IsRequest}
use Rattle.command_words.specs.Ways.Reading.{Chosen, chosen, Turn, Next, File, End, Wrong, depth_of, depth_turn, format_turn, stats_turn, turn_for, behind, joined_depth, joined_format, joined_turn, option_turn, turn, turn_of, turned, asked, finished, plainly_finished, reading, nothing_chosen}
use Rattle.command_words.proofs.Complete.{listed, flag, read_as}

-- the words that are left stand for the request, behind what was set before
record Continues (d : Option ℕ) (f : Option Bytes) (s : Bool) (words : Words) (r : Request) : Type 0 where
  settings : List Setting
  divided : Bool
  whole : words ≡ flat_map spelled settings ++ (divider divided ++ r.files)
  right : list_all is_setting settings ≡ true
  plain : divided ≡ false → list_any is_option r.files ≡ false
  few : are_few r.files ≡ true
  chosen_depth : Option ℕ
  one_depth : IsOnly (listed d ++ depths settings) chosen_depth
  depth_is : r.depth ≡ depth_or_usual chosen_depth
  format_is : IsOnly (listed f ++ formats settings) r.format
  chosen_mark : Option Bool
  one_mark : IsOnly (flag s ++ marks settings) chosen_mark
  stats_is : r.stats ≡ is_marked chosen_mark

abbrev Pends : Waits → Option ℕ → Option Bytes → Bool → Words → Request → Type 0
Pends ForOption d f s ws r = Continues d f s ws r
Pends ForDepth d f s ws r = Continues d f s (codes "--depth" ∷ ws) r
Pends ForFormat d f s ws r = Continues d f s (codes "--format" ∷ ws) r

abbrev Goes : Words → Request → Chosen → Type 0
Goes ws r n = Pends n.waits n.depth n.format n.stats ws r

abbrev next_or : Chosen → Turn → Chosen
next_or c (Next n) = n
next_or c File = c
next_or c End = c
next_or c Wrong = c

abbrev is_next : Turn → Bool
is_next (Next n) = true
is_next File = false
is_next End = false
is_next Wrong = false

-- a FILE or the end of the options
abbrev stops : Turn → Bool
stops (Next n) = false
stops File = true
stops End = true
stops Wrong = false

abbrev is_end : Turn → Bool
is_end (Next n) = false
is_end File = false
is_end End = true
is_end Wrong = false

same_next : (a b : Chosen) → Next a ≡ Next b → a ≡ b
same_next a b h = ap (next_or a) h

same_some : {A : Type 0} (a b : A) → Some a ≡ Some b → a ≡ b
same_some a b h = ap (λ o. unwrap_or o a) h

same_bytes : (xs ys : Bytes) → bytes_eq xs ys ≡ true → xs ≡ ys
same_bytes xs ys h = (bytes_eq-Decides xs ys).0 h

add_depth_apart : (digit : ℕ) (f : Option Bytes) (s : Bool) (ws : Words) (r : Request) → is_depth_digit digit ≡ true → Continues (Some (digit - 48)) f s ws r → Continues None f s (codes "--depth" ∷ (digit ∷ []) ∷ ws) r
add_depth_apart digit f s ws r ok c = record {
  settings = DepthApart digit ∷ c.settings;
  divided = c.divided;
  whole = ap (λ xs. codes "--depth" ∷ (digit ∷ []) ∷ xs) c.whole;
  right = ap (λ b. b && list_all is_setting c.settings) ok ∙ c.right;
  plain = c.plain;
  few = c.few;
  chosen_depth = c.chosen_depth;
  one_depth = c.one_depth;
  depth_is = c.depth_is;
  format_is = c.format_is;
  chosen_mark = c.chosen_mark;
  one_mark = c.one_mark;
  stats_is = c.stats_is;
}

add_depth_joined : (digit : ℕ) (f : Option Bytes) (s : Bool) (ws : Words) (r : Request) → is_depth_digit digit ≡ true → Continues (Some (digit - 48)) f s ws r → Continues None f s ((codes "--depth=" ++ (digit ∷ [])) ∷ ws) r
add_depth_joined digit f s ws r ok c = record {
  settings = DepthJoined digit ∷ c.settings;
  divided = c.divided;
  whole = ap (λ xs. (codes "--depth=" ++ (digit ∷ [])) ∷ xs) c.whole;
  right = ap (λ b. b && list_all is_setting c.settings) ok ∙ c.right;
  plain = c.plain;
  few = c.few;
  chosen_depth = c.chosen_depth;
  one_depth = c.one_depth;
  depth_is = c.depth_is;
  format_is = c.format_is;
  chosen_mark = c.chosen_mark;
  one_mark = c.one_mark;
  stats_is = c.stats_is;
}

add_format_apart : (name : Bytes) (d : Option ℕ) (s : Bool) (ws : Words) (r : Request) → starts_with_minus name ≡ false → Continues d (Some name) s ws r → Continues d None s (codes "--format" ∷ name ∷ ws) r
add_format_apart name d s ws r ok c = record {
  settings = FormatApart name ∷ c.settings;
  divided = c.divided;
  whole = ap (λ xs. codes "--format" ∷ name ∷ xs) c.whole;
  right = ap (λ b. not b && list_all is_setting c.settings) ok ∙ c.right;
  plain = c.plain;
  few = c.few;
  chosen_depth = c.chosen_depth;
  one_depth = c.one_depth;
  depth_is = c.depth_is;
  format_is = c.format_is;
  chosen_mark = c.chosen_mark;
  one_mark = c.one_mark;
  stats_is = c.stats_is;
}

add_format_joined : (name : Bytes) (d : Option ℕ) (s : Bool) (ws : Words) (r : Request) → Continues d (Some name) s ws r → Continues d None s ((codes "--format=" ++ name) ∷ ws) r
add_format_joined name d s ws r c = record {
  settings = FormatJoined name ∷ c.settings;
  divided = c.divided;
  whole = ap (λ xs. (codes "--format=" ++ name) ∷ xs) c.whole;
  right = c.right;
  plain = c.plain;
  few = c.few;
  chosen_depth = c.chosen_depth;
  one_depth = c.one_depth;
  depth_is = c.depth_is;
  format_is = c.format_is;
  chosen_mark = c.chosen_mark;
  one_mark = c.one_mark;
  stats_is = c.stats_is;
}

add_stats : (d : Option ℕ) (f : Option Bytes) (ws : Words) (r : Request) → Continues d f true ws r → Continues d f false (codes "--stats" ∷ ws) r
add_stats d f ws r c = record {
  settings = Stats ∷ c.settings;
  divided = c.divided;
  whole = ap (λ xs. codes "--stats" ∷ xs) c.whole;
  right = c.right;
  plain = c.plain;
  few = c.few;
  chosen_depth = c.chosen_depth;
  one_depth = c.one_depth;
  depth_is = c.depth_is;
  format_is = c.format_is;
  chosen_mark = c.chosen_mark;
  one_mark = c.one_mark;
  stats_is = c.stats_is;
}

depth_here : (word : Bytes) (v : ℕ) → depth_of word ≡ Some v → (digit : ℕ) × (word ≡ digit ∷ []) × (is_depth_digit digit ≡ true) × (digit - 48 ≡ v)
depth_here [] v h = absurd (true≢false (sym (ap is_some h)))
depth_here (b ∷ []) v h = by (is_depth_digit b) refl h
  where
    by : (q : Bool) → is_depth_digit b ≡ q → cond q (Some (b - 48)) None ≡ Some v → (digit : ℕ) × (b ∷ [] ≡ digit ∷ []) × (is_depth_digit digit ≡ true) × (digit - 48 ≡ v)
    by true e g = (b, refl, e, same_some (b - 48) v g)
    by false e g = absurd (true≢false (sym (ap is_some g)))
depth_here (b ∷ x ∷ xs) v h = absurd (true≢false (sym (ap is_some h)))

behind_here : (start word v : Bytes) → behind start word ≡ Some v → word ≡ start ++ v
behind_here start word v h = by (bytes_eq (take (length start) word) start) refl h
  where
    by : (q : Bool) → bytes_eq (take (length start) word) start ≡ q → cond q (Some (drop (length start) word)) None ≡ Some v → word ≡ start ++ v
    by true e g = sym (take-append-drop (length start) word) ∙ ap (λ x. x ++ drop (length start) word) (same_bytes (take (length start) word) start e) ∙ ap (λ x. start ++ x) (same_some (drop (length start) word) v g)
    by false e g = absurd (true≢false (sym (ap is_some g)))

module _ (ws : Words) (r : Request) (n : Chosen) (p : Goes ws r n) where
  depth_back : (Q : Option ℕ → Type 0) (f : Option Bytes) (s : Bool) (o : Option ℕ) (d : Option ℕ) → depth_turn d f s o ≡ Next n
      → ((v : ℕ) → o ≡ Some v → Continues (Some v) f s ws r → Q None) → Q d
  depth_back Q f s None None h go = absurd (true≢false (sym (ap is_next h)))
  depth_back Q f s (Some v) None h go = go v refl (subst (Goes ws r) (sym (same_next (chosen ForOption (Some v) f s) n h)) p)
  depth_back Q f s o (Some x) h go = absurd (true≢false (sym (ap is_next h)))

  format_back : (Q : Option Bytes → Type 0) (d : Option ℕ) (s : Bool) (name : Bytes) (f : Option Bytes) → format_turn d f s name ≡ Next n
      → (Continues d (Some name) s ws r → Q None) → Q f
  format_back Q d s name None h go = go (subst (Goes ws r) (sym (same_next (chosen ForOption d (Some name) s) n h)) p)
  format_back Q d s name (Some x) h go = absurd (true≢false (sym (ap is_next h)))

  stats_back : (d : Option ℕ) (f : Option Bytes) (s : Bool) → stats_turn d f s ≡ Next n → Continues d f s (codes "--stats" ∷ ws) r
  stats_back d f false h = add_stats d f ws r (subst (Goes ws r) (sym (same_next (chosen ForOption d f true) n h)) p)
  stats_back d f true h = absurd (true≢false (sym (ap is_next h)))

  depth_word : (d : Option ℕ) (f : Option Bytes) (s : Bool) (word : Bytes) → depth_turn d f s (depth_of word) ≡ Next n → Continues d f s (codes "--depth" ∷ word ∷ ws) r
  depth_word d f s word h = depth_back (λ e. Continues e f s (codes "--depth" ∷ word ∷ ws) r) f s (depth_of word) d h by
    where
      by : (v : ℕ) → depth_of word ≡ Some v → Continues (Some v) f s ws r → Continues None f s (codes "--depth" ∷ word ∷ ws) r
      by v e c =
          let q = depth_here word v e in
          subst (λ x. Continues None f s (codes "--depth" ∷ x ∷ ws) r) (sym q.1)
          (add_depth_apart q.0 f s ws r q.2 (subst (λ x. Continues (Some x) f s ws r) (sym q.3) c))

  depth_value : (d : Option ℕ) (f : Option Bytes) (s : Bool) (word value : Bytes) → word ≡ codes "--depth=" ++ value → depth_turn d f s (depth_of value) ≡ Next n → Continues d f s (word ∷ ws) r
  depth_value d f s word value w h = depth_back (λ e. Continues e f s (word ∷ ws) r) f s (depth_of value) d h by
    where
      by : (v : ℕ) → depth_of value ≡ Some v → Continues (Some v) f s ws r → Continues None f s (word ∷ ws) r
      by v e c =
          let q = depth_here value v e in
          subst (λ x. Continues None f s (x ∷ ws) r) (sym (w ∙ ap (λ x. codes "--depth=" ++ x) q.1))
          (add_depth_joined q.0 f s ws r q.2 (subst (λ x. Continues (Some x) f s ws r) (sym q.3) c))

  format_word : (d : Option ℕ) (f : Option Bytes) (s : Bool) (word : Bytes) (b : Bool) → starts_with_minus word ≡ b → cond b Wrong (format_turn d f s word) ≡ Next n
      → Continues d f s (codes "--format" ∷ word ∷ ws) r
  format_word d f s word true e h = absurd (true≢false (sym (ap is_next h)))
  format_word d f s word false e h = format_back (λ g. Continues d g s (codes "--format" ∷ word ∷ ws) r) d s word f h (add_format_apart word d s ws r e)

  format_value : (d : Option ℕ) (f : Option Bytes) (s : Bool) (word : Bytes) (o : Option Bytes) → behind (codes "--format=") word ≡ o → joined_format d f s o ≡ Next n → Continues d f s (word ∷ ws) r
  format_value d f s word None e h = absurd (true≢false (sym (ap is_next h)))
  format_value d f s word (Some name) e h =
      subst (λ x. Continues d f s (x ∷ ws) r) (sym (behind_here (codes "--format=") word name e))
      (format_back (λ g. Continues d g s ((codes "--format=" ++ name) ∷ ws) r) d s name f h (add_format_joined name d s ws r))

  joined_back : (d : Option ℕ) (f : Option Bytes) (s : Bool) (word : Bytes) (o : Option Bytes) → behind (codes "--depth=") word ≡ o
      → joined_depth d f s o (joined_format d f s (behind (codes "--format=") word)) ≡ Next n → Continues d f s (word ∷ ws) r
  joined_back d f s word None e h = format_value d f s word (behind (codes "--format=") word) refl h
  joined_back d f s word (Some value) e h = depth_value d f s word value (behind_here (codes "--depth=") word value e) h

  at_format : (d : Option ℕ) (f : Option Bytes) (s : Bool) (word : Bytes) (b : Bool) → bytes_eq word (codes "--format") ≡ b
      → cond b (turn_for ForFormat d f s) (joined_turn d f s word) ≡ Next n → Continues d f s (word ∷ ws) r
  at_format d f s word true e h =
      subst (λ x. Continues d f s (x ∷ ws) r) (sym (same_bytes word (codes "--format") e)) (subst (Goes ws r) (sym (same_next (chosen ForFormat d f s) n h)) p)
  at_format d f s word false e h = joined_back d f s word (behind (codes "--depth=") word) refl h

  at_depth : (d : Option ℕ) (f : Option Bytes) (s : Bool) (word : Bytes) (b : Bool) → bytes_eq word (codes "--depth") ≡ b
      → cond b (turn_for ForDepth d f s) (cond (bytes_eq word (codes "--format")) (turn_for ForFormat d f s) (joined_turn d f s word)) ≡ Next n → Continues d f s (word ∷ ws) r
  at_depth d f s word true e h =
      subst (λ x. Continues d f s (x ∷ ws) r) (sym (same_bytes word (codes "--depth") e)) (subst (Goes ws r) (sym (same_next (chosen ForDepth d f s) n h)) p)
  at_depth d f s word false e h = at_format d f s word (bytes_eq word (codes "--format")) refl h

  at_stats : (d : Option ℕ) (f : Option Bytes) (s : Bool) (word : Bytes) (b : Bool) → bytes_eq word (codes "--stats") ≡ b
      → cond b (stats_turn d f s) (cond (bytes_eq word (codes "--depth")) (turn_for ForDepth d f s) (cond (bytes_eq word (codes "--format")) (turn_for ForFormat d f s) (joined_turn d f s word))) ≡ Next n
      → Continues d f s (word ∷ ws) r
  at_stats d f s word true e h = subst (λ x. Continues d f s (x ∷ ws) r) (sym (same_bytes word (codes "--stats") e)) (stats_back d f s h)
  at_stats d f s word false e h = at_depth d f s word (bytes_eq word (codes "--depth")) refl h

  at_option : (d : Option ℕ) (f : Option Bytes) (s : Bool) (word : Bytes) (b : Bool) → cond b End (cond (bytes_eq word (codes "--stats")) (stats_turn d f s) (cond (bytes_eq word (codes "--depth")) (turn_for ForDepth d f s) (cond (bytes_eq word (codes "--format")) (turn_for ForFormat d f s) (joined_turn d f s word)))) ≡ Next n
      → Continues d f s (word ∷ ws) r
  at_option d f s word true h = absurd (true≢false (sym (ap is_next h)))
  at_option d f s word false h = at_stats d f s word (bytes_eq word (codes "--stats")) refl h

  at_word : (d : Option ℕ) (f : Option Bytes) (s : Bool) (word : Bytes) (b : Bool) → cond b (option_turn d f s word) File ≡ Next n → Continues d f s (word ∷ ws) r
  at_word d f s word true h = at_option d f s word (bytes_eq word (codes "--")) h
  at_word d f s word false h = absurd (true≢false (sym (ap is_next h)))

  next_back : (k : Waits) (d : Option ℕ) (f : Option Bytes) (s : Bool) (word : Bytes) → turn k d f s word ≡ Next n → Pends k d f s (word ∷ ws) r
  next_back ForOption d f s word h = at_word d f s word (is_option word) h
  next_back ForDepth d f s word h = depth_word d f s word h
  next_back ForFormat d f s word h = format_word d f s word (starts_with_minus word) refl h

only_here : {A : Type 0} (one : Option A) → IsOnly (listed one ++ []) one
only_here None = refl
only_here (Some x) = refl

abbrev mark_of : Bool → Option Bool
mark_of false = None
mark_of true = Some true

mark_here : (s : Bool) → IsOnly (flag s ++ []) (mark_of s)
mark_here false = refl
mark_here true = refl

mark_back : (s : Bool) → s ≡ is_marked (mark_of s)
mark_back false = refl
mark_back true = refl

ends : (divided : Bool) (k : Waits) (d : Option ℕ) (f : Option Bytes) (s : Bool) (files : Words) (r : Request) (b : Bool) → are_few files ≡ b
    → (divided ≡ false → list_any is_option files ≡ false) → cond b (Some (asked (depth_or_usual d) f s files)) None ≡ Some r → Continues d f s (divider divided ++ files) r
ends divided k d f s files r false e plain h = absurd (true≢false (sym (ap is_some h)))
ends divided k d f s files r true e plain h =
    subst (Continues d f s (divider divided ++ files)) (same_some (asked (depth_or_usual d) f s files) r h)
    (record {
      settings = [];
      divided = divided;
      whole = refl;
      right = refl;
      plain = plain;
      few = e;
      chosen_depth = d;
      one_depth = only_here d;
      depth_is = refl;
      format_is = only_here f;
      chosen_mark = mark_of s;
      one_mark = mark_here s;
      stats_is = mark_back s;
    })

depth_goes : (d : Option ℕ) (f : Option Bytes) (s : Bool) (o : Option ℕ) → stops (depth_turn d f s o) ≡ false
depth_goes None f s None = refl
depth_goes None f s (Some v) = refl
depth_goes (Some x) f s o = refl

format_goes : (d : Option ℕ) (f : Option Bytes) (s : Bool) (name : Bytes) → stops (format_turn d f s name) ≡ false
format_goes d None s name = refl
format_goes d (Some x) s name = refl

stats_goes : (d : Option ℕ) (f : Option Bytes) (s : Bool) → stops (stats_turn d f s) ≡ false
stats_goes d f false = refl
stats_goes d f true = refl

value_goes : (d : Option ℕ) (f : Option Bytes) (s : Bool) (o : Option Bytes) → stops (joined_format d f s o) ≡ false
value_goes d f s None = refl
value_goes d f s (Some name) = format_goes d f s name

joined_goes : (d : Option ℕ) (f : Option Bytes) (s : Bool) (o q : Option Bytes) → stops (joined_depth d f s o (joined_format d f s q)) ≡ false
joined_goes d f s None q = value_goes d f s q
joined_goes d f s (Some value) q = depth_goes d f s (depth_of value)

cond_goes : (b : Bool) (t u : Turn) → stops t ≡ false → stops u ≡ false → stops (cond b t u) ≡ false
cond_goes true t u h g = h
cond_goes false t u h g = g

rest_goes : (d : Option ℕ) (f : Option Bytes) (s : Bool) (word : Bytes)
    → stops (cond (bytes_eq word (codes "--stats")) (stats_turn d f s) (cond (bytes_eq word (codes "--depth")) (turn_for ForDepth d f s) (cond (bytes_eq word (codes "--format")) (turn_for ForFormat d f s) (joined_turn d f s word)))) ≡ false
rest_goes d f s word =
    cond_goes (bytes_eq word (codes "--stats")) (stats_turn d f s) _ (stats_goes d f s)
    (cond_goes (bytes_eq word (codes "--depth")) (turn_for ForDepth d f s) _ refl
    (cond_goes (bytes_eq word (codes "--format")) (turn_for ForFormat d f s) _ refl
    (joined_goes d f s (behind (codes "--depth=") word) (behind (codes "--format=") word))))

value_word_goes : (d : Option ℕ) (f : Option Bytes) (s : Bool) (word : Bytes) → stops (cond (starts_with_minus word) Wrong (format_turn d f s word)) ≡ false
value_word_goes d f s word = cond_goes (starts_with_minus word) Wrong (format_turn d f s word) refl (format_goes d f s word)

files_back : (k : Waits) (d : Option ℕ) (f : Option Bytes) (s : Bool) (word : Bytes) (ws : Words) (r : Request) (b : Bool) → list_any is_option (word ∷ ws) ≡ b
    → cond b None (finished (chosen k d f s) (word ∷ ws)) ≡ Some r → Continues d f s (word ∷ ws) r
files_back k d f s word ws r true e h = absurd (true≢false (sym (ap is_some h)))
files_back k d f s word ws r false e h = ends false k d f s (word ∷ ws) r (are_few (word ∷ ws)) refl (λ z. e) h

file_back : (k : Waits) (d : Option ℕ) (f : Option Bytes) (s : Bool) (word : Bytes) (ws : Words) (r : Request) → turn k d f s word ≡ File
    → plainly_finished (chosen k d f s) (word ∷ ws) ≡ Some r → Pends k d f s (word ∷ ws) r
file_back ForOption d f s word ws r t h = files_back ForOption d f s word ws r (list_any is_option (word ∷ ws)) refl h
file_back ForDepth d f s word ws r t h = absurd (true≢false (sym (ap stops t) ∙ depth_goes d f s (depth_of word)))
file_back ForFormat d f s word ws r t h = absurd (true≢false (sym (ap stops t) ∙ value_word_goes d f s word))

end_word : (d : Option ℕ) (f : Option Bytes) (s : Bool) (word : Bytes) (ws : Words) (r : Request) (b : Bool) → bytes_eq word (codes "--") ≡ b
    → cond b End (cond (bytes_eq word (codes "--stats")) (stats_turn d f s) (cond (bytes_eq word (codes "--depth")) (turn_for ForDepth d f s) (cond (bytes_eq word (codes "--format")) (turn_for ForFormat d f s) (joined_turn d f s word)))) ≡ End
    → finished (chosen ForOption d f s) ws ≡ Some r → Continues d f s (word ∷ ws) r
end_word d f s word ws r true e t h =
    subst (λ x. Continues d f s (x ∷ ws) r) (sym (same_bytes word (codes "--") e))
    (ends true ForOption d f s ws r (are_few ws) refl (λ z. absurd (true≢false z)) h)
end_word d f s word ws r false e t h = absurd (true≢false (sym (ap stops t) ∙ rest_goes d f s word))

end_option : (d : Option ℕ) (f : Option Bytes) (s : Bool) (word : Bytes) (ws : Words) (r : Request) (b : Bool) → cond b (option_turn d f s word) File ≡ End
    → finished (chosen ForOption d f s) ws ≡ Some r → Continues d f s (word ∷ ws) r
end_option d f s word ws r true t h = end_word d f s word ws r (bytes_eq word (codes "--")) refl t h
end_option d f s word ws r false t h = absurd (true≢false (sym (ap is_end t)))

end_back : (k : Waits) (d : Option ℕ) (f : Option Bytes) (s : Bool) (word : Bytes) (ws : Words) (r : Request) → turn k d f s word ≡ End
    → finished (chosen k d f s) ws ≡ Some r → Pends k d f s (word ∷ ws) r
end_back ForOption d f s word ws r t h = end_option d f s word ws r (is_option word) t h
end_back ForDepth d f s word ws r t h = absurd (true≢false (sym (ap stops t) ∙ depth_goes d f s (depth_of word)))
end_back ForFormat d f s word ws r t h = absurd (true≢false (sym (ap stops t) ∙ value_word_goes d f s word))

turned_back : (c : Chosen) (word : Bytes) (ws : Words) (r : Request) → ((n : Chosen) → reading n ws ≡ Some r → Goes ws r n)
    → (t : Turn) → turn_of c word ≡ t → turned (λ m. reading m ws) c word ws t ≡ Some r → Goes (word ∷ ws) r c
turned_back c word ws r go (Next n) t h = next_back ws r n (go n h) c.waits c.depth c.format c.stats word t
turned_back c word ws r go File t h = file_back c.waits c.depth c.format c.stats word ws r t h
turned_back c word ws r go End t h = end_back c.waits c.depth c.format c.stats word ws r t h
turned_back c word ws r go Wrong t h = absurd (true≢false (sym (ap is_some h)))

read_goes : (ws : Words) (r : Request) (c : Chosen) → reading c ws ≡ Some r → Goes ws r c
read_goes [] r c h = absurd (true≢false (sym (ap is_some h)))
read_goes (word ∷ ws) r c h = turned_back c word ws r (read_goes ws r) (turn_of c word) refl h

-- what is read is the request of the words
pub found : (words : Words) (r : Request) → Some r ≡ reading nothing_chosen words → IsRequest words r
found words r h =
    let c : Continues None None false words r = read_goes words r nothing_chosen (sym h) in
    record {
      settings = c.settings;
      divided = c.divided;
      whole = c.whole;
      right = c.right;
      plain = c.plain;
      few = c.few;
      chosen_depth = c.chosen_depth;
      one_depth = c.one_depth;
      depth = c.depth_is;
      format = c.format_is;
      chosen_mark = c.chosen_mark;
      one_mark = c.one_mark;
      stats = c.stats_is;
    }

-- where none is read, there is none
pub refused : (words : Words) → None ≡ reading nothing_chosen words → (r : Request) → IsRequest words r → ⊥
refused words h r q = true≢false (sym (ap is_some (h ∙ read_as words r q)))

-- words stand for one request at most
pub one_request : (words : Words) (r q : Request) → IsRequest words r → IsRequest words q → r ≡ q
one_request words r q a b = same_some r q (sym (read_as words r a) ∙ read_as words q b)
