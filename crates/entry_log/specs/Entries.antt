-- What a contract sees of a log: its entries, each a key with the number of a block, in the order in which they came.
use Rattle.std.specs.Prelude.{◌≡◌, ℕ, Bool, ◌&&◌, not, List, nat_eq, refl}
use Rattle.std.specs.Coded.{Coded, code_by, coded×, coded_ℕ, coded_list}
use Rattle.std.specs.List.{list_any}
use Rattle.indexmap.specs.IndexSet.{insert_key}

pub record Entries (K : Type 0) : Type 0 where
  pub keys : List (K × ℕ)

abbrev pub entries_code : {K : Type 0} → Coded K → Coded (Entries K)
entries_code {K} k = code_by (List (K × ℕ)) (coded_list (coded× k coded_ℕ)) (λ l. l.keys) (λ ks. record { keys = ks }) (λ _. refl)

module _ {K : Type 0} (eq : K → K → Bool) where
  -- `==` on entries
  abbrev pub same_entry : K × ℕ → K × ℕ → Bool
  same_entry x y = eq x.0 y.0 && nat_eq x.1 y.1

  -- one of the entries is equal to e
  abbrev pub has_entry : List (K × ℕ) → K × ℕ → Bool
  has_entry es e = list_any (same_entry e) es

  -- the entries after `insert` of e, which says whether it was added
  pub record Inserts (old new : List (K × ℕ)) (e : K × ℕ) (added : Bool) : Type 0 where
    pub added_if_new : added ≡ not (has_entry old e)
    pub last : new ≡ insert_key same_entry old e
