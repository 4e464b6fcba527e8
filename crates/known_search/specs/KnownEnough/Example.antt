-- A function that copies a pointer and frees it twice: its links describe it, and what is found over them is the copy alone.
use Rattle.std.specs.Prelude.{◌≡◌, IsTrue}
use Rattle.path_theory.specs.Numbered.{model, origins_of, supergraph_of}
use Rattle.masked_paths.specs.Example.{frees, copy_and_free, the_copy}
use Rattle.masked_paths.specs.Met.{at_events}
use Rattle.known_search.specs.KnownEnough.Described.{Describes}
use Rattle.known_search.specs.KnownEnough.Theorems.{Search}

-- object 0 is the copy, and 1 what is copied
pub record CopyIsFound : Type 0 where
  pub search : Search
  pub checker : search.checker ≡ frees
  pub follows : search.objects ≡ the_copy
  pub describes : Describes (model frees) (supergraph_of frees copy_and_free) (origins_of frees) search.at (λ f o. IsTrue (search.is_bound f o)) (λ f b o. IsTrue (search.moves f b o)) (λ k f o h c. IsTrue (search.enters k f o h c)) (λ k h d f o. IsTrue (search.hands k h d f o)) (at_events (model frees) (supergraph_of frees copy_and_free))
