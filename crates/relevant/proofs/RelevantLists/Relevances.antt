-- The lists of a program: where all objects of a family were found, those that were filed are its lists.
use Rattle.std.proofs.Common.{◌≡◌, ◌↔◌, ℕ, ◌<◌, List, Contains, length, Some, ap, subst}
use Rattle.std.specs.Prelude.{slice_get}
use Rattle.std.specs.Option.{option_map}
use Rattle.std.proofs.lemmas.Option.{slice_get_within}
use Rattle.function_tables.proofs.OneByOne.{there}
use Rattle.c_objects.specs.Objects.{Object, IsObject}
use Rattle.type_rules.specs.Functions.{Defined}
use Rattle.path_model.specs.CheckerGraphs.Graphs.{function_at}
use Rattle.path_model.specs.CheckerModel.Happenings.{Function}
use Rattle.path_model.specs.CheckerModel.Reports.{Checker}
use Rattle.path_model.specs.CheckerPrograms.Texts.{functions_in, function_of}
use Rattle.typed_unit.specs.Texts.{Text}
use Rattle.relevant.specs.RelevantLists.Filed.{AreFiled}
use Rattle.relevant.specs.RelevantLists.Lists.{AreLists}
use Rattle.path_model.specs.CheckerGraphs.Members.{Member}

module _ (c : Checker) (ts : List Text) (Family : Function → Object → Type 0) (found : List Member) (lists : List (List Object)) where
  pub are-lists : ((f : Function) (o : Object) → Family f o → IsObject c.depth o)
      → ((n : ℕ) (f : Function) (o : Object) → function_at ts n ≡ Some f → Contains found (n, o) ↔ Family f o)
      → length lists ≡ length (functions_in ts) → AreFiled found lists → AreLists c ts Family lists
  are-lists plain all count filed = record {
    count = count;
    followed = followed;
    plain = λ n os e o h.
        let d = there (functions_in ts) n (subst (λ k. n < k) count (slice_get_within lists n os e)) in
        plain (function_of d.0) o ((followed n d.0 os d.1 e).0 o h);
  }
    where
      followed : (n : ℕ) (d : Defined) (os : List Object) → slice_get (functions_in ts) n ≡ Some d → slice_get lists n ≡ Some os
          → ((o : Object) → Contains os o → Family (function_of d) o) × ((o : Object) → Family (function_of d) o → Contains os o)
      followed n d os e k =
          let at = all n (function_of d) in
          let named : function_at ts n ≡ Some (function_of d) = ap (option_map function_of) e in (
            λ o h. (at o named).0 ((filed n os k).0 o h),
            λ o h. (filed n os k).1 o ((at o named).1 h),
          )
