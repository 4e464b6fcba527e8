-- The files of a request that were read and have no fault of their own: they can be linked, or have the fault of linking.
use Rattle.std.proofs.Common.{◌≡◌, inr, ℕ, suc, ◌+◌, Bool, List, [], ◌∷◌, ◌++◌, length, Option, None, refl, ap, arith, length-append}
use Rattle.std.proofs.Math.Logic.{∥∥₁_map}
use Rattle.path_model.specs.CheckerPrograms.Reported.{AreReports}
use Rattle.path_model.specs.CheckerPrograms.Texts.{functions_in}
use Rattle.typed_unit.specs.Texts.{Text}
use Rattle.command.proofs.CheckerReports.FlatPaths.{errors}
use Rattle.command.specs.CheckerReports.Checkers.{checkers_in}
use Rattle.metal_tree.specs.MetalMachines.Machine.{Machine}
use Rattle.call_graph.specs.OfPrograms.Repeats.{link_fault}
use Rattle.report_model.specs.declared.report.Report.{Report}
use Rattle.request_files.specs.InTurn.{AreReadFiles}
use Rattle.request_files.specs.Meanings.{HaveMachines, HaveTexts}
use Rattle.command.specs.JudgedFiles.FirstFault.{AnswersUnjudged, AnswersUnlinked}
use Rattle.command.specs.JudgedFiles.Judged.{AreAccepted, AreAllSound, HaveMeanings}
use Rattle.command.specs.Ways.Counts.{AreCounted, IsCountFor}
use Rattle.command.specs.declared.judged_files.unjudged.Unjudged.{Unjudged}
use Rattle.command.specs.declared.judged_files.unjudged.Unjudged.TheVariants.{NotRead, Faulty, NoMemory}

-- as many machines as checkers, and as many contents
machines-many : (n : ℕ) (before names words bs : List (List ℕ)) (ms : List Machine) → HaveMachines n before names words bs ms → (length ms ≡ length words) × (length bs ≡ length words)
machines-many n before names [] [] [] h = (refl, refl)
machines-many n before names [] [] (m ∷ ms) h = absurd h
machines-many n before names [] (b ∷ bs) ms h = absurd h
machines-many n before names (w ∷ ws) [] ms h = absurd h
machines-many n before names (w ∷ ws) (b ∷ bs) [] h = absurd h
machines-many n before names (w ∷ ws) (b ∷ bs) (m ∷ ms) (middle, c, h) = let x = machines-many (n + 1) middle names ws bs ms h in (ap suc x.0, ap suc x.1)

texts-many : (n : ℕ) (before names words bs : List (List ℕ)) (ts : List Text) → HaveTexts n before names words bs ts → (length ts ≡ length words) × (length bs ≡ length words)
texts-many n before names [] [] [] h = (refl, refl)
texts-many n before names [] [] (t ∷ ts) h = absurd h
texts-many n before names [] (b ∷ bs) ts h = absurd h
texts-many n before names (w ∷ ws) [] ts h = absurd h
texts-many n before names (w ∷ ws) (b ∷ bs) [] h = absurd h
texts-many n before names (w ∷ ws) (b ∷ bs) (t ∷ ts) (middle, s, h) = let x = texts-many (n + 1) middle names ws bs ts h in (ap suc x.0, ap suc x.1)

module _ (Holds : List ℕ → List ℕ → Type 0) (checkers sources names : List (List ℕ)) (machines : List Machine) (texts : List Text) (read : AreReadFiles Holds checkers sources names machines texts) where
  pub as_many_machines : length machines ≡ length checkers
  as_many_machines = (machines-many 0 [] read.between checkers read.checker_contents machines read.machines_are).0

  pub as_many_texts : length texts ≡ length sources
  as_many_texts = (texts-many 0 read.between names sources read.source_contents texts read.texts_are).0

  all-sound : AreAllSound Holds checkers sources (read.checker_contents ++ read.source_contents)
  all-sound = record {
    end = read.end;
    sound = read.sound;
    count =
        let a = (machines-many 0 [] read.between checkers read.checker_contents machines read.machines_are).1 in
        let b = (texts-many 0 read.between names sources read.source_contents texts read.texts_are).1 in
        let c = length-append read.checker_contents read.source_contents in
        omega (arith, a, b, c);
  }

  meanings : HaveMeanings checkers sources (read.checker_contents ++ read.source_contents) names machines texts
  meanings = record { checker_contents = read.checker_contents; source_contents = read.source_contents; whole = refl; between = read.between; machines_are = read.machines_are; texts_are = read.texts_are }

  -- they can be linked, and these are their reports
  accepted : (depth : ℕ) (reports : List Report) → link_fault (functions_in texts) ≡ None → ∥ AreReports (checkers_in machines depth names) texts reports ∥₁ → AreAccepted Holds checkers sources depth reports
  accepted depth reports linked are = record {
    contents = read.checker_contents ++ read.source_contents;
    sound = all-sound;
    judged = record { names = names; machines = machines; texts = texts; meanings = meanings; linked = linked; reports_are = ∥∥₁_map are (errors (checkers_in machines depth names) texts reports) };
  }

  -- and this is the count of what the logs of their checkers have
  pub counted : (depth : ℕ) (stats : Bool) (reports : List Report) (entries : Option ℕ) → link_fault (functions_in texts) ≡ None → ∥ AreReports (checkers_in machines depth names) texts reports ∥₁
      → IsCountFor stats (checkers_in machines depth names) texts entries → AreCounted Holds checkers sources depth stats reports entries
  unfolding accepted
  counted depth stats reports entries linked are count = record { accepted = accepted depth reports linked are; counted = count }

  -- or they can't
  pub unlinked : (old new : List (List ℕ)) (u : Unjudged) → new ≡ old → AnswersUnlinked names texts u → AnswersUnjudged Holds checkers sources old new u
  unlinked old new (NotRead position) e a = absurd a
  unlinked old new (Faulty l) e a = (inr (record { contents = read.checker_contents ++ read.source_contents; sound = all-sound; fault = record { names = names; machines = machines; texts = texts; meanings = meanings; unlinked = a } }), e)
  unlinked old new NoMemory e a = e
