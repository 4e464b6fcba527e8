-- WHAT THE FILES OF A REQUEST MEAN: the reports of its checkers over its C files. The contents of all files stand in one list, those of
-- the checkers first.
use Rattle.std.specs.Prelude.{◌≡◌, ℕ, ◌+◌, List, [], ◌++◌, length, None}
use Rattle.path_model.specs.CheckerPrograms.Texts.{functions_in}
use Rattle.typed_unit.specs.Texts.{Text}
use Rattle.mx_io.specs.Bytes.{Bytes, Words}
use Rattle.command.specs.CheckerReports.Checkers.{checkers_in}
use Rattle.command.specs.CheckerReports.Errors.{AreErrors}
use Rattle.metal_tree.specs.MetalMachines.Machine.{Machine}
use Rattle.call_graph.specs.OfPrograms.Repeats.{link_fault}
use Rattle.report_model.specs.declared.report.Report.{Report}
use Rattle.request_files.specs.Faults.{Before}
use Rattle.request_files.specs.Meanings.{HaveMachines, HaveTexts}
use Rattle.request_files.specs.Reading.{AreSound, at_first}
use Rattle.request_files.specs.Turns.{turns}

-- the checkers with these words and contents have these machines, the C files these texts, and these are the names behind all
pub record HaveMeanings (checkers sources : Words) (contents names : List Bytes) (machines : List Machine) (texts : List Text) : Type 0 where
  pub checker_contents : List Bytes
  pub source_contents : List Bytes
  pub whole : contents ≡ checker_contents ++ source_contents
  pub between : List Bytes
  pub machines_are : HaveMachines 0 [] between checkers checker_contents machines
  pub texts_are : HaveTexts 0 between names sources source_contents texts

-- the C files have texts that can be linked, since no two bodies clash
pub record AreLinked (checkers sources : Words) (contents : List Bytes) : Type 0 where
  pub names : List Bytes
  pub machines : List Machine
  pub texts : List Text
  pub meanings : HaveMeanings checkers sources contents names machines texts
  pub linked : link_fault (functions_in texts) ≡ None

-- THE REPORTS of files with these words and contents, where objects have at most so many steps
pub record AreJudged (checkers sources : Words) (contents : List Bytes) (depth : ℕ) (reports : List Report) : Type 0 where
  pub names : List Bytes
  pub machines : List Machine
  pub texts : List Text
  pub meanings : HaveMeanings checkers sources contents names machines texts
  pub linked : link_fault (functions_in texts) ≡ None
  pub reports_are : ∥ AreErrors (checkers_in machines depth names) texts reports ∥₁

-- all files of a request were read, hold these bytes, and have no fault of their own
pub record AreAllSound (Holds : Bytes → Bytes → Type 0) (checkers sources : Words) (contents : List Bytes) : Type 0 where
  pub end : Before
  pub sound : AreSound Holds at_first (turns checkers sources) contents end
  pub count : length contents ≡ length checkers + length sources

-- all files of a request were read, none has a fault, they can be linked, and these are their reports
pub record AreAccepted (Holds : Bytes → Bytes → Type 0) (checkers sources : Words) (depth : ℕ) (reports : List Report) : Type 0 where
  pub contents : List Bytes
  pub sound : AreAllSound Holds checkers sources contents
  pub judged : AreJudged checkers sources contents depth reports
