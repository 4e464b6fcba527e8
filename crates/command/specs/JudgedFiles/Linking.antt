-- THE FAULT OF LINKING: a function is defined a second time, in its file or with external linkage in both (ISO 9899:1990, 6.7).
use Rattle.std.specs.Prelude.{◌≡◌, ℕ, List, Contains, Some, slice_get}
use Rattle.c_tree.specs.declared.place.Place.{Place}
use Rattle.c_tree.specs.declared.token.Token.{Token}
use Rattle.path_model.specs.CheckerPrograms.Texts.{functions_in}
use Rattle.typed_unit.specs.Texts.{Text}
use Rattle.metal_tree.specs.MetalMachines.Machine.{Machine}
use Rattle.call_graph.specs.OfPrograms.Repeats.{link_fault}
use Rattle.mx_io.specs.Bytes.{Bytes, Words}
use Rattle.command.specs.JudgedFiles.Judged.{HaveMeanings}
use Rattle.request_files.specs.Faults.{Located}
use Rattle.request_files.specs.Ways.Stages.{AreNamed}
use Rattle.request_files.specs.declared.fault.Fault.TheVariants.{DuplicateFunction}

-- this presumed file and line are those of a place in these texts: of the token that stands there
pub record IsWhere (names : List Bytes) (texts : List Text) (place : Place) (file : Bytes) (line : ℕ) : Type 0 where
  pub text : Text
  pub here : slice_get texts place.file ≡ Some text
  pub token : Token
  pub among : Contains text.tokens token
  pub place_is : token.place ≡ place
  pub file_is : slice_get names token.source ≡ Some file
  pub line_is : token.line ≡ line

-- texts in which a function is defined again, at its name's place
pub record AreUnlinked (names : List Bytes) (texts : List Text) (l : Located) : Type 0 where
  pub name : ℕ
  pub place : Place
  pub again : link_fault (functions_in texts) ≡ Some (name, place)
  pub fault_is : l.fault ≡ DuplicateFunction
  pub there : IsWhere names texts place l.file l.line

-- the C files have such texts
pub record HaveLinkFault (checkers sources : Words) (contents : List Bytes) (l : Located) : Type 0 where
  pub names : List Bytes
  pub machines : List Machine
  pub texts : List Text
  pub meanings : HaveMeanings checkers sources contents names machines texts
  pub unlinked : AreUnlinked names texts l

-- a token of the texts stands at this place, and the presumed files of all tokens there are names
pub record HaveToken (names : List Bytes) (texts : List Text) (place : Place) : Type 0 where
  pub text : Text
  pub here : slice_get texts place.file ≡ Some text
  pub token : Token
  pub among : Contains text.tokens token
  pub place_is : token.place ≡ place
  pub named : AreNamed names text.tokens
