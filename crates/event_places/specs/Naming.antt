-- WHICH VARIABLES A FUNCTION NAMES: those for which an identifier in its body stands; and which it declares there.
use Rattle.std.specs.Prelude.{◌≡◌, ◌⊎◌, List, true, Some}
use Rattle.c_objects.specs.Facts.{Facts, var_in}
use Rattle.c_tree.specs.declared.token.Token.{Token}
use Rattle.c_tree.specs.Node.{Node, node}
use Rattle.path_model.specs.CheckerModel.Happenings.{Function}
use Rattle.path_model.specs.CheckerPrograms.Texts.{definition_of, objects_in}
use Rattle.type_rules.specs.Declarators.{name_of}
use Rattle.type_rules.specs.Parts.{Visit, visit, Parts, none, part, flat}
use Rattle.type_rules.specs.Vars.{CVar, Local}
use Rattle.typed_unit.specs.Places.{is_identifier}
use Rattle.typed_unit.specs.Texts.{Text}

-- the node is this tree, or stands in one of its parts
abbrev mutual
  pub IsNodeOf : Node → Visit → Type 0
  IsNodeOf n (visit i p s es) = (n ≡ node i p s) ⊎ IsNodeOfSome n es

  pub IsNodeOfSome : Node → Parts → Type 0
  IsNodeOfSome n none = ⊥
  IsNodeOfSome n (part slot e es) = IsNodeOf n e ⊎ IsNodeOfSome n es

-- AN IDENTIFIER in the tree stands for the variable, by what is known of its unit
pub record IsNamed (u : Facts) (tree : Node) (v : CVar) : Type 0 where
  pub name : Node
  pub identifier : is_identifier name ≡ true
  pub inside : IsNodeOf name (flat tree)
  pub variable : var_in u name ≡ Some v

-- A FUNCTION NAMES THE VARIABLE in its body
abbrev pub IsNamedIn : List Text → Function → CVar → Type 0
IsNamedIn ts f v = IsNamed (objects_in ts f.place.file) (definition_of ts f).body v

-- A DECLARATOR in the tree declares the variable, one of a block
pub record IsDeclared (tree : Node) (v : CVar) : Type 0 where
  pub declarator : Node
  pub inside : IsNodeOf declarator (flat tree)
  pub name : Token
  pub named : name_of declarator ≡ Some name
  pub variable : v ≡ Local name.place.file name.place.token name.name

-- A FUNCTION DECLARES IT in its body
abbrev pub IsDeclaredIn : List Text → Function → CVar → Type 0
IsDeclaredIn ts f v = IsDeclared (definition_of ts f).body v
