-- The subject that one of the program is.
use Rattle.c_tree.specs.Views.{node_of}
use Rattle.c_tree.specs.declared.path_subjects.subject.Subject as code
use Rattle.c_tree.specs.declared.path_subjects.subject.Subject.TheVariants as subject
use Rattle.c_tree.specs.PathSubjects.Subjects.{Subject, Tree, DerefOf}

abbrev pub subject_of : code.Subject → Subject
subject_of (subject.Tree tree) = Tree (node_of tree.now)
subject_of (subject.DerefOf pointer) = DerefOf (node_of pointer.now)
