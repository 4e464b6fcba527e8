pub use Rattle.c_tree.specs.Compared
pub mod Levels
