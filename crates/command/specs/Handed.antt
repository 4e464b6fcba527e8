-- Words of the crates below in which callers of `run` speak.
pub use Rattle.command.specs.JudgedFiles.Judged.{AreAccepted}
pub use Rattle.request_files.specs.Telling.{may_hold}
