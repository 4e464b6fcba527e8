pub mod CheckerModel
pub mod CheckerPrograms
pub mod CheckerGraphs
