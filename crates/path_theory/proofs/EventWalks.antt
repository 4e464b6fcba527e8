pub mod Walking
pub mod Noting
pub mod Shown
pub mod SameObjects
