pub mod Runs
pub mod SpecifierPlaces
pub mod Gives
pub mod Forms
pub mod ParamLists
pub mod Standing
pub mod Parses
pub mod Ways
