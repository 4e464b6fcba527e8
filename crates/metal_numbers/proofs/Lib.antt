pub mod Choosing
pub mod Distinct
pub mod FewStates
pub mod States
pub mod MetalRules
pub mod MetalDeclared
pub mod MetalBuilding
