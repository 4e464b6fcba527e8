pub mod Small
pub mod Numbers
pub mod MetalRules
pub mod MetalDeclared
pub mod MetalBuilding
