pub mod HeadSteps
pub mod ItemSteps
pub mod ListSteps
pub mod NoHoles
pub mod RuleSteps
pub mod WalkSteps
pub mod HoleBindings
pub mod HoleMessages
