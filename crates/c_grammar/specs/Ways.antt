pub mod DeclaratorSteps
pub mod ExpressionSteps
pub mod SpecifierSteps
pub mod ChunkSteps
pub mod DeclarationSteps
pub mod StatementSteps
pub mod TaggedSteps
