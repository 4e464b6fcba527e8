pub mod TakenRules
