pub mod Scenes
pub mod Numbered
pub mod ItemSteps
pub mod RuleChoices
pub mod AppliedRules
pub mod TransitionReports
