pub mod CopiedStates
