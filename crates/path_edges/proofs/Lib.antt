pub mod MaskedCalls
pub mod Values
pub mod Numbers
pub mod Reported
pub mod MetStates
pub mod EdgeSteps
