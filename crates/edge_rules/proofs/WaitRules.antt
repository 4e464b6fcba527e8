pub mod Callers
pub mod WhoWaits
pub mod WhoIsWoken
pub mod OneTuple
pub mod FoundCalls
