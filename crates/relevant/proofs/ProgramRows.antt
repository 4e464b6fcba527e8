pub mod Lists
pub mod FiledCalls
pub mod Formals
pub mod Happening
pub mod FollowedCalls
pub mod MadeRows
pub mod TabledCalls
pub mod RightRows
