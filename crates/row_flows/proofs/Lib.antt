pub mod Lists
pub mod LeftCalm
pub mod OnTheWay
pub mod Concerned
