pub mod Numbers
pub mod FewStates
pub mod TupleNumbers
pub mod Examples
