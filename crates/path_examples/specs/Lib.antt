pub mod Checker
pub mod Program
pub mod Steps
pub mod Log
