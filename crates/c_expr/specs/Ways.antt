pub mod Postfixes
