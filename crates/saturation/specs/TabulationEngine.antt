pub mod KeptTuples
