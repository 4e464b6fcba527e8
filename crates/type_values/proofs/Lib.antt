pub mod BasicTypes
