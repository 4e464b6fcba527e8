mod Examples
pub mod Readers
pub mod SoundTagged
pub mod SoundDeclarations
pub mod SoundStatements
pub mod Sound
pub mod SoundChunks
pub mod Fronts
pub mod Longer
pub mod CompleteTagged
pub mod CompleteDeclarations
pub mod CompleteStatements
pub mod Complete
pub mod CompleteChunks
