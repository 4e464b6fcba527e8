pub mod OnlyTags
pub mod StarredTypes
pub mod WrittenWords
