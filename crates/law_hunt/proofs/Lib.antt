pub mod OfKinds
pub mod OfTables
pub mod OfStories
