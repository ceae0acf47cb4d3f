pub mod Assigned
pub mod FreeNames
pub mod Scans
pub mod Walks
