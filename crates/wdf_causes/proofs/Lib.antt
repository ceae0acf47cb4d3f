pub mod Ranges
pub mod Searches
pub mod OnCpus
pub mod OnDeclared
pub mod OnFrames
pub mod OnRequests
pub mod Rising
