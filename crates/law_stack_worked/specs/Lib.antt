pub mod Shown
pub mod StackRequests
pub mod StackOrders
pub mod Broken
pub mod LastArrival
