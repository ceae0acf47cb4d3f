pub mod Cutting
pub mod EventsOfPlans
