pub mod Order
pub mod Tests
