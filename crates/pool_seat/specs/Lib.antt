pub mod Movers
pub mod Moves
pub mod Order
pub mod Reach
pub mod Rehoming
pub mod Seats
