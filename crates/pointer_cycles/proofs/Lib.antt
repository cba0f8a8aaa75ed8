pub mod Steps
pub mod Walking
pub mod Pointers
pub mod Order
pub mod Rounds
pub mod Shown
