pub mod Readings
pub mod Trees
pub mod Meets
pub mod Faults
pub mod Bodies
pub mod Units
pub mod Heads
pub mod Attempts
