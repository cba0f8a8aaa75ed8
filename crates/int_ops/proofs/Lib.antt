pub mod Beyond
pub mod Ranges
pub mod InRange
pub mod Rounding
pub mod Shifts
pub mod BitsOf
pub mod Laws
pub mod Causes
