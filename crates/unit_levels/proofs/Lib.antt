pub mod UnitLists
pub mod Waiting
pub mod Growth
pub mod Settled
pub mod Rest
pub mod Laws
