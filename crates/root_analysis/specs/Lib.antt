pub mod Roots
pub mod Denoting
pub mod Snapshots
pub mod Analysis
pub mod Telling
