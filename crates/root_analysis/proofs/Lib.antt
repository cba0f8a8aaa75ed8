pub mod RootFiles
pub mod RootUnits
pub mod Telling
