pub mod Assignment
pub mod Machine
pub mod Tickets
pub mod Tables
pub mod LogWithRoom
