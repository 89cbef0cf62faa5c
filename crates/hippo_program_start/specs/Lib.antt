pub mod Hosts
pub mod Statuses
