pub mod Alarms
pub mod Watches
