pub mod Flags
pub mod AlarmLines
