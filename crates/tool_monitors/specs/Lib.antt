pub mod Heard
pub mod Judged
pub mod Monitors
pub mod Refused
pub mod Told
