pub mod Report
pub mod Stop
