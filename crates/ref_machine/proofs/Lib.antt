pub mod Chains
pub mod NextSteps
pub mod Noting
pub mod Recording
pub mod Resuming
pub mod Starting
pub mod Turning
