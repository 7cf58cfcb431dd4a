pub mod FleetRuns
pub mod Judged
