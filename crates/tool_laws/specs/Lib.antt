pub mod FleetRuns
pub mod JudgedRuns
