pub mod Measuring
pub mod Precision
pub mod ProcessLines
pub mod Trials
pub mod VerdictLine
