pub mod Instrument
pub mod Stopping
