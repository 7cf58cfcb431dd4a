-- Read in this order: Expected (what the command tells of the monitors that are asked for), Expects (what it makes of its files).
pub mod Expected
pub mod Expects
pub mod Certify
pub mod Confirm
pub mod Stopping
pub mod Picture
pub mod Depth
pub mod Inline
pub mod InlineStops
