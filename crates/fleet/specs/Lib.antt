pub mod Alone
pub mod Fleets
pub mod Going
pub mod Members
