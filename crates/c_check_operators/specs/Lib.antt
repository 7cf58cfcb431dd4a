pub mod Alike
pub mod Arms
pub mod Found
