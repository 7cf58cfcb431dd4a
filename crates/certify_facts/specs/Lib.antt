pub mod Told
pub mod Form
pub mod Inside
pub mod Reasons
pub mod Confirms
