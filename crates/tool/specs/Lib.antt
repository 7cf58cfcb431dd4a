pub mod Commands
pub mod Frame
pub mod Stop
