pub mod Inputs
pub mod Reading
pub use Rattle.tool_monitors.specs.Judged
pub use Rattle.tool_monitors.specs.Monitors
pub use Rattle.tool_monitors.specs.Told
pub use Rattle.tool_monitors.specs.declared.asked.Asked
