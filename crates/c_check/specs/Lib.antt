pub mod Refused
pub use Rattle.c_check_units.specs.OutputView
pub use Rattle.c_check_units.specs.declared.outputs.Output
pub use Rattle.c_check_values.specs.declared.error.CheckError
