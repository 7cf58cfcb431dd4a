pub mod HeldTags
pub mod Named
pub mod Numbered
pub mod SeenCalls
pub use Rattle.c_check_scopes.specs.Bound
pub use Rattle.c_check_scopes.specs.View
pub use Rattle.c_check_scopes.specs.declared.environment.Environment
pub use Rattle.c_check_scopes.specs.declared.meaning.Meaning
