pub use Rattle.dm_base.specs.declared.mode.Mode
