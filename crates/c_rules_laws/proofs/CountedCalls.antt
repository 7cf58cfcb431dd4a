-- As many call expressions stand in a part as the rules count calls in it.
pub use Rattle.c_rules_laws.proofs.Counted.{stmt_counted, block_counted}
