-- Lemmas that several crates above use.
pub use Rattle.std.proofs.lemmas.Bool.{cases_lt as below_or_at}
