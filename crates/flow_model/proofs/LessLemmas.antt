-- Lemmas that several crates above use.
use Rattle.std.proofs.Common.{sym, ℕ, ◌<◌, ◌≡◌}
use Rattle.std.specs.Cmp.{nat_cmp_is}
use Rattle.std.specs.Ordering.{nat_cmp}
use Rattle.std.specs.declared.cmp.Ordering.TheVariants.{Less}

pub less_from_lt : (a b : ℕ) → a < b → nat_cmp a b ≡ Less
less_from_lt a b lt = sym (nat_cmp_is a b Less lt)
