-- A type of too many cells under sizeof.
use Rattle.std.proofs.Common.{◌≡◌, ℕ, ◌<◌, false, ap, ◌∙◌, arith}
use Rattle.std.specs.Prelude.{nat_le, Contains}
use Rattle.std.proofs.lemmas.Bool.{lt-leb}
use Rattle.c_tree.specs.Tree.{CType}
use Rattle.c_tree.specs.Layout.{cells, sizeof}
use Rattle.c_rules.specs.Checked.{fine, faults, demand, on, met}
use Rattle.c_rules.specs.Conversions.{complete}
use Rattle.c_rules.specs.PrimaryExpressions.{typed_unsigned}
use Rattle.c_rules.specs.Scopes.{Env, layout_of}
use Rattle.c_rules.specs.UnaryExpressions.{size_of}
use Rattle.c_check_values.proofs.FaultLemmas.{faulted}

pub complete_and_many : (env : Env) (at place : ℕ) (t : CType) → complete env at t ≡ fine met → 65536 < cells (layout_of env) t → Contains (faults (size_of env at place t)) (record { code = 13; at = place })
complete_and_many env at place t p h =
    let over : nat_le (cells (layout_of env) t) 65536 ≡ false = lt-leb (cells (layout_of env) t) 65536 h in
    faulted 13 place (size_of env at place t)
    (ap (λ r. on r (λ _. demand (nat_le (cells (layout_of env) t) 65536) 13 place (typed_unsigned (sizeof (layout_of env) t)))) p ∙ ap (λ b. demand b 13 place (typed_unsigned (sizeof (layout_of env) t))) over)
