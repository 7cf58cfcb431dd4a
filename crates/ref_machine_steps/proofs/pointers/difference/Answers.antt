use Rattle.std.proofs.Common.{ap, sym, ◌∙◌, ℕ, pos, ◌-ℤ◌}
use Rattle.std.proofs.lemmas.Result.{err_from_is_err_and}
use Rattle.c_tree.specs.declared.value.Value.TheVariants.{Int}
use Rattle.c_values.specs.Answers.{and_then}
use Rattle.c_values.specs.Seen.{seen}
use Rattle.ref_machine_steps.specs.Words.{in_words}
use Rattle.ref_machine_steps.proofs.PointerLemmas.{difference_is}
use Rattle.ref_machine_steps.proofs.pointers.difference.Goals as goal

pub returns-in_err-a : goal.returns-in_err-a
returns-in_err-a c =
    let p = err_from_is_err_and c.from_residual.result c.from_residual.ensures.1 in
    rw (p.1, p.2) (ap (λ a. and_then a (λ (p : ℕ × ℕ). in_words (Int (pos p.0 -ℤ pos p.1)))) c.in_err-a.ensures ∙ sym (difference_is (seen c.args.memory.now) c.args.left c.args.right))

pub returns : goal.returns
returns c =
    c.between.ensures ∙ (ap (λ a. and_then a (λ (p : ℕ × ℕ). in_words (Int (pos p.0 -ℤ pos p.1)))) c.in_ok-a.ensures ∙ sym (difference_is (seen c.args.memory.now) c.args.left c.args.right))
