use Rattle.std.proofs.Common.{length, ap, sym, ◌∙◌}
use Rattle.std.proofs.lemmas.List.FromFn.{length-range_with_len}
use Rattle.c_tree.specs.Sites.{sites_of_program}
use Rattle.c_tree.specs.View.{program_of}
use Rattle.c_tree.proofs.program.Program.sites.Goals as goal

-- src/program.rt:84:5
pub returns-clause-count : goal.returns-clause-count
returns-clause-count c =
    sym (length-range_with_len 0 c.self.inside.sites) ∙ (sym (ap length c.self.invariant.typed.sites) ∙ ap (λ p. length (sites_of_program (program_of p))) c.self.view_is)
