use Rattle.std.proofs.Common.{ℕ, ◌↔◌, Contains, subst}
use Rattle.certify_making.specs.Notes.{HasNote}
use Rattle.certify_making.proofs.PairLemmas.{adds_paired, adds_none_paired}
use Rattle.certify_making.proofs.pairs.follow_pairs.Goals as goal

pub returns-in_ok-pair_each : goal.returns-in_ok-pair_each
returns-in_ok-pair_each c = adds_paired c.args.model.now c.args.lines.now c.args.notes.now c.args.fact c.args.number c.args.found.now.items c.pair_each.new.found.items c.in-Some.key c.of.result.now c.in-Some.ensures
    (subst (λ k. (n : ℕ) → Contains c.of.result.now n ↔ HasNote c.args.notes.now k n) c.other_side.ensures c.of.ensures) c.in_ok-pair_each.ensures

pub returns-in_default : goal.returns-in_default
returns-in_default c = adds_none_paired c.args.model.now c.args.lines.now c.args.notes.now c.args.fact c.args.number c.args.found.now.items c.in_default.ensures
