use Rattle.std.proofs.Common.{◌<◌, ◌≡◌, ℕ, [], ◌∷◌, ap, length, length-append, arith}
use Rattle.std.proofs.lemmas.Slice.Zip.{AllZip-long}
use Rattle.sys_table.specs.declared.kinds.ArgKind.TheVariants.{Signed}
use Rattle.sys_table.specs.Table.{FitsEntry}
use Rattle.report.proofs.TrialLemmas.{filled_more, filled_all}
use Rattle.report.proofs.trials.arguments_of.Goals as goal

pub loop-i-preserved : goal.loop-i-preserved
loop-i-preserved c =
    let same = AllZip-long FitsEntry c.args.kinds.now c.args.pattern.now c.requires in
    let within : c.loop-i.i < length c.args.kinds.now = omega (arith, same, c.count-i-end.ensures.count, c.loop-i-test.true) in
    record {
      filled = filled_more c.args.kinds.now c.args.pattern.now c.loop-i.arguments c.push.new.self c.loop-i.i Signed c.get.result c.in_ok-argument_of.field-0 within c.get.ensures c.loop-i.invariant.filled c.in_ok-argument_of.ensures.kind c.in_ok-argument_of.ensures.entry c.push.ensures;
      long = omega (arith, c.loop-i.invariant.long, ap length c.push.ensures, length-append c.loop-i.arguments (c.in_ok-argument_of.field-0 ∷ []));
    }

pub returns : goal.returns
returns c =
    let same = AllZip-long FitsEntry c.args.kinds.now c.args.pattern.now c.requires in
    filled_all c.args.kinds.now c.args.pattern.now c.loop-i.arguments c.loop-i.i (omega (arith, same, c.count-i-end.ensures.count, c.loop-i-test.false)) (omega (arith, c.count-i-end.ensures.count, c.loop-i-test.false)) c.loop-i.invariant.filled
