use Rattle.std.proofs.Common.{refl, arith}
use Rattle.std.proofs.lemmas.Slice.Zip.{AllZip-long}
use Rattle.sys_table.specs.Table.{FitsEntry}
use Rattle.sys_table.proofs.Pairs.{PairsBelow-all}
use Rattle.sys_table.proofs.pattern.do_entries_fit.Goals as goal

pub returns-then-count-kinds : goal.returns-then-count-kinds
returns-then-count-kinds c = (
  λ no. cc,
  λ all. let long = AllZip-long FitsEntry c.args.kinds.now c.args.pattern.now all in absurd (omega arith),
)

pub returns : goal.returns
returns c = (
  λ _. PairsBelow-all FitsEntry c.args.kinds.now c.args.pattern.now (omega arith) (λ k x y within. c.loop-i.invariant k x y (omega arith)),
  λ _. refl,
)
