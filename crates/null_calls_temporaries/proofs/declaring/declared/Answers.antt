use Rattle.std.proofs.Common.{rules}
use Rattle.c_syntax.specs.UnitView.{decl_of}
use Rattle.c_syntax.specs.SeenNames.{seen}
use Rattle.null_calls_temporaries.proofs.KeptLemmas.{declared_more, declared_end}
use Rattle.null_calls_temporaries.proofs.declaring.declared.Goals as goal

pub loop-one-preserved : goal.loop-one-preserved
loop-one-preserved c =
    declared_more (seen c.args.tags.now) c.args.at c.args.kept.now c.loop-one.one-index c.one-item.result c.loop-one.all.items c.add.new.items.items (decl_of c.in_ok-decl.decl) c.loop-one-test.true c.one-item.is
    c.loop-one.invariant c.in_ok-add.ensures c.in_ok-decl.ensures

pub returns : goal.returns
returns c = declared_end (seen c.args.tags.now) c.args.at c.args.kept.now c.loop-one.one-index c.loop-one.all.items c.append.new.self.items c.args.items.items c.loop-one-test.false c.loop-one.invariant (search rules)
