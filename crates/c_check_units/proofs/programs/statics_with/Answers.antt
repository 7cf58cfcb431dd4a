use Rattle.std.proofs.Common.{rules, map}
use Rattle.c_tree.specs.View.{static_of}
use Rattle.c_check_units.proofs.ProgramLemmas.{short_at, statics_more, statics_all}
use Rattle.c_check_units.proofs.programs.statics_with.Goals as goal

pub static_string-requires : goal.static_string-requires
static_string-requires c = short_at c.args.strings.now c.loop-bytes.bytes-index _ c.loop-bytes-test.true c.requires

pub loop-bytes-preserved : goal.loop-bytes-preserved
loop-bytes-preserved c =
    statics_more c.args.strings.now c.loop-bytes.bytes-index _ (map static_of c.args.objects.items) c.loop-bytes.statics.items c.push.new.self.items c.in_ok-string.string c.loop-bytes-test.true c.loop-bytes.invariant c.in_ok-string.ensures (search rules)

pub returns : goal.returns
returns c = statics_all c.args.strings.now c.loop-bytes.bytes-index (map static_of c.args.objects.items) (map static_of c.loop-bytes.statics.items) c.loop-bytes-test.false c.loop-bytes.invariant
