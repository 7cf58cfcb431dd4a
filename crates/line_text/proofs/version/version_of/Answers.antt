use Rattle.line_text.proofs.VersionLemmas.{no_version}
use Rattle.line_text.proofs.version.version_of.Goals as goal

pub returns-clause-none : goal.returns-clause-none
returns-clause-none c =
    no_version c.args.word.now c.args.line.now c.in_ok-number.number.now c.before_line_feed.result.now c.read_u32.result c.in_ok-number.ensures.some c.before_line_feed.ensures c.read_u32.ensures.none
