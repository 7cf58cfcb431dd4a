use Rattle.std.proofs.Common.{length, sym, ap, ◌∙◌}
use Rattle.trace_file.specs.declared.version.TracesVersion.TheVariants.{One}
use Rattle.watch.specs.Own.{own}
use Rattle.fleet.proofs.AloneLemmas.{told_number}
use Rattle.fleet.proofs.TellingLemmas.{no_record}
use Rattle.fleet.proofs.telling.made_of.Goals as goal

pub returns-in-Some : goal.returns-in-Some
returns-in-Some g c graph k records stands up =
    c.number_of.ensures ∙ told_number g.M.Monitor.WHICH graph k (own One c.args.pid records) c.in-Some.verdict (c.in-Some.ensures.exact graph k One records stands) up

pub returns-in-None : goal.returns-in-None
returns-in-None g c graph k records stands up = sym (ap length (no_record records c.args.pid (sym (c.in-None.ensures.some graph k One records stands))))
