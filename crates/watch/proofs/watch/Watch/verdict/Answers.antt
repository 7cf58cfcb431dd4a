use Rattle.std.proofs.Common.{sym, ap, ◌∙◌, true≢false, is_some}
use Rattle.watch.proofs.WatchLemmas.{has_first, in_table}
use Rattle.watch.proofs.watch.Watch.verdict.Goals as goal

pub returns-then-not-contains-clause-some : goal.returns-then-not-contains-clause-some
returns-then-not-contains-clause-some g c = λ a k version records s. c.if-not-contains.ensures ∙ has_first g.M.Monitor a k version c.args.self.now records s c.args.pid

pub returns-in_err-process-clause-some : goal.returns-in_err-process-clause-some
returns-in_err-process-clause-some g c = λ a k version records s.
    absurd (true≢false (sym (in_table g.M.Monitor a k version c.args.self.now records s c.args.pid (sym c.if-not-contains.ensures)) ∙ ap is_some (sym c.in_err-process.ensures.value)))

pub returns-clause-some : goal.returns-clause-some
returns-clause-some g c = λ a k version records s. c.if-not-contains.ensures ∙ has_first g.M.Monitor a k version c.args.self.now records s c.args.pid
