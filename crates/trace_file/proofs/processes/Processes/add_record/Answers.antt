use Rattle.std.proofs.Common.{◌∷◌, ℕ, List, sym, ◌∙◌, ap}
use Rattle.std.proofs.lemmas.Result.{on_ok_weaker}
use Rattle.trace_file.specs.declared.version.TracesVersion.{TracesVersion}
use Rattle.trace_file.specs.Known.{made_known}
use Rattle.trace_file.proofs.ProcessesLemmas.{one_known, two_known}
use Rattle.trace_file.proofs.processes.Processes.add_record.Goals as goal

pub returns-in-One-clause-known : goal.returns-in-One-clause-known
returns-in-One-clause-known c =
    one_known c.args.version c.args.next.now c.args.self.now c.add.new.self (ap (λ (v : TracesVersion). made_known v c.args.next.now) c.in-One.is) c.in_ok-add.ensures.added

pub returns-in-Some-clause-known : goal.returns-in-Some-clause-known
returns-in-Some-clause-known c =
    on_ok_weaker c.add-in-Some.result
    (λ is. two_known c.args.version c.args.next.now c.args.self.now c.add.new.self c.add-in-Some.new.self c.in-Some.process (ap (λ (v : TracesVersion). made_known v c.args.next.now) c.in-Two.is ∙ ap (λ (t : List ℕ). c.args.next.now.pid ∷ t) (sym c.in-Some.ensures)) c.in_ok-add.ensures.added is)
    c.add-in-Some.ensures.added

pub returns-in-None-clause-known : goal.returns-in-None-clause-known
returns-in-None-clause-known c =
    one_known c.args.version c.args.next.now c.args.self.now c.add.new.self (ap (λ (v : TracesVersion). made_known v c.args.next.now) c.in-Two.is ∙ ap (λ (t : List ℕ). c.args.next.now.pid ∷ t) (sym c.in-None.ensures)) c.in_ok-add.ensures.added
