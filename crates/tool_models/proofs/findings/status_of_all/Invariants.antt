use Rattle.std.proofs.Common.{◌≡◌, take}
use Rattle.tool_files.specs.Judged.{status_of_all}
use Rattle.tool_models.proofs.findings.status_of_all.Given as goal

abbrev pub invariant-loop-verdict : goal.invariant-loop-verdict
invariant-loop-verdict l = l.status ≡ status_of_all (take l.verdict-index l.verdicts)
