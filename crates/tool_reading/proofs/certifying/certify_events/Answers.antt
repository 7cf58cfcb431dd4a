use Rattle.tool_reading.proofs.CertifyLemmas.{certified_by, stops_making}
use Rattle.tool_reading.proofs.certifying.certify_events.Goals as goal

pub returns-in-Err-clause-stop : goal.returns-in-Err-clause-stop
returns-in-Err-clause-stop c = stops_making c.args.judge c.args.model.now c.args.trace.now c.in-Err.error c.unmade_with.result c.in-Err.ensures.cause c.unmade_with.ensures

pub returns-clause-certified : goal.returns-clause-certified
returns-clause-certified c = certified_by c.args.judge c.args.model.now c.args.trace.now c.in-Ok.certificate c.in_ok-text.text.items c.verdict.result c.status_of-status.result c.in-Ok.ensures.made c.in_ok-text.ensures c.verdict.ensures.verdict c.status_of-status.ensures.status
