use Rattle.tool_reading.proofs.ConfirmLemmas.{shows, stops_claim}
use Rattle.tool_reading.proofs.confirming.confirm_claim.Goals as goal

pub returns-in-Err-clause-stop : goal.returns-in-Err-clause-stop
returns-in-Err-clause-stop c = stops_claim c.args.model.now c.args.trace.now c.args.certificate.now c.in-Err.error c.unconfirmed_with.result c.in-Err.ensures.cause c.unconfirmed_with.ensures

pub returns-clause-shown : goal.returns-clause-shown
returns-clause-shown c =
    shows c.args.model.now c.args.trace.now c.args.certificate.now c.judge.result c.in-Ok.verdict c.in_ok-text.text.items c.judge.ensures c.in-Ok.ensures.claimed c.in-Ok.ensures.confirms c.in-Ok.ensures.verdict c.in_ok-text.ensures
