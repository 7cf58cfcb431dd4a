use Rattle.model_file.proofs.ReadingLemmas.{one_of_five}
use Rattle.model_file.proofs.reading.model_of.Goals as goal

pub returns-in-Err-Invalid-clause-broken : goal.returns-in-Err-Invalid-clause-broken
returns-in-Err-Invalid-clause-broken c =
    let rule = c.in-Err-Invalid.rule in
    let least = c.in-Err-Invalid.ensures.invalid rule c.in-Err-Invalid.field-0-is in
    (least, one_of_five _ rule c.requires.order c.requires.patterns least)
