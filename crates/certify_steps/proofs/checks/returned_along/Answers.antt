use Rattle.certify_steps.proofs.CheckLemmas.{along_only, along_missing}
use Rattle.certify_steps.proofs.checks.returned_along.Goals as goal

pub returns-in-Some-clause-only : goal.returns-in-Some-clause-only
returns-in-Some-clause-only c = λ y is. along_only c.args.model.now c.in-At-Link.k c.in-At-Link.i c.in-At-Link.f c.in-At-Link.v c.in-At-Link.entered c.in-At-Link.function c.in-At-Link.j c.in-At-Link.g c.in-At-Link.s c.in-Some.to c.args.x c.args.z y
    c.in-At-Link.is-0 c.in-At-Link.is-1 c.in-Some.ensures.only is

pub returns-in-None-clause-only : goal.returns-in-None-clause-only
returns-in-None-clause-only c = λ y is. along_missing c.args.model.now c.in-At-Link.k c.in-At-Link.i c.in-At-Link.f c.in-At-Link.v c.in-At-Link.entered c.in-At-Link.function c.in-At-Link.j c.in-At-Link.g c.in-At-Link.s c.args.x c.args.z y
    c.in-At-Link.is-0 c.in-At-Link.is-1 c.in-None.ensures.only is
