use Rattle.std.proofs.Common.{Some, None, subst}
use Rattle.inline_model.specs.Searching.{IsNext, Enters}
use Rattle.inline_model.proofs.SearchLemmas.{path_some}
use Rattle.inline_model.proofs.turns.turn.Goals as goal

pub unreachable-requires : goal.unreachable-requires
unreachable-requires c = path_some c.requires.search.is_path c.in_default.ensures.none

pub look_at-requires-clause-next : goal.look_at-requires-clause-next
look_at-requires-clause-next c = subst (λ hs. IsNext c.args.model.now hs (Enters c.args.model.now c.in-Some.frame.opener) c.in-Some.frame.next (Some c.in-Some-next_opened.place)) c.deref.ensures.value c.in-Some-next_opened.ensures

pub go_back-requires-clause-over : goal.go_back-requires-clause-over
go_back-requires-clause-over c = subst (λ hs. IsNext c.args.model.now hs (Enters c.args.model.now c.in-Some.frame.opener) c.in-Some.frame.next None) c.deref.ensures.value c.in-None.ensures
