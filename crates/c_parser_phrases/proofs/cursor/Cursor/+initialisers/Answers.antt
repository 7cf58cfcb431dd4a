use Rattle.std.proofs.Common.{ap, length, arith}
use Rattle.c_parser_phrases.proofs.Known.{not_there}
use Rattle.c_parser_phrases.proofs.Inits.{one_has, list_has, list_ended, inits_first, inits_more, first_low, grown_low, goes, ends}
use Rattle.std.proofs.lemmas.Result.{err_from_is_err_and}
use Rattle.c_syntax.specs.Grammar.{assignment_level}
use Rattle.c_syntax_printing.specs.Phrases.{any, AnExpr, AnInit}
use Rattle.c_parser_phrases.proofs.Raising.{told, telling, raised, raised_in, no_memory}
use Rattle.c_parser_phrases.proofs.RefusalsOfDeclarators.{init_deep, value_init_fails, list_fails, init_leads, later_init_fails, later_init_leads, list_refused}
use Rattle.c_parser_phrases.proofs.RefusalsOfLists.{list_followed}
use Rattle.c_lexer.specs.declared.punctuator.TheConstants.{LEFT_BRACE}
use Rattle.c_syntax_printing.specs.Opens.{DeepExpr, DeepInit}
use Rattle.c_syntax_printing.proofs.InitFails.{first_init_fails}
use Rattle.c_syntax_printing.proofs.InitOpens.{init_value_opens, first_init_opens}
use Rattle.c_parser_phrases.specs.Reading.{OpensInit}
use Rattle.c_parser_phrases.proofs.Raising.{told_deep}
use Rattle.c_parser_phrases.proofs.Opened.{some_at}
use Rattle.c_parser_phrases.proofs.OpenedDeclarators.{list_opens_here, list_inside_opens, later_init_open, init_leads_open, later_leads_open}
use Rattle.c_parser_phrases.proofs.cursor.Cursor.+initialisers.Goals as goal

pub initialiser-returns-then-not-is_at-clause-parses : goal.initialiser-returns-then-not-is_at-clause-parses
initialiser-returns-then-not-is_at-clause-parses t c = one_has c.in_ok-e.ensures.parses c.one_init.ensures

pub initialiser-returns-clause-parses : goal.initialiser-returns-clause-parses
initialiser-returns-clause-parses t c =
    list_has c.in_node.ensures.pairs c.in_node.ensures.nodes (λ e. omega (arith, e, c.if-room-eq0.false)) c.place-at.ensures (c.is_at.ensures.stands.0 c.if-not-is_at.false) c.skip.ensures.skips
    c.in_ok-list.ensures.parses c.in_ok-list.ensures.shorter (not_there c.goes_on_as_assignment.result c.if-goes_on_as_assignment.false c.goes_on_as_assignment.ensures) c.list_init.ensures

pub initialisers-loop-list-init : goal.initialisers-loop-list-init
initialisers-loop-list-init t c = record {
  reads = inits_first c.in_ok-first.first c.in_ok-push.ensures.items c.new-list.ensures.items c.in_ok-first.ensures.parses.reads;
  opens = λ at r o. init_leads_open c.in_ok-first.ensures.parses o;
  leads = init_leads c.in_ok-first.ensures.parses;
  fits = first_low c.in_ok-first.first c.in_ok-push.ensures.items c.new-list.ensures.items c.in_ok-first.ensures.parses.nested;
  shorter = c.in_ok-first.ensures.shorter;
}

pub initialisers-loop-list-preserved : goal.initialisers-loop-list-preserved
initialisers-loop-list-preserved t c =
    let g = goes c.in_ok-goes_on.field-0 c.if-branch.true c.in_ok-goes_on.ensures.parses in
    record {
      reads = inits_more c.loop-list.list.items c.in_ok-next.next c.loop-list.invariant.reads g.2 g.1 c.in_ok-next.ensures.parses.reads c.in_ok-push-2.ensures.items;
      opens = λ at r o. c.loop-list.invariant.opens at r (later_leads_open g.2 g.1 c.in_ok-next.ensures.parses o);
      leads = λ b r f. c.loop-list.invariant.leads b r (later_init_leads g.2 g.1 g.3 c.in_ok-next.ensures.parses b r f);
      fits = grown_low c.loop-list.list.items c.in_ok-next.next c.in_ok-push-2.ensures.items c.loop-list.invariant.fits c.in_ok-next.ensures.parses.nested;
      shorter = omega (arith, c.in_ok-next.ensures.shorter, ap length g.2, c.loop-list.invariant.shorter);
    }

pub initialisers-returns-clause-parses : goal.initialisers-returns-clause-parses
initialisers-returns-clause-parses t c =
    λ t h. record { reads = list_ended h c.loop-list.invariant.reads (ends c.in_ok-goes_on.field-0 c.if-branch.false c.in_ok-goes_on.ensures.parses); nested = c.loop-list.invariant.fits }

pub initialiser-returns-in_err-e-clause-stops : goal.initialiser-returns-in_err-e-clause-stops
initialiser-returns-in_err-e-clause-stops t c = let w = err_from_is_err_and c.from_residual.result c.from_residual.ensures.1 in rw (w.1, w.2) (told {A = AnInit} {O = OpensInit} _ (raised (telling {A = λ b. AnExpr b assignment_level} {D = λ at p n. DeepExpr at p n assignment_level} _ c.in_err-e.ensures.stops c.in_err-e.ensures.nests) (value_init_fails (not_there c.is_at.result c.if-not-is_at.true c.is_at.ensures.stands)) (λ at r o. init_value_opens o)))

pub initialiser-returns-in_err-e-clause-nests : goal.initialiser-returns-in_err-e-clause-nests
initialiser-returns-in_err-e-clause-nests t c = let w = err_from_is_err_and c.from_residual.result c.from_residual.ensures.1 in rw (w.1, w.2) (told_deep {A = AnInit} {D = DeepInit} _ (raised (telling {A = λ b. AnExpr b assignment_level} {D = λ at p n. DeepExpr at p n assignment_level} _ c.in_err-e.ensures.stops c.in_err-e.ensures.nests) (value_init_fails (not_there c.is_at.result c.if-not-is_at.true c.is_at.ensures.stands)) (λ at r o. init_value_opens o)))

pub initialiser-returns-then-room-eq0-clause-stops : goal.initialiser-returns-then-room-eq0-clause-stops
initialiser-returns-then-room-eq0-clause-stops t c = (_, init_deep _ c.if-room-eq0.true)

pub initialiser-returns-then-room-eq0-clause-nests : goal.initialiser-returns-then-room-eq0-clause-nests
initialiser-returns-then-room-eq0-clause-nests t c = record { token = c.args.self.now.rest.now; fails = init_deep _ c.if-room-eq0.true; opens = list_opens_here (c.is_at.ensures.stands.0 c.if-not-is_at.false) c.place-at.ensures c.if-room-eq0.true; some = some_at LEFT_BRACE _ (c.is_at.ensures.stands.0 c.if-not-is_at.false) }

pub initialiser-returns-in_err-list-clause-stops : goal.initialiser-returns-in_err-list-clause-stops
initialiser-returns-in_err-list-clause-stops t c = let w = err_from_is_err_and c.from_residual-in_err-list.result c.from_residual-in_err-list.ensures.1 in rw (w.1, w.2) (told {A = AnInit} {O = OpensInit} _ (raised_in (omega (arith, c.if-room-eq0.false)) c.in_node.ensures.nodes c.in_node.ensures.pairs c.in_err-list.ensures.parses (list_fails (c.is_at.ensures.stands.0 c.if-not-is_at.false) c.skip.ensures.skips) (λ at r o. list_inside_opens _ (c.is_at.ensures.stands.0 c.if-not-is_at.false) c.skip.ensures.skips o)))

pub initialiser-returns-in_err-list-clause-nests : goal.initialiser-returns-in_err-list-clause-nests
initialiser-returns-in_err-list-clause-nests t c = let w = err_from_is_err_and c.from_residual-in_err-list.result c.from_residual-in_err-list.ensures.1 in rw (w.1, w.2) (told_deep {A = AnInit} {D = DeepInit} _ (raised_in (omega (arith, c.if-room-eq0.false)) c.in_node.ensures.nodes c.in_node.ensures.pairs c.in_err-list.ensures.parses (list_fails (c.is_at.ensures.stands.0 c.if-not-is_at.false) c.skip.ensures.skips) (λ at r o. list_inside_opens _ (c.is_at.ensures.stands.0 c.if-not-is_at.false) c.skip.ensures.skips o)))

pub initialiser-returns-then-goes_on_as_assignment-clause-stops : goal.initialiser-returns-then-goes_on_as_assignment-clause-stops
initialiser-returns-then-goes_on_as_assignment-clause-stops t c = list_followed (c.is_at.ensures.stands.0 c.if-not-is_at.false) c.skip.ensures.skips c.in_ok-list.ensures.parses (c.goes_on_as_assignment.ensures.0 c.if-goes_on_as_assignment.true) any

pub initialisers-returns-in_err-first-clause-parses : goal.initialisers-returns-in_err-first-clause-parses
initialisers-returns-in_err-first-clause-parses t c = let w = err_from_is_err_and c.from_residual.result c.from_residual.ensures.1 in rw (w.1, w.2) (raised (telling {A = AnInit} {D = DeepInit} _ c.in_err-first.ensures.stops c.in_err-first.ensures.nests) (λ b r f. first_init_fails f) (λ at r o. first_init_opens o))

pub initialisers-returns-in_err-push-clause-parses : goal.initialisers-returns-in_err-push-clause-parses
initialisers-returns-in_err-push-clause-parses t c = let w = err_from_is_err_and c.from_residual-in_err-push.result c.from_residual-in_err-push.ensures.1 in rw (w.1, w.2) (no_memory)

pub initialisers-returns-in_err-goes_on-clause-parses : goal.initialisers-returns-in_err-goes_on-clause-parses
initialisers-returns-in_err-goes_on-clause-parses t c = let w = err_from_is_err_and c.from_residual-in_err-goes_on.result c.from_residual-in_err-goes_on.ensures.1 in rw (w.1, w.2) (list_refused c.loop-list.invariant.leads c.in_err-goes_on.ensures.parses)

pub initialisers-returns-in_err-next-clause-parses : goal.initialisers-returns-in_err-next-clause-parses
initialisers-returns-in_err-next-clause-parses t c = let g = goes c.in_ok-goes_on.field-0 c.if-branch.true c.in_ok-goes_on.ensures.parses in let w = err_from_is_err_and c.from_residual-in_err-next.result c.from_residual-in_err-next.ensures.1 in rw (w.1, w.2) (raised (telling {A = AnInit} {D = DeepInit} _ c.in_err-next.ensures.stops c.in_err-next.ensures.nests) (λ b r f. c.loop-list.invariant.leads b r (later_init_fails g.2 g.1 g.3 b r f)) (λ at r o. c.loop-list.invariant.opens at r (later_init_open g.2 g.1 o)))

pub initialisers-returns-in_err-push-2-clause-parses : goal.initialisers-returns-in_err-push-2-clause-parses
initialisers-returns-in_err-push-2-clause-parses t c = let w = err_from_is_err_and c.from_residual-in_err-push-2.result c.from_residual-in_err-push-2.ensures.1 in rw (w.1, w.2) (no_memory)
