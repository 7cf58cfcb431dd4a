use Rattle.c_parser.proofs.DeclLemmas.{no_init_stands, init_stands}
use Rattle.std.proofs.Common.{sym}
use Rattle.c_syntax_printing.proofs.Combine.{fails_at}
use Rattle.c_parser.proofs.StmtStops.{raised}
use Rattle.c_parser.proofs.DeclStops.{initialiser_fails, initialiser_leads, no_initialiser_leads}
use Rattle.c_syntax_printing.specs.Phrases.{AnInit}
use Rattle.c_syntax_printing.specs.Declarations.{PartsTail}
use Rattle.c_parser_phrases.specs.Refusing.{bound_of}
use Rattle.c_syntax_printing.specs.Opens.{DeepInit}
use Rattle.c_parser.specs.Nesting.{OpensInitialiser}
use Rattle.c_parser.proofs.Passing.{passed_deep}
use Rattle.c_parser.proofs.declarations.maybe_initialiser.Goals as goal

pub returns-then-not-take-clause-reads : goal.returns-then-not-take-clause-reads
returns-then-not-take-clause-reads c = no_init_stands c.if-not-take.ensures.1

pub returns-clause-reads : goal.returns-clause-reads
returns-clause-reads c = let o = c.if-not-take.ensures in init_stands o.2 o.1 c.in_ok-init.ensures.parses

pub returns-then-not-take-clause-leads : goal.returns-then-not-take-clause-leads
returns-then-not-take-clause-leads c x r f = let n = c.if-not-take.ensures in no_initialiser_leads x n.0 (fails_at (sym n.1) f)

pub returns-in_err-init-clause-stops : goal.returns-in_err-init-clause-stops
returns-in_err-init-clause-stops c = let o = c.if-not-take.ensures in raised PartsTail AnInit (bound_of c.args.room) _ c.from_residual.result c.in_err-init.field-0.0 c.from_residual.ensures (λ x r f. initialiser_fails x o.2 o.1 f) c.in_err-init.ensures.stops

pub returns-clause-leads : goal.returns-clause-leads
returns-clause-leads c x r f = let o = c.if-not-take.ensures in initialiser_leads x o.2 o.1 c.in_ok-init.ensures.parses f

pub returns-in_err-init-clause-nests : goal.returns-in_err-init-clause-nests
returns-in_err-init-clause-nests c =
    let o = c.if-not-take.ensures in
    passed_deep PartsTail AnInit OpensInitialiser DeepInit c.args.room c.from_residual.result c.in_err-init.field-0.0 c.from_residual.ensures
    (λ r f. initialiser_fails (bound_of c.args.room) o.2 o.1 f)
    (λ at q d. record { token = _; rest = _; stood = o.2; assigns = o.1; deep = d }) c.in_err-init.ensures.nests
