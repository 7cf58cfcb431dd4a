use Rattle.std.proofs.Common.{arith}
use Rattle.c_parser.proofs.DeclLemmas.{plain_decl}
use Rattle.c_parser.proofs.StmtStops.{raised}
use Rattle.c_parser.proofs.DeclStops.{first_declarator_fails, parts_tail_fails}
use Rattle.c_syntax_printing.specs.Phrases.{APlainDecl, ADeclarator}
use Rattle.c_syntax_printing.specs.Declarations.{PartsTail}
use Rattle.c_parser_phrases.specs.Refusing.{bound_of}
use Rattle.c_parser.proofs.StmtStops.{raised_flat}
use Rattle.c_syntax.specs.View.{declarator_of}
use Rattle.c_syntax.specs.Grammar.{HasName}
use Rattle.c_syntax_printing.specs.Opens.{DeepDecl, DeepDeclarator}
use Rattle.c_parser.specs.Nesting.{OpensAs, OpensParts}
use Rattle.c_parser.proofs.ItemGoesOn.{first_declarator_goes_on}
use Rattle.c_parser.proofs.Passing.{passed, passed_deep, passed_flat}
use Rattle.c_parser.proofs.declarations.plain_declaration.Goals as goal
use Rattle.c_syntax_printing.proofs.DeclForms.{spec_fails}
use Rattle.c_syntax_printing.proofs.PartOpens.{decl_opens}

pub returns-clause-reads : goal.returns-clause-reads
returns-clause-reads c = plain_decl c.place-at.ensures c.in_ok-spec.ensures.parses (c.in_ok-parts.ensures.reads _ c.in_ok-first.ensures.parses)

pub returns-clause-shorter : goal.returns-clause-shorter
returns-clause-shorter c = omega (arith, c.in_ok-spec.ensures.shorter, c.in_ok-first.ensures.shorter, c.in_ok-parts.ensures.shorter)

pub returns-in_err-spec-clause-stops : goal.returns-in_err-spec-clause-stops
returns-in_err-spec-clause-stops c = raised_flat APlainDecl (bound_of c.args.room) c.from_residual.result c.in_err-spec.field-0.0 c.from_residual.ensures (λ x r f. spec_fails x f) c.in_err-spec.ensures.stops

pub returns-in_err-first-clause-stops : goal.returns-in_err-first-clause-stops
returns-in_err-first-clause-stops c = raised APlainDecl ADeclarator (bound_of c.args.room) _ c.from_residual-in_err-first.result c.in_err-first.field-0.0 c.from_residual-in_err-first.ensures (λ x r f. first_declarator_fails x c.in_ok-spec.ensures.parses f) c.in_err-first.ensures.stops

pub returns-in_err-parts-clause-stops : goal.returns-in_err-parts-clause-stops
returns-in_err-parts-clause-stops c =
    raised APlainDecl PartsTail (bound_of c.args.room) _ c.from_residual-in_err-parts.result c.in_err-parts.field-0.0 c.from_residual-in_err-parts.ensures (λ x r f. parts_tail_fails x c.in_ok-spec.ensures.parses c.in_ok-first.ensures.parses f) c.in_err-parts.ensures.stops

pub returns-in_err-spec-clause-nests : goal.returns-in_err-spec-clause-nests
returns-in_err-spec-clause-nests c =
    passed_flat APlainDecl (OpensAs DeepDecl) c.args.room c.args.cursor.now.rest.now c.from_residual.result c.in_err-spec.field-0.0 c.from_residual.ensures c.in_err-spec.ensures.stops

pub returns-in_err-first-clause-nests : goal.returns-in_err-first-clause-nests
returns-in_err-first-clause-nests c =
    passed_deep APlainDecl ADeclarator (OpensAs DeepDecl) (DeepDeclarator HasName) c.args.room c.from_residual-in_err-first.result c.in_err-first.field-0.0 c.from_residual-in_err-first.ensures
    (λ r f. first_declarator_fails (bound_of c.args.room) c.in_ok-spec.ensures.parses f)
    (λ at q d. first_declarator_goes_on c.in_ok-spec.ensures.parses d) c.in_err-first.ensures.nests

pub returns-in_err-parts-clause-nests : goal.returns-in_err-parts-clause-nests
returns-in_err-parts-clause-nests c =
    passed APlainDecl PartsTail (OpensAs DeepDecl) (OpensParts c.args.room (declarator_of c.in_ok-first.first)) c.args.room c.args.room c.from_residual-in_err-parts.result c.in_err-parts.field-0.0 c.from_residual-in_err-parts.ensures
    (λ r f. parts_tail_fails (bound_of c.args.room) c.in_ok-spec.ensures.parses c.in_ok-first.ensures.parses f)
    (λ at q d. decl_opens c.in_ok-spec.ensures.parses.reads (d _ c.in_ok-first.ensures.parses)) c.in_err-parts.ensures.nests
