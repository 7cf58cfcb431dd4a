use Rattle.c_parser.proofs.StmtLemmas.{decl_before}
use Rattle.c_parser.proofs.StmtStops.{raised}
use Rattle.c_parser.proofs.LoopStops.{plain_item, declaration_fails}
use Rattle.c_syntax_printing.specs.Phrases.{APlainDecl, ABlockItem}
use Rattle.c_parser_phrases.specs.Refusing.{bound_of}
use Rattle.c_syntax_printing.specs.Opens.{DeepDecl, DeepBlock}
use Rattle.c_syntax_printing.proofs.StmtOpens.{item_decl_opens}
use Rattle.c_parser.specs.Nesting.{OpensAs}
use Rattle.c_parser.proofs.StmtGoesOn.{decl_then}
use Rattle.c_parser.proofs.Passing.{passed}
use Rattle.c_parser.proofs.statements.block_declaration.Goals as goal

pub returns-clause-reads : goal.returns-clause-reads
returns-clause-reads c = record { item = _; added = c.in_ok-push.ensures.items; stands = record { item = plain_item c.in_ok-declaration.ensures.reads; before = decl_before _ c.in_ok-declaration.ensures.reads } }

pub returns-in_err-declaration-clause-stops : goal.returns-in_err-declaration-clause-stops
returns-in_err-declaration-clause-stops c =
    raised ABlockItem APlainDecl (bound_of c.args.room) _ c.from_residual.result c.in_err-declaration.field-0.0 c.from_residual.ensures (λ x r f. declaration_fails x c.requires f) c.in_err-declaration.ensures.stops

pub returns-in_err-declaration-clause-nests : goal.returns-in_err-declaration-clause-nests
returns-in_err-declaration-clause-nests c =
    passed ABlockItem APlainDecl (OpensAs DeepBlock) (OpensAs DeepDecl) c.args.room c.args.room c.from_residual.result c.in_err-declaration.field-0.0 c.from_residual.ensures
    (λ r f. declaration_fails (bound_of c.args.room) c.requires f)
    (λ at q d. item_decl_opens d) c.in_err-declaration.ensures.nests

pub returns-clause-opens : goal.returns-clause-opens
returns-clause-opens c at n q d = decl_then c.in_ok-declaration.ensures.reads d

pub declaration-requires : goal.declaration-requires
declaration-requires c = c.requires
