use Rattle.std.proofs.Common.{arith}
use Rattle.c_parser.proofs.ItemLemmas.{is_decl_item, is_definition, block_of, storage_no_longer}
use Rattle.c_syntax_printing.specs.Phrases.{ADeclarator, InBlock}
use Rattle.c_syntax_printing.specs.Declarations.{PartsTail}
use Rattle.c_syntax_printing.specs.Items.{AnOther}
use Rattle.c_parser_phrases.specs.Refusing.{bound_of}
use Rattle.c_parser_phrases.proofs.Known.{not_there}
use Rattle.c_parser.proofs.StmtStops.{raised, raised_flat, raised_inner}
use Rattle.c_parser.proofs.ItemStops.{declarator_of_item_fails, body_of_item_fails, parts_of_item_fail}
use Rattle.c_syntax.specs.View.{declarator_of}
use Rattle.c_syntax.specs.Grammar.{HasName}
use Rattle.c_syntax_printing.specs.Opens.{DeepItem, DeepDeclarator}
use Rattle.c_syntax_printing.specs.Phrases.{inner}
use Rattle.c_parser.specs.Nesting.{OpensAs, OpensInBlock, OpensParts}
use Rattle.c_parser.proofs.ItemGoesOn.{item_declarator_goes_on, body_then}
use Rattle.c_parser.proofs.Passing.{passed, passed_deep, passed_flat}
use Rattle.c_parser.proofs.items.other_item.Goals as goal
use Rattle.c_syntax_printing.proofs.Combine.{fails_first}
use Rattle.c_syntax_printing.proofs.UnitOpens.{item_parts_open}

pub returns-then-is_at-clause-reads : goal.returns-then-is_at-clause-reads
returns-then-is_at-clause-reads c = is_definition c.place-at.ensures c.storage-storage.ensures.reads c.in_ok-spec.ensures.parses c.in_ok-declarator.ensures.parses (block_of c.into_inner.ensures c.in_ok-body.ensures.reads)

pub returns-clause-reads : goal.returns-clause-reads
returns-clause-reads c = is_decl_item c.place-at.ensures c.storage-storage.ensures.reads c.in_ok-spec.ensures.parses (c.in_ok-parts.ensures.reads _ c.in_ok-declarator.ensures.parses)

pub returns-then-is_at-clause-shorter : goal.returns-then-is_at-clause-shorter
returns-then-is_at-clause-shorter c = omega (arith, storage_no_longer c.storage-storage.ensures.reads, c.in_ok-spec.ensures.shorter, c.in_ok-declarator.ensures.shorter, c.in_ok-body.ensures.shorter)

pub returns-clause-shorter : goal.returns-clause-shorter
returns-clause-shorter c = omega (arith, storage_no_longer c.storage-storage.ensures.reads, c.in_ok-spec.ensures.shorter, c.in_ok-declarator.ensures.shorter, c.in_ok-parts.ensures.shorter)

pub returns-in_err-spec-clause-stops : goal.returns-in_err-spec-clause-stops
returns-in_err-spec-clause-stops c = raised_flat AnOther (bound_of c.args.room) c.from_residual.result c.in_err-spec.field-0.0 c.from_residual.ensures (λ x r f. c.storage-storage.ensures.leads x r (fails_first f)) c.in_err-spec.ensures.stops

pub returns-in_err-declarator-clause-stops : goal.returns-in_err-declarator-clause-stops
returns-in_err-declarator-clause-stops c = raised AnOther ADeclarator (bound_of c.args.room) _ c.from_residual-in_err-declarator.result c.in_err-declarator.field-0.0 c.from_residual-in_err-declarator.ensures (λ x r f. c.storage-storage.ensures.leads x r (declarator_of_item_fails x c.in_ok-spec.ensures.parses f)) c.in_err-declarator.ensures.stops

pub returns-in_err-body-clause-stops : goal.returns-in_err-body-clause-stops
returns-in_err-body-clause-stops c = raised_inner AnOther InBlock (bound_of c.args.room) _ c.from_residual-in_err-body.result c.in_err-body.field-0.0 c.from_residual-in_err-body.ensures (λ x r f. c.storage-storage.ensures.leads x r (body_of_item_fails x c.in_ok-spec.ensures.parses c.in_ok-declarator.ensures.parses (c.is_at.ensures.stands.0 c.if-is_at.true) f)) c.in_err-body.ensures.stops

pub returns-in_err-parts-clause-stops : goal.returns-in_err-parts-clause-stops
returns-in_err-parts-clause-stops c = raised AnOther PartsTail (bound_of c.args.room) _ c.from_residual-in_err-parts.result c.in_err-parts.field-0.0 c.from_residual-in_err-parts.ensures (λ x r f. c.storage-storage.ensures.leads x r (parts_of_item_fail x c.in_ok-spec.ensures.parses c.in_ok-declarator.ensures.parses (not_there c.is_at.result c.if-is_at.false c.is_at.ensures.stands) f)) c.in_err-parts.ensures.stops

pub returns-in_err-spec-clause-nests : goal.returns-in_err-spec-clause-nests
returns-in_err-spec-clause-nests c =
    passed_flat AnOther (OpensAs DeepItem) c.args.room c.args.cursor.now.rest.now c.from_residual.result c.in_err-spec.field-0.0 c.from_residual.ensures c.in_err-spec.ensures.stops

pub returns-in_err-declarator-clause-nests : goal.returns-in_err-declarator-clause-nests
returns-in_err-declarator-clause-nests c =
    passed_deep AnOther ADeclarator (OpensAs DeepItem) (DeepDeclarator HasName) c.args.room c.from_residual-in_err-declarator.result c.in_err-declarator.field-0.0 c.from_residual-in_err-declarator.ensures
    (λ r f. c.storage-storage.ensures.leads (bound_of c.args.room) r (declarator_of_item_fails (bound_of c.args.room) c.in_ok-spec.ensures.parses f))
    (λ at q d. item_declarator_goes_on c.storage-storage.ensures.reads c.in_ok-spec.ensures.parses d) c.in_err-declarator.ensures.nests

pub returns-in_err-body-clause-nests : goal.returns-in_err-body-clause-nests
returns-in_err-body-clause-nests c =
    passed AnOther (λ b. InBlock (inner b)) (OpensAs DeepItem) OpensInBlock c.args.room c.args.room c.from_residual-in_err-body.result c.in_err-body.field-0.0 c.from_residual-in_err-body.ensures
    (λ r f. c.storage-storage.ensures.leads (bound_of c.args.room) r (body_of_item_fails (bound_of c.args.room) c.in_ok-spec.ensures.parses c.in_ok-declarator.ensures.parses (c.is_at.ensures.stands.0 c.if-is_at.true) f))
    (λ at q d. body_then _ c.requires c.storage-storage.ensures.reads c.in_ok-spec.ensures.parses c.in_ok-declarator.ensures.parses (c.is_at.ensures.stands.0 c.if-is_at.true) d) c.in_err-body.ensures.nests

pub returns-in_err-parts-clause-nests : goal.returns-in_err-parts-clause-nests
returns-in_err-parts-clause-nests c =
    passed AnOther PartsTail (OpensAs DeepItem) (OpensParts c.args.room (declarator_of c.in_ok-declarator.declarator)) c.args.room c.args.room c.from_residual-in_err-parts.result c.in_err-parts.field-0.0 c.from_residual-in_err-parts.ensures
    (λ r f. c.storage-storage.ensures.leads (bound_of c.args.room) r (parts_of_item_fail (bound_of c.args.room) c.in_ok-spec.ensures.parses c.in_ok-declarator.ensures.parses (not_there c.is_at.result c.if-is_at.false c.is_at.ensures.stands) f))
    (λ at q d. item_parts_open c.storage-storage.ensures.reads c.in_ok-spec.ensures.parses.reads (d _ c.in_ok-declarator.ensures.parses)) c.in_err-parts.ensures.nests
