use Rattle.std.proofs.Common.{List, Err, sym, subst}
use Rattle.c_lexer.specs.declared.token.Token.{Token}
use Rattle.c_parser.specs.Refused as parser
use Rattle.c_syntax.specs.Spelling.{SpellsUnit}
use Rattle.c_syntax.specs.Tree.{Items}
use Rattle.c_syntax.specs.UnitView.{items_of}
use Rattle.tool_steps.specs.declared.error.SourceError.{SourceError}
use Rattle.tool_steps.specs.Sources.{IsSourceCause, HasNoProgram}
use Rattle.tool_steps.proofs.SourceLemmas.{lexical_cause, lexical_none, spelled_cause, spelled_none, typed_cause, typed_none}
use Rattle.tool_steps.proofs.reading.read_source.Goals as goal

pub returns-in-Err-clause-cause : goal.returns-in-Err-clause-cause
returns-in-Err-clause-cause c = subst (λ (e : SourceError). IsSourceCause e c.args.text.now c.args.mode) (sym c.lexical.ensures) (lexical_cause c.in-Err.error c.args.text.now c.args.mode c.in-Err.ensures.refused)

pub returns-in-Err-clause-none : goal.returns-in-Err-clause-none
returns-in-Err-clause-none c = subst (λ (e : SourceError). HasNoProgram e c.args.text.now c.args.mode) (sym c.lexical.ensures) (lexical_none c.in-Err.error c.args.text.now c.args.mode c.in-Err.ensures.none)

pub returns-in-Err-parse-clause-cause : goal.returns-in-Err-parse-clause-cause
returns-in-Err-parse-clause-cause c =
    subst (λ (e : SourceError). IsSourceCause e c.args.text.now c.args.mode) (sym c.syntactic.ensures)
    (spelled_cause c.args.text.now c.args.mode c.in-Ok.found.items c.in-Ok.ensures.spelled c.in-Err-parse.error
    (subst (λ (ts : List Token). parser.IsRefused ts c.args.mode c.in-Err-parse.error) c.deref.ensures.value c.in-Err-parse.ensures.refused))

pub returns-in-Err-parse-clause-none : goal.returns-in-Err-parse-clause-none
returns-in-Err-parse-clause-none c =
    subst (λ (e : SourceError). HasNoProgram e c.args.text.now c.args.mode) (sym c.syntactic.ensures)
    (spelled_none c.args.text.now c.args.mode c.in-Ok.found.items c.in-Ok.ensures.spelled c.in-Err-parse.error
    (subst (λ (ts : List Token). (unit : Items) → SpellsUnit unit ts c.args.mode → parser.Answers unit (Err c.in-Err-parse.error)) c.deref.ensures.value c.in-Err-parse.ensures.complete))

pub check-requires : goal.check-requires
check-requires c =
    record {
      lexical = c.a_spelled_unit_is_lexical.ensures c.args.text.now c.args.mode c.in-Ok.found.items (items_of c.in-Ok-parse.unit.items.items) c.in-Ok.ensures.spelled
          (subst (λ (ts : List Token). SpellsUnit (items_of c.in-Ok-parse.unit.items.items) ts c.args.mode) c.deref.ensures.value c.in-Ok-parse.ensures.spelled);
    }

pub returns-in-Err-check-clause-cause : goal.returns-in-Err-check-clause-cause
returns-in-Err-check-clause-cause c =
    subst (λ (e : SourceError). IsSourceCause e c.args.text.now c.args.mode) (sym c.untyped.ensures)
    (typed_cause c.args.text.now c.args.mode c.in-Ok.found.items c.in-Ok.ensures.spelled (items_of c.in-Ok-parse.unit.items.items) c.in-Err-check.error
    (subst (λ (ts : List Token). SpellsUnit (items_of c.in-Ok-parse.unit.items.items) ts c.args.mode) c.deref.ensures.value c.in-Ok-parse.ensures.spelled) c.in-Err-check.ensures.refused)

pub returns-in-Err-check-clause-none : goal.returns-in-Err-check-clause-none
returns-in-Err-check-clause-none c =
    subst (λ (e : SourceError). HasNoProgram e c.args.text.now c.args.mode) (sym c.untyped.ensures)
    (typed_none c.args.text.now c.args.mode c.in-Ok.found.items c.in-Ok.ensures.spelled (items_of c.in-Ok-parse.unit.items.items) c.in-Err-check.error
    (subst (λ (ts : List Token). SpellsUnit (items_of c.in-Ok-parse.unit.items.items) ts c.args.mode) c.deref.ensures.value c.in-Ok-parse.ensures.spelled) c.in-Err-check.ensures.refused)

pub returns-clause-read : goal.returns-clause-read
returns-clause-read c = record {
  tokens = c.in-Ok.found.items;
  lexed = c.in-Ok.ensures.spelled;
  spelled = subst (λ (ts : List Token). SpellsUnit (items_of c.in-Ok-parse.unit.items.items) ts c.args.mode) c.deref.ensures.value c.in-Ok-parse.ensures.spelled;
  typed = c.in-Ok-check.ensures.typed;
}
