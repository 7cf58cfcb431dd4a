use Rattle.std.proofs.Common.{ap, sym, ◌∙◌, ◌∷◌, drop, subst}
use Rattle.line_text.specs.Reading.{IsCutShort}
use Rattle.std.proofs.Math.Seq.{drop-cons}
use Rattle.line_text.proofs.Splits.{err_case, ok_case}
use Rattle.sys_table.specs.Table.{FitsEntry}
use Rattle.model_file.specs.SysBounds.{entry_word}
use Rattle.model_file.proofs.Narrowing.{reads_err}
use Rattle.model_file.proofs.PatternLemmas.{nothing_is_cut, no_bytes, star_case, integer_case}
use Rattle.model_file.proofs.pattern_words.take_first_entry.Goals as goal

pub returns-in_default : goal.returns-in_default
returns-in_default c = subst (IsCutShort (FitsEntry c.args.kind) (entry_word c.args.end)) (sym (no_bytes c.args.cursor.now.rest.now c.in_default.len_below)) (nothing_is_cut c.args.kind c.args.end)

pub returns-in_err-take_any : goal.returns-in_err-take_any
returns-in_err-take_any c =
    let old = c.args.cursor.now.rest.now in
    let rest = c.take_any.new.cursor.rest.now in
    let star = drop-cons old 0 0 c.in-len1-up.len_at_least ∙ ap (λ b. b ∷ drop 1 old) c.if-first-eq42.true in
    reads_err _ _ _ _ _ c.from_residual.result c.from_residual.ensures.1 (err_case old rest rest (star_case c.args.kind c.args.end (drop 1 old) old star) c.in_err-take_any.field-0.0 c.in_err-take_any.ensures)

pub returns-in_ok-take_any : goal.returns-in_ok-take_any
returns-in_ok-take_any c =
    let old = c.args.cursor.now.rest.now in
    let star = drop-cons old 0 0 c.in-len1-up.len_at_least ∙ ap (λ b. b ∷ drop 1 old) c.if-first-eq42.true in
    ok_case old c.take_any.new.cursor.rest.now (star_case c.args.kind c.args.end (drop 1 old) old star) tt c.in_ok-take_any.ensures

pub returns-in_err-take_integer : goal.returns-in_err-take_integer
returns-in_err-take_integer c =
    let old = c.args.cursor.now.rest.now in
    let rest = c.take_integer.new.cursor.rest.now in
    reads_err _ _ _ _ _ c.from_residual-in_err-take_integer.result c.from_residual-in_err-take_integer.ensures.1 (err_case old rest rest (integer_case c.args.kind c.args.end _ (drop 1 old) old (drop-cons old 0 0 c.in-len1-up.len_at_least) c.if-first-eq42.false) c.in_err-take_integer.field-0.0 c.in_err-take_integer.ensures)
