use Rattle.std.proofs.Common.{Some, ap, sym, ◌∙◌, below_more, []}
use Rattle.std.proofs.lemmas.List.{get_or-map}
use Rattle.std.proofs.lemmas.Slice.Eq.{bytes_eq-Decides}
use Rattle.std.proofs.lemmas.Bool.{false≢true}
use Rattle.c_lexer.proofs.WordTables.{slice_get_now}
use Rattle.c_lexer.proofs.words.number_among.Goals as goal

pub returns-then-eq : goal.returns-then-eq
returns-then-eq c =
    let same = (bytes_eq-Decides _ _).0 (sym c.eq.ensures ∙ c.if-eq.true) in
    slice_get_now c.args.words.now c.loop-number.number (record { ref_ptr = (0, 0); now = [] }) c.loop-number-test.true ∙ ap Some same

pub loop-number-preserved : goal.loop-number-preserved
loop-number-preserved c =
    below_more _ _ c.loop-number.invariant
    (λ e. let here = get_or-map (λ word. word.now) c.args.words.now c.loop-number.number (record { ref_ptr = (0, 0); now = [] }) c.args.text.now c.loop-number-test.true in
    false≢true (sym c.if-eq.false ∙ c.eq.ensures ∙ (bytes_eq-Decides _ _).1 (sym here ∙ e)))
