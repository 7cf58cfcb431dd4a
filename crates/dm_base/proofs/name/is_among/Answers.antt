use Rattle.std.proofs.Common.{sym, ◌∙◌, [], refl, below_more}
use Rattle.std.proofs.lemmas.List.{get_or-map, length-map}
use Rattle.std.proofs.lemmas.Slice.Eq.{bytes_eq-Decides}
use Rattle.std.proofs.lemmas.Bool.{false≢true}
use Rattle.dm_base.proofs.name.is_among.Goals as goal

pub returns-then-eq : goal.returns-then-eq
returns-then-eq c =
    let i = c.loop-word.word-index in
    let words = c.args.words.now in
    let same = (bytes_eq-Decides _ _).0 (sym c.eq.ensures ∙ c.if-eq.true) in
    let here = get_or-map (λ word. word.now) words i (record { ref_ptr = (0, 0); now = [] }) c.args.text.now c.loop-word-test.true in
    (λ _. (i, let l = c.loop-word-test.true in simp length-map l, here ∙ same), λ _. refl)

pub loop-word-preserved : goal.loop-word-preserved
loop-word-preserved c =
    below_more _ _ c.loop-word.invariant
    (λ e. let here = get_or-map (λ word. word.now) c.args.words.now c.loop-word.word-index (record { ref_ptr = (0, 0); now = [] }) c.args.text.now c.loop-word-test.true in
    false≢true (sym c.if-eq.false ∙ c.eq.ensures ∙ (bytes_eq-Decides _ _).1 (sym here ∙ e)))
