use Rattle.std.proofs.Common.{◌≡◌, [], map, length, subst, arith}
use Rattle.std.proofs.lemmas.List.{length-map}
use Rattle.std.proofs.lemmas.Slice.Eq.{starts_is}
use Rattle.std.proofs.lemmas.Bool.{both_ways}
use Rattle.std.proofs.lemmas.Bool.Decides.{Decides-eqb}
use Rattle.c_lexer.proofs.WordTables.{slice_get_now}
use Rattle.c_lexer.proofs.MarkLemmas.{IsLongestSoFar, longest_same, longest_new, longest_end, longest_as}
use Rattle.c_lexer.proofs.words.longest_front.Goals as goal
use Rattle.c_lexer.proofs.words.longest_front.Goals.{then-word-length+then-starts_with, else-word-length, else-word-length-via-then-word-length+else-starts_with, else-word-length-via-else-word-length}

pub loop-number-preserved : goal.loop-number-preserved
loop-number-preserved c =
    let at = slice_get_now c.args.words.now c.loop-number.number (record { ref_ptr = (0, 0); now = [] }) c.loop-number-test.true in
    elim c.if-word-length.branch [
      | then-word-length+then-starts_with w ↦
          let stands = (starts_is Decides-eqb _ _ _ w.starts_with.ensures.value).0 w.if-starts_with.true in
          longest_as _ _ _ _ _ _ _ w.longest-is w.length-is (longest_new _ _ _ _ _ _ _ c.loop-number.invariant at stands w.if-word-length.true)
      | else-word-length w ↦
          longest_as _ _ _ _ _ _ _ w.longest-is w.length-is
          (elim w.else-word-length.branch [
            | else-word-length-via-then-word-length+else-starts_with v ↦
                longest_same _ _ _ _ _ _ c.loop-number.invariant at (λ y is. absurd (both_ways _ v.if-starts_with.false ((starts_is Decides-eqb _ _ _ v.starts_with.ensures.value).1 y is)))
            | else-word-length-via-else-word-length v ↦
                longest_same _ _ _ _ _ _ c.loop-number.invariant at (λ y is. v.if-word-length.false)
          ])
    ]

pub returns : goal.returns
returns c =
    let whole : c.loop-number.number ≡ length (map (λ word. word.now) c.args.words.now) = simp length-map (omega arith) in
    longest_end _ _ _ _ (subst (λ n. IsLongestSoFar (map (λ word. word.now) c.args.words.now) c.args.text.now n c.loop-number.longest c.loop-number.length) whole c.loop-number.invariant)
