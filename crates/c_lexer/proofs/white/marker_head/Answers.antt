use Rattle.std.proofs.Common.{◌≡◌, ◌≤◌, ◌∷◌, ◌+◌, arith, drop, length}
use Rattle.std.proofs.lemmas.List.{take_rest}
use Rattle.dm_base.specs.Name.{IsDigit}
use Rattle.c_lexer.specs.Runs.{IsRunLength}
use Rattle.c_lexer.proofs.white.marker_head.Goals as goal
use Rattle.c_lexer.proofs.white.marker_head.Goals.{After-run_length-digits, then-digits-eq0-via-then-digits-eq0, then-digits-eq0-via-else-digits-eq0+then-after-digits, then-after-digits-ne32-via-then-after-digits-ne32, then-after-digits-ne32-via-else-after-digits-ne32+then-after-digits-ne34}
use Rattle.c_lexer.proofs.WhiteAnswers.{two_and_more}
use Rattle.c_lexer.proofs.WhiteMarkers.{no_marker_bytes, marker_head_reads}

head_bytes : (c : After-run_length-digits) → c.args.text.now ≡ 35 ∷ 32 ∷ drop 2 c.args.text.now
head_bytes c = two_and_more c.args.text.now 35 32 c.if-text-lt2.false c.if-text-ne35.false c.if-text-ne32.false

head_digits : (c : After-run_length-digits) → IsRunLength IsDigit (drop 2 c.args.text.now) c.run_length-digits.result
head_digits c = rw take_rest at c.run_length-digits.ensures

pub returns-then-digits-eq0 : goal.returns-then-digits-eq0
returns-then-digits-eq0 c =
    no_marker_bytes c.args.text.now c.run_length-digits.result (head_bytes (goal.at.returns-then-digits-eq0 c).After-run_length-digits) (head_digits (goal.at.returns-then-digits-eq0 c).After-run_length-digits)
    (λ pair. let within = pair.1.within in elim c.then-digits-eq0.branch [ then-digits-eq0-via-then-digits-eq0 w ↦ omega (arith, w.if-digits-eq0.true, pair.0) | then-digits-eq0-via-else-digits-eq0+then-after-digits w ↦ omega (arith, rw take_rest at w.if-after-digits.true, within) ])

pub returns-then-after-digits-ne32 : goal.returns-then-after-digits-ne32
returns-then-after-digits-ne32 c =
    no_marker_bytes c.args.text.now c.run_length-digits.result (head_bytes (goal.at.returns-then-after-digits-ne32 c).After-run_length-digits) (head_digits (goal.at.returns-then-after-digits-ne32 c).After-run_length-digits)
    (λ pair. elim c.then-after-digits-ne32.branch [ then-after-digits-ne32-via-then-after-digits-ne32 w ↦ (rw take_rest at w.if-after-digits-ne32.true) pair.1.space | then-after-digits-ne32-via-else-after-digits-ne32+then-after-digits-ne34 w ↦ (rw take_rest at w.if-after-digits-ne34.true) pair.1.quote ])

pub returns : goal.returns
returns c =
    let within : c.run_length-digits.result + 2 ≤ length (drop 2 c.args.text.now) = rw take_rest at c.if-after-digits.false in
    marker_head_reads c.args.text.now (drop 2 c.args.text.now) c.run_length-digits.result (head_bytes (goal.at.returns c).After-run_length-digits) (head_digits (goal.at.returns c).After-run_length-digits) (omega arith)
    (record { within = within; space = rw take_rest at c.if-after-digits-ne32.false; quote = rw take_rest at c.if-after-digits-ne34.false })
