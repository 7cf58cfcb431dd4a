use Rattle.std.proofs.Common.{◌≡◌, ℕ, ◌≤◌, suc, negsuc, pos, ◌+ℤ◌, ◌≤ℤ◌, arith}
use Rattle.std.proofs.lemmas.Int.{ints}
use Rattle.line_text.proofs.IntegerLemmas.{begins_below}
use Rattle.line_text.proofs.integer.begins_negative.Goals as goal
use Rattle.line_text.proofs.integer.begins_negative.Goals.{then-most-lt0, else-most-lt0}

pub returns : goal.returns
returns c =
    let near = c.if-most-lt0.nearest in
    let far : pos c.unsigned_abs.result +ℤ c.args.least ≡ pos 0 = grind (arith, ints) in
    let some : 1 ≤ near = elim c.if-most-lt0.branch [ then-most-lt0 w ↦ grind (arith, ints) | else-most-lt0 w ↦ omega arith ] in
    let to_most : (n : ℕ) → near ≤ suc n → negsuc n ≤ℤ c.args.most = λ n h. elim c.if-most-lt0.branch [ then-most-lt0 w ↦ grind (arith, ints) | else-most-lt0 w ↦ grind (arith, ints) ] in
    let from_most : (n : ℕ) → negsuc n ≤ℤ c.args.most → near ≤ suc n = λ n h. elim c.if-most-lt0.branch [ then-most-lt0 w ↦ grind (arith, ints) | else-most-lt0 w ↦ omega arith ] in
    begins_below c.begins_number.result c.args.least c.args.most near c.unsigned_abs.result c.args.digits.now some to_most from_most (λ n h. omega (arith, ints)) (λ n h. omega (arith, ints)) c.begins_number.ensures
