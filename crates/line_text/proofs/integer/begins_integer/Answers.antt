use Rattle.std.proofs.Common.{◌≡◌, ◌∷◌, [], drop, refl, arith, rules}
use Rattle.std.specs.Prelude.{FitsSigned}
use Rattle.std.specs.Int.{w64}
use Rattle.std.proofs.lemmas.Int.{to_z-of_z}
use Rattle.std.proofs.lemmas.List.{nil_from_length, take_rest}
use Rattle.line_text.proofs.IntegerLemmas.{begins_all, begins_after_minus}
use Rattle.line_text.proofs.integer.begins_integer.Goals as goal

pub returns-in-empty : goal.returns-in-empty
returns-in-empty c =
    let none : c.args.text.now ≡ [] = nil_from_length c.args.text.now (omega arith) in
    (λ _. rw none (begins_all c.args.least c.args.most c.requires), λ _. refl)

pub returns-in-45 : goal.returns-in-45
returns-in-45 c =
    let low : FitsSigned w64 c.args.least = c.ranges.least in
    let high : FitsSigned w64 c.args.most = c.ranges.most in
    let is : c.args.text.now ≡ 45 ∷ drop 1 c.args.text.now = search rules in
    let tells = simp (to_z-of_z, take_rest) at c.begins_negative.ensures in
    rw is (begins_after_minus c.begins_negative.result c.args.least c.args.most (drop 1 c.args.text.now) low high tells)
