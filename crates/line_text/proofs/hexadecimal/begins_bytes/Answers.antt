use Rattle.std.proofs.Common.{◌≡◌, ◌∷◌, [], sym, ◌∙◌, inl, inr}
use Rattle.std.specs.Cmp.Lexicographic.{same_text, other_text}
use Rattle.line_text.proofs.HexadecimalLemmas.{lower_from_all, all_from_lower, front_of_minus, front_of_bytes, bytes_of_front}
use Rattle.line_text.proofs.hexadecimal.begins_bytes.Goals as goal

pub returns-then-eq : goal.returns-then-eq
returns-then-eq c =
    let is : c.args.text.now ≡ 45 ∷ [] = same_text c.args.text.now c.as_slice.result.now c.if-eq.ensures ∙ c.as_slice.ensures in
    (λ _. rw is front_of_minus, λ _. c.if-eq.true)

pub returns-else-eq : goal.returns-else-eq
returns-else-eq c = (
  λ holds. front_of_bytes c.args.text.now (lower_from_all c.args.text.now (c.are_lower_digits.ensures.0 holds)),
  λ begins. elim (bytes_of_front c.args.text.now begins) [
    | inl lower ↦ c.are_lower_digits.ensures.1 (all_from_lower c.args.text.now lower)
    | inr is ↦ absurd (other_text c.args.text.now c.as_slice.result.now c.if-eq.ensures (is ∙ sym c.as_slice.ensures))
  ],
)
