-- Lemmas that several crates above use.
use Rattle.std.proofs.Common.{List, ap, ◌++◌, ◌∙◌, ◌≡◌}
use Rattle.std.proofs.lemmas.List.{append_assoc}

pub two_parts : {Y : Type 0} (old mid new a b : List Y) → mid ≡ old ++ a → new ≡ mid ++ b → new ≡ old ++ (a ++ b)
two_parts old mid new a b first second = second ∙ ap (λ ys. ys ++ b) first ∙ append_assoc old a b
