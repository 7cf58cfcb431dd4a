use Rattle.std.proofs.Common.{◌≡◌, ◌∙◌, ap, subst, length, ℕ, List, ◌∷◌, ◌-◌}
use Rattle.std.specs.Prelude.{IfSome, slice_get}
use Rattle.dm_sets.proofs.Tops.{top_is}
use Rattle.dm_sets.proofs.bounded_stack.BoundedStack.top.Goals as goal

pub returns-clause-some : goal.returns-clause-some
returns-clause-some c =
    let last : c.copied.result ≡ slice_get c.self.inside.entries.items (length c.self.inside.entries.items - 1) = c.copied.ensures ∙ c.last.ensures.value ∙ ap (λ xs. slice_get xs (length xs - 1)) c.deref.ensures.value in
    subst (λ s. IfSome c.copied.result (λ item. (rest : List ℕ) × (s.items ≡ item ∷ rest))) c.self.view_is (top_is c.self.inside.entries.items c.copied.result last)
