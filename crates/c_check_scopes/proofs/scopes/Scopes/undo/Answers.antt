use Rattle.std.proofs.Common.{ap, ◌∙◌, sym}
use Rattle.std.specs.Option.{option_copied_mut}
use Rattle.c_check_scopes.proofs.IndexLemmas.{undone, there, some_there, taken}
use Rattle.c_check_scopes.proofs.scopes.Scopes.undo.Goals as goal

pub invariant_of-self : goal.invariant_of-self
invariant_of-self c = let i = rw c.in-Some.ensures.items at c.self.invariant in undone _ _ c.pop.new.self.items c.in-Some.entry i ((c.get_mut.follows.holds c.in-Some.entry.hidden).3 (some_there _ _ _ i)).0

pub invariant_of-self-in-Some : goal.invariant_of-self-in-Some
invariant_of-self-in-Some c = let i = rw c.in-Some.ensures.items at c.self.invariant in absurd (there _ _ c.in-Some.entry i (sym c.get_mut.ensures.value ∙ ap option_copied_mut c.in_default-get_mut.is))

pub returns-in-Some-get_mut : goal.returns-in-Some-get_mut
returns-in-Some-get_mut c b bs q = taken _ _ c.in-Some.entry b bs c.in-Some.ensures.items (c.self.view_is ∙ q)

pub returns-in-Some : goal.returns-in-Some
returns-in-Some c b bs q = taken _ _ c.in-Some.entry b bs c.in-Some.ensures.items (c.self.view_is ∙ q)
