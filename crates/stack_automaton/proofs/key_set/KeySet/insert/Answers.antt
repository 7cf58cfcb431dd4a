use Rattle.std.proofs.Common.{◌≡◌, true, sym, subst}
use Rattle.std.proofs.Math.ListN.{set}
use Rattle.dm_base.specs.Adding.{Adds}
use Rattle.stack_automaton.specs.Marks.{Keys, AreMarked}
use Rattle.stack_automaton.proofs.MarksLemmas.{marked_same, marked_more, added_one, added_none}
use Rattle.stack_automaton.proofs.key_set.KeySet.insert.Goals as goal

pub returns-then-contains : goal.returns-then-contains
returns-then-contains c = added_none c.args.self.now.keys c.args.key (c.contains.ensures.0 c.if-contains.true)

pub invariant_of-self : goal.invariant_of-self
invariant_of-self c = marked_same c.self.inside.list.items c.self.inside.marks.items c.make_room.new.marks.items c.make_room.ensures.same c.self.invariant

pub invariant_of-self-in_err-push : goal.invariant_of-self-in_err-push
invariant_of-self-in_err-push c =
    subst (λ ks. AreMarked ks c.make_room.new.marks.items) (sym c.in_err-push.ensures.items)
    (marked_same c.self.inside.list.items c.self.inside.marks.items c.make_room.new.marks.items c.make_room.ensures.same c.self.invariant)

pub invariant_of-self-2 : goal.invariant_of-self-2
invariant_of-self-2 c =
    subst (λ ks. AreMarked ks (set c.make_room.new.marks.items c.args.key true)) (sym c.in_ok-push.ensures.items)
    (marked_more c.self.inside.list.items c.make_room.new.marks.items c.args.key c.in_ok-make_room.ensures.long
    (marked_same c.self.inside.list.items c.self.inside.marks.items c.make_room.new.marks.items c.make_room.ensures.same c.self.invariant))

pub returns : goal.returns
returns c =
    subst (λ (s : Keys). Adds s.keys c.push.new.self.items (λ k. k ≡ c.args.key)) c.self.view_is
    (subst (λ ks. Adds c.self.inside.list.items ks (λ k. k ≡ c.args.key)) (sym c.in_ok-push.ensures.items) (added_one c.self.inside.list.items c.args.key))
