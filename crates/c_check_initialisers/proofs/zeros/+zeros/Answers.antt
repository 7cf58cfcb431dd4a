use Rattle.std.proofs.Common.{◌∙◌, ap, sym, arith}
use Rattle.c_check_initialisers.proofs.ZeroLemmas.{added_as, copies_more, copies_end, member_more, members_end, struct_added, struct_none, rank_inside, rank_of_member}
use Rattle.c_check_initialisers.proofs.zeros.+zeros.Goals as goal
use Rattle.c_check_initialisers.specs.CellView.{typed_expressions_of}
use Rattle.c_rules.specs.Scopes.{layout_of}
use Rattle.c_check_values.specs.View.{env_of}
use Rattle.c_tree.specs.Tree.{array}
use Rattle.c_tree.specs.View.{ctype_of}

pub add_copies-loop-preserved : goal.add_copies-loop-preserved
add_copies-loop-preserved t c =
    copies_more (layout_of (env_of c.args.env.now)) c.args.depth c.loop.counter (ctype_of c.args.element.now) (typed_expressions_of c.args.cells.now.items) (typed_expressions_of c.loop.cells.items) (typed_expressions_of c.add_zeros.new.cells.items)
    c.loop.invariant c.in_ok-add_zeros.ensures

pub add_copies-returns : goal.add_copies-returns
add_copies-returns t c =
    copies_end (layout_of (env_of c.args.env.now)) c.args.depth c.loop.counter c.args.n (ctype_of c.args.element.now) (typed_expressions_of c.args.cells.now.items) (typed_expressions_of c.loop.cells.items)
    (omega arith) c.loop.invariant

pub add_members-loop-member-preserved : goal.add_members-loop-member-preserved
add_members-loop-member-preserved t c =
    member_more (layout_of (env_of c.args.env.now)) c.args.depth c.loop-member.member-index c.args.members.now c.member-item.result (typed_expressions_of c.args.cells.now.items) (typed_expressions_of c.loop-member.cells.items) (typed_expressions_of c.add_zeros.new.cells.items)
    c.loop-member-test.true c.member-item.is c.loop-member.invariant c.in_ok-add_zeros.ensures

pub add_members-returns : goal.add_members-returns
add_members-returns t c =
    members_end (layout_of (env_of c.args.env.now)) c.args.depth c.loop-member.member-index c.args.members.now (typed_expressions_of c.args.cells.now.items) (typed_expressions_of c.loop-member.cells.items) c.loop-member-test.false c.loop-member.invariant

pub add_struct-returns-in-Some-members : goal.add_struct-returns-in-Some-members
add_struct-returns-in-Some-members t c =
    struct_added c.add_members.result (env_of c.args.env.now) c.args.s c.args.depth c.in-Some.inner c.in-Some-members.members.now (typed_expressions_of c.args.cells.now.items) (typed_expressions_of c.add_members.new.cells.items)
    c.in-Some-members.ensures (omega (arith, c.in-Some.ensures)) c.add_members.ensures

pub add_struct-returns-in-None : goal.add_struct-returns-in-None
add_struct-returns-in-None t c = struct_none (env_of c.args.env.now) c.args.s c.args.depth (typed_expressions_of c.args.cells.now.items) c.in-None.ensures

pub add_zeros-returns-in-Array : goal.add_zeros-returns-in-Array
add_zeros-returns-in-Array t c =
    added_as c.add_copies.result (layout_of (env_of c.args.env.now)) c.args.depth (ctype_of c.args.t.now) (array (ctype_of c.deref.result.now) c.in-Array.n) (typed_expressions_of c.args.cells.now.items) (typed_expressions_of c.add_copies.new.cells.items)
    (ap ctype_of c.in-Array.is ∙ ap (λ u. array (ctype_of u) c.in-Array.n) (sym c.deref.ensures)) c.add_copies.ensures

pub add_members-add_zeros-requires : goal.add_members-add_zeros-requires
add_members-add_zeros-requires t c =
    let part = rank_of_member (layout_of (env_of c.args.env.now)) c.args.depth c.args.members.now c.loop-member.member-index c.member-item.result c.loop-member-test.true c.member-item.is in omega (arith, part, c.decreases)

pub add_struct-add_members-requires : goal.add_struct-add_members-requires
add_struct-add_members-requires t c =
    let inside = rank_inside (env_of c.args.env.now) c.args.s c.args.depth c.in-Some.inner c.in-Some-members.members.now c.in-Some-members.ensures (omega (arith, c.in-Some.ensures)) in omega (arith, inside, c.decreases)
