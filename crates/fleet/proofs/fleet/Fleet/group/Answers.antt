use Rattle.std.proofs.Common.{◌≡◌, ◌^◌, ◌<◌, [], length, ◌∙◌, subst, refl, arith, rules}
use Rattle.trace_file.specs.declared.version.TracesVersion.TheVariants.{One}
use Rattle.watch.specs.Watching.{StandsFor as WatchStandsFor}
use Rattle.fleet.proofs.GroupLemmas.{err_stays, group_room, groups_count, stands_group, watch_last, watch_stays}
use Rattle.fleet.proofs.fleet.Fleet.group.Goals as goal

pub overflow_cast-number : goal.overflow_cast-number
overflow_cast-number g c =
    let room = c.requires.room in
    let count = groups_count g.M.Monitor c.args.self.now room.0 room.1 room.2 in
    let len : c.len-number.result ≡ length c.args.self.now.watches.items = search rules in
    let few = room.3 in
    let small : c.len-number.result < 2 ^ 32 = omega arith in
    search rules

pub returns-in_err-push-clause-err : goal.returns-in_err-push-clause-err
returns-in_err-push-clause-err g c =
    err_stays g.M.Monitor c.args.self.now _ c.from_residual-in_err-push.result c.in_err-push.ensures.items refl refl

pub returns-clause-number : goal.returns-clause-number
returns-clause-number g c groups members s =
    let len : c.len-number.result ≡ length c.args.self.now.watches.items = search rules in
    len ∙ groups_count g.M.Monitor c.args.self.now groups members s

pub returns-clause-stands : goal.returns-clause-stands
returns-clause-stands g c groups members s =
    let there = c.requires.room in
    let room = group_room g.M.Monitor c.args.self.now there.0 there.1 there.2 groups members s there.3 in
    stands_group g.M.Monitor c.args.self.now groups members s _ c.args.model c.args.bound c.in_ok-watch.watch room c.nodes-nodes.ensures.valid c.in_ok-watch.ensures c.in_ok-push.ensures.items refl refl

pub returns-clause-empty : goal.returns-clause-empty
returns-clause-empty g c w here =
    let len : c.len-number.result ≡ length c.args.self.now.watches.items = search rules in
    let room = c.requires.room in
    let same = watch_last g.M.Monitor c.args.self.now room.0 room.1 room.2 _ c.in_ok-watch.watch w c.len-number.result c.in_ok-push.ensures.items len here in
    subst (λ v. WatchStandsFor g.M.Monitor c.args.model c.args.bound One v []) same c.in_ok-watch.ensures

pub returns-clause-others : goal.returns-clause-others
returns-clause-others g c i w here = watch_stays c.args.self.now.watches.items _ c.in_ok-watch.watch w i c.in_ok-push.ensures.items here
