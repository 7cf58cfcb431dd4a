use Rattle.std.proofs.Common.{◌≡◌, ◌<◌, ◌≤◌, [], length, get_or, Contains, ap, sym, ◌∙◌, subst, arith}
use Rattle.std.proofs.lemmas.List.{length-map}
use Rattle.std.proofs.lemmas.List.Elements.{Contains-get_or}
use Rattle.dm_sets.specs.Nodes.{Has}
use Rattle.flow_model.specs.Call.{Call}
use Rattle.flow_model.specs.Growth.{Adds}
use Rattle.flow_model.proofs.EdgeBounds.{call_below}
use Rattle.inline_model.proofs.Edges.{calls_of, call_of, site_at, returns_end, end_of_returns, Returns}
use Rattle.flow_model.proofs.Grown.{adds-start, adds-more_read, adds-end, adds-add, adds-like}
use Rattle.inline_model.proofs.within.return_from.Goals as goal
use Rattle.inline_model.proofs.within.return_from.Goals.{After-loop-site, After-call_at-call}

abbrev nothing : Call
nothing = record { from = 0; site = 0; to = 0; candidates = [] }

-- the call edge of the turn
abbrev the_call : After-call_at-call → Call
the_call c = get_or (calls_of c.args.model.now c.args.function) c.loop-site.site-index nothing

pub call_at-call-requires : goal.call_at-call-requires
call_at-call-requires c =
    let calls = calls_of c.args.model.now c.args.function in
    let k = c.loop-site.site-index in
    let lt : k < length calls = omega (arith, c.loop-site-test.true, ap length c.returns_of-site-items.ensures, length-map calls (λ (e : Call). e.site)) in
    (get_or calls k nothing, call_of c.args.model.now c.args.done.now c.args.function (get_or calls k nothing) (Contains-get_or calls k nothing lt), site_at calls k nothing lt ∙ ap (λ xs. get_or xs k 0) (sym c.returns_of-site-items.ensures))

in_calls : (c : After-call_at-call) → c.loop-site.site-index < length (calls_of c.args.model.now c.args.function)
in_calls c = omega (arith, c.loop-site-test.true, ap length c.returns_of-site-items.ensures, length-map (calls_of c.args.model.now c.args.function) (λ (e : Call). e.site))

is_call : (c : After-call_at-call) → Contains c.args.model.now.calls (the_call c)
is_call c = call_of c.args.model.now c.args.done.now c.args.function (the_call c) (Contains-get_or (calls_of c.args.model.now c.args.function) c.loop-site.site-index nothing (in_calls c))

same : (c : After-call_at-call) → c.call_at-call.result.now ≡ the_call c
same c = c.call_at-call.ensures (the_call c) (is_call c) (site_at (calls_of c.args.model.now c.args.function) c.loop-site.site-index nothing (in_calls c) ∙ ap (λ xs. get_or xs c.loop-site.site-index 0) (sym c.returns_of-site-items.ensures))

pub add_where-requires : goal.add_where-requires
add_where-requires c =
    let at = (goal.at.add_where-requires c).After-call_at-call in
    omega (arith, c.to.ensures, ap (λ (e : Call). e.to) (same at), call_below c.args.model.now c.nodes-nodes.ensures.valid (the_call at) (is_call at), c.loop-site.invariant.size, c.requires.pool)

pub loop-site-init : goal.loop-site-init
loop-site-init c = adds-start (Returns c.args.done.now) (calls_of c.args.model.now c.args.function) c.args.pool.now

pub loop-site-preserved : goal.loop-site-preserved
loop-site-preserved c =
    let at = (goal.at.loop-site-preserved c).After-call_at-call in
    let calls = calls_of c.args.model.now c.args.function in
    adds-more_read (Returns c.args.done.now) calls c.args.pool.now c.loop-site.pool c.add_where.new.pool c.loop-site.site-index nothing (in_calls at) c.loop-site.invariant
    (subst (λ x. Adds c.loop-site.pool c.add_where.new.pool (Returns c.args.done.now x)) (same at)
    (adds-like c.loop-site.pool c.add_where.new.pool c.add_where.ensures (λ b is. (subst (Has c.args.done.now) c.from.ensures (c.contains-passes.ensures.0 is.0), sym c.to.ensures ∙ is.1)) (λ b is. (c.contains-passes.ensures.1 (subst (Has c.args.done.now) (sym c.from.ensures) is.0), c.to.ensures ∙ is.1))))

over : (c : After-loop-site) → length (calls_of c.args.model.now c.args.function) ≤ c.loop-site.site-index
over c = omega (arith, c.loop-site-test.false, ap length c.returns_of-site-items.ensures, length-map (calls_of c.args.model.now c.args.function) (λ (e : Call). e.site))

pub returns : goal.returns
returns c =
    adds-like c.args.pool.now c.loop-site.pool (adds-end (Returns c.args.done.now) (calls_of c.args.model.now c.args.function) c.args.pool.now c.loop-site.pool c.loop-site.site-index (over c) c.loop-site.invariant) (returns_end c.args.model.now c.args.done.now c.args.function) (end_of_returns c.args.model.now c.args.done.now c.args.function)
