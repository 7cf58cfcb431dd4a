use Rattle.std.proofs.Common.{◌≡◌, ◌<◌, ◌≤◌, [], length, get_or, Contains, ap, sym, ◌∙◌, subst, arith}
use Rattle.std.proofs.lemmas.List.{length-map}
use Rattle.std.proofs.lemmas.List.Elements.{Contains-get_or}
use Rattle.flow_model.specs.Call.{Call}
use Rattle.flow_model.specs.Growth.{Adds}
use Rattle.flow_model.proofs.EdgeBounds.{call_below}
use Rattle.inline_model.proofs.Edges.{calls_from, call_from, site_at, passes_end, end_of_passes, Passes}
use Rattle.flow_model.proofs.Grown.{adds-start, adds-more_read, adds-end, adds-add, adds-like}
use Rattle.inline_model.proofs.within.follow_calls.Goals as goal
use Rattle.inline_model.proofs.within.follow_calls.Goals.{After-loop-site, After-call_at-call}

abbrev nothing : Call
nothing = record { from = 0; site = 0; to = 0; candidates = [] }

-- the call edge of the turn
abbrev the_call : After-call_at-call → Call
the_call c = get_or (calls_from c.args.model.now c.args.node) c.loop-site.site-index nothing

pub call_at-call-requires : goal.call_at-call-requires
call_at-call-requires c =
    let calls = calls_from c.args.model.now c.args.node in
    let k = c.loop-site.site-index in
    let lt : k < length calls = omega (arith, c.loop-site-test.true, ap length c.calls_from-site-items.ensures, length-map calls (λ (e : Call). e.site)) in
    (get_or calls k nothing, call_from c.args.model.now c.args.done.now c.args.node (get_or calls k nothing) (Contains-get_or calls k nothing lt), site_at calls k nothing lt ∙ ap (λ xs. get_or xs k 0) (sym c.calls_from-site-items.ensures))

in_calls : (c : After-call_at-call) → c.loop-site.site-index < length (calls_from c.args.model.now c.args.node)
in_calls c = omega (arith, c.loop-site-test.true, ap length c.calls_from-site-items.ensures, length-map (calls_from c.args.model.now c.args.node) (λ (e : Call). e.site))

is_call : (c : After-call_at-call) → Contains c.args.model.now.calls (the_call c)
is_call c = call_from c.args.model.now c.args.done.now c.args.node (the_call c) (Contains-get_or (calls_from c.args.model.now c.args.node) c.loop-site.site-index nothing (in_calls c))

same : (c : After-call_at-call) → c.call_at-call.result.now ≡ the_call c
same c = c.call_at-call.ensures (the_call c) (is_call c) (site_at (calls_from c.args.model.now c.args.node) c.loop-site.site-index nothing (in_calls c) ∙ ap (λ xs. get_or xs c.loop-site.site-index 0) (sym c.calls_from-site-items.ensures))

pub add_where-requires : goal.add_where-requires
add_where-requires c =
    let at = (goal.at.add_where-requires c).After-call_at-call in
    omega (arith, c.to.ensures, ap (λ (e : Call). e.to) (same at), call_below c.args.model.now c.nodes-nodes.ensures.valid (the_call at) (is_call at), c.loop-site.invariant.size, c.requires.pool)

pub loop-site-init : goal.loop-site-init
loop-site-init c = adds-start (Passes c.args.model.now c.args.done.now) (calls_from c.args.model.now c.args.node) c.args.pool.now

pub loop-site-preserved : goal.loop-site-preserved
loop-site-preserved c =
    let at = (goal.at.loop-site-preserved c).After-call_at-call in
    let calls = calls_from c.args.model.now c.args.node in
    adds-more_read (Passes c.args.model.now c.args.done.now) calls c.args.pool.now c.loop-site.pool c.add_where.new.pool c.loop-site.site-index nothing (in_calls at) c.loop-site.invariant
    (subst (λ x. Adds c.loop-site.pool c.add_where.new.pool (Passes c.args.model.now c.args.done.now x)) (same at)
    (adds-like c.loop-site.pool c.add_where.new.pool c.add_where.ensures (λ b is. (c.may_pass-passes.ensures.0 is.0, sym c.to.ensures ∙ is.1)) (λ b is. (c.may_pass-passes.ensures.1 is.0, c.to.ensures ∙ is.1))))

over : (c : After-loop-site) → length (calls_from c.args.model.now c.args.node) ≤ c.loop-site.site-index
over c = omega (arith, c.loop-site-test.false, ap length c.calls_from-site-items.ensures, length-map (calls_from c.args.model.now c.args.node) (λ (e : Call). e.site))

pub returns : goal.returns
returns c =
    adds-like c.args.pool.now c.loop-site.pool (adds-end (Passes c.args.model.now c.args.done.now) (calls_from c.args.model.now c.args.node) c.args.pool.now c.loop-site.pool c.loop-site.site-index (over c) c.loop-site.invariant) (passes_end c.args.model.now c.args.done.now c.args.node) (end_of_passes c.args.model.now c.args.done.now c.args.node)
