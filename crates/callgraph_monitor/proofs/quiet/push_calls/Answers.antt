use Rattle.std.proofs.Common.{◌≡◌, ◌+◌, ◌<◌, ◌≤◌, [], length, get_or, sum_by, Contains, ap, sym, ◌∙◌, subst, arith}
use Rattle.std.proofs.lemmas.List.{length-map, take_all}
use Rattle.std.proofs.lemmas.List.Elements.{Contains-get_or}
use Rattle.std.proofs.lemmas.List.Sums.{sum_by_more}
use Rattle.flow_model.specs.Call.{Call}
use Rattle.callgraph_monitor.specs.Ahead.{Enters}
use Rattle.flow_model.specs.Growth.{Pushes}
use Rattle.callgraph_monitor.specs.Visits.{calls_from}
use Rattle.callgraph_monitor.proofs.Edges.{call_from, site_at, enters_end, end_of_enters}
use Rattle.callgraph_monitor.proofs.Pushed.{pushes-start, pushes-more, pushes-end, pushes-like}
use Rattle.callgraph_monitor.proofs.quiet.push_calls.Goals as goal
use Rattle.callgraph_monitor.proofs.quiet.push_calls.Goals.{After-loop-site, After-call_at}

abbrev nothing : Call
nothing = record { from = 0; site = 0; to = 0; candidates = [] }

-- the call edge of the turn
abbrev the_call : After-call_at → Call
the_call c = get_or (calls_from c.args.model.now c.args.node) c.loop-site.site-index nothing

pub call_at-requires : goal.call_at-requires
call_at-requires c =
    let calls = calls_from c.args.model.now c.args.node in
    let k = c.loop-site.site-index in
    let lt : k < length calls = omega (arith, c.loop-site-test.true, ap length c.calls_from-site-items.ensures, length-map calls (λ (e : Call). e.site)) in
    (get_or calls k nothing, call_from c.args.model.now c.args.node (get_or calls k nothing) (Contains-get_or calls k nothing lt), site_at calls k nothing lt ∙ ap (λ xs. get_or xs k 0) (sym c.calls_from-site-items.ensures))

in_calls : (c : After-call_at) → c.loop-site.site-index < length (calls_from c.args.model.now c.args.node)
in_calls c = omega (arith, c.loop-site-test.true, ap length c.calls_from-site-items.ensures, length-map (calls_from c.args.model.now c.args.node) (λ (e : Call). e.site))

is_call : (c : After-call_at) → Contains c.args.model.now.calls (the_call c)
is_call c = call_from c.args.model.now c.args.node (the_call c) (Contains-get_or (calls_from c.args.model.now c.args.node) c.loop-site.site-index nothing (in_calls c))

same : (c : After-call_at) → c.call_at.result.now ≡ the_call c
same c = c.call_at.ensures (the_call c) (is_call c) (site_at (calls_from c.args.model.now c.args.node) c.loop-site.site-index nothing (in_calls c) ∙ ap (λ xs. get_or xs c.loop-site.site-index 0) (sym c.calls_from-site-items.ensures))

pub push_entries-requires : goal.push_entries-requires
push_entries-requires c =
    let at = (goal.at.push_entries-requires c).After-call_at in
    subst (Contains c.args.model.now.calls) (sym (same at)) (is_call at)

pub loop-site-init : goal.loop-site-init
loop-site-init c = record {
  added = pushes-start (Enters c.args.model.now) (calls_from c.args.model.now c.args.node) c.args.ends.now.items;
  few = omega arith;
}

pub loop-site-preserved : goal.loop-site-preserved
loop-site-preserved c =
    let at = (goal.at.loop-site-preserved c).After-call_at in
    let model = c.args.model.now in
    let calls = calls_from model c.args.node in
    let k = c.loop-site.site-index in
    let ends = c.loop-site.ends.items in
    let new = c.push_entries.new.ends.items in
    record {
      added = pushes-more (Enters model) calls c.args.ends.now.items ends new k nothing (in_calls at) c.loop-site.invariant.added
          (subst (λ x. Pushes ends new (Enters model x)) (same at) c.in_ok-push_entries.ensures.added);
      few = omega (arith, c.loop-site.invariant.few, c.in_ok-push_entries.ensures.few, ap (λ (e : Call). length e.candidates) (same at), sum_by_more (λ (e : Call). 1 + length e.candidates) calls k nothing (in_calls at));
    }

over : (c : After-loop-site) → length (calls_from c.args.model.now c.args.node) ≤ c.loop-site.site-index
over c = omega (arith, c.loop-site-test.false, ap length c.calls_from-site-items.ensures, length-map (calls_from c.args.model.now c.args.node) (λ (e : Call). e.site))

pub returns-clause-added : goal.returns-clause-added
returns-clause-added c =
    let old = c.args.ends.now.items in
    let new = c.loop-site.ends.items in
    pushes-like old new (pushes-end (Enters c.args.model.now) (calls_from c.args.model.now c.args.node) old new c.loop-site.site-index (over c) c.loop-site.invariant.added) (enters_end c.args.model.now c.args.node) (end_of_enters c.args.model.now c.args.node)

pub returns-clause-few : goal.returns-clause-few
returns-clause-few c = omega (arith, c.loop-site.invariant.few, ap (sum_by (λ (e : Call). 1 + length e.candidates)) (take_all c.loop-site.site-index (calls_from c.args.model.now c.args.node) (over c)))
