use Rattle.std.proofs.Common.{◌≡◌, ◌<◌, ◌≤◌, [], length, get_or, Contains, ap, sym, ◌∙◌, subst, arith}
use Rattle.std.proofs.lemmas.List.{length-map, length_push}
use Rattle.std.proofs.lemmas.List.Elements.{Contains-get_or}
use Rattle.flow_model.specs.Call.{Call}
use Rattle.callgraph_monitor.specs.Ahead.{calls_of}
use Rattle.flow_model.specs.Growth.{Pushes}
use Rattle.callgraph_monitor.proofs.Edges.{call_of, site_at, returns_end, end_of_returns}
use Rattle.callgraph_monitor.proofs.Pushed.{pushes-start, pushes-more, pushes-end, pushes-like, pushes-one}
use Rattle.callgraph_monitor.proofs.quiet.push_callers.Goals as goal
use Rattle.callgraph_monitor.proofs.quiet.push_callers.Goals.{After-loop-site, After-call_at}

abbrev nothing : Call
nothing = record { from = 0; site = 0; to = 0; candidates = [] }

-- the call edge of the turn
abbrev the_call : After-call_at → Call
the_call c = get_or (calls_of c.args.model.now c.args.function) c.loop-site.site-index nothing

pub call_at-requires : goal.call_at-requires
call_at-requires c =
    let calls = calls_of c.args.model.now c.args.function in
    let k = c.loop-site.site-index in
    let lt : k < length calls = omega (arith, c.loop-site-test.true, ap length c.returns_of-site-items.ensures, length-map calls (λ (e : Call). e.site)) in
    (get_or calls k nothing, call_of c.args.model.now c.args.function (get_or calls k nothing) (Contains-get_or calls k nothing lt), site_at calls k nothing lt ∙ ap (λ xs. get_or xs k 0) (sym c.returns_of-site-items.ensures))

in_calls : (c : After-call_at) → c.loop-site.site-index < length (calls_of c.args.model.now c.args.function)
in_calls c = omega (arith, c.loop-site-test.true, ap length c.returns_of-site-items.ensures, length-map (calls_of c.args.model.now c.args.function) (λ (e : Call). e.site))

is_call : (c : After-call_at) → Contains c.args.model.now.calls (the_call c)
is_call c = call_of c.args.model.now c.args.function (the_call c) (Contains-get_or (calls_of c.args.model.now c.args.function) c.loop-site.site-index nothing (in_calls c))

same : (c : After-call_at) → c.call_at.result.now ≡ the_call c
same c = c.call_at.ensures (the_call c) (is_call c) (site_at (calls_of c.args.model.now c.args.function) c.loop-site.site-index nothing (in_calls c) ∙ ap (λ xs. get_or xs c.loop-site.site-index 0) (sym c.returns_of-site-items.ensures))

pub loop-site-init : goal.loop-site-init
loop-site-init c = record {
  added = pushes-start (λ (e : Call) n. e.to ≡ n) (calls_of c.args.model.now c.args.function) c.args.ends.now.items;
  few = omega arith;
}

pub loop-site-preserved : goal.loop-site-preserved
loop-site-preserved c =
    let at = (goal.at.loop-site-preserved c).After-call_at in
    let calls = calls_of c.args.model.now c.args.function in
    let ends = c.loop-site.ends.items in
    let new = c.push.new.self.items in
    record {
      added = pushes-more (λ (e : Call) n. e.to ≡ n) calls c.args.ends.now.items ends new c.loop-site.site-index nothing (in_calls at) c.loop-site.invariant.added
          (subst (λ m. Pushes ends new (λ n. m ≡ n)) (c.to.ensures ∙ ap (λ (e : Call). e.to) (same at)) (pushes-one ends new c.to.result c.in_ok-push.ensures.items));
      few = omega (arith, c.loop-site.invariant.few, ap length c.in_ok-push.ensures.items, length_push ends c.to.result);
    }

over : (c : After-loop-site) → length (calls_of c.args.model.now c.args.function) ≤ c.loop-site.site-index
over c = omega (arith, c.loop-site-test.false, ap length c.returns_of-site-items.ensures, length-map (calls_of c.args.model.now c.args.function) (λ (e : Call). e.site))

pub returns-clause-added : goal.returns-clause-added
returns-clause-added c =
    let old = c.args.ends.now.items in
    let new = c.loop-site.ends.items in
    pushes-like old new (pushes-end (λ (e : Call) n. e.to ≡ n) (calls_of c.args.model.now c.args.function) old new c.loop-site.site-index (over c) c.loop-site.invariant.added) (returns_end c.args.model.now c.args.function) (end_of_returns c.args.model.now c.args.function)

pub returns-clause-few : goal.returns-clause-few
returns-clause-few c = omega (arith, c.loop-site.invariant.few, c.loop-site-test.false, c.loop-site.auto.site-index-end, ap length c.returns_of-site-items.ensures)
