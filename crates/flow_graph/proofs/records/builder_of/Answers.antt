use Rattle.std.proofs.Common.{◌≡◌, ◌∙◌, List, Result, Ok, Err, IfOk, ap, map}
use Rattle.dm_base.specs.declared.memory.OutOfMemory.{OutOfMemory}
use Rattle.c_tree.specs.View.{program_of}
use Rattle.c_meaning.specs.ShapeOf.{names_of_functions, candidate_places}
use Rattle.flow_graph.specs.View.{shapes_in}
use Rattle.flow_model.specs.declared.records.ModelFunction.{ModelFunction}
use Rattle.flow_model.specs.declared.records.SilentEdge.{SilentEdge}
use Rattle.flow_model.specs.declared.records.SysEdge.{SysEdge}
use Rattle.flow_model.specs.Call.{Call}
use Rattle.flow_model.specs.Built.{Records}
use Rattle.flow_model.specs.Order.{silent_order, sys_order}
use Rattle.c_meaning.specs.GraphOf.{functions_from, edges_from, silent_edges, sys_edges}
use Rattle.c_meaning.specs.Sorted.{sorted}
use Rattle.flow_graph.specs.Places.{call_of}
use Rattle.flow_graph.specs.SiteEdges.{site_edges, site_edge_order}
use Rattle.flow_graph.proofs.records.builder_of.Goals as goal

-- a builder of records that are equal to these
same_records : (r : Result Records OutOfMemory) (fs : List ModelFunction) (ss ts : List SilentEdge) (ys zs : List SysEdge) (cs ds : List Call) → ss ≡ ts → ys ≡ zs → cs ≡ ds
    → IfOk r (λ b. b ≡ record { functions = fs; silent = ss; sys = ys; calls = cs }) → IfOk r (λ b. b ≡ record { functions = fs; silent = ts; sys = zs; calls = ds })
same_records (Ok b) fs ss ts ys zs cs ds one two three is = is ∙ (λ i. record { functions = fs; silent = one i; sys = two i; calls = three i })
same_records (Err e) fs ss ts ys zs cs ds one two three is = is

pub returns : goal.returns
returns c =
    let p = program_of c.args.program.now in
    let fs = shapes_in c.args.shapes.now in
    let es = edges_from 0 fs in
    let f = call_of (candidate_places p) in
    let lists = c.in_ok-lists.lists in
    same_records c.builder_with.result (functions_from 0 (names_of_functions p) fs) lists.silent.items (sorted silent_order (silent_edges es)) lists.sys.items (sorted sys_order (sys_edges es)) (map f c.deref-2.result.now) (map f (sorted site_edge_order (site_edges es)))
    c.in_ok-lists.ensures.silent c.in_ok-lists.ensures.sys (ap (map f) (c.deref-2.ensures.value ∙ c.in_ok-sites.ensures)) c.builder_with.ensures
