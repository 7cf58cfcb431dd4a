use Rattle.std.proofs.lemmas.Result.{err_from_is_err_and}
use Rattle.model_file.proofs.DraftLemmas.{version_read, count_read, nodes_read, last_step, last_read, more_stopped, no_edges}
use Rattle.model_file.proofs.FrameLemmas.{taken, stopped}
use Rattle.model_file.proofs.HeadLemmas.{fixed, head_step, nothing_told, count_step, nodes_step}
use Rattle.model_file.proofs.draft.read_draft.Goals as goal

pub returns-in_err-version-clause-stopped : goal.returns-in_err-version-clause-stopped
returns-in_err-version-clause-stopped c =
    let p = err_from_is_err_and c.from_residual.result c.from_residual.ensures.1 in
    rw (p.1, p.2) (stopped c.args.text.now _ c.take_version.new.place _ head_step nothing_told c.in_err-version.ensures.taken)

pub returns-in_err-count-clause-stopped : goal.returns-in_err-count-clause-stopped
returns-in_err-count-clause-stopped c =
    let p = err_from_is_err_and c.from_residual-in_err-count.result c.from_residual-in_err-count.ensures.1 in
    rw (p.1, p.2) (stopped c.args.text.now c.take_version.new.place c.take_count.new.place _ (fixed _ (count_step c.in_ok-version.version)) (version_read c.in_ok-version.ensures.taken) c.in_err-count.ensures.taken)

pub returns-in_err-read_functions-clause-stopped : goal.returns-in_err-read_functions-clause-stopped
returns-in_err-read_functions-clause-stopped c =
    let p = err_from_is_err_and c.from_residual-in_err-read_functions.result c.from_residual-in_err-read_functions.ensures.1 in
    rw (p.1, p.2) (c.in_err-read_functions.ensures.stopped c.in_ok-version.version (count_read c.in_ok-version.ensures.taken c.in_ok-count.ensures.taken))

pub returns-in_err-nodes-clause-stopped : goal.returns-in_err-nodes-clause-stopped
returns-in_err-nodes-clause-stopped c =
    let p = err_from_is_err_and c.from_residual-in_err-nodes.result c.from_residual-in_err-nodes.ensures.1 in
    let functions = c.in_ok-read_functions.ensures.read c.in_ok-version.version (count_read c.in_ok-version.ensures.taken c.in_ok-count.ensures.taken) in
    let none = no_edges c.in_ok-builder.ensures c.in_ok-read_functions.ensures.edges in
    rw (p.1, p.2) (stopped c.args.text.now c.read_functions.new.place c.take_nodes.new.place _ (fixed _ (nodes_step c.in_ok-version.version c.in_ok-count.count c.read_functions.new.builder c.in_ok-read_functions.ensures.all none functions.some.0.graph functions.some.1 functions.some.2.1)) functions c.in_err-nodes.ensures.taken)

pub returns-in_err-start-clause-stopped : goal.returns-in_err-start-clause-stopped
returns-in_err-start-clause-stopped c =
    let p = err_from_is_err_and c.from_residual-in_err-start.result c.from_residual-in_err-start.ensures.1 in
    let functions = c.in_ok-read_functions.ensures.read c.in_ok-version.version (count_read c.in_ok-version.ensures.taken c.in_ok-count.ensures.taken) in
    let none = no_edges c.in_ok-builder.ensures c.in_ok-read_functions.ensures.edges in
    let nodes = nodes_read c.read_functions.new.builder c.in_ok-read_functions.ensures.all none functions c.in_ok-nodes.ensures.taken in
    rw (p.1, p.2) (c.in_err-start.ensures.stopped c.in_ok-nodes.nodes nodes)

pub returns-in_err-take_end-clause-stopped : goal.returns-in_err-take_end-clause-stopped
returns-in_err-take_end-clause-stopped c =
    let p = err_from_is_err_and c.from_residual-in_err-take_end.result c.from_residual-in_err-take_end.ensures.1 in
    let functions = c.in_ok-read_functions.ensures.read c.in_ok-version.version (count_read c.in_ok-version.ensures.taken c.in_ok-count.ensures.taken) in
    let none = no_edges c.in_ok-builder.ensures c.in_ok-read_functions.ensures.edges in
    let nodes = nodes_read c.read_functions.new.builder c.in_ok-read_functions.ensures.all none functions c.in_ok-nodes.ensures.taken in
    let edges = c.in_ok-start.ensures.read c.in_ok-nodes.nodes nodes in
    rw (p.1, p.2) (stopped c.args.text.now c.read_edges.new.place c.take_end.new.place _ (last_step c.args.text.now c.read_edges.new.place edges) edges c.in_err-take_end.ensures.taken)

pub returns-in_err-take_nothing-clause-stopped : goal.returns-in_err-take_nothing-clause-stopped
returns-in_err-take_nothing-clause-stopped c =
    let p = err_from_is_err_and c.from_residual-in_err-take_nothing.result c.from_residual-in_err-take_nothing.ensures.1 in
    let functions = c.in_ok-read_functions.ensures.read c.in_ok-version.version (count_read c.in_ok-version.ensures.taken c.in_ok-count.ensures.taken) in
    let none = no_edges c.in_ok-builder.ensures c.in_ok-read_functions.ensures.edges in
    let nodes = nodes_read c.read_functions.new.builder c.in_ok-read_functions.ensures.all none functions c.in_ok-nodes.ensures.taken in
    let edges = c.in_ok-start.ensures.read c.in_ok-nodes.nodes nodes in
    let end = taken c.args.text.now c.read_edges.new.place c.take_end.new.place _ (last_step c.args.text.now c.read_edges.new.place edges) edges c.in_ok-take_end.ensures.taken in
    rw (p.1, p.2) (more_stopped c.in_ok-version.version c.args.text.now c.take_end.new.place c.take_nothing.new.place c.read_edges.new.builder c.in_ok-nodes.nodes c.in_ok-start.start _ end c.in_err-take_nothing.ensures.more)

pub returns-clause-read : goal.returns-clause-read
returns-clause-read c =
    let functions = c.in_ok-read_functions.ensures.read c.in_ok-version.version (count_read c.in_ok-version.ensures.taken c.in_ok-count.ensures.taken) in
    let none = no_edges c.in_ok-builder.ensures c.in_ok-read_functions.ensures.edges in
    let nodes = nodes_read c.read_functions.new.builder c.in_ok-read_functions.ensures.all none functions c.in_ok-nodes.ensures.taken in
    let edges = c.in_ok-start.ensures.read c.in_ok-nodes.nodes nodes in
    let end = taken c.args.text.now c.read_edges.new.place c.take_end.new.place _ (last_step c.args.text.now c.read_edges.new.place edges) edges c.in_ok-take_end.ensures.taken in
    (c.in_ok-version.version, last_read c.in_ok-version.version c.args.text.now c.take_end.new.place c.read_edges.new.builder c.in_ok-nodes.nodes c.in_ok-start.start end c.in_ok-take_nothing.ensures.none)
