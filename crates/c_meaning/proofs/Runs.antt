-- The runs of the model are those of the laid graph.
use Rattle.std.proofs.Common.{◌≡◌, ℕ, ◌+◌, ◌<◌, List, [], length, sym, subst, refl}
use Rattle.dm_base.specs.declared.event.Event.{Event}
use Rattle.dm_base.specs.Trace.{erase}
use Rattle.c_meaning.specs.Shape.{Shapes, shape_of, Skip}
use Rattle.c_meaning.specs.Words.{Marks, brackets, no_brackets, Front}
use Rattle.c_meaning.specs.Languages as shapes
use Rattle.c_meaning.proofs.Leaving.{done}
use Rattle.flow_model.specs.declared.which.Which.TheVariants.{Callgraph, Stack, Dyck}
use Rattle.flow_model.specs.Graph as model
use Rattle.flow_model.specs.Language.{DyckRun, StackRun, Reads, Walk}
use Rattle.flow_model.specs.Language.Steps.{silent as s_silent, sys as s_sys, enter as s_enter, leave as s_leave}
use Rattle.flow_model.specs.Language.DyckRun.{over as d_over, inside as d_inside, calls as d_calls, enters as d_enters, leaves as d_leaves}
use Rattle.flow_model.specs.Language.StackRun.{over as t_over, inside as t_inside, calls as t_calls, enters as t_enters, leaves as t_leaves}
use Rattle.flow_model.specs.Language.Quiet.{silent as q_silent, enter as q_enter, leave as q_leave}
use Rattle.flow_model.specs.Language.Walk.{over as w_over, quiet as w_quiet, calls as w_calls}
use Rattle.c_meaning.specs.GraphOf.{graph_of}
use Rattle.c_meaning.specs.Premises.{AreClosed}
use Rattle.c_meaning.specs.Equal.{AreEqual}
use Rattle.c_meaning.proofs.Laid.{Run, NodeWalk, along, leave, over, then, silent, system, enter}
use Rattle.c_meaning.proofs.Laid as G
use Rattle.c_meaning.proofs.Functions.{g, entry_at, laid_from}
use Rattle.c_meaning.proofs.Forth.{fronts}
use Rattle.c_meaning.proofs.Back.{reads_front}
use Rattle.c_meaning.proofs.Points.{to_nodes}
use Rattle.c_meaning.proofs.Nodes.{nodes_to_points}
use Rattle.c_meaning.proofs.ModelLemmas.{silent_edge, has_silent, sys_edge, has_sys, call_edge, has_call, function, has_function}

module _ (names : List (List ℕ)) (env : Shapes) (closed : AreClosed env) (many : length names ≡ length env.functions) where
  abbrev M : model.Graph
  M = graph_of names env

  abbrev R : Marks → ℕ → List ℕ → List Event → ℕ → List ℕ → List Event → Type 0
  R m = Run env (g env) m

  to_dyck : {a c : ℕ} {z w : List ℕ} {t u : List Event} → R brackets a z t c w u → u ≡ [] → DyckRun M a z t c w
  to_dyck over e = rw e d_over
  to_dyck {a = a} (then {b = b} (along h silent) r) e = d_inside (s_silent (has_silent names env closed many a b h)) (to_dyck r e)
  to_dyck {a = a} (then {b = b} (along h (system {x = x} {q = q} fits)) r) e = d_calls (s_sys (has_sys names env closed many a x q b h)) fits (to_dyck r e)
  to_dyck {a = a} (then (along h (enter {s = s} {f = f} {b = b} among same)) r) e = rw same (d_enters (s_enter (has_call names env closed many a s b f h among) (has_function names env closed many f (closed.known s f among))) (to_dyck r e))
  to_dyck (then (leave {b = b} {c = c} {s = s} {f = f} lt at h among same) r) e = rw (at, same) (d_leaves (s_leave (has_call names env closed many c s b f h among) (has_function names env closed many f lt)) (to_dyck r e))

  run_at : {m : Marks} {a b c : ℕ} {z w : List ℕ} {t u : List Event} → a ≡ b → R m b z t c w u → R m a z t c w u
  run_at {m = m} {c = c} {z = z} {w = w} {t = t} {u = u} e r = subst (λ a. R m a z t c w u) (sym e) r

  from_dyck : {a c : ℕ} {z w : List ℕ} {t : List Event} → DyckRun M a z t c w → R brackets a z t c w []
  from_dyck d_over = over
  from_dyck (d_inside (s_silent {a = a} {b = b} h) r) = then (along (silent_edge names env closed many a b h) silent) (from_dyck r)
  from_dyck (d_calls (s_sys {a = a} {x = x} {b = b} {p = p} h) fits r) = then (along (sys_edge names env closed many a x p b h) (system fits)) (from_dyck r)
  from_dyck (d_enters (s_enter {a = a} {s = s} {b = b} {f = f} {entry = entry} {exit = exit} h k) r) = let d = call_edge names env closed many a s b f h in then (along (d.has) (enter (d.among) refl)) (run_at (sym ((function names env closed many f entry exit k).begins)) (from_dyck r))
  from_dyck (d_leaves (s_leave {a = a} {s = s} {b = b} {f = f} {entry = entry} {exit = exit} h k) r) = let d = call_edge names env closed many a s b f h in let e = function names env closed many f entry exit k in then (leave (e.below) (e.ends) (d.has) (d.among) refl) (from_dyck r)

  to_stack : {a c : ℕ} {z w : List ℕ} {t u : List Event} → R no_brackets a z t c w u → u ≡ [] → StackRun M a z t c w
  to_stack over e = rw e t_over
  to_stack {a = a} (then {b = b} (along h silent) r) e = t_inside (s_silent (has_silent names env closed many a b h)) (to_stack r e)
  to_stack {a = a} (then {b = b} (along h (system {x = x} {q = q} fits)) r) e = t_calls (s_sys (has_sys names env closed many a x q b h)) fits (to_stack r e)
  to_stack {a = a} (then (along h (enter {s = s} {f = f} {b = b} among same)) r) e = rw same (t_enters (s_enter (has_call names env closed many a s b f h among) (has_function names env closed many f (closed.known s f among))) (to_stack r e))
  to_stack (then (leave {b = b} {c = c} {s = s} {f = f} lt at h among same) r) e = rw (at, same) (t_leaves (s_leave (has_call names env closed many c s b f h among) (has_function names env closed many f lt)) (to_stack r e))

  from_stack : {a c : ℕ} {z w : List ℕ} {t : List Event} → StackRun M a z t c w → R no_brackets a z t c w []
  from_stack t_over = over
  from_stack (t_inside (s_silent {a = a} {b = b} h) r) = then (along (silent_edge names env closed many a b h) silent) (from_stack r)
  from_stack (t_calls (s_sys {a = a} {x = x} {b = b} {p = p} h) fits r) = then (along (sys_edge names env closed many a x p b h) (system fits)) (from_stack r)
  from_stack (t_enters (s_enter {a = a} {s = s} {b = b} {f = f} {entry = entry} {exit = exit} h k) r) = let d = call_edge names env closed many a s b f h in then (along (d.has) (enter (d.among) refl)) (run_at (sym ((function names env closed many f entry exit k).begins)) (from_stack r))
  from_stack (t_leaves (s_leave {a = a} {s = s} {b = b} {f = f} {entry = entry} {exit = exit} h k) r) = let d = call_edge names env closed many a s b f h in let e = function names env closed many f entry exit k in then (leave (e.below) (e.ends) (d.has) (d.among) refl) (from_stack r)

  -- the words of a function's shape are what runs from its entry read
  forth : (m : Marks) (f : ℕ) → f < length env.functions → (t : List Event) → Front env m (shape_of env f) t [] → (c : ℕ) × (w : List ℕ) × R m (entry_at env.functions 0 f) [] t c w []
  forth m f lt t h = let from = laid_from env closed in fronts env (g env) m (λ f. entry_at env.functions 0 f + 2) from h (from.laid f lt)

  back : (m : Marks) (f : ℕ) → f < length env.functions → (t : List Event) (c : ℕ) (w : List ℕ) → R m (entry_at env.functions 0 f) [] t c w [] → Front env m (shape_of env f) t []
  back m f lt t c w r = let from = laid_from env closed in reads_front env (g env) m (λ f. entry_at env.functions 0 f + 2) from (λ f lt x t u h. done env m h (closed.bodies f Skip lt)) lt r

  pub dyck : AreEqual (shapes.Dyck env) (Reads Dyck M)
  dyck = record {
    into = λ t h. let r = forth brackets env.main closed.main t h in (entry_at env.functions 0 env.main, entry_at env.functions 0 env.main + 1, r.0, r.1, has_function names env closed many env.main closed.main, to_dyck r.2 refl);
    back = λ t (entry, exit, a, z, k, r). let e = function names env closed many env.main entry exit k in back brackets env.main closed.main t a z (run_at (sym (e.begins)) (from_dyck r));
  }

  pub stack : AreEqual (shapes.Stack env) (Reads Stack M)
  stack = record {
    into = λ t h. let r = forth no_brackets env.main closed.main (erase t) h in (entry_at env.functions 0 env.main, entry_at env.functions 0 env.main + 1, r.0, r.1, has_function names env closed many env.main closed.main, to_stack r.2 refl);
    back = λ t (entry, exit, a, z, k, r). let e = function names env closed many env.main entry exit k in back no_brackets env.main closed.main (erase t) a z (run_at (sym (e.begins)) (from_stack r));
  }

  to_walk : {a : ℕ} {t : List Event} → NodeWalk env (g env) a t → (c : ℕ) × Walk M a t c
  to_walk {a = a} G.over = (a, w_over)
  to_walk {a = a} (G.silent {b = b} h k) = let r = to_walk k in (r.0, w_quiet (q_silent (has_silent names env closed many a b h)) r.1)
  to_walk {a = a} (G.system {b = b} {n = n} {q = q} h fits k) = let r = to_walk k in (r.0, w_calls (has_sys names env closed many a n q b h) fits r.1)
  to_walk {a = a} (G.enter {b = b} {s = s} {f = f} h among k) = let r = to_walk k in (r.0, w_quiet (q_enter (has_call names env closed many a s b f h among) (has_function names env closed many f (closed.known s f among))) r.1)
  to_walk {a = a} {t = t} (G.leave {b = b} {c = c} {s = s} {f = f} lt at h among k) = let r = to_walk k in (r.0, subst (λ a. Walk M a t (r.0)) (sym at) (w_quiet (q_leave (has_call names env closed many c s b f h among) (has_function names env closed many f lt)) r.1))

  node_at : {a b : ℕ} {t : List Event} → a ≡ b → NodeWalk env (g env) b t → NodeWalk env (g env) a t
  node_at {t = t} e k = subst (λ a. NodeWalk env (g env) a t) (sym e) k

  from_walk : {a c : ℕ} {t : List Event} → Walk M a t c → NodeWalk env (g env) a t
  from_walk w_over = G.over
  from_walk (w_quiet (q_silent {a = a} {b = b} h) k) = G.silent (silent_edge names env closed many a b h) (from_walk k)
  from_walk (w_quiet (q_enter {a = a} {s = s} {b = b} {f = f} {entry = entry} {exit = exit} h i) k) = let d = call_edge names env closed many a s b f h in G.enter (d.has) (d.among) (node_at (sym ((function names env closed many f entry exit i).begins)) (from_walk k))
  from_walk (w_quiet (q_leave {a = a} {s = s} {b = b} {f = f} {entry = entry} {exit = exit} h i) k) = let d = call_edge names env closed many a s b f h in let e = function names env closed many f entry exit i in G.leave (e.below) (e.ends) (d.has) (d.among) (from_walk k)
  from_walk (w_calls {a = a} {b = b} {x = x} {p = p} h fits k) = G.system (sys_edge names env closed many a x p b h) fits (from_walk k)

  pub callgraph : AreEqual (shapes.Callgraph env) (Reads Callgraph M)
  callgraph = record {
    into = λ t h. let r = to_walk (to_nodes env (g env) (λ f. entry_at env.functions 0 f + 2) (laid_from env closed) h closed.main) in (entry_at env.functions 0 env.main, entry_at env.functions 0 env.main + 1, r.0, has_function names env closed many env.main closed.main, r.1);
    back = λ t (entry, exit, a, k, r). let e = function names env closed many env.main entry exit k in nodes_to_points env closed env.main closed.main (erase t) (node_at (sym (e.begins)) (from_walk r));
  }
