-- Walks over the nodes of a model, along which the callgraph model reads its words.
use Rattle.std.proofs.Common.{◌≡◌, ℕ, List, [], ◌∷◌, ◌++◌, ℤ, Option, Some, Contains, sym, ◌∙◌, ap, subst, arith}
use Rattle.dm_base.specs.declared.event.Event.{Event}
use Rattle.dm_base.specs.Fits.{Fits}
use Rattle.dm_base.specs.Trace.{erase}
use Rattle.flow_model.specs.declared.which.Which.TheVariants.{Callgraph}
use Rattle.flow_model.specs.Graph.{Graph, HasSilent, HasSys, HasFunction}
use Rattle.flow_model.specs.Language.{Quiet, Walk, Reads}
use Rattle.flow_model.specs.Language.Quiet.{silent, enter, leave}
use Rattle.flow_model.specs.Language.Walk.{over, quiet, calls}

-- a walk, and another one from where it ends
pub walk-append : {g : Graph} {a b c : ℕ} {t u : List Event} → Walk g a t b → Walk g b u c → Walk g a (t ++ u) c
walk-append over more = more
walk-append (quiet step rest) more = quiet step (walk-append rest more)
walk-append (calls edge fits rest) more = calls edge fits (walk-append rest more)

-- where a walk reads its last event, and what it does before and after
pub record LastCall (g : Graph) (a : ℕ) (t : List Event) (e : Event) (c : ℕ) : Type 0 where
  pub before : ℕ
  pub name : ℕ
  pub pattern : List (Option ℤ)
  pub behind : ℕ
  pub first : Walk g a t before
  pub edge : HasSys g before name pattern behind
  pub fits : Fits name pattern e
  pub rest : Walk g behind [] c

-- the walk begins by a quiet step
last_call_quiet : {g : Graph} {a b c : ℕ} {t : List Event} {e : Event} → Quiet g a b → LastCall g b t e c → LastCall g a t e c
last_call_quiet step there = record {
  before = there.before;
  name = there.name;
  pattern = there.pattern;
  behind = there.behind;
  first = quiet step there.first;
  edge = there.edge;
  fits = there.fits;
  rest = there.rest;
}

-- the walk begins by reading an event
last_call_calls : {g : Graph} {a b c x : ℕ} {p : List (Option ℤ)} {t : List Event} {d e : Event} → HasSys g a x p b → Fits x p d → LastCall g b t e c → LastCall g a (d ∷ t) e c
last_call_calls edge fits there = record {
  before = there.before;
  name = there.name;
  pattern = there.pattern;
  behind = there.behind;
  first = calls edge fits there.first;
  edge = there.edge;
  fits = there.fits;
  rest = there.rest;
}

pub last_call : {g : Graph} {a c : ℕ} {w : List Event} → Walk g a w c → (t : List Event) (e : Event) → w ≡ t ++ e ∷ [] → LastCall g a t e c
last_call over [] e same = absurd (cc)
last_call over (d ∷ t) e same = absurd (cc)
last_call (quiet step rest) t e same = last_call_quiet step (last_call rest t e same)
last_call {g} {a} {c} (calls {b = b} {x = x} {p = p} {e = y} {t = u} edge fits rest) [] e same =
    let event : y ≡ e = cc in
    let empty : u ≡ [] = cc in
    record {
      before = a;
      name = x;
      pattern = p;
      behind = b;
      first = over;
      edge = edge;
      fits = subst (Fits x p) event fits;
      rest = subst (λ v. Walk g b v c) empty rest;
    }
last_call {g} {a} {c} (calls {x = x} {p = p} {e = y} {t = u} edge fits rest) (d ∷ t) e same =
    let event : y ≡ d = cc in
    let tail : u ≡ t ++ e ∷ [] = cc in
    last_call_calls edge (subst (Fits x p) event fits) (last_call rest t e tail)

-- a function has one entry
pub same_entry : {g : Graph} {f entry exit other end : ℕ} → HasFunction g f entry exit → HasFunction g f other end → entry ≡ other
same_entry one two =
    let same : Some one.one ≡ Some two.one = sym one.has ∙ two.has in
    let function : one.one ≡ two.one = cc in
    sym one.begins ∙ ap (λ f. f.entry) function ∙ two.begins

-- the words of the callgraph model are those of the walks from the start's entry
pub reads_from_walk : {g : Graph} {entry exit a : ℕ} (t : List Event) → HasFunction g g.start entry exit → Walk g entry (erase t) a → Reads Callgraph g t
reads_from_walk {entry = entry} {exit = exit} {a = a} t start walk = (entry, exit, a, start, walk)

-- without call edges only silent edges are quiet
pub quiet_is_silent : {g : Graph} {a b : ℕ} → g.calls ≡ [] → Quiet g a b → HasSilent g a b
quiet_is_silent none (silent has) = has
quiet_is_silent none (enter call function) = let has = subst (λ cs. Contains cs call.call) none call.has in absurd (omega (arith, has.1))
quiet_is_silent none (leave call function) = let has = subst (λ cs. Contains cs call.call) none call.has in absurd (omega (arith, has.1))
