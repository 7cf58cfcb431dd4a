-- Where the event of a system call is the last of a word, any event that fits the same edge may stand in its place.
use Rattle.std.proofs.Common.{◌≡◌, ℕ, List, [], ◌∷◌, ◌++◌, ℤ, Option, Contains, refl, sym, ◌∙◌, ap, subst}
use Rattle.dm_base.specs.declared.event.Event.{Event}
use Rattle.dm_base.specs.declared.event.Event.TheVariants.{Sys, Pre, Post}
use Rattle.dm_base.specs.Fits.{Fits}
use Rattle.dm_base.specs.Trace.{erase}
use Rattle.flow_model.specs.declared.records.SysEdge.{SysEdge}
use Rattle.flow_model.specs.declared.which.Which.{Which}
use Rattle.flow_model.specs.declared.which.Which.TheVariants.{Callgraph, Stack, Dyck}
use Rattle.flow_model.specs.Graph.{Graph}
use Rattle.flow_model.specs.Language.{Steps, StackRun, DyckRun, Walk, Reads}
use Rattle.flow_model.specs.Language.Move.{Inside, Calls, Enters, Leaves}
use Rattle.flow_model.specs.Language.Steps.{sys}
use Rattle.flow_model.specs.Language.{StackRun as stack, DyckRun as dyck, Walk as walk}
use Rattle.flow_model.proofs.Histories.{erase-append}
use Rattle.flow_model.proofs.Walks.{LastCall, last_call, walk-append}
use Rattle.report.specs.Precision.{IsCall}

-- the event fits an edge, and so does no other than one with which the word goes on likewise
pub record FitsLast (g : Graph) (Word : Event → Type 0) (e : Event) : Type 0 where
  pub edge : SysEdge
  pub has : Contains g.sys edge
  pub fits : Fits edge.name edge.args e
  pub others : (other : Event) → Fits edge.name edge.args other → Word other

-- where the words of one place are words of another
pub weaker : {g : Graph} (W V : Event → Type 0) (e : Event) → ((other : Event) → W other → V other) → FitsLast g W e → FitsLast g V e
weaker W V e goes last = record { edge = last.edge; has = last.has; fits = last.fits; others = λ other fits. goes other (last.others other fits) }

walk_last : (g : Graph) (a c : ℕ) (t : List Event) (e : Event) → Walk g a (t ++ e ∷ []) c → FitsLast g (λ other. (b : ℕ) × Walk g a (t ++ other ∷ []) b) e
walk_last g a c t e run =
    let last : LastCall g a t e c = last_call run t e refl in
    record {
      edge = record { from = last.before; name = last.name; to = last.behind; args = last.pattern };
      has = last.edge;
      fits = last.fits;
      others = λ other fits. (c, walk-append last.first (walk.calls last.edge fits last.rest));
    }

-- the configurations of the abstract-stack model
abbrev StackWord : Graph → ℕ → List ℕ → List Event → Type 0
StackWord g a y w = (b : ℕ) × (z : List ℕ) × StackRun g a y w b z

stack_last : {g : Graph} {a c : ℕ} {y w : List ℕ} {u : List Event} → StackRun g a y u c w → (t : List Event) (e : Event) → u ≡ t ++ e ∷ [] → FitsLast g (λ other. StackWord g a y (t ++ other ∷ [])) e
stack_last stack.over [] e same = absurd cc
stack_last stack.over (d ∷ t) e same = absurd cc
stack_last {g} {a} {y = y} (stack.inside {b = b} {z = z} step rest) t e same =
    weaker (λ other. StackWord g b z (t ++ other ∷ [])) (λ other. StackWord g a y (t ++ other ∷ [])) e (λ other word. (word.0, word.1, stack.inside step word.2)) (stack_last rest t e same)
stack_last {g} {a} {y = y} (stack.enters {b = b} {z = z} step rest) t e same =
    weaker (λ other. StackWord g b z (t ++ other ∷ [])) (λ other. StackWord g a y (t ++ other ∷ [])) e (λ other word. (word.0, word.1, stack.enters step word.2)) (stack_last rest t e same)
stack_last {g} {a} {y = y} (stack.leaves {b = b} {z = z} step rest) t e same =
    weaker (λ other. StackWord g b z (t ++ other ∷ [])) (λ other. StackWord g a y (t ++ other ∷ [])) e (λ other word. (word.0, word.1, stack.leaves step word.2)) (stack_last rest t e same)
stack_last {g} {a} {c} {y = y} {w = w} (stack.calls {b = b} {x = x} {p = p} {e = d} {t = u} (sys edge) fits rest) [] e same =
    let event : d ≡ e = cc in
    let empty : u ≡ [] = cc in
    record {
      edge = record { from = a; name = x; to = b; args = p };
      has = edge;
      fits = subst (Fits x p) event fits;
      others = λ other fits_too. (c, w, stack.calls (sys edge) fits_too (subst (λ v. StackRun g b y v c w) empty rest));
    }
stack_last {g} {a} {c} {y = y} {w = w} (stack.calls {b = b} {x = x} {p = p} {z = z} {e = d} {t = u} step fits rest) (first ∷ t) e same =
    let event : d ≡ first = cc in
    let tail : u ≡ t ++ e ∷ [] = cc in
    weaker (λ other. StackWord g b z (t ++ other ∷ [])) (λ other. StackWord g a y ((first ∷ t) ++ other ∷ [])) e (λ other word. (word.0, word.1, stack.calls step (subst (Fits x p) event fits) word.2)) (stack_last rest t e tail)

-- the configurations of the Dyck model
abbrev DyckWord : Graph → ℕ → List ℕ → List Event → Type 0
DyckWord g a y w = (b : ℕ) × (z : List ℕ) × DyckRun g a y w b z

dyck_last : {g : Graph} {a c : ℕ} {y w : List ℕ} {u : List Event} → DyckRun g a y u c w → (t : List Event) (x : ℕ) (e : Event) → IsCall x e → u ≡ t ++ e ∷ [] → FitsLast g (λ other. DyckWord g a y (t ++ other ∷ [])) e
dyck_last dyck.over [] n e call same = absurd cc
dyck_last dyck.over (d ∷ t) n e call same = absurd cc
dyck_last {g} {a} {y = y} (dyck.inside {b = b} {z = z} step rest) t n e call same =
    weaker (λ other. DyckWord g b z (t ++ other ∷ [])) (λ other. DyckWord g a y (t ++ other ∷ [])) e (λ other word. (word.0, word.1, dyck.inside step word.2)) (dyck_last rest t n e call same)
dyck_last {g} {a} {y = y} (dyck.enters {b = b} {s = s} {z = z} {t = u} step rest) [] n e call same =
    let event : Pre s ≡ e = cc in
    absurd (subst (IsCall n) (sym event) call)
dyck_last {g} {a} {y = y} (dyck.enters {b = b} {s = s} {z = z} {t = u} step rest) (first ∷ t) n e call same =
    let event : Pre s ≡ first = cc in
    let tail : u ≡ t ++ e ∷ [] = cc in
    weaker (λ other. DyckWord g b z (t ++ other ∷ [])) (λ other. DyckWord g a y ((first ∷ t) ++ other ∷ [])) e (λ other word. (word.0, word.1, subst (λ d. DyckRun g a y (d ∷ (t ++ other ∷ [])) word.0 word.1) event (dyck.enters step word.2))) (dyck_last rest t n e call tail)
dyck_last {g} {a} {y = y} (dyck.leaves {b = b} {s = s} {z = z} {t = u} step rest) [] n e call same =
    let event : Post s ≡ e = cc in
    absurd (subst (IsCall n) (sym event) call)
dyck_last {g} {a} {y = y} (dyck.leaves {b = b} {s = s} {z = z} {t = u} step rest) (first ∷ t) n e call same =
    let event : Post s ≡ first = cc in
    let tail : u ≡ t ++ e ∷ [] = cc in
    weaker (λ other. DyckWord g b z (t ++ other ∷ [])) (λ other. DyckWord g a y ((first ∷ t) ++ other ∷ [])) e (λ other word. (word.0, word.1, subst (λ d. DyckRun g a y (d ∷ (t ++ other ∷ [])) word.0 word.1) event (dyck.leaves step word.2))) (dyck_last rest t n e call tail)
dyck_last {g} {a} {c} {y = y} {w = w} (dyck.calls {b = b} {x = x} {p = p} {e = d} {t = u} (sys edge) fits rest) [] n e call same =
    let event : d ≡ e = cc in
    let empty : u ≡ [] = cc in
    record {
      edge = record { from = a; name = x; to = b; args = p };
      has = edge;
      fits = subst (Fits x p) event fits;
      others = λ other fits_too. (c, w, dyck.calls (sys edge) fits_too (subst (λ v. DyckRun g b y v c w) empty rest));
    }
dyck_last {g} {a} {c} {y = y} {w = w} (dyck.calls {b = b} {x = x} {p = p} {z = z} {e = d} {t = u} step fits rest) (first ∷ t) n e call same =
    let event : d ≡ first = cc in
    let tail : u ≡ t ++ e ∷ [] = cc in
    weaker (λ other. DyckWord g b z (t ++ other ∷ [])) (λ other. DyckWord g a y ((first ∷ t) ++ other ∷ [])) e (λ other word. (word.0, word.1, dyck.calls step (subst (Fits x p) event fits) word.2)) (dyck_last rest t n e call tail)

-- null calls are left out of a word before a call
pub call_erased : (t : List Event) (x : ℕ) (e : Event) → IsCall x e → erase (t ++ e ∷ []) ≡ erase t ++ e ∷ []
call_erased t x (Sys name arguments outcome) call = erase-append t (Sys name arguments outcome ∷ [])
call_erased t x (Pre site) call = absurd call
call_erased t x (Post site) call = absurd call

pub fit_erased : (t : List Event) (x : ℕ) (p : List (Option ℤ)) (e : Event) → Fits x p e → erase (t ++ e ∷ []) ≡ erase t ++ e ∷ []
fit_erased t x p (Sys name arguments outcome) fits = erase-append t (Sys name arguments outcome ∷ [])
fit_erased t x p (Pre site) fits = absurd fits
fit_erased t x p (Post site) fits = absurd fits

-- the words of the three languages
pub last_fits : (which : Which) (g : Graph) (t : List Event) (x : ℕ) (e : Event) → IsCall x e → Reads which g (t ++ e ∷ []) → FitsLast g (λ other. Reads which g (t ++ other ∷ [])) e
last_fits Callgraph g t x e call (entry, exit, a, start, run) =
    let last = walk_last g entry a (erase t) e (subst (λ w. Walk g entry w a) (call_erased t x e call) run) in
    record {
      edge = last.edge;
      has = last.has;
      fits = last.fits;
      others = λ other fits.
          let there = last.others other fits in
          (entry, exit, there.0, start, subst (λ w. Walk g entry w there.0) (sym (fit_erased t last.edge.name last.edge.args other fits)) there.1);
    }
last_fits Stack g t x e call (entry, exit, a, z, start, run) =
    let last = stack_last (subst (λ w. StackRun g entry [] w a z) (call_erased t x e call) run) (erase t) e refl in
    record {
      edge = last.edge;
      has = last.has;
      fits = last.fits;
      others = λ other fits.
          let there = last.others other fits in
          (entry, exit, there.0, there.1, start, subst (λ w. StackRun g entry [] w there.0 there.1) (sym (fit_erased t last.edge.name last.edge.args other fits)) there.2);
    }
last_fits Dyck g t x e call (entry, exit, a, z, start, run) =
    let last = dyck_last run t x e call refl in
    record {
      edge = last.edge;
      has = last.has;
      fits = last.fits;
      others = λ other fits.
          let there = last.others other fits in
          (entry, exit, there.0, there.1, start, there.2);
    }
