-- Calls of advance, one after another.
use Rattle.std.proofs.Common.{◌≡◌, ℕ, Bool, true, false, List, [], ◌∷◌, ◌++◌, Option, Some, None, sym, ap, subst, ◌∙◌, refl, append_assoc, append-nil}
use Rattle.std.specs.Prelude.{◌≢◌, IsSome, pos}
use Rattle.dm_base.specs.declared.event.Event.{Event}
use Rattle.dm_base.specs.declared.outcome.Outcome.{Outcome}
use Rattle.dm_base.specs.declared.outcome.Outcome.TheVariants.{Results}
use Rattle.sys_table.specs.declared.sys_result.SysResult.{SysResult}
use Rattle.c_tree.specs.Tree.{Program}
use Rattle.c_meaning.specs.Runs.{Run, run}
use Rattle.ref_machine.specs.declared.pause.Pause.{Pause}
use Rattle.ref_machine.specs.declared.pause.Pause.TheVariants.{NeedResult, Did, Ended}
use Rattle.ref_machine.specs.Futures.{Future, Advances, GoesOn, event_first, only_end, with_given}
use Rattle.ref_machine.specs.WholeRuns.{joined}
use Rattle.ref_machine.specs.Advancing.{Told, event_of, end_of, Tells, started, advanced, NeedsRecord, AdvancesAreExact}

-- the end of a run is not an event
not_event : (o : Outcome) (e : Event) (r : Run) → only_end o ≢ event_first e r
not_event o e r is = let h : [] ≡ e ∷ r.trace = ap (λ (r : Run). r.trace) is in cc

same_end : (o q : Outcome) → only_end o ≡ only_end q → o ≡ q
same_end o q is = ap (λ (r : Run). r.outcome) is

some_same : (o q : Outcome) → Some o ≡ Some q → o ≡ q
some_same o q is = cc

a_record : SysResult
a_record = record { value = pos 0; bytes = [] }

no_more : (es : List Event) (ts : List Event) → es ≡ es ++ ts → ts ≡ []
no_more [] ts is = sym is
no_more (e ∷ es) ts is = no_more es ts cc

one_more : (es : List Event) (e : Event) (ts : List Event) → es ≡ es ++ (e ∷ ts) → ⊥
one_more es e ts is = let h : e ∷ ts ≡ [] = no_more es (e ∷ ts) is in cc

ends_here : (es : List Event) (r : Run) (o : Outcome) → joined es r ≡ record { outcome = o; trace = es } → r ≡ only_end o
ends_here es r o is =
    let ends : r.outcome ≡ o = ap (λ (r : Run). r.outcome) is in
    let none : r.trace ≡ [] = no_more es r.trace (sym (ap (λ (r : Run). r.trace) is)) in
    λ i. record { outcome = ends i; trace = none i }

joined_end : (es : List Event) (o : Outcome) → joined es (only_end o) ≡ record { outcome = o; trace = es }
joined_end es o = λ i. record { outcome = o; trace = append-nil es i }

joined_event : (es : List Event) (e : Event) (r : Run) → joined es (event_first e r) ≡ joined (es ++ (e ∷ [])) r
joined_event es e r = λ i. record { outcome = r.outcome; trace = sym (append_assoc es (e ∷ []) r.trace) i }

module _ (p : Program) (n : ℕ) where
  -- what is kept along the calls
  record Exact (gs : List SysResult) (es : List Event) (waited : Bool) (o : Option Outcome) (f : Future) : Type 0 where
    pub front : (rs : List SysResult) → (rest : Run) × (run p (gs ++ rs) n ≡ joined es rest)
    pub now : run p gs n ≡ joined es (f [])
    pub same : o ≢ Some Results → (rs : List SysResult) → run p (gs ++ rs) n ≡ joined es (f rs)
    pub over : (q : Outcome) → o ≡ Some q → (rs : List SysResult) → f rs ≡ only_end q
    pub wants : waited ≡ true → (o ≡ None) × (f [] ≡ only_end Results)

  moved : (gs hs : List SysResult) (es fs : List Event) (waited : Bool) (o : Option Outcome) (f : Future) → gs ≡ hs → es ≡ fs → Exact gs es waited o f → Exact hs fs waited o f
  moved gs hs es fs waited o f same alike x =
      subst (λ es. Exact hs es waited o f) alike (subst (λ gs. Exact gs es waited o f) same x)

  open_yet : (o : Option Outcome) → o ≡ None → o ≢ Some Results
  open_yet o none is = cc

  -- before the end nothing is over
  not_over : (o : Option Outcome) → ((q : Outcome) → o ≢ Some q) → o ≡ None
  not_over None never = refl
  not_over (Some q) never = absurd (never q refl)

  step : (gs : List SysResult) (es : List Event) (waited : Bool) (o : Option Outcome) (f : Future) (given : Option SysResult) (pause : Pause) (new : Future) (waiting : Bool) → Exact gs es waited o f → (IsSome given → waited ≡ true) → Advances waited f given pause new waiting → Exact (gs ++ with_given given []) (es ++ event_of pause) waiting (end_of pause) new
  step gs es true o f given NeedResult new waiting x need h = absurd h
  step gs es false o f (Some g) pause new waiting x need h = let never : false ≡ true = need refl in cc
  step gs es false o f None NeedResult new waiting x need h =
      let none : o ≡ None = not_over o (λ q is. h.3 a_record [] (x.over q is (a_record ∷ []) ∙ ap only_end (same_end q Results (sym (x.over q is []) ∙ h.1)))) in
      moved gs (gs ++ []) es (es ++ []) waiting None new (sym (append-nil gs)) (sym (append-nil es))
      (record {
        front = x.front;
        now = x.now ∙ ap (joined es) (sym (h.0 []));
        same = λ never rs. x.same (open_yet o none) rs ∙ ap (joined es) (sym (h.0 rs));
        over = λ q is. cc;
        wants = λ w. (refl, h.0 [] ∙ h.1);
      })
  step gs es false o f None (Did e) new waiting x need h =
      let none : o ≡ None = not_over o (λ q is. not_event q e (new []) (sym (x.over q is []) ∙ h.0 [])) in
      let goes : (rs : List SysResult) → run p (gs ++ rs) n ≡ joined (es ++ (e ∷ [])) (new rs) = λ rs. x.same (open_yet o none) rs ∙ (ap (joined es) (h.0 rs) ∙ joined_event es e (new rs)) in
      moved gs (gs ++ []) (es ++ (e ∷ [])) (es ++ (e ∷ [])) waiting None new (sym (append-nil gs)) refl
      (record {
        front = λ rs. (new rs, goes rs);
        now = x.now ∙ (ap (joined es) (h.0 []) ∙ joined_event es e (new []));
        same = λ never. goes;
        over = λ q is. cc;
        wants = λ w. let never : waiting ≡ false = h.1 in cc;
      })
  step gs es false o f None (Ended q) new waiting x need h =
      moved gs (gs ++ []) es (es ++ []) waiting (Some q) new (sym (append-nil gs)) (sym (append-nil es))
      (record {
        front = x.front;
        now = x.now ∙ ap (joined es) ((h.0 []).0 ∙ sym (h.0 []).1);
        same = λ never rs. x.same (λ is. never (ap (λ q. Some q) (same_end q Results (sym (h.0 []).0 ∙ x.over Results is [])))) rs ∙ ap (joined es) ((h.0 rs).0 ∙ sym (h.0 rs).1);
        over = λ r is rs. (h.0 rs).1 ∙ ap only_end (some_same q r is);
        wants = λ w. let never : waiting ≡ false = h.1 in cc;
      })
  step gs es true o f None (Did e) new waiting x need h =
      absurd (not_event Results e (new []) (sym (x.wants refl).1 ∙ h.0 []))
  step gs es true o f None (Ended q) new waiting x need h =
      let last : q ≡ Results = same_end q Results (sym (h.0 []).0 ∙ (x.wants refl).1) in
      moved gs (gs ++ []) es (es ++ []) waiting (Some q) new (sym (append-nil gs)) (sym (append-nil es))
      (record {
        front = x.front;
        now = x.now ∙ ap (joined es) ((h.0 []).0 ∙ sym (h.0 []).1);
        same = λ never. absurd (never (ap (λ q. Some q) last));
        over = λ r is rs. (h.0 rs).1 ∙ ap only_end (some_same q r is);
        wants = λ w. let never : waiting ≡ false = h.1 in cc;
      })
  step gs es true o f (Some g) (Did e) new waiting x need h =
      let goes : (rs : List SysResult) → run p (gs ++ (g ∷ rs)) n ≡ joined (es ++ (e ∷ [])) (new rs) = λ rs. x.same (open_yet o (x.wants refl).0) (g ∷ rs) ∙ (ap (joined es) (h.0 rs) ∙ joined_event es e (new rs)) in
      let later : (rs : List SysResult) → run p ((gs ++ (g ∷ [])) ++ rs) n ≡ joined (es ++ (e ∷ [])) (new rs) = λ rs. ap (λ hs. run p hs n) (append_assoc gs (g ∷ []) rs) ∙ goes rs in
      record {
        front = λ rs. (new rs, later rs);
        now = goes [];
        same = λ never. later;
        over = λ q is. cc;
        wants = λ w. let never : waiting ≡ false = h.1 in cc;
      }
  step gs es true o f (Some g) (Ended q) new waiting x need h =
      let goes : (rs : List SysResult) → run p (gs ++ (g ∷ rs)) n ≡ joined es (new rs) = λ rs. x.same (open_yet o (x.wants refl).0) (g ∷ rs) ∙ ap (joined es) ((h.0 rs).0 ∙ sym (h.0 rs).1) in
      let later : (rs : List SysResult) → run p ((gs ++ (g ∷ [])) ++ rs) n ≡ joined es (new rs) = λ rs. ap (λ hs. run p hs n) (append_assoc gs (g ∷ []) rs) ∙ goes rs in
      moved (gs ++ (g ∷ [])) (gs ++ (g ∷ [])) es (es ++ []) waiting (Some q) new refl (sym (append-nil es))
      (record {
        front = λ rs. (new rs, later rs);
        now = goes [];
        same = λ never. later;
        over = λ r is rs. (h.0 rs).1 ∙ ap only_end (some_same q r is);
        wants = λ w. let never : waiting ≡ false = h.1 in cc;
      })

  exact : (t : Told) → Tells p n t → Exact t.given t.events t.waiting t.ended t.future
  exact t (started future h) = record {
    front = λ rs. (future rs, sym (h rs));
    now = sym (h []);
    same = λ never rs. sym (h rs);
    over = λ q is. cc;
    wants = λ w. cc;
  }
  exact t (advanced old given pause future waiting told need h) =
      step old.given old.events old.waiting old.ended old.future given pause future waiting (exact old told) need h

  needs_record : (gs : List SysResult) (es : List Event) (waited : Bool) (o : Option Outcome) (f : Future) (pause : Pause) (new : Future) (waiting : Bool) → Exact gs es waited o f → o ≡ None → GoesOn f pause new waiting → pause ≡ NeedResult → NeedsRecord p n gs es
  needs_record gs es waited o f NeedResult new waiting x none h is = record {
    wants = x.now ∙ (ap (joined es) h.1 ∙ joined_end es Results);
    goes_on = λ one rs same. h.3 one rs (ends_here es (f (one ∷ rs)) Results (sym (x.same (open_yet o none) (one ∷ rs)) ∙ same));
  }
  needs_record gs es waited o f (Did e) new waiting x none h is = cc
  needs_record gs es waited o f (Ended q) new waiting x none h is = cc

  says_so : (gs : List SysResult) (es : List Event) (waited : Bool) (o : Option Outcome) (f : Future) (pause : Pause) (new : Future) (waiting : Bool) → Exact gs es waited o f → o ≡ None → GoesOn f pause new waiting → NeedsRecord p n gs es → pause ≡ NeedResult
  says_so gs es waited o f NeedResult new waiting x none h needs = refl
  says_so gs es waited o f (Did e) new waiting x none h needs =
      absurd (not_event Results e (new []) (sym (ends_here es (f []) Results (sym x.now ∙ needs.wants)) ∙ h.0 []))
  says_so gs es waited o f (Ended q) new waiting x none h needs =
      let last : q ≡ Results = same_end q Results (sym (h.0 []).0 ∙ ends_here es (f []) Results (sym x.now ∙ needs.wants)) in
      absurd (needs.goes_on a_record [] (x.same (open_yet o none) (a_record ∷ []) ∙ (ap (joined es) ((h.0 (a_record ∷ [])).0 ∙ ap only_end last) ∙ joined_end es Results)))

  told_again : (gs : List SysResult) (es : List Event) (waited : Bool) (o : Option Outcome) (f : Future) (q : Outcome) (pause : Pause) (new : Future) (waiting : Bool) → Exact gs es waited o f → o ≡ Some q → Advances waited f None pause new waiting → pause ≡ Ended q
  told_again gs es true o f q pause new waiting x is h = let none : o ≡ None = (x.wants refl).0 in cc
  told_again gs es false o f q NeedResult new waiting x is h =
      absurd (h.3 a_record [] (x.over q is (a_record ∷ []) ∙ ap only_end (same_end q Results (sym (x.over q is []) ∙ h.1))))
  told_again gs es false o f q (Did e) new waiting x is h =
      absurd (not_event q e (new []) (sym (x.over q is []) ∙ h.0 []))
  told_again gs es false o f q (Ended r) new waiting x is h =
      ap (λ r. Ended r) (same_end r q (sym (h.0 []).0 ∙ x.over q is []))

-- whatever calls of advance have told is what the run is
pub advances_are_exact : AdvancesAreExact
advances_are_exact = record {
  events = λ p n t told rs. let x = (exact p n t told).front rs in (x.0.trace, ap (λ (r : Run). r.trace) x.1);
  ended = λ p n t o told is. let x = exact p n t told in x.now ∙ (ap (joined t.events) (x.over o is []) ∙ joined_end t.events o);
  further = λ p n t o told is other rs. let x = exact p n t told in x.same (λ k. other (some_same o Results (sym is ∙ k))) rs ∙ (ap (joined t.events) (x.over o is rs) ∙ joined_end t.events o);
  needs = λ p n t pause future waiting told none waits h. (needs_record p n t.given t.events t.waiting t.ended t.future pause future waiting (exact p n t told) none h, says_so p n t.given t.events t.waiting t.ended t.future pause future waiting (exact p n t told) none h);
  again = λ p n t o pause future waiting told is h. told_again p n t.given t.events t.waiting t.ended t.future o pause future waiting (exact p n t told) is h;
}
