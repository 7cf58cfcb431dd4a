-- How many calls are open in words of the Dyck model.
use Rattle.std.proofs.Common.{◌≡◌, ℕ, ℤ, pos, ◌+◌, ◌≤◌, Option, List, [], ◌∷◌, ◌++◌, length, reverse, refl, ap, subst, arith}
use Rattle.dm_base.specs.declared.event.Event.{Event}
use Rattle.dm_base.specs.declared.event.Event.TheVariants.{Sys, Pre, Post}
use Rattle.dm_base.specs.Fits.{Fits}
use Rattle.dm_base.specs.Trace.{opened, closed, depth}
use Rattle.flow_model.specs.declared.which.Which.TheVariants.{Dyck}
use Rattle.flow_model.specs.Graph.{Graph, HasFunction}
use Rattle.flow_model.specs.Language.{Steps, DyckRun, Reads}
use Rattle.flow_model.specs.Language.Move.{Inside, Calls, Enters, Leaves}
use Rattle.flow_model.specs.Language.Steps.{silent as s_silent, sys as s_sys, enter as s_enter, leave as s_leave}
use Rattle.flow_model.specs.Language.DyckRun.{over, inside, calls, enters, leaves}
use Rattle.flow_model.specs.Rules.{IsValid}
use Rattle.inline_model.specs.Within.{Within}
use Rattle.inline_model.specs.Within.Within.{begins as w_begins, silent as w_silent, sys as w_sys, passes as w_passes}
use Rattle.inline_model.specs.Chains.{IsChain, IsGreatest, HasNoGreatest}
use Rattle.inline_model.specs.Depths.{IsGreatestDepth, HasNoGreatestDepth}
use Rattle.inline_model.proofs.Basics.{same_function, has_function, candidate_function}
use Rattle.inline_model.specs.Searching.{FromFunction}
use Rattle.inline_model.specs.Searching.FromFunction.{stays, goes}
use Rattle.inline_model.proofs.ChainLemmas.{from_chain, chain_from}
use Rattle.inline_model.proofs.Standing.{Stands, stands_first, stands_step, copy_chain, onto, length-onto, onto-none}

pub run-append : {g : Graph} {a b c : ℕ} {y z w : List ℕ} {t u : List Event} → DyckRun g a y t b z → DyckRun g b z u c w → DyckRun g a y (t ++ u) c w
run-append over more = more
run-append (inside step rest) more = inside step (run-append rest more)
run-append (calls step fits rest) more = calls step fits (run-append rest more)
run-append (enters step rest) more = enters step (run-append rest more)
run-append (leaves step rest) more = leaves step (run-append rest more)

opened-append : (t u : List Event) → opened (t ++ u) ≡ opened t + opened u
opened-append [] u = omega arith
opened-append (Sys name arguments outcome ∷ t) u = opened-append t u
opened-append (Pre site ∷ t) u = omega (arith, opened-append t u)
opened-append (Post site ∷ t) u = opened-append t u

closed-append : (t u : List Event) → closed (t ++ u) ≡ closed t + closed u
closed-append [] u = omega arith
closed-append (Sys name arguments outcome ∷ t) u = closed-append t u
closed-append (Pre site ∷ t) u = closed-append t u
closed-append (Post site ∷ t) u = omega (arith, closed-append t u)

-- an event that fits any pattern
an_event : ℕ → Event
an_event x = Sys x [] (pos 0)

event_fits : (x : ℕ) (p : List (Option ℤ)) → Fits x p (an_event x)
unfolding an_event
event_fits x [] = (refl, tt)
event_fits x (entry ∷ p) = (refl, tt)

no_brackets : (n : ℕ) → opened (an_event n ∷ []) ≡ closed (an_event n ∷ [])
unfolding an_event
no_brackets n = refl

-- what is within a function is reached with as many calls left as entered
record Reached (g : Graph) (entry : ℕ) (z : List ℕ) (node : ℕ) : Type 0 where
  word : List Event
  run : DyckRun g entry z word node z
  even : opened word ≡ closed word

reached_more : {g : Graph} {entry a b : ℕ} {z : List ℕ} (there : Reached g entry z a) (u : List Event) → DyckRun g a z u b z → opened u ≡ closed u → Reached g entry z b
reached_more there u run even = record {
  word = there.word ++ u;
  run = run-append there.run run;
  even = omega (arith, there.even, even, opened-append there.word u, closed-append there.word u);
}

around_even : (s : ℕ) (u : List Event) → opened u ≡ closed u → opened (Pre s ∷ (u ++ Post s ∷ [])) ≡ closed (Pre s ∷ (u ++ Post s ∷ []))
around_even s u even = omega (arith, even, opened-append u (Post s ∷ []), closed-append u (Post s ∷ []))

within_run : {g : Graph} {f entry exit node : ℕ} → Within g f node → HasFunction g f entry exit → (z : List ℕ) → Reached g entry z node
within_run {g} (w_begins {entry = first} function) start z = record { word = []; run = subst (λ n. DyckRun g n z [] first z) (same_function function start).0 over; even = refl }
within_run (w_silent before has) start z = reached_more (within_run before start z) [] (inside (s_silent has) over) refl
within_run (w_sys {x = x} {p = p} before has) start z = reached_more (within_run before start z) (an_event x ∷ []) (calls (s_sys has) (event_fits x p) over) (no_brackets x)
within_run (w_passes {s = s} before call function inner) start z =
    let through = within_run inner function (s ∷ z) in
    reached_more (within_run before start z) (Pre s ∷ (through.word ++ Post s ∷ []))
    (enters (s_enter call function) (run-append through.run (leaves (s_leave call function) over))) (around_even s through.word through.even)

-- each chain is realised by a word with as many open calls
record Opens (g : Graph) (entry : ℕ) (n : ℕ) (z : List ℕ) : Type 0 where
  word : List Event
  node : ℕ
  sites : List ℕ
  run : DyckRun g entry z word node sites
  open_calls : opened word ≡ closed word + n

chain_run : {g : Graph} → IsValid g → {f entry exit : ℕ} {sites : List ℕ} → FromFunction g f sites → HasFunction g f entry exit → (z : List ℕ) → Opens g entry (length sites) z
chain_run valid {entry = entry} stays start z = record { word = []; node = entry; sites = z; run = over; open_calls = refl }
chain_run {g} valid (goes {s = s} {h = h} opening rest) start z =
    let way = within_run opening.within start z in
    let there = candidate_function valid opening.call in
    let more = chain_run valid rest there.2 (s ∷ z) in
    record {
      word = way.word ++ Pre s ∷ more.word;
      node = more.node;
      sites = more.sites;
      run = run-append way.run (enters (s_enter opening.call there.2) more.run);
      open_calls = omega (arith, way.even, more.open_calls, opened-append way.word (Pre s ∷ more.word), closed-append way.word (Pre s ∷ more.word));
    }

-- the excess of a word is no more than its depth
excess : (t : List Event) → opened t ≤ closed t + depth t
excess [] = omega arith
excess (Sys name arguments outcome ∷ t) = excess t
excess (Pre site ∷ t) = omega (arith, excess t)
excess (Post site ∷ t) = omega (arith, excess t)

pub the_start : {g : Graph} → IsValid g → (entry : ℕ) × (exit : ℕ) × HasFunction g g.start entry exit
the_start {g} valid = let start = has_function {g = g} g.start valid.functions.start in (start.0.entry, start.0.exit, start.2)

pub chain_word : {g : Graph} → IsValid g → (sites : List ℕ) → IsChain g sites → (t : List Event) × Reads Dyck g t × (opened t ≡ closed t + length sites)
chain_word {g} valid sites chain =
    let start = the_start valid in
    let there = chain_run valid (from_chain valid chain) start.2 [] in
    (there.word, (start.0, start.1, there.node, there.sites, start.2, there.run), there.open_calls)

-- the open sites of a word are a chain, from the oldest on
pub open_chain : {g : Graph} {a : ℕ} {z : List ℕ} → Stands g a z → IsChain g (onto z [])
open_chain {g} there = subst (λ sites. IsChain g (onto sites [])) there.sites_are (chain_from (copy_chain there.is_copy [] stays))

pub run_stands : {g : Graph} → IsValid g → {a c : ℕ} {y w : List ℕ} {t : List Event} → DyckRun g a y t c w → Stands g a y → Stands g c w
run_stands valid over there = there
run_stands valid (inside step rest) there = run_stands valid rest (stands_step valid step there)
run_stands valid (calls step fits rest) there = run_stands valid rest (stands_step valid step there)
run_stands valid (enters step rest) there = run_stands valid rest (stands_step valid step there)
run_stands valid (leaves step rest) there = run_stands valid rest (stands_step valid step there)

-- no more calls are open than chains have sites
few_open : {g : Graph} {a : ℕ} {z : List ℕ} (n : ℕ) → IsGreatest g n → Stands g a z → length z ≤ n
few_open {z = z} n greatest there = omega (arith, greatest.all (onto z []) (open_chain there), length-onto z [])

-- what a step does to the open sites
inside_sites : {g : Graph} {a b : ℕ} {y z : List ℕ} → Steps g a y Inside b z → z ≡ y
inside_sites (s_silent has) = refl

calls_sites : {g : Graph} {a b x : ℕ} {p : List (Option ℤ)} {y z : List ℕ} → Steps g a y (Calls x p) b z → z ≡ y
calls_sites (s_sys has) = refl

enters_sites : {g : Graph} {a b s : ℕ} {y z : List ℕ} → Steps g a y (Enters s) b z → z ≡ s ∷ y
enters_sites (s_enter call function) = refl

leaves_sites : {g : Graph} {a b s : ℕ} {y z : List ℕ} → Steps g a y (Leaves s) b z → y ≡ s ∷ z
leaves_sites (s_leave call function) = refl

call_depth : (x : ℕ) (p : List (Option ℤ)) (e : Event) (t : List Event) → Fits x p e → depth (e ∷ t) ≡ depth t
call_depth x p (Sys name arguments outcome) t fits = refl
call_depth x p (Pre site) t fits = absurd fits
call_depth x p (Post site) t fits = absurd fits

run_depth : {g : Graph} → IsValid g → (n : ℕ) → IsGreatest g n → {a c : ℕ} {y w : List ℕ} (t : List Event) → DyckRun g a y t c w → Stands g a y → length y + depth t ≤ n
run_depth valid n greatest [] (over {z = z}) there = omega (arith, few_open n greatest there)
run_depth valid n greatest t (inside step rest) there = omega (arith, run_depth valid n greatest t rest (stands_step valid step there), ap length (inside_sites step))
run_depth valid n greatest (e ∷ t) (calls {x = x} {p = p} step fits rest) there = omega (arith, run_depth valid n greatest t rest (stands_step valid step there), ap length (calls_sites step), call_depth x p e t fits)
run_depth valid n greatest (Pre s ∷ t) (enters step rest) there = omega (arith, run_depth valid n greatest t rest (stands_step valid step there), ap length (enters_sites step))
run_depth valid n greatest (Post s ∷ t) (leaves step rest) there = omega (arith, run_depth valid n greatest t rest (stands_step valid step there), ap length (leaves_sites step), few_open n greatest there)

pub greatest_depth : (g : Graph) → IsValid g → (n : ℕ) → IsGreatest g n → IsGreatestDepth g n
greatest_depth g valid n greatest =
    let deepest = chain_word valid greatest.some.0 greatest.some.1 in
    let all : (t : List Event) → Reads Dyck g t → depth t ≤ n = λ t (entry, exit, a, z, start, run). omega (arith, run_depth valid n greatest t run (stands_first start)) in
    record {
      all = all;
      some = (deepest.0, deepest.1, omega (arith, all deepest.0 deepest.1, excess deepest.0, deepest.2, greatest.some.2));
    }

pub no_greatest_depth : (g : Graph) → IsValid g → HasNoGreatest g → HasNoGreatestDepth g
no_greatest_depth g valid none n =
    let longer = none n in
    let word = chain_word valid longer.0 longer.1 in
    (word.0, word.1, omega (arith, excess word.0, word.2, longer.2))

-- the open sites of each word are a chain
pub open_sites : (g : Graph) → IsValid g → (entry exit a : ℕ) (z : List ℕ) (t : List Event) → HasFunction g g.start entry exit → DyckRun g entry [] t a z → IsChain g (reverse z)
open_sites g valid entry exit a z t start run = subst (IsChain g) (onto-none z) (open_chain (run_stands valid run (stands_first start)))
