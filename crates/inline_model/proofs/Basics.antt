-- What a valid model's functions, nodes and sites keep.
use Rattle.std.proofs.Common.{◌≡◌, ℕ, ℤ, Option, ◌+◌, ◌<◌, ◌≤◌, inl, inr, List, length, get_or, Some, Contains, refl, sym, ◌∙◌, ap, subst, arith}
use Rattle.std.specs.Prelude.{AllPairs, All, slice_get, unwrap_or, option_map}
use Rattle.std.specs.declared.cmp.Ordering.TheVariants.{Less}
use Rattle.std.specs.Ordering.{nat_cmp}
use Rattle.std.proofs.lemmas.Bool.{cases_lt, cases_eq}
use Rattle.std.proofs.lemmas.List.{get_or_default}
use Rattle.std.proofs.lemmas.List.Elements.{All-contains}
use Rattle.std.proofs.lemmas.Option.{slice_get_within, get_or_from_slice_get, slice_get-get_or, slice_get_past, slice_get_cases}
use Rattle.flow_model.specs.declared.records.ModelFunction.{ModelFunction}
use Rattle.flow_model.specs.Call.{Call}
use Rattle.flow_model.specs.Graph.{Graph, HasSilent, HasSys, HasCall, HasFunction, Owns, HaveOneOwner, end_of}
use Rattle.flow_model.specs.Order.{site_order, StrictlyRise}
use Rattle.flow_model.specs.Rules.{IsValid, HasRightEntries}
use Rattle.flow_model.proofs.OrderLemmas.{lt_from_less}
use Rattle.inline_model.specs.Within.{Within}
use Rattle.inline_model.specs.Within.Within.{begins, silent, sys, passes}
use Rattle.inline_model.specs.Copies.{entry_of}

-- of two places in a list whose sites rise, the earlier has the lesser site
site_rises : (calls : List Call) → StrictlyRise site_order calls → (i j : ℕ) (c d : Call) → i < j → j < length calls → get_or calls i c ≡ c → get_or calls j d ≡ d → c.site < d.site
site_rises calls rise i j c d lt within at_c at_d =
    let less : nat_cmp (get_or calls i c).site (get_or calls j c).site ≡ Less = rise i j c lt within in
    let later : get_or calls j c ≡ d = get_or_default calls j c d within ∙ at_d in
    let before : (get_or calls i c).site < (get_or calls j c).site = lt_from_less (get_or calls i c).site (get_or calls j c).site less in
    omega (arith, before, ap (λ (e : Call). e.site) at_c, ap (λ (e : Call). e.site) later)

-- a site belongs to one call edge
pub same_call : (calls : List Call) → StrictlyRise site_order calls → (c d : Call) → Contains calls c → Contains calls d → c.site ≡ d.site → c ≡ d
same_call calls rise c d (i, i_lt, at_c) (j, j_lt, at_d) same = elim (cases_lt i j) [
  | inl lt ↦ absurd (let less = site_rises calls rise i j c d lt j_lt at_c at_d in omega (arith, less))
  | inr ge ↦ elim (cases_eq i j) [
    | inl e ↦ sym at_c ∙ ap (λ k. get_or calls k c) e ∙ get_or_default calls j c d j_lt ∙ at_d
    | inr ne ↦ absurd (let lt : j < i = omega (arith, ne) in let less = site_rises calls rise j i d c lt i_lt at_d at_c in omega (arith, less))
  ]
]

-- two call edges with one site are one, so the other's candidates are candidates of the first
pub at_one_site : {g : Graph} → IsValid g → {a b s f c d h : ℕ} → HasCall g a s b f → HasCall g c s d h → HasCall g a s b h
at_one_site {g} valid one two =
    let same : one.call ≡ two.call = same_call g.calls valid.order.calls one.call two.call one.has two.has (one.site ∙ sym two.site) in
    record { call = one.call; has = one.has; from = one.from; site = one.site; to = one.to; candidate = subst (λ (x : Call). Contains x.candidates _) (sym same) two.candidate }

pub same_from : {g : Graph} → IsValid g → {a b s f c d h : ℕ} → HasCall g a s b f → HasCall g c s d h → a ≡ c
same_from {g} valid one two =
    let same : one.call ≡ two.call = same_call g.calls valid.order.calls one.call two.call one.has two.has (one.site ∙ sym two.site) in
    sym one.from ∙ ap (λ (x : Call). x.from) same ∙ two.from

pub same_to : {g : Graph} → IsValid g → {a b s f c d h : ℕ} → HasCall g a s b f → HasCall g c s d h → b ≡ d
same_to {g} valid one two =
    let same : one.call ≡ two.call = same_call g.calls valid.order.calls one.call two.call one.has two.has (one.site ∙ sym two.site) in
    sym one.to ∙ ap (λ (x : Call). x.to) same ∙ two.to

-- a later function begins past the nodes of an earlier one
ends_before : (functions : List ModelFunction) (nodes f h : ℕ) (one : ModelFunction) → AllPairs (λ (d e : ModelFunction). d.entry < e.entry) functions → f < h → slice_get functions h ≡ Some one → end_of functions nodes f ≤ one.entry
ends_before functions nodes f h one rise lt has =
    let within : h < length functions = slice_get_within functions h one has in
    let here : get_or functions h one ≡ one = get_or_from_slice_get functions h one one has in
    let next : f + 1 < length functions = omega arith in
    let ends : end_of functions nodes f ≡ (get_or functions (f + 1) one).entry = ap (λ o. unwrap_or (option_map (λ (x : ModelFunction). x.entry) o) nodes) (slice_get-get_or functions (f + 1) one next) in
    elim (cases_eq (f + 1) h) [
      | inl e ↦ omega (arith, ends, ap (λ k. (get_or functions k one).entry) e, ap (λ (x : ModelFunction). x.entry) here)
      | inr ne ↦ let more : f + 1 < h = omega (arith, ne) in
          let less = rise (f + 1) h one more within in
          omega (arith, ends, less, ap (λ (x : ModelFunction). x.entry) here)
    ]

-- a node has one owner
pub one_owner : (functions : List ModelFunction) (nodes f h a : ℕ) → HasRightEntries functions nodes → Owns functions nodes f a → Owns functions nodes h a → f ≡ h
one_owner functions nodes f h a right one two = elim (cases_lt f h) [
  | inl lt ↦ absurd (omega (arith, ends_before functions nodes f h two.one right.rise lt two.has, one.to, two.from))
  | inr ge ↦ elim (cases_eq f h) [
    | inl e ↦ e
    | inr ne ↦ absurd (let lt : h < f = omega (arith, ne) in omega (arith, ends_before functions nodes h f one.one right.rise lt one.has, two.to, one.from))
  ]
]

last_ends : (functions : List ModelFunction) (nodes i : ℕ) → length functions ≤ i → unwrap_or (option_map (λ (x : ModelFunction). x.entry) (slice_get functions i)) nodes ≡ nodes
last_ends functions nodes i last = ap (λ o. unwrap_or (option_map (λ (x : ModelFunction). x.entry) o) nodes) (slice_get_past functions i last)

-- a function's entry is before its end
pub owns_entry : (functions : List ModelFunction) (nodes f : ℕ) (one : ModelFunction) → HasRightEntries functions nodes → slice_get functions f ≡ Some one → Owns functions nodes f one.entry
owns_entry functions nodes f one right has =
    let within : f < length functions = slice_get_within functions f one has in
    let here : get_or functions f one ≡ one = get_or_from_slice_get functions f one one has in
    elim (cases_lt (f + 1) (length functions)) [
      | inl more ↦
          let ends : end_of functions nodes f ≡ (get_or functions (f + 1) one).entry = ap (λ o. unwrap_or (option_map (λ (x : ModelFunction). x.entry) o) nodes) (slice_get-get_or functions (f + 1) one more) in
          let lt : f < f + 1 = omega arith in
          let less = right.rise f (f + 1) one lt more in
          record { one = one; has = has; from = omega arith; to = omega (arith, ends, less, ap (λ (x : ModelFunction). x.entry) here) }
      | inr last ↦
          let ends : end_of functions nodes f ≡ nodes = last_ends functions nodes (f + 1) last in
          let below : (get_or functions f one).entry < nodes = right.below f one within in
          record { one = one; has = has; from = omega arith; to = omega (arith, ends, below, ap (λ (x : ModelFunction). x.entry) here) }
    ]

pub entry_is : (functions : List ModelFunction) (f : ℕ) (one : ModelFunction) → slice_get functions f ≡ Some one → entry_of functions f ≡ one.entry
entry_is functions f one has = ap (λ o. unwrap_or (option_map (λ (x : ModelFunction). x.entry) o) 0) has

-- a function has one entry and one exit
pub same_function : {g : Graph} {f entry exit other end : ℕ} → HasFunction g f entry exit → HasFunction g f other end → (entry ≡ other) × (exit ≡ end)
same_function one two =
    let same : Some one.one ≡ Some two.one = sym one.has ∙ two.has in
    let function : one.one ≡ two.one = cc in
    (sym one.begins ∙ ap (λ (f : ModelFunction). f.entry) function ∙ two.begins, sym one.ends ∙ ap (λ (f : ModelFunction). f.exit) function ∙ two.ends)

pub function_owns_entry : {g : Graph} → IsValid g → {f entry exit : ℕ} → HasFunction g f entry exit → Owns g.functions g.nodes f entry
function_owns_entry {g} valid {f} function = subst (Owns g.functions g.nodes f) function.begins (owns_entry g.functions g.nodes f function.one valid.entries function.has)

pub function_owns_exit : {g : Graph} → IsValid g → {f entry exit : ℕ} → HasFunction g f entry exit → Owns g.functions g.nodes f exit
function_owns_exit {g} valid {f} function = subst (Owns g.functions g.nodes f) function.ends (valid.exits f function.one function.has)

moved : {g : Graph} → IsValid g → {f a b : ℕ} → HaveOneOwner g.functions g.nodes a b → Owns g.functions g.nodes f a → Owns g.functions g.nodes f b
moved {g} valid {f} {a} {b} both owns = subst (λ h. Owns g.functions g.nodes h b) (one_owner g.functions g.nodes both.owner f a valid.entries both.first owns) both.second

moved_back : {g : Graph} → IsValid g → {f a b : ℕ} → HaveOneOwner g.functions g.nodes a b → Owns g.functions g.nodes f b → Owns g.functions g.nodes f a
moved_back {g} valid {f} {a} {b} both owns = subst (λ h. Owns g.functions g.nodes h a) (one_owner g.functions g.nodes both.owner f b valid.entries both.second owns) both.first

-- edges stay in their function
pub silent_stays : {g : Graph} → IsValid g → {f a b : ℕ} → HasSilent g a b → Owns g.functions g.nodes f a → Owns g.functions g.nodes f b
silent_stays {g} valid {a = a} {b = b} has = moved valid (All-contains (λ e. HaveOneOwner g.functions g.nodes e.from e.to) g.silent (record { from = a; to = b }) valid.edges.silent has)

pub sys_stays : {g : Graph} → IsValid g → {f a x b : ℕ} {p : List (Option ℤ)} → HasSys g a x p b → Owns g.functions g.nodes f a → Owns g.functions g.nodes f b
sys_stays {g} valid {a = a} {x = x} {b = b} {p = p} has = moved valid (All-contains (λ e. HaveOneOwner g.functions g.nodes e.from e.to) g.sys (record { from = a; name = x; to = b; args = p }) valid.edges.sys has)

call_inside : {g : Graph} → IsValid g → {a s b h : ℕ} → HasCall g a s b h → HaveOneOwner g.functions g.nodes a b
call_inside {g} valid {b = b} call =
    let inner = All-contains (λ (c : Call). HaveOneOwner g.functions g.nodes c.from c.to) g.calls call.call valid.edges.calls call.has in
    subst (λ n. HaveOneOwner g.functions g.nodes n b) call.from (subst (λ n. HaveOneOwner g.functions g.nodes call.call.from n) call.to inner)

pub call_stays : {g : Graph} → IsValid g → {f a s b h : ℕ} → HasCall g a s b h → Owns g.functions g.nodes f a → Owns g.functions g.nodes f b
call_stays valid call = moved valid (call_inside valid call)

-- what is within a function is owned by it
pub within_owns : {g : Graph} → IsValid g → {f a : ℕ} → Within g f a → Owns g.functions g.nodes f a
within_owns valid (begins function) = function_owns_entry valid function
within_owns valid (silent before has) = silent_stays valid has (within_owns valid before)
within_owns valid (sys before has) = sys_stays valid has (within_owns valid before)
within_owns valid (passes before call function inner) = call_stays valid call (within_owns valid before)

-- the start, and each candidate, is a function
pub has_function : {g : Graph} (f : ℕ) → f < length g.functions → (one : ModelFunction) × (slice_get g.functions f ≡ Some one) × HasFunction g f one.entry one.exit
has_function {g} f lt = elim (slice_get_cases g.functions f).1 [
  | inl there ↦ (there.0, there.2, record { one = there.0; has = there.2; begins = refl; ends = refl })
  | inr past ↦ absurd (omega (arith, past.0))
]

pub candidate_below : {g : Graph} → IsValid g → {a s b f : ℕ} → HasCall g a s b f → f < length g.functions
candidate_below {g} valid {f = f} call =
    All-contains (λ h. h < length g.functions) call.call.candidates f
    (All-contains (λ (c : Call). All (λ h. h < length g.functions) c.candidates) g.calls call.call valid.functions.candidates call.has) call.candidate

pub candidate_function : {g : Graph} → IsValid g → {a s b f : ℕ} → HasCall g a s b f → (one : ModelFunction) × (slice_get g.functions f ≡ Some one) × HasFunction g f one.entry one.exit
candidate_function valid {f = f} call = has_function f (candidate_below valid call)
