-- What is called at a site, and the table of marked sites.
use Rattle.std.proofs.Common.{◌≡◌, inl, inr, ℕ, zero, suc, ◌+◌, ◌-◌, ◌<◌, ◌≤◌, ◌^◌, Bool, true, false, nat_lt, List, [], ◌∷◌, ◌++◌, length, drop, get_or, Option, None, Some, Box, Vec, Global, refl, sym, ap, ◌∙◌, arith, drop-cons}
use Rattle.std.specs.Prelude.{◌&&◌, slice_index_or, if◌then◌else◌}
use Rattle.std.proofs.lemmas.Bool.{ltb-true}
use Rattle.c_tree.specs.declared.tree.CType.{CType as TypeTree}
use Rattle.c_tree.specs.declared.tree.CType.TheVariants.{Function}
use Rattle.c_tree.specs.Tree.{CType, CTypes, Program}
use Rattle.c_tree.specs.Functions.{defined, value_type}
use Rattle.c_tree.specs.Program.{IsProgram}
use Rattle.c_tree.specs.View.{ctype_of, types_of}
use Rattle.c_tree.proofs.Rows.{function_is}
use Rattle.c_meaning.specs.Mentions.{Callee, Direct, Through, mentions_of_program}
use Rattle.c_meaning.specs.CallGraph.{callee_at, is_marked, marked_where}
use Rattle.null_calls_laws.specs.MarkedCalls as term
use Rattle.null_calls_laws.specs.MarkedCalls.{called_as, called_by_type, marked_of, sites_of}
use Rattle.flow_graph.proofs.SitesLemmas.{no_site}
use Rattle.flow_graph.specs.declared.mention.Mention.{Mention}
use Rattle.flow_graph.specs.declared.mention.Mention.TheVariants as m
use Rattle.flow_graph.specs.Saying.{mention_of, said}
use Rattle.null_calls_temporaries.specs.declared.callees.Designator.{Designator}
use Rattle.null_calls_temporaries.specs.declared.marked_sites.MarkedSites.{MarkedSites}
use Rattle.null_calls_temporaries.specs.declared.table.Called.{Called}
use Rattle.null_calls_temporaries.specs.Callees.{callee_where, callee_after, IsDefinedWhere}
use Rattle.null_calls_temporaries.specs.Sited.{called_of, called_where, sited}
use Rattle.flow_graph.proofs.BelowOrAt.{below_or_at}

-- ## What is called at a site

callee_more : (s : ℕ) (x : Mention) (xs : List Mention) → callee_after s (mention_of x) (callee_at s (said xs)) ≡ callee_at s (said (x ∷ xs))
callee_more s (m.Named f) xs = refl
callee_more s (m.Direct r f) xs = refl
callee_more s (m.Through r t) xs = refl

one_earlier : (ms : List Mention) (i : ℕ) (x : Mention) → i < length ms → x ≡ get_or ms (length ms - 1 - i) x → drop (length ms - (i + 1)) ms ≡ x ∷ drop (length ms - i) ms
one_earlier ms i x lt is =
    let k = length ms - (i + 1) in
    let at : get_or ms (length ms - 1 - i) x ≡ get_or ms k x = ap (λ n. get_or ms n x) (omega (arith, lt)) in
    let next : suc k ≡ length ms - i = omega (arith, lt) in
    drop-cons ms k x (omega (arith, lt)) ∙ (ap (λ y. y ∷ drop (suc k) ms) (sym (is ∙ at)) ∙ ap (λ n. x ∷ drop n ms) next)

pub callees_more : (s : ℕ) (ms : List Mention) (i : ℕ) (x : Mention) (old new : Option Callee) → i < length ms → x ≡ get_or ms (length ms - 1 - i) x → old ≡ callee_at s (said (drop (length ms - i) ms))
    → new ≡ callee_after s (mention_of x) old → new ≡ callee_at s (said (drop (length ms - (i + 1)) ms))
callees_more s ms i x old new lt is before step =
    step ∙ (ap (callee_after s (mention_of x)) before ∙ (callee_more s x (drop (length ms - i) ms) ∙ ap (λ xs. callee_at s (said xs)) (sym (one_earlier ms i x lt is))))

all_dropped : {A : Type 0} (xs : List A) (n : ℕ) → n ≡ length xs → drop n xs ≡ []
all_dropped [] zero e = refl
all_dropped [] (suc n) e = refl
all_dropped (x ∷ xs) zero e = absurd (omega (arith, e))
all_dropped (x ∷ xs) (suc n) e = all_dropped xs n (omega (arith, e))

pub callees_none : (s : ℕ) (ms : List Mention) (x : Option Designator) → x ≡ None → callee_where x ≡ callee_at s (said (drop (length ms - 0) ms))
callees_none s ms x none = ap callee_where none ∙ sym (ap (λ xs. callee_at s (said xs)) (all_dropped ms (length ms - 0) (omega arith)))

pub callees_all : (s : ℕ) (ms : List Mention) (i : ℕ) (x : Option Callee) → length ms ≤ i → x ≡ callee_at s (said (drop (length ms - i) ms)) → x ≡ callee_at s (said ms)
callees_all s ms i x over is = let none : length ms - i ≡ 0 = omega (arith, over) in is ∙ ap (λ n. callee_at s (said (drop n ms))) none

-- ## Marked calls

unmarked : (p : Program) (o : Option Callee) → marked_where p o ≡ false → marked_of p o ≡ None
unmarked p None h = refl
unmarked p (Some callee) h = ap (λ b. if b then term.called_of p callee else None) h

pub unmarked_site : (p : Program) (s : ℕ) (b : Bool) → b ≡ marked_where p (callee_at s (mentions_of_program p)) → b ≡ false → None ≡ sites_of p s
unmarked_site p s b e h = sym (unmarked p (callee_at s (mentions_of_program p)) (sym e ∙ h))

pub marked_site : (p : Program) (s : ℕ) (b : Bool) (callee : Callee) (o : Option term.Called) → b ≡ marked_where p (callee_at s (mentions_of_program p)) → b ≡ true → Some callee ≡ callee_at s (mentions_of_program p)
    → o ≡ term.called_of p callee → o ≡ sites_of p s
marked_site p s b callee o e h is called =
    let marks : is_marked p callee ≡ true = ap (marked_where p) is ∙ (sym e ∙ h) in
    called ∙ (ap (λ t. if t then term.called_of p callee else None) (sym marks) ∙ ap (marked_of p) is)

pub none_site : (p : Program) (s : ℕ) → None ≡ callee_at s (mentions_of_program p) → None ≡ sites_of p s
none_site p s is = ap (marked_of p) is

-- a marked direct call is one of a defined function
below_of : (a b : Bool) → (a && b) ≡ true → a ≡ true
below_of true b h = refl
below_of false b h = h

less_of : (m n : ℕ) → nat_lt m n ≡ true → m < n
less_of m n h = ltb-true m n h

pub direct_below : (p : Program) (s f : ℕ) (b : Bool) → b ≡ marked_where p (callee_at s (mentions_of_program p)) → b ≡ true → Some (Direct f) ≡ callee_at s (mentions_of_program p) → f < defined p
direct_below p s f b e h is = less_of f (defined p) (below_of (nat_lt f (defined p)) _ (ap (marked_where p) is ∙ (sym e ∙ h)))

pub defined_where : (p : Program) (s : ℕ) (b : Bool) (callee : Callee) → b ≡ marked_where p (callee_at s (mentions_of_program p)) → b ≡ true → Some callee ≡ callee_at s (mentions_of_program p) → IsDefinedWhere p callee
defined_where p s b (Direct f) e h is = direct_below p s f b e h is
defined_where p s b (Through t) e h is = tt

pub called_by : (p : Program) (f : ℕ) (t : CType) → value_type p f ≡ Some t → called_as None t ≡ term.called_of p (Direct f)
called_by p f t is = ap (called_by_type None) (sym is)

-- ## The table

before_end : {X : Type 0} (xs : List (Option X)) (b : Option X) (k : ℕ) → k < length xs → slice_index_or (xs ++ b ∷ []) k None ≡ slice_index_or xs k None
before_end [] b k lt = absurd (omega (arith, lt))
before_end (x ∷ xs) b zero lt = refl
before_end (x ∷ xs) b (suc k) lt = before_end xs b k (omega (arith, lt))

at_end : {X : Type 0} (xs : List (Option X)) (b : Option X) (k : ℕ) → k ≡ length xs → slice_index_or (xs ++ b ∷ []) k None ≡ b
at_end [] b zero e = refl
at_end [] b (suc k) e = absurd (omega (arith, e))
at_end (x ∷ xs) b zero e = absurd (omega (arith, e))
at_end (x ∷ xs) b (suc k) e = at_end xs b k (omega (arith, e))

past_end : {X : Type 0} (xs : List (Option X)) (s : ℕ) → length xs ≤ s → slice_index_or xs s None ≡ None
past_end [] zero le = refl
past_end [] (suc s) le = refl
past_end (x ∷ xs) zero le = absurd (omega (arith, le))
past_end (x ∷ xs) (suc s) le = past_end xs s (omega (arith, le))

longer : {X : Type 0} (xs : List X) (x : X) → length (xs ++ x ∷ []) ≡ length xs + 1
longer [] x = refl
longer (y ∷ xs) x = let k = longer xs x in omega (arith, k)

-- the sites below n have their calls
pub record AreSited (sites : term.Sites) (n : ℕ) (calls : List (Option Called)) : Type 0 where
  pub many : length calls ≡ n
  pub are : (s : ℕ) → s < n → called_where (slice_index_or calls s None) ≡ sites s

pub site_more : (sites : term.Sites) (n : ℕ) (old new : List (Option Called)) (x : Option Called) → AreSited sites n old → new ≡ old ++ x ∷ [] → called_where x ≡ sites n → AreSited sites (n + 1) new
site_more sites n old new x before is right = record {
  many = let e : length new ≡ length (old ++ x ∷ []) = ap length is in let l = longer old x in omega (arith, e, l, before.many);
  are = λ s lt. ap (λ xs. called_where (slice_index_or xs s None)) is
      ∙ (elim (below_or_at s n) as (λ _. called_where (slice_index_or (old ++ x ∷ []) s None) ≡ sites s) [
        | inl below ↦ ap called_where (before_end old x s (omega (arith, below, before.many))) ∙ before.are s below
        | inr over ↦ (let at : s ≡ n = omega (arith, over, lt) in ap called_where (at_end old x s (omega (arith, at, before.many))) ∙ right ∙ ap sites (sym at))
      ]);
}

-- all sites have their calls
pub all_sited : (p : Program) (n : ℕ) → IsProgram p n → (i : ℕ) (calls : List (Option Called)) → n ≤ i → i ≤ n → AreSited (sites_of p) i calls → (s : ℕ) → called_where (slice_index_or calls s None) ≡ sites_of p s
all_sited p n h i calls over within are s = elim (below_or_at s i) as (λ _. called_where (slice_index_or calls s None) ≡ sites_of p s) [
  | inl lt ↦ are.are s lt
  | inr le ↦ ap called_where (past_end calls s (omega (arith, le, are.many))) ∙ sym (ap (marked_of p) (no_site s n p h (omega (arith, le, over))))
]

-- a call that the table has, and one that it hasn't
pub call_there : (table : MarkedSites) (s n : ℕ) (called : Called) → s ≡ n → Some (called_of called) ≡ sited table s → (s ≡ n) × (sited table n ≡ Some (called_of called))
call_there table s n called same is = (same, sym (is ∙ ap (sited table) same))

pub no_call_there : (table : MarkedSites) (s n : ℕ) → s ≡ n → None ≡ sited table s → sited table n ≡ None
no_call_there table s n same is = sym (is ∙ ap (sited table) same)

pub past_table : (table : MarkedSites) (n : ℕ) → 2 ^ 32 ≤ n → sited table n ≡ None
past_table table n le = let few = table.few in ap called_where (past_end table.calls.items n (omega (arith, le, few)))

-- ## Types of functions

pub called_function : (o : Option CType) (t : TypeTree) (r : Box TypeTree Global) (v : Vec TypeTree Global) (a : CType) (bs : CTypes) → t ≡ Function r v → a ≡ ctype_of r.value → bs ≡ types_of v.items
    → Some (record { pointer_type = o; returns = a; parameters = bs }) ≡ called_as o (ctype_of t)
called_function o t r v a bs is p q = (λ i. Some (record { pointer_type = o; returns = p i; parameters = q i })) ∙ sym (ap (called_as o) (ap ctype_of is ∙ function_is r v))
