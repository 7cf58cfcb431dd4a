-- The model that is the graph of shapes has the edges and the functions of the shapes.
use Rattle.std.proofs.Common.{◌≡◌, ℕ, ℤ, zero, suc, ◌+◌, ◌<◌, List, [], ◌∷◌, Option, Some, None, length, Contains, slice_get, sym, ap, ◌∙◌, subst, refl, arith}
use Rattle.std.specs.Ordering.{nat_cmp}
use Rattle.std.specs.declared.cmp.Ordering.TheVariants.{Equal}
use Rattle.c_meaning.specs.Shape.{Shape, Shapes}
use Rattle.c_meaning.specs.Walks.{Silent, System, Site}
use Rattle.flow_model.specs.declared.records.ModelFunction.{ModelFunction}
use Rattle.flow_model.specs.declared.records.SilentEdge.{SilentEdge}
use Rattle.flow_model.specs.declared.records.SysEdge.{SysEdge}
use Rattle.flow_model.specs.Call.{Call}
use Rattle.flow_model.specs.Graph.{Graph, HasSilent, HasSys, HasCall, HasFunction}
use Rattle.flow_model.specs.Order.{silent_order, sys_order, site_order}
use Rattle.flow_model.proofs.OrderLemmas.{numbers_tie, silent_edges_tie, sys_edges_tie}
use Rattle.c_meaning.specs.GraphLayout.{Edge, edge, width}
use Rattle.c_meaning.specs.Sorted.{sorted}
use Rattle.c_meaning.specs.GraphOf.{graph_of, silent_edges, sys_edges, calls, functions_from, edges_from}
use Rattle.c_meaning.specs.Premises.{AreClosed}
use Rattle.c_meaning.proofs.Edges.{source, goal}
use Rattle.c_meaning.proofs.SortedLemmas.{sorted_from, sorted_has}
use Rattle.c_meaning.proofs.Functions.{entry_at, one_call}
use Rattle.c_meaning.proofs.Members.{is_first, is_later}

pub silent_from : (es : List Edge) (a b : ℕ) → Contains (silent_edges es) (record { from = a; to = b }) → Contains es (edge a Silent b)
silent_from [] a b h = absurd (omega (arith, h.1))
silent_from (edge x Silent y ∷ es) a b (zero, lt, is) = (0, omega arith, ap (λ (e : SilentEdge). edge e.from Silent e.to) is)
silent_from (edge x Silent y ∷ es) a b (suc k, lt, is) = is_later (edge x Silent y) es (edge a Silent b) (silent_from es a b (k, omega arith, is))
silent_from (e ∷ es) a b h = is_later e es (edge a Silent b) (silent_from es a b h)

pub sys_from : (es : List Edge) (a n : ℕ) (q : List (Option ℤ)) (b : ℕ) → Contains (sys_edges es) (record { from = a; name = n; to = b; args = q }) → Contains es (edge a (System n q) b)
sys_from [] a n q b h = absurd (omega (arith, h.1))
sys_from (edge x (System m p) y ∷ es) a n q b (zero, lt, is) = (0, omega arith, ap (λ (e : SysEdge). edge e.from (System e.name e.args) e.to) is)
sys_from (edge x (System m p) y ∷ es) a n q b (suc k, lt, is) = is_later (edge x (System m p) y) es (edge a (System n q) b) (sys_from es a n q b (k, omega arith, is))
sys_from (e ∷ es) a n q b h = is_later e es (edge a (System n q) b) (sys_from es a n q b h)

-- the call edge at the site
abbrev call_at : (ℕ → List ℕ) → ℕ → ℕ → ℕ → Call
call_at candidates a s b = record { from = a; site = s; to = b; candidates = sorted nat_cmp (candidates s) }

pub record Called (candidates : ℕ → List ℕ) (es : List Edge) (c : Call) : Type 0 where
  pub has : Contains es (edge c.from (Site c.site) c.to)
  pub are : c.candidates ≡ sorted nat_cmp (candidates c.site)

later_call : (candidates : ℕ → List ℕ) (e : Edge) (es : List Edge) (c : Call) → Called candidates es c → Called candidates (e ∷ es) c
later_call candidates e es c h = record { has = is_later e es (edge c.from (Site c.site) c.to) (h.has); are = h.are }

pub call_from : (candidates : ℕ → List ℕ) (es : List Edge) (c : Call) → Contains (calls candidates es) c → Called candidates es c
call_from candidates [] c h = absurd (omega (arith, h.1))
call_from candidates (edge x (Site s) y ∷ es) c (zero, lt, is) = subst (λ c. Called candidates (edge x (Site s) y ∷ es) c) is (record { has = is_first (edge x (Site s) y) es; are = refl })
call_from candidates (edge x (Site s) y ∷ es) c (suc k, lt, is) = later_call candidates (edge x (Site s) y) es c (call_from candidates es c (k, omega arith, is))
call_from candidates (e ∷ es) c h = later_call candidates e es c (call_from candidates es c h)

-- what an edge puts in each of the lists
abbrev Puts : (ℕ → List ℕ) → List Edge → Edge → Type 0
Puts candidates es (edge a Silent b) = Contains (silent_edges es) (record { from = a; to = b })
Puts candidates es (edge a (System n q) b) = Contains (sys_edges es) (record { from = a; name = n; to = b; args = q })
Puts candidates es (edge a (Site s) b) = Contains (calls candidates es) (call_at candidates a s b)

put_first : (candidates : ℕ → List ℕ) (e : Edge) (es : List Edge) → Puts candidates (e ∷ es) e
put_first candidates (edge x Silent y) es = (0, omega arith, refl)
put_first candidates e es = (0, omega arith, refl)

put_later : (candidates : ℕ → List ℕ) (d : Edge) (es : List Edge) (e : Edge) → Puts candidates es e → Puts candidates (d ∷ es) e
put_later candidates (edge x Silent y) es (edge a Silent b) h = is_later (record { from = x; to = y }) (silent_edges es) (record { from = a; to = b }) h
put_later candidates (edge x (System m p) y) es (edge a (System n q) b) h = is_later (record { from = x; name = m; to = y; args = p }) (sys_edges es) (record { from = a; name = n; to = b; args = q }) h
put_later candidates (edge x (Site r) y) es (edge a (Site s) b) h = is_later (call_at candidates x r y) (calls candidates es) (call_at candidates a s b) h
put_later candidates d es e h = h

puts : (candidates : ℕ → List ℕ) (es : List Edge) (e : Edge) → Contains es e → Puts candidates es e
puts candidates [] e h = absurd (omega (arith, h.1))
puts candidates (d ∷ es) e (zero, lt, is) = subst (λ e. Puts candidates (d ∷ es) e) is (put_first candidates d es)
puts candidates (d ∷ es) e (suc k, lt, is) = put_later candidates d es e (puts candidates es e (k, omega arith, is))

-- the function f of those from the node n on
pub record Made (n : ℕ) (fs : List Shape) (made : List ModelFunction) (f : ℕ) : Type 0 where
  pub one : ModelFunction
  pub has : slice_get made f ≡ Some one
  pub begins : one.entry ≡ entry_at fs n f
  pub ends : one.exit ≡ entry_at fs n f + 1

pub made : (n : ℕ) (names : List (List ℕ)) (fs : List Shape) (f : ℕ) → length names ≡ length fs → f < length fs → Made n fs (functions_from n names fs) f
made n [] [] f e lt = absurd (omega (arith, lt))
made n (name ∷ names) (S ∷ fs) zero e lt = record { one = record { name = name; entry = n; exit = n + 1 }; has = refl; begins = refl; ends = refl }
made n (name ∷ names) (S ∷ fs) (suc f) e lt = let r = made (n + 2 + width S) names fs f (omega (arith, e)) (omega (arith, lt)) in record { one = r.one; has = r.has; begins = r.begins; ends = r.ends }
made n names fs f e lt = absurd (omega (arith, e))

pub record Known (n : ℕ) (fs : List Shape) (f entry exit : ℕ) : Type 0 where
  pub below : f < length fs
  pub begins : entry ≡ entry_at fs n f
  pub ends : exit ≡ entry_at fs n f + 1

abbrev KnownOf : ℕ → List Shape → ℕ → Option ModelFunction → Type 0
KnownOf n fs f None = ⊥
KnownOf n fs f (Some one) = Known n fs f one.entry one.exit

pub known : (n : ℕ) (names : List (List ℕ)) (fs : List Shape) (f : ℕ) (one : ModelFunction) → slice_get (functions_from n names fs) f ≡ Some one → Known n fs f one.entry one.exit
known n (name ∷ names) (S ∷ fs) zero one h = subst (λ o. KnownOf n (S ∷ fs) 0 o) h (record { below = omega arith; begins = refl; ends = refl })
known n (name ∷ names) (S ∷ fs) (suc f) one h = let r = known (n + 2 + width S) names fs f one h in record { below = let k = r.below in omega (arith, k); begins = r.begins; ends = r.ends }
known n names fs f one h = absurd (cc)

module _ (names : List (List ℕ)) (env : Shapes) (closed : AreClosed env) (many : length names ≡ length env.functions) where
  abbrev es : List Edge
  es = edges_from 0 env.functions

  abbrev M : Graph
  M = graph_of names env

  pub silent_edge : (a b : ℕ) → HasSilent M a b → Contains es (edge a Silent b)
  silent_edge a b h = silent_from es a b (sorted_from silent_order (silent_edges es) (record { from = a; to = b }) h)

  pub has_silent : (a b : ℕ) → Contains es (edge a Silent b) → HasSilent M a b
  has_silent a b h = sorted_has silent_order (silent_edges es) (λ x y i j e. (silent_edges_tie x y).0 e) (record { from = a; to = b }) (puts env.candidates es (edge a Silent b) h)

  pub sys_edge : (a n : ℕ) (q : List (Option ℤ)) (b : ℕ) → HasSys M a n q b → Contains es (edge a (System n q) b)
  sys_edge a n q b h = sys_from es a n q b (sorted_from sys_order (sys_edges es) (record { from = a; name = n; to = b; args = q }) h)

  pub has_sys : (a n : ℕ) (q : List (Option ℤ)) (b : ℕ) → Contains es (edge a (System n q) b) → HasSys M a n q b
  has_sys a n q b h = sorted_has sys_order (sys_edges es) (λ x y i j e. (sys_edges_tie x y).0 e) (record { from = a; name = n; to = b; args = q }) (puts env.candidates es (edge a (System n q) b) h)

  pub record CallEdge (a s b f : ℕ) : Type 0 where
    pub has : Contains es (edge a (Site s) b)
    pub among : Contains (env.candidates s) f

  pub call_edge : (a s b f : ℕ) → HasCall M a s b f → CallEdge a s b f
  call_edge a s b f h =
      let r = call_from env.candidates es (h.call) (sorted_from site_order (calls env.candidates es) (h.call) (h.has)) in
      record {
        has = subst (λ x. Contains es (edge x (Site s) b)) (h.from) (subst (λ x. Contains es (edge (h.call).from (Site x) b)) (h.site) (subst (λ x. Contains es (edge (h.call).from (Site (h.call).site) x)) (h.to) (r.has)));
        among = sorted_from nat_cmp (env.candidates s) f (subst (λ x. Contains (sorted nat_cmp (env.candidates x)) f) (h.site) (subst (λ x. Contains x f) (r.are) (h.candidate)));
      }

  same_call : (x y : Call) → Contains (calls env.candidates es) x → Contains (calls env.candidates es) y → site_order x y ≡ Equal → x ≡ y
  same_call x y h k e =
      let site : x.site ≡ y.site = (numbers_tie (x.site) (y.site)).0 e in
      let r = call_from env.candidates es x h in
      let s = call_from env.candidates es y k in
      let edges : edge (x.from) (Site (x.site)) (x.to) ≡ edge (y.from) (Site (x.site)) (y.to) = one_call env closed (x.site) (x.from) (x.to) (y.from) (y.to) (r.has) (subst (λ z. Contains es (edge (y.from) (Site z) (y.to))) (sym site) (s.has)) in
      let from : x.from ≡ y.from = ap source edges in
      let to : x.to ≡ y.to = ap goal edges in
      let candidates : x.candidates ≡ y.candidates = r.are ∙ (ap (λ z. sorted nat_cmp (env.candidates z)) site ∙ sym (s.are)) in
      λ i. record { from = from i; site = site i; to = to i; candidates = candidates i }

  pub has_call : (a s b f : ℕ) → Contains es (edge a (Site s) b) → Contains (env.candidates s) f → HasCall M a s b f
  has_call a s b f h k = record {
    call = call_at env.candidates a s b;
    has = sorted_has site_order (calls env.candidates es) same_call (call_at env.candidates a s b) (puts env.candidates es (edge a (Site s) b) h);
    from = refl;
    site = refl;
    to = refl;
    candidate = sorted_has nat_cmp (env.candidates s) (λ x y i j e. (numbers_tie x y).0 e) f k;
  }

  pub has_function : (f : ℕ) → f < length env.functions → HasFunction M f (entry_at env.functions 0 f) (entry_at env.functions 0 f + 1)
  has_function f lt = let r = made 0 names env.functions f many lt in record { one = r.one; has = r.has; begins = r.begins; ends = r.ends }

  pub function : (f entry exit : ℕ) → HasFunction M f entry exit → Known 0 env.functions f entry exit
  function f entry exit h = let r = known 0 names env.functions f (h.one) (h.has) in record { below = r.below; begins = sym (h.begins) ∙ r.begins; ends = sym (h.ends) ∙ r.ends }
