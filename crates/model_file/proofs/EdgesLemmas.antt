-- The lines of edges: what may follow each.
use Rattle.std.proofs.Common.{◌≡◌, ℕ, List, [], ◌∷◌, ◌++◌, length, Option, None, refl, sym, ◌∙◌, ap, subst, append_assoc, arith}
use Rattle.std.specs.Prelude.{All, flat_map, codes}
use Rattle.std.proofs.lemmas.List.{append-nil}
use Rattle.std.proofs.lemmas.List.Elements.{All-push}
use Rattle.line_text.proofs.FilesLemmas.{GoesOn}
use Rattle.flow_model.specs.declared.records.ModelFunction.{ModelFunction}
use Rattle.flow_model.specs.declared.records.SilentEdge.{SilentEdge}
use Rattle.flow_model.specs.declared.records.SysEdge.{SysEdge}
use Rattle.flow_model.specs.Built.{Records, graph_of_records}
use Rattle.flow_model.specs.Call.{Call}
use Rattle.flow_model.specs.Graph.{Graph}
use Rattle.flow_model.specs.Order.{StrictlyRise, silent_order, sys_order, site_order}
use Rattle.flow_model.proofs.OrderLemmas.{silent_order_total, sys_order_total}
use Rattle.model_file.specs.declared.lines.ModelLine.{ModelLine}
use Rattle.model_file.specs.declared.lines.ModelLine.TheVariants as lines
use Rattle.model_file.specs.declared.lines.Section.{Section}
use Rattle.model_file.specs.declared.lines.Section.TheVariants as sections
use Rattle.model_file.specs.declared.version.ModelVersion.{ModelVersion}
use Rattle.model_file.specs.Lines.{model_line, MayFollow, IsAfterSilent, IsAfterSys, IsAfterSite}
use Rattle.model_file.specs.ModelText.{silent_line, sys_line, call_line, start_line, ending, IsSmall, IsSpelledFunction, IsSpelledSilent, IsSpelledSys, IsSpelledCall, IsSpelled}
use Rattle.model_file.specs.States.{calls_text, sys_text, MoreSilent, MoreSys, MoreCalls, More, AtEdges, AtEnd, AtLast, IsLastOf, IsLastSite, IsLast, with_silent, with_sys, with_call, AfterLine}
use Rattle.model_file.proofs.FrameLemmas.{Step}
use Rattle.model_file.proofs.KindLemmas.{ends_in_feed}
use Rattle.model_file.proofs.OrderLemmas.{all_at, rise_push, after_last, calls_push, call_after_last, listed_front, spell}

-- what was read has a text of its own

-- of lists that have a text, the first parts have one, with any small numbers of nodes and start
spelled_front : (v : ModelVersion) (g : Graph) (given : Records) (n start : ℕ) (es : List SilentEdge) (ss : List SysEdge) (cs : List Call) → IsSpelled v g → IsSmall n → IsSmall start → g.functions ≡ given.functions → g.silent ≡ given.silent ++ es → g.sys ≡ given.sys ++ ss → g.calls ≡ given.calls ++ cs → IsSpelled v (graph_of_records given n start)
spelled_front v g given n start es ss cs spelled small small_start functions silent sys calls =
    spell v (graph_of_records given n start) small small_start (subst (λ (fs : List ModelFunction). IsSmall (length fs)) functions spelled.count)
    (subst (All IsSpelledFunction) functions spelled.functions)
    (listed_front IsSpelledSilent silent_order given.silent es g.silent silent (spelled.silent, spelled.order.silent))
    (listed_front (IsSpelledSys v) sys_order given.sys ss g.sys sys (spelled.sys, spelled.order.sys))
    (listed_front IsSpelledCall site_order given.calls cs g.calls calls (spelled.calls, spelled.order.calls))

spelled_silent : (v : ModelVersion) (given : Records) (n start : ℕ) (last : Option SilentEdge) (e : SilentEdge) → IsSpelled v (graph_of_records given n start) → IsLastOf last given.silent → IsSpelledSilent e → IsAfterSilent last e → IsSpelled v (graph_of_records (with_silent e given) n start)
spelled_silent v given n start last e spelled is fits after =
    spell v (graph_of_records (with_silent e given) n start) spelled.nodes spelled.start spelled.count spelled.functions
    (All-push IsSpelledSilent given.silent e spelled.silent fits, rise_push silent_order_total given.silent last e spelled.order.silent is after)
    (spelled.sys, spelled.order.sys) (spelled.calls, spelled.order.calls)

spelled_sys : (v : ModelVersion) (given : Records) (n start : ℕ) (last : Option SysEdge) (e : SysEdge) → IsSpelled v (graph_of_records given n start) → IsLastOf last given.sys → IsSpelledSys v e → IsAfterSys last e → IsSpelled v (graph_of_records (with_sys e given) n start)
spelled_sys v given n start last e spelled is fits after =
    spell v (graph_of_records (with_sys e given) n start) spelled.nodes spelled.start spelled.count spelled.functions (spelled.silent, spelled.order.silent)
    (All-push (IsSpelledSys v) given.sys e spelled.sys fits, rise_push sys_order_total given.sys last e spelled.order.sys is after)
    (spelled.calls, spelled.order.calls)

spelled_call : (v : ModelVersion) (given : Records) (n start : ℕ) (last : Option ℕ) (c : Call) → IsSpelled v (graph_of_records given n start) → IsLastSite last given.calls → IsSpelledCall c → IsAfterSite last c.site → IsSpelled v (graph_of_records (with_call c given) n start)
spelled_call v given n start last c spelled is fits after =
    spell v (graph_of_records (with_call c given) n start) spelled.nodes spelled.start spelled.count spelled.functions (spelled.silent, spelled.order.silent)
    (spelled.sys, spelled.order.sys) (All-push IsSpelledCall given.calls c spelled.calls fits, calls_push given.calls last c spelled.order.calls is after)

no_more : {X : Type 0} (xs : List X) (ys : List X) → xs ≡ ys → xs ≡ ys ++ []
no_more xs ys is = is ∙ sym (append-nil ys)

all_more : {X : Type 0} (xs ys : List X) → ys ≡ [] → xs ≡ ys ++ xs
all_more xs ys none = ap (λ (zs : List _). zs ++ xs) (sym none)

-- the lists that were read have a text, whatever is the start
pub spelled_read : (v : ModelVersion) (given : Records) (n start : ℕ) (section : Section) (g : Graph) (w : List ℕ) → IsLast section given → AtEdges v given n section g w → IsSmall start → IsSpelled v (graph_of_records given n start)
spelled_read v given n start (sections.Silent last) g w is at small =
    spelled_front v g given n start at.left.more g.sys g.calls at.spelled (subst IsSmall at.nodes at.spelled.nodes) small at.functions at.left.silent (all_more g.sys given.sys is.1) (all_more g.calls given.calls is.2)
spelled_read v given n start (sections.Sys last) g w is at small =
    spelled_front v g given n start [] at.left.more g.calls at.spelled (subst IsSmall at.nodes at.spelled.nodes) small at.functions (no_more g.silent given.silent at.left.silent) at.left.sys (all_more g.calls given.calls is.1)
spelled_read v given n start (sections.Call last) g w is at small =
    spelled_front v g given n start [] [] at.left.more at.spelled (subst IsSmall at.nodes at.spelled.nodes) small at.functions (no_more g.silent given.silent at.left.silent) (no_more g.sys given.sys at.left.sys) at.left.calls

-- the next section

from_calls : (v : ModelVersion) (given : Records) (g : Graph) (w : List ℕ) → given.calls ≡ [] → MoreCalls given g w → MoreSys v given g w
from_calls v given g w none left =
    record {
      silent = left.silent;
      more = [];
      sys = no_more g.sys given.sys left.sys;
      rest = left.rest ∙ ap (λ (cs : List Call). flat_map call_line cs ++ ending g.start) (sym (left.calls ∙ ap (λ (cs : List Call). cs ++ left.more) none));
    }

from_sys : (v : ModelVersion) (given : Records) (g : Graph) (w : List ℕ) → given.sys ≡ [] → MoreSys v given g w → MoreSilent v given g w
from_sys v given g w none left =
    record {
      more = [];
      silent = no_more g.silent given.silent left.silent;
      rest = left.rest ∙ ap (λ (ss : List SysEdge). flat_map (sys_line v) ss ++ calls_text g) (sym (left.sys ∙ ap (λ (ss : List SysEdge). ss ++ left.more) none));
    }

-- a line that may follow in a later section may follow in an earlier one
earlier_calls : (v : ModelVersion) (last : Option SysEdge) (line : ModelLine) → MayFollow v (sections.Call None) line → MayFollow v (sections.Sys last) line
earlier_calls v last (lines.Call c) may = may.0
earlier_calls v last (lines.Start start) may = may
earlier_calls v last line may = absurd may

earlier_sys : (v : ModelVersion) (last : Option SilentEdge) (line : ModelLine) → MayFollow v (sections.Sys None) line → MayFollow v (sections.Silent last) line
earlier_sys v last (lines.Silent e) may = absurd may
earlier_sys v last (lines.Sys e) may = may.0
earlier_sys v last line may = may

-- which line follows

-- a line follows in this section, and then what may be after it
abbrev pub LineOn : ModelVersion → Records → ℕ → Section → Graph → List ℕ → Type 0
LineOn v given n section g w = GoesOn (MayFollow v section) (model_line v) (λ x u. AfterLine v given n x g u) w

graph_is : (given : Records) (g : Graph) (n : ℕ) → g.functions ≡ given.functions → g.nodes ≡ n → g.silent ≡ given.silent → g.sys ≡ given.sys → g.calls ≡ given.calls → g ≡ graph_of_records given n g.start
graph_is given g n functions nodes silent sys calls = λ i. record { nodes = nodes i; start = g.start; functions = functions i; silent = silent i; sys = sys i; calls = calls i }

calls_on : (v : ModelVersion) (given : Records) (n : ℕ) (last : Option ℕ) (g : Graph) (w : List ℕ) → IsLastSite last given.calls → IsSpelled v g → g.functions ≡ given.functions → g.nodes ≡ n → g.silent ≡ given.silent → g.sys ≡ given.sys → (more : List Call) → g.calls ≡ given.calls ++ more → w ≡ flat_map call_line more ++ ending g.start → LineOn v given n (sections.Call last) g w
calls_on v given n last g w is spelled functions nodes silent sys [] calls rest = (
  lines.Start g.start,
  codes "end\n",
  spelled.start,
  record { spelled = spelled; is = graph_is given g n functions nodes silent sys (calls ∙ append-nil given.calls); rest = refl },
  rest,
)
calls_on v given n last g w is spelled functions nodes silent sys (c ∷ more) calls rest = (
  lines.Call c,
  flat_map call_line more ++ ending g.start,
  (all_at IsSpelledCall given.calls c more (subst (All IsSpelledCall) calls spelled.calls), call_after_last given.calls last c more is (subst (StrictlyRise site_order) calls spelled.order.calls)),
  record { spelled = spelled; functions = functions; nodes = nodes; left = record { silent = silent; sys = sys; more = more; calls = calls ∙ sym (append_assoc given.calls (c ∷ []) more); rest = refl } },
  rest ∙ append_assoc (call_line c) (flat_map call_line more) (ending g.start),
)

sys_on : (v : ModelVersion) (given : Records) (n : ℕ) (last : Option SysEdge) (g : Graph) (w : List ℕ) → IsLastOf last given.sys → given.calls ≡ [] → IsSpelled v g → g.functions ≡ given.functions → g.nodes ≡ n → g.silent ≡ given.silent → (more : List SysEdge) → g.sys ≡ given.sys ++ more → w ≡ flat_map (sys_line v) more ++ calls_text g → LineOn v given n (sections.Sys last) g w
sys_on v given n last g w is none spelled functions nodes silent [] sys rest =
    let on = calls_on v given n None g w none spelled functions nodes silent (sys ∙ append-nil given.sys) g.calls (all_more g.calls given.calls none) rest in
    (on.0, on.1, earlier_calls v last on.0 on.2, on.3, on.4)
sys_on v given n last g w is none spelled functions nodes silent (e ∷ more) sys rest = (
  lines.Sys e,
  flat_map (sys_line v) more ++ calls_text g,
  (all_at (IsSpelledSys v) given.sys e more (subst (All (IsSpelledSys v)) sys spelled.sys), after_last sys_order given.sys last e more is (subst (StrictlyRise sys_order) sys spelled.order.sys)),
  record { spelled = spelled; functions = functions; nodes = nodes; left = record { silent = silent; more = more; sys = sys ∙ sym (append_assoc given.sys (e ∷ []) more); rest = refl } },
  rest ∙ append_assoc (sys_line v e) (flat_map (sys_line v) more) (calls_text g),
)

silent_on : (v : ModelVersion) (given : Records) (n : ℕ) (last : Option SilentEdge) (g : Graph) (w : List ℕ) → IsLastOf last given.silent → given.sys ≡ [] → given.calls ≡ [] → IsSpelled v g → g.functions ≡ given.functions → g.nodes ≡ n → (more : List SilentEdge) → g.silent ≡ given.silent ++ more → w ≡ flat_map silent_line more ++ sys_text v g → LineOn v given n (sections.Silent last) g w
silent_on v given n last g w is no_sys no_calls spelled functions nodes [] silent rest =
    let on = sys_on v given n None g w no_sys no_calls spelled functions nodes (silent ∙ append-nil given.silent) g.sys (all_more g.sys given.sys no_sys) rest in
    (on.0, on.1, earlier_sys v last on.0 on.2, on.3, on.4)
silent_on v given n last g w is no_sys no_calls spelled functions nodes (e ∷ more) silent rest = (
  lines.Silent e,
  flat_map silent_line more ++ sys_text v g,
  (all_at IsSpelledSilent given.silent e more (subst (All IsSpelledSilent) silent spelled.silent), after_last silent_order given.silent last e more is (subst (StrictlyRise silent_order) silent spelled.order.silent)),
  record { spelled = spelled; functions = functions; nodes = nodes; left = record { more = more; silent = silent ∙ sym (append_assoc given.silent (e ∷ []) more); rest = refl } },
  rest ∙ append_assoc (silent_line e) (flat_map silent_line more) (sys_text v g),
)

edges_onward : (v : ModelVersion) (given : Records) (n : ℕ) (section : Section) → IsLast section given → (g : Graph) (w : List ℕ) → AtEdges v given n section g w → LineOn v given n section g w
edges_onward v given n (sections.Silent last) is g w at = silent_on v given n last g w is.0 is.1 is.2 at.spelled at.functions at.nodes at.left.more at.left.silent at.left.rest
edges_onward v given n (sections.Sys last) is g w at = sys_on v given n last g w is.0 is.1 at.spelled at.functions at.nodes at.left.silent at.left.more at.left.sys at.left.rest
edges_onward v given n (sections.Call last) is g w at = calls_on v given n last g w is at.spelled at.functions at.nodes at.left.silent at.left.sys at.left.more at.left.calls at.left.rest

-- which line stood before

-- after the start's line all edges were read
end_left : (v : ModelVersion) (given : Records) (n start : ℕ) (g : Graph) (u w : List ℕ) → AtEnd v given n start g u → w ≡ start_line start ++ u → MoreCalls given g w
end_left v given n start g u w at is =
    record {
      silent = ap (λ (h : Graph). h.silent) at.is;
      sys = ap (λ (h : Graph). h.sys) at.is;
      more = [];
      calls = no_more g.calls given.calls (ap (λ (h : Graph). h.calls) at.is);
      rest = is ∙ ap (λ (t : List ℕ). start_line start ++ t) at.rest ∙ ap (λ (k : ℕ). start_line k ++ codes "end\n") (sym (ap (λ (h : Graph). h.start) at.is));
    }

call_left : (given : Records) (c : Call) (g : Graph) (u w : List ℕ) → MoreCalls (with_call c given) g u → w ≡ call_line c ++ u → MoreCalls given g w
call_left given c g u w left is =
    record {
      silent = left.silent;
      sys = left.sys;
      more = c ∷ left.more;
      calls = left.calls ∙ append_assoc given.calls (c ∷ []) left.more;
      rest = is ∙ ap (λ (t : List ℕ). call_line c ++ t) left.rest ∙ sym (append_assoc (call_line c) (flat_map call_line left.more) (ending g.start));
    }

sys_left : (v : ModelVersion) (given : Records) (e : SysEdge) (g : Graph) (u w : List ℕ) → MoreSys v (with_sys e given) g u → w ≡ sys_line v e ++ u → MoreSys v given g w
sys_left v given e g u w left is =
    record {
      silent = left.silent;
      more = e ∷ left.more;
      sys = left.sys ∙ append_assoc given.sys (e ∷ []) left.more;
      rest = is ∙ ap (λ (t : List ℕ). sys_line v e ++ t) left.rest ∙ sym (append_assoc (sys_line v e) (flat_map (sys_line v) left.more) (calls_text g));
    }

silent_left : (v : ModelVersion) (given : Records) (e : SilentEdge) (g : Graph) (u w : List ℕ) → MoreSilent v (with_silent e given) g u → w ≡ silent_line e ++ u → MoreSilent v given g w
silent_left v given e g u w left is =
    record {
      more = e ∷ left.more;
      silent = left.silent ∙ append_assoc given.silent (e ∷ []) left.more;
      rest = is ∙ ap (λ (t : List ℕ). silent_line e ++ t) left.rest ∙ sym (append_assoc (silent_line e) (flat_map silent_line left.more) (sys_text v g));
    }

-- what is left from this section on, where a line stands before the rest
left_before : (v : ModelVersion) (given : Records) (n : ℕ) (section : Section) → IsLast section given → (g : Graph) (line : ModelLine) (u w : List ℕ) → MayFollow v section line → AfterLine v given n line g u → w ≡ model_line v line ++ u → More v given section g w
left_before v given n (sections.Silent last) is g (lines.Silent e) u w may after stands = silent_left v given e g u w after.left stands
left_before v given n (sections.Silent last) is g (lines.Sys e) u w may after stands = from_sys v given g w is.1 (sys_left v given e g u w after.left stands)
left_before v given n (sections.Silent last) is g (lines.Call c) u w may after stands = from_sys v given g w is.1 (from_calls v given g w is.2 (call_left given c g u w after.left stands))
left_before v given n (sections.Silent last) is g (lines.Start start) u w may after stands = from_sys v given g w is.1 (from_calls v given g w is.2 (end_left v given n start g u w after stands))
left_before v given n (sections.Sys last) is g (lines.Sys e) u w may after stands = sys_left v given e g u w after.left stands
left_before v given n (sections.Sys last) is g (lines.Call c) u w may after stands = from_calls v given g w is.1 (call_left given c g u w after.left stands)
left_before v given n (sections.Sys last) is g (lines.Start start) u w may after stands = from_calls v given g w is.1 (end_left v given n start g u w after stands)
left_before v given n (sections.Call last) is g (lines.Call c) u w may after stands = call_left given c g u w after.left stands
left_before v given n (sections.Call last) is g (lines.Start start) u w may after stands = end_left v given n start g u w after stands
left_before v given n section is g line u w may after stands = absurd may

-- the rest of what is told after a line
told_before : (v : ModelVersion) (given : Records) (n : ℕ) (section : Section) (g : Graph) (line : ModelLine) (u w : List ℕ) → AfterLine v given n line g u → More v given section g w → AtEdges v given n section g w
told_before v given n section g (lines.Start start) u w after left = record { spelled = after.spelled; functions = ap (λ (h : Graph). h.functions) after.is; nodes = ap (λ (h : Graph). h.nodes) after.is; left = left }
told_before v given n section g line u w after left = record { spelled = after.spelled; functions = after.functions; nodes = after.nodes; left = left }

-- something may follow each line

silent_some : (v : ModelVersion) (given : Records) (n : ℕ) (last : Option SilentEdge) (e : SilentEdge) → IsSpelled v (graph_of_records (with_silent e given) n 0) → (g : Graph) × (u : List ℕ) × AfterLine v given n (lines.Silent e) g u
silent_some v given n last e spelled =
    let g : Graph = graph_of_records (with_silent e given) n 0 in
    (g, sys_text v g, record { spelled = spelled; functions = refl; nodes = refl; left = record { more = []; silent = no_more g.silent g.silent refl; rest = refl } })

sys_some : (v : ModelVersion) (given : Records) (n : ℕ) (e : SysEdge) → IsSpelled v (graph_of_records (with_sys e given) n 0) → (g : Graph) × (u : List ℕ) × AfterLine v given n (lines.Sys e) g u
sys_some v given n e spelled =
    let g : Graph = graph_of_records (with_sys e given) n 0 in
    (g, calls_text g, record { spelled = spelled; functions = refl; nodes = refl; left = record { silent = refl; more = []; sys = no_more g.sys g.sys refl; rest = refl } })

call_some : (v : ModelVersion) (given : Records) (n : ℕ) (c : Call) → IsSpelled v (graph_of_records (with_call c given) n 0) → (g : Graph) × (u : List ℕ) × AfterLine v given n (lines.Call c) g u
call_some v given n c spelled =
    let g : Graph = graph_of_records (with_call c given) n 0 in
    (g, ending 0, record { spelled = spelled; functions = refl; nodes = refl; left = record { silent = refl; sys = refl; more = []; calls = no_more g.calls g.calls refl; rest = refl } })

start_some : (v : ModelVersion) (given : Records) (n start : ℕ) → IsSpelled v (graph_of_records given n start) → (g : Graph) × (u : List ℕ) × AfterLine v given n (lines.Start start) g u
start_some v given n start spelled = (graph_of_records given n start, codes "end\n", record { spelled = spelled; is = refl; rest = refl })

edges_some : (v : ModelVersion) (given : Records) (n : ℕ) (section : Section) → IsLast section given → ((start : ℕ) → IsSmall start → IsSpelled v (graph_of_records given n start)) → (line : ModelLine) → MayFollow v section line → (g : Graph) × (u : List ℕ) × AfterLine v given n line g u
edges_some v given n (sections.Silent last) is own (lines.Silent e) may = silent_some v given n last e (spelled_silent v given n 0 last e (own 0 (omega arith)) is.0 may.0 may.1)
edges_some v given n (sections.Silent last) is own (lines.Sys e) may = sys_some v given n e (spelled_sys v given n 0 None e (own 0 (omega arith)) is.1 may tt)
edges_some v given n (sections.Silent last) is own (lines.Call c) may = call_some v given n c (spelled_call v given n 0 None c (own 0 (omega arith)) is.2 may tt)
edges_some v given n (sections.Sys last) is own (lines.Sys e) may = sys_some v given n e (spelled_sys v given n 0 last e (own 0 (omega arith)) is.0 may.0 may.1)
edges_some v given n (sections.Sys last) is own (lines.Call c) may = call_some v given n c (spelled_call v given n 0 None c (own 0 (omega arith)) is.1 may tt)
edges_some v given n (sections.Call last) is own (lines.Call c) may = call_some v given n c (spelled_call v given n 0 last c (own 0 (omega arith)) is may.0 may.1)
edges_some v given n section is own (lines.Start start) may = start_some v given n start (own start may)
edges_some v given n section is own line may = absurd may

-- a line more among the edges
pub edges_step : (v : ModelVersion) (given : Records) (n : ℕ) (section : Section) (g : Graph) (w : List ℕ) → IsLast section given → AtEdges v given n section g w → Step (AtEdges v given n section) (MayFollow v section) (model_line v) (AfterLine v given n)
edges_step v given n section g w is at =
    record {
      ends = ends_in_feed v;
      onward = edges_onward v given n section is;
      back = λ h t on. told_before v given n section h on.0 on.1 t on.3 (left_before v given n section is h on.0 on.1 t on.2 on.3 on.4);
      some = edges_some v given n section is (λ start small. spelled_read v given n start section g w is at small);
    }

-- the last line
pub end_step : (v : ModelVersion) (given : Records) (n start : ℕ) → IsSpelled v (graph_of_records given n start) → Step (AtEnd v given n start) (λ (_ : Unit {0}). Unit {0}) (λ (_ : Unit {0}). codes "end\n") (λ (_ : Unit {0}). AtLast v given n start)
end_step v given n start spelled =
    record {
      ends = λ x. (codes "end", refl);
      onward = λ g w at. (tt, [], tt, record { spelled = at.spelled; is = at.is; rest = refl }, at.rest);
      back = λ g w on. record { spelled = on.3.spelled; is = on.3.is; rest = on.4 ∙ ap (λ (t : List ℕ). codes "end\n" ++ t) on.3.rest };
      some = λ x fits. (graph_of_records given n start, [], record { spelled = spelled; is = refl; rest = refl });
    }
