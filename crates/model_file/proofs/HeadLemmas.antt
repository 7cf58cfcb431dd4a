-- The lines up to that of the nodes: what may follow each.
use Rattle.std.proofs.Common.{◌≡◌, ℕ, ◌<◌, List, [], ◌∷◌, ◌++◌, length, replicate, None, decimal, refl, sym, ◌∙◌, ap, subst, append_assoc, arith}
use Rattle.std.specs.Prelude.{All, flat_map, codes}
use Rattle.std.proofs.lemmas.List.{append-nil, length-replicate, length-append}
use Rattle.std.proofs.lemmas.List.Elements.{All-nil, All-cons, All-replicate, All-append}
use Rattle.line_text.proofs.FilesLemmas.{GoesOn}
use Rattle.flow_model.specs.declared.records.ModelFunction.{ModelFunction}
use Rattle.flow_model.specs.declared.records.SilentEdge.{SilentEdge}
use Rattle.flow_model.specs.Built.{Records}
use Rattle.flow_model.specs.Graph.{Graph}
use Rattle.flow_model.specs.Order.{silent_order, sys_order, site_order}
use Rattle.model_file.specs.declared.lines.Section.TheVariants as sections
use Rattle.model_file.specs.declared.version.ModelVersion.{ModelVersion}
use Rattle.model_file.specs.declared.version.ModelVersion.TheVariants.{One, Two}
use Rattle.model_file.specs.ModelText.{head_line, functions_line, function_line, nodes_line, silent_line, sys_line, call_line, ending, model_text, IsSmall, IsSpelledFunction, IsSpelled, IsModelText}
use Rattle.model_file.specs.Progress.{Spelling, Spells, HasTold}
use Rattle.model_file.specs.States.{sys_text, edges_text, Fixed, AtCount, AtFunctions, AtEdges, IsLast}
use Rattle.model_file.proofs.FrameLemmas.{Step}
use Rattle.model_file.proofs.FunctionLemmas.{some_function, some_spelled}
use Rattle.model_file.proofs.OrderLemmas.{all_front, all_at, all_more, none_rise, spell}

-- once the version is fixed, a line is read as lines of lists are
pub fixed : {V : Type 0} {At : Graph → List ℕ → Type 0} {Fits : V → Type 0} {spelled : V → List ℕ} {After : V → Graph → List ℕ → Type 0} (v : ModelVersion) → Step At Fits spelled After → Step (Fixed v At) Fits spelled (λ x. Fixed v (After x))
fixed {V} {At} {Fits} {spelled} {After} v step =
    record {
      ends = step.ends;
      onward = λ m w at. let on = step.onward m.graph w at.1 in (on.0, on.1, on.2, (at.0, on.3), on.4);
      back = λ m w on. (on.3.0, step.back m.graph w (on.0, on.1, on.2, on.3.1, on.4));
      some = λ x fits. let some = step.some x fits in let m : Spelling = record { version = v; graph = some.0 } in (m, some.1, (refl, some.2));
    }

-- lists with no edges

abbrev with_functions : List ModelFunction → Graph
with_functions functions = record { nodes = 0; start = 0; functions = functions; silent = []; sys = []; calls = [] }

spelled_functions : (v : ModelVersion) (functions : List ModelFunction) → IsSmall (length functions) → All IsSpelledFunction functions → IsSpelled v (with_functions functions)
spelled_functions v functions small all =
    spell v (with_functions functions) (omega arith) (omega arith) small all (All-nil _, none_rise silent_order) (All-nil _, none_rise sys_order) (All-nil _, none_rise site_order)

-- the same lists with other functions, as many
other_functions : (v : ModelVersion) (g : Graph) (functions : List ModelFunction) → length functions ≡ length g.functions → All IsSpelledFunction functions → IsSpelled v g → IsSpelled v (record g { functions = functions })
other_functions v g functions same all spelled =
    spell v (record g { functions = functions }) spelled.nodes spelled.start (subst IsSmall (sym same) spelled.count) all
    (spelled.silent, spelled.order.silent) (spelled.sys, spelled.order.sys) (spelled.calls, spelled.order.calls)

other_nodes : (v : ModelVersion) (g : Graph) (n : ℕ) → IsSmall n → IsSpelled v g → IsSpelled v (record g { nodes = n })
other_nodes v g n small spelled =
    spell v (record g { nodes = n }) small spelled.start spelled.count spelled.functions
    (spelled.silent, spelled.order.silent) (spelled.sys, spelled.order.sys) (spelled.calls, spelled.order.calls)

-- the first line

regroup : (a b c d e f g h : List ℕ) → a ++ b ++ c ++ d ++ e ++ f ++ g ++ h ≡ a ++ (b ++ (c ++ (d ++ (e ++ (f ++ (g ++ h))))))
regroup a b c d e f g h = simp append_assoc

-- the text after the first line
abbrev pub after_head : ModelVersion → Graph → List ℕ
after_head v g = functions_line (length g.functions) ++ (flat_map function_line g.functions ++ (nodes_line g.nodes ++ edges_text v g))

pub text_is : (v : ModelVersion) (g : Graph) → model_text v g ≡ head_line v ++ after_head v g
text_is v g = regroup (head_line v) (functions_line (length g.functions)) (flat_map function_line g.functions) (nodes_line g.nodes) (flat_map silent_line g.silent) (flat_map (sys_line v) g.sys) (flat_map call_line g.calls) (ending g.start)

head_ends : (v : ModelVersion) → (front : List ℕ) × (head_line v ≡ front ++ 10 ∷ [])
head_ends One = (codes "dyckmon-model 1", refl)
head_ends Two = (codes "dyckmon-model 2", refl)

before_head : (m : Spelling) (v : ModelVersion) (u w : List ℕ) → Fixed v (AtCount v) m u → w ≡ head_line v ++ u → Spells m w
before_head m v u w at is =
    subst (λ (x : ModelVersion). IsModelText x w m.graph) (sym at.0) (record { spelled = at.1.spelled; is = is ∙ ap (λ (t : List ℕ). head_line v ++ t) at.1.rest ∙ sym (text_is v m.graph) })

pub head_step : Step Spells (λ (_ : ModelVersion). Unit {0}) head_line (λ v. Fixed v (AtCount v))
head_step =
    record {
      ends = head_ends;
      onward = λ m w spells. (m.version, after_head m.version m.graph, tt, (refl, record { spelled = spells.spelled; rest = refl }), spells.is ∙ text_is m.version m.graph);
      back = λ m w on. before_head m on.0 on.1 w on.3 on.4;
      some = λ v fits.
          let g : Graph = with_functions [] in
          let m : Spelling = record { version = v; graph = g } in
          (m, after_head v g, (refl, record { spelled = spelled_functions v [] (omega arith) (All-nil IsSpelledFunction); rest = refl }));
    }

-- before any line
pub nothing_told : HasTold Spells 0 []
nothing_told =
    let g : Graph = with_functions [] in
    record {
      whole = λ w. refl;
      follows = λ m w spells. spells;
      back = λ m w spells. spells;
      some = (record { version = One; graph = g }, model_text One g, record { spelled = spelled_functions One [] (omega arith) (All-nil IsSpelledFunction); is = refl });
    }

-- the number of functions

count_before : (v : ModelVersion) (n : ℕ) (g : Graph) (u w : List ℕ) → AtFunctions v n [] g u → w ≡ functions_line n ++ u → AtCount v g w
count_before v n g u w at is =
    record {
      spelled = at.spelled;
      rest = is
          ∙ ap (λ (t : List ℕ). functions_line n ++ t) at.rest
          ∙ ap (λ (k : ℕ). functions_line k ++ (flat_map function_line at.more ++ (nodes_line g.nodes ++ edges_text v g))) (sym at.long)
          ∙ ap (λ (fs : List ModelFunction). functions_line (length g.functions) ++ (flat_map function_line fs ++ (nodes_line g.nodes ++ edges_text v g))) (sym at.functions);
    }

count_some : (v : ModelVersion) (n : ℕ) → IsSmall n → (g : Graph) × (u : List ℕ) × AtFunctions v n [] g u
count_some v n small =
    let functions : List ModelFunction = replicate n some_function in
    let long : length functions ≡ n = length-replicate n some_function in
    let g : Graph = with_functions functions in (
      g,
      flat_map function_line functions ++ (nodes_line g.nodes ++ edges_text v g),
      record { spelled = spelled_functions v functions (subst IsSmall (sym long) small) (All-replicate IsSpelledFunction n some_function some_spelled); long = long; more = functions; functions = refl; rest = refl },
    )

pub count_step : (v : ModelVersion) → Step (AtCount v) IsSmall functions_line (λ n. AtFunctions v n [])
count_step v =
    record {
      ends = λ n. (codes "functions " ++ decimal n, refl);
      onward = λ g w at. (length g.functions, flat_map function_line g.functions ++ (nodes_line g.nodes ++ edges_text v g), at.spelled.count, record { spelled = at.spelled; long = refl; more = g.functions; functions = refl; rest = refl }, at.rest);
      back = λ g w on. count_before v on.0 g on.1 w on.3 on.4;
      some = count_some v;
    }

-- a function more

module _ (v : ModelVersion) (n : ℕ) (read : List ModelFunction) where
  function_on : length read < n → (g : Graph) (w : List ℕ) → IsSpelled v g → length g.functions ≡ n → (more : List ModelFunction) → g.functions ≡ read ++ more → w ≡ flat_map function_line more ++ (nodes_line g.nodes ++ edges_text v g) → GoesOn IsSpelledFunction function_line (λ x u. AtFunctions v n (read ++ x ∷ []) g u) w
  function_on less g w spelled long [] is rest = absurd (omega (arith, ap length is, length-append read []))
  function_on less g w spelled long (x ∷ more) is rest = (
    x,
    flat_map function_line more ++ (nodes_line g.nodes ++ edges_text v g),
    all_at IsSpelledFunction read x more (subst (All IsSpelledFunction) is spelled.functions),
    record { spelled = spelled; long = long; more = more; functions = is ∙ sym (append_assoc read (x ∷ []) more); rest = refl },
    rest ∙ append_assoc (function_line x) (flat_map function_line more) (nodes_line g.nodes ++ edges_text v g),
  )

  function_before : (x : ModelFunction) (g : Graph) (u w : List ℕ) → AtFunctions v n (read ++ x ∷ []) g u → w ≡ function_line x ++ u → AtFunctions v n read g w
  function_before x g u w at is =
      record {
        spelled = at.spelled;
        long = at.long;
        more = x ∷ at.more;
        functions = at.functions ∙ append_assoc read (x ∷ []) at.more;
        rest = is ∙ ap (λ (t : List ℕ). function_line x ++ t) at.rest ∙ sym (append_assoc (function_line x) (flat_map function_line at.more) (nodes_line g.nodes ++ edges_text v g));
      }

  function_some : length read < n → (g : Graph) → IsSpelled v g → length g.functions ≡ n → (more : List ModelFunction) → g.functions ≡ read ++ more → (x : ModelFunction) → IsSpelledFunction x → (h : Graph) × (u : List ℕ) × AtFunctions v n (read ++ x ∷ []) h u
  function_some less g spelled long [] is x fits = absurd (omega (arith, ap length is, length-append read []))
  function_some less g spelled long (y ∷ more) is x fits =
      let functions : List ModelFunction = read ++ x ∷ more in
      let same : length functions ≡ length g.functions = omega (arith, ap length is, length-append read (x ∷ more), length-append read (y ∷ more)) in
      let all = subst (All IsSpelledFunction) is spelled.functions in
      let rest : All IsSpelledFunction more = all_more IsSpelledFunction (y ∷ []) more (all_more IsSpelledFunction read (y ∷ more) all) in
      let h : Graph = record g { functions = functions } in (
        h,
        flat_map function_line more ++ (nodes_line h.nodes ++ edges_text v h),
        record {
          spelled = other_functions v g functions same (All-append IsSpelledFunction read (x ∷ more) (all_front IsSpelledFunction read (y ∷ more) all) (All-cons IsSpelledFunction x more fits rest)) spelled;
          long = same ∙ long;
          more = more;
          functions = sym (append_assoc read (x ∷ []) more);
          rest = refl;
        },
      )

  pub function_step : (g : Graph) (w : List ℕ) → length read < n → AtFunctions v n read g w → Step (AtFunctions v n read) IsSpelledFunction function_line (λ x. AtFunctions v n (read ++ x ∷ []))
  function_step g w less at =
      record {
        ends = λ x. (codes "f " ++ x.name ++ 32 ∷ decimal x.entry ++ 32 ∷ decimal x.exit, refl);
        onward = λ h t on. function_on less h t on.spelled on.long on.more on.functions on.rest;
        back = λ h t on. function_before on.0 h on.1 t on.3 on.4;
        some = function_some less g at.spelled at.long at.more at.functions;
      }

-- the number of nodes

module _ (v : ModelVersion) (n : ℕ) (given : Records) (all : length given.functions ≡ n) (none : IsLast (sections.Silent None) given) where
  nodes_on : (g : Graph) (w : List ℕ) → IsSpelled v g → length g.functions ≡ n → (more : List ModelFunction) → g.functions ≡ given.functions ++ more → w ≡ flat_map function_line more ++ (nodes_line g.nodes ++ edges_text v g) → GoesOn IsSmall nodes_line (λ k u. AtEdges v given k (sections.Silent None) g u) w
  nodes_on g w spelled long [] is rest = (
    g.nodes,
    edges_text v g,
    spelled.nodes,
    record { spelled = spelled; functions = is ∙ append-nil given.functions; nodes = refl; left = record { more = g.silent; silent = ap (λ (es : List SilentEdge). es ++ g.silent) (sym none.0); rest = refl } },
    rest,
  )
  nodes_on g w spelled long (x ∷ more) is rest = absurd (omega (arith, ap length is, length-append given.functions (x ∷ more)))

  nodes_before : (k : ℕ) (g : Graph) (u w : List ℕ) → AtEdges v given k (sections.Silent None) g u → w ≡ nodes_line k ++ u → AtFunctions v n given.functions g w
  nodes_before k g u w at is =
      record {
        spelled = at.spelled;
        long = ap length at.functions ∙ all;
        more = [];
        functions = at.functions ∙ sym (append-nil given.functions);
        rest = is
            ∙ ap (λ (t : List ℕ). nodes_line k ++ t) at.left.rest
            ∙ ap (λ (es : List SilentEdge). nodes_line k ++ (flat_map silent_line es ++ sys_text v g)) (sym (at.left.silent ∙ ap (λ (es : List SilentEdge). es ++ at.left.more) none.0))
            ∙ ap (λ (m : ℕ). nodes_line m ++ edges_text v g) (sym at.nodes);
      }

  nodes_some : (g : Graph) → IsSpelled v g → length g.functions ≡ n → (more : List ModelFunction) → g.functions ≡ given.functions ++ more → (k : ℕ) → IsSmall k → (h : Graph) × (u : List ℕ) × AtEdges v given k (sections.Silent None) h u
  nodes_some g spelled long [] is k small =
      let h : Graph = record g { nodes = k } in (
        h,
        edges_text v h,
        record { spelled = other_nodes v g k small spelled; functions = is ∙ append-nil given.functions; nodes = refl; left = record { more = h.silent; silent = ap (λ (es : List SilentEdge). es ++ h.silent) (sym none.0); rest = refl } },
      )
  nodes_some g spelled long (x ∷ more) is k small = absurd (omega (arith, ap length is, length-append given.functions (x ∷ more)))

  pub nodes_step : (g : Graph) (w : List ℕ) → AtFunctions v n given.functions g w → Step (AtFunctions v n given.functions) IsSmall nodes_line (λ k. AtEdges v given k (sections.Silent None))
  nodes_step g w at =
      record {
        ends = λ k. (codes "nodes " ++ decimal k, refl);
        onward = λ h t on. nodes_on h t on.spelled on.long on.more on.functions on.rest;
        back = λ h t on. nodes_before on.0 h on.1 t on.3 on.4;
        some = nodes_some g at.spelled at.long at.more at.functions;
      }
