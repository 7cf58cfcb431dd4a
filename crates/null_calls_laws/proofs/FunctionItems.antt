-- A definition of a function in the instrumented unit beside that in the plain one.
use Rattle.std.proofs.Common.{◌≡◌, ℕ, ◌+◌, ◌*◌, ◌≤◌, Bool, true, false, List, [], ◌∷◌, ◌++◌, map, length, Option, Some, refl, ap, sym, subst, ◌∙◌, arith, replicate, slice_get, suc, None}
use Rattle.c_tree.specs.Tree.{CType, function, CTypes, list_of, Function, Program, Static}
use Rattle.c_tree.specs.Tree as typed
use Rattle.c_syntax.specs.Tree.{Ident, Storage, Spec, Declarator, Stmt, BlockItems, Item, function_item, Params, more_params}
use Rattle.c_rules.specs.Checked.{fine, on, demand, met, parts_first}
use Rattle.c_rules.specs.Names.{Name, is_among}
use Rattle.c_rules.specs.Scopes.{Env, inside, layout_of, Before, a_local}
use Rattle.c_rules.specs.Counts.{past}
use Rattle.c_rules.specs.Declarators.{name_of, place_or}
use Rattle.c_rules.specs.Expressions.{type_declared}
use Rattle.c_rules.specs.Tags.{tags_of_spec, tags_of_declarator, tags_of_stmt, tags_of_block, tags_of_item}
use Rattle.c_rules.specs.Variables.{names_of_block, first_numbers, calls_of_block, Next, past_names}
use Rattle.c_rules.specs.Blocks.{StatementTree, held_by_block}
use Rattle.c_rules.specs.Statements.{Around, items_of_block}
use Rattle.c_rules.specs.Functions.{declares_function, parameters_of, are_named, count_params, body_env, body_of, function_laid, defined_as, held_by_typed, function_declared, items_of_body, few_variables, with_parameter, with_parameters}
use Rattle.c_rules.specs.Items.{Output, output_of_function, behind_defined, function_named, behind_function_named}
use Rattle.null_calls_laws.specs.MarkedCalls.{Sites, sites_of}
use Rattle.null_calls_laws.specs.Temporaries.{Temporary, declared_before}
use Rattle.null_calls_laws.specs.InstrumentedStatements.{kept_of_block}
use Rattle.null_calls_laws.specs.InstrumentedStatements as marked_statements
use Rattle.null_calls_laws.specs.Instrumented as units
use Rattle.null_calls_laws.specs.InstrumentedPrograms.{instrumented_function}
use Rattle.null_calls_laws.specs.WithoutSites.{unsited_function}
use Rattle.c_rules_laws.proofs.SitesOfStatements.{params_keep}
use Rattle.null_calls_laws.specs.Spelled.{AreAmong}
use Rattle.c_rules_laws.proofs.Leads.{first_fine, on_fine, fine_leads}
use Rattle.c_rules_laws.proofs.Parts.{type_declared_leads}
use Rattle.null_calls_laws.specs.Follow.{types_of}
use Rattle.null_calls_laws.proofs.Numbers.{numbers_stay}
use Rattle.null_calls_laws.proofs.Nodes.{both_gives}
use Rattle.null_calls_laws.proofs.StatementCounts.{blocks_stay, tags_stay}
use Rattle.null_calls_laws.specs.FileScopes.{FilesBeside, at_site, HasNullCalls, files_beside}
use Rattle.null_calls_laws.proofs.FileNames.{scopes_of, files_alike, function_declared_leads, function_files, named_files}
use Rattle.null_calls_laws.proofs.Items.{tags_files, files_tags}
use Rattle.c_rules_laws.proofs.Holding.{held, fine_same}
use Rattle.c_rules_laws.proofs.UnitFunctions.{ParamsFit, type_fits}
use Rattle.c_rules_laws.proofs.Definitions.{laid_body, definition_fine}
use Rattle.null_calls_laws.proofs.Declared.{among_left, among_right, among_both}
use Rattle.null_calls_laws.specs.Functions.{HasFunctions, BodyFacts, NamedFacts, FunctionFacts, DefinitionsGo}
use Rattle.null_calls_laws.proofs.Temporaries.{all_free}
use Rattle.null_calls_laws.proofs.FunctionBodies.{BodyGoes, body_goes, temporaries_few, right_laid, right_function, laid_right, function_instrumented, temporaries_count, variables_right}
use Rattle.c_rules_laws.proofs.Callers.{form_tags}
use Rattle.c_rules_laws.proofs.DistinctNames.{among_right as among_later}
use Rattle.null_calls_laws.proofs.FunctionTags.{declared_stand, declared_aside, body_tags, is_in, among_front, among_itself, among_cases}
use Rattle.null_calls_laws.proofs.Counted.{names_long}
use Rattle.std.specs.Prelude.{option_map}
use Rattle.std.proofs.lemmas.Option.{slice_get-map}
use Rattle.std.proofs.lemmas.List.{length-replicate}
use Rattle.c_rules.specs.PrimaryExpressions.{string_number}
use Rattle.c_rules.specs.Units.{static_string}
use Rattle.c_rules_laws.proofs.Places.{get_right}
use Rattle.c_rules_laws.specs.Lexical.{AreItemsLexical}
use Rattle.c_rules_laws.specs.RightScopes.{StringsIn}
use Rattle.c_rules_laws.proofs.RightStatements.{StmtsRight, block_right}
use Rattle.c_rules_laws.specs.TypedAlike.{More, AreUnreserved, MeanAlike}
use Rattle.c_rules_laws.proofs.Names.{left, right}
use Rattle.c_rules.proofs.ModeFunctions.{PlainName, declared_names}
pub use Rattle.c_rules.proofs.ModeFunctions.{PlainNames}

pub inside_files : (e f : Env) → FilesBeside e f → FilesBeside (inside e) (inside f)
inside_files e f (files_beside env w p q l) = files_beside (inside env) w p q (record { runs = l.runs; nulls = l.nulls; fresh = l.fresh; functions = l.functions; tags = l.tags })

parameter_files : (env : Env) (w : More) (p : AreUnreserved env.names) (q : MeanAlike env.names w.names) (l : HasNullCalls env w) (k : ℕ) (n : Option Ident) (t : CType) → PlainName n → FilesBeside (with_parameter (left env) k n t) (with_parameter (right env w) k n t)
parameter_files env w p q l k None t u = files_beside env w p q l
parameter_files env w p q l k (Some x) t u = named_files env w p q l x.name (fine (a_local k t t)) (fine (a_local k t t)) (a_local k t t) u refl refl

parameters_files : (e f : Env) → FilesBeside e f → (k : ℕ) (ps : Params) (ts : CTypes) → PlainNames ps → FilesBeside (with_parameters e k ps ts) (with_parameters f k ps ts)
parameters_files e f (files_beside env w p q l) k (more_params at s d ps) (typed.more_types t ts) u =
    parameters_files (with_parameter (left env) k (name_of d) t) (with_parameter (right env w) k (name_of d) t) (parameter_files env w p q l k (name_of d) t u.0) (suc k) ps ts u.1
parameters_files e f w k ps ts u = w

pub body_files : (e f : Env) → FilesBeside e f → (d : Declarator) (ts : CTypes) → PlainNames (parameters_of d) → FilesBeside (body_env e d ts) (body_env f d ts)
body_files e f w d ts u = parameters_files (inside e) (inside f) (inside_files e f w) 0 (parameters_of d) ts u

-- a program that holds these strings from a number on
module _ (k : ℕ) (ws : List (List ℕ)) where
  abbrev holder : Program
  holder = record { structs = []; functions = []; main = 0; statics = replicate k (static_string []) ++ map static_string ws }

  holds : StringsIn holder [] k ws
  holds j w e =
      let n : length (replicate k (static_string [])) ≡ k = length-replicate {A = Static} k (static_string []) in
      (static_string w, ap (λ c. slice_get (replicate k (static_string []) ++ map static_string ws) (c + j)) (sym n) ∙ (get_right (replicate k (static_string [])) (map static_string ws) j ∙ (slice_get-map static_string ws j ∙ ap (option_map static_string) e)), refl, refl)

pub plain_numbers : (is : BlockItems) (env : Env) (a : Around) (b : Before) (next : Next) (q : StatementTree typed.Stmts) → AreItemsLexical is → items_of_block env a b next is ≡ fine q → (past_names next (names_of_block is)).plain ≡ next.plain + length q.plain
plain_numbers is env a b next q l e =
    let p : Program = holder (string_number env b) (held_by_block env next is) in
    ap (λ n. n.plain) (held (StmtsRight p [] env a next (names_of_block is)) (items_of_block env a b next is) q (block_right p [] is env a b next l (holds (string_number env b) (held_by_block env next is))) e).numbers

-- ## Scopes of bodies

-- ## Definitions

-- the body with null calls, and its temporaries declared
abbrev pub new_body : Sites → (tags : List Name) → (at before : ℕ) → Stmt → Stmt
new_body sites tags at b body = units.body_of sites tags at b (items_of_body body)

module _ (p : Program) (e f : Env) (b : Before) (n at : ℕ) (s : Spec) (d : Declarator) (body next : Stmt) (o : Option Ident) where
  pub record NamedGoes (out : Output) : Type 0 where
    pub output : Output
    pub count : ℕ
    pub follows : function_named f (at_site b n) at s d next true o ≡ fine output
    pub functions : map unsited_function output.functions ≡ map (instrumented_function p) out.functions
    pub statics : output.statics ≡ out.statics
    pub files : FilesBeside (behind_function_named e at s d o) (behind_function_named f at s d o)
    pub after : past (at_site b n) (calls_of_block (items_of_body next)) (held_by_typed (behind_function_named f at s d o) d (items_of_body next) (type_declared f at s d))
        ≡ at_site (past b (calls_of_block (items_of_body body)) (held_by_typed (behind_function_named e at s d o) d (items_of_body body) (type_declared e at s d))) count
    pub few : count ≤ 3 * (b.sites + calls_of_block (items_of_body body))

-- as a function, where what it declares is fine
module _ (p : Program) (enums tags stood : List Name) (e f : Env) (w : FilesBeside e f) (g : HasFunctions p e.whole.functions) (b : Before) (n at : ℕ) (s : Spec) (d : Declarator) (body : Stmt) (x : Ident)
    (t : CType) (ts : CTypes) (typed_left : type_declared e at s d ≡ fine (function t ts)) (is_function : declares_function d ≡ true) (few : n ≤ 3 * b.sites) (low : b.sites ≤ 10000)
    (facts : BodyFacts p (sites_of p) enums tags stood (body_env (behind_defined e at s d x) d ts) b (count_params (parameters_of d)) (items_of_body body)) where
  abbrev items_left : BlockItems
  items_left = items_of_body body

  abbrev temporaries_here : List Temporary
  temporaries_here = kept_of_block (sites_of p) b.sites (items_of_body body)

  abbrev items_right : BlockItems
  items_right = declared_before tags at (kept_of_block (sites_of p) b.sites (items_of_body body)) (marked_statements.items_of_block (sites_of p) b.sites (items_of_body body))

  abbrev left_env : Env
  left_env = behind_defined e at s d x

  abbrev right_env : Env
  right_env = behind_defined f at s d x

  abbrev count_here : ℕ
  count_here = count_params (parameters_of d)

  abbrev first_here : ℕ
  first_here = (first_numbers (count_params (parameters_of d)) (items_of_body body)).added

  abbrev around : Around
  around = record { breaks = false; continues = false; returns = t }

  typed_right : type_declared f at s d ≡ fine (function t ts)
  typed_right = fine_leads (type_declared e at s d) (type_declared f at s d) (function t ts) (type_declared_leads e f (scopes_of e f w) at s d) typed_left

  whole_here : (body_env left_env d ts).whole.functions ≡ e.whole.functions
  whole_here = params_keep (λ v. v.whole.functions) (λ _ _ _. refl) (parameters_of d) ts (inside left_env) 0

  pub record DefinedGoes (left : Function) : Type 0 where
    pub right : Function
    pub follows : defined_as right_env (at_site b n) (place_or at d) d x items_right (function t ts) ≡ fine right
    pub same : unsited_function right ≡ instrumented_function p left
    pub after : past (at_site b n) (calls_of_block items_right) (held_by_block (body_env right_env d ts) (first_numbers count_here items_right) items_right)
        ≡ at_site (past b (calls_of_block items_left) (held_by_block (body_env left_env d ts) (first_numbers count_here items_left) items_left)) (n + calls_of_block items_right)
    pub near : n + calls_of_block items_right ≤ 3 * (b.sites + calls_of_block items_left)

  number : (q : StatementTree typed.Stmts) → body_of left_env b t d ts items_left ≡ fine q → first_here ≡ length (list_of ts) + length q.plain
  number q h =
      let fit : length (list_of ts) ≡ count_here = held (ParamsFit (parameters_of d)) (type_declared e at s d) (function t ts) (type_fits e at s d is_function) typed_left in
      let same : first_here ≡ count_here + length q.plain = numbers_stay (record { plain = count_here; added = first_here }) (record { plain = count_here; added = 0 }) (names_of_block items_left) refl
      ∙ plain_numbers items_left (body_env left_env d ts) around b (first_numbers count_here items_left) q facts.lexical h in
      omega (arith, fit, same)

  -- its variables are few
  few_right : FilesBeside left_env right_env → (left : Function) → defined_as left_env b (place_or at d) d x items_left (function t ts) ≡ fine left → few_variables right_env x d items_right ≡ fine met
  few_right files left h =
      let v = on_fine (few_variables left_env x d items_left) (λ _. parts_first (body_of left_env b t d ts items_left) (laid_body left_env b (place_or at d) d x items_left t ts)) left h in
      variables_right left_env right_env files x d items_left items_right (length temporaries_here) (temporaries_count enums tags stood b.sites (calls_of_block items_left) temporaries_here facts.temporaries low)
      (names_long tags at temporaries_here (marked_statements.items_of_block (sites_of p) b.sites items_left) ∙ ap (λ ys. length temporaries_here + length ys) (blocks_stay (sites_of p) b.sites items_left facts.named).names_same)
      v.0 v.1

  definition_goes : FilesBeside left_env right_env → (left : Function) → defined_as left_env b (place_or at d) d x items_left (function t ts) ≡ fine left → DefinedGoes left
  definition_goes files left h =
      let k = first_fine (demand (are_named (parameters_of d)) 3 (place_or at d) met) (body_of left_env b t d ts items_left) (λ _ q. function_laid left_env x t ts q) left (definition_fine left_env b (place_or at d) d x items_left t ts left h) in
      let q : StatementTree typed.Stmts = k.1 in
      let us : List CType = types_of temporaries_here in
      let goes : BodyGoes p (sites_of p) tags (body_env left_env d ts) (body_env right_env d ts) b n at count_here items_left around q =
      body_goes p (sites_of p) enums tags stood (body_env left_env d ts) (body_env right_env d ts) (body_files left_env right_env files d ts (declared_names e f (files_alike e f w) at s d (function t ts) is_function typed_left)) (subst (HasFunctions p) (sym whole_here) g) b n at count_here items_left facts few around q k.3 in
      let laid = laid_right p x t ts first_here us goes.tree left_env right_env files q (temporaries_few (layout_of left_env) enums tags stood b.sites (calls_of_block items_left) temporaries_here facts.temporaries low) left k.4 in
      record {
        right = right_function p x t ts first_here us goes.tree q;
        follows =
            ap (λ r. on r (λ _. parts_first (body_of right_env (at_site b n) t d ts items_right) (laid_body right_env (at_site b n) (place_or at d) d x items_right t ts))) (few_right files left h)
            ∙ ap (parts_first (body_of right_env (at_site b n) t d ts items_right))
            (both_gives (demand (are_named (parameters_of d)) 3 (place_or at d) met) (body_of right_env (at_site b n) t d ts items_right) (λ _ q. function_laid right_env x t ts q) k.0 (right_laid p x t ts first_here us goes.tree q) k.2 goes.follows
            ∙ laid.0);
        same = function_instrumented p x t ts first_here us goes.tree q goes.none goes.kept goes.instrumented_tree (number q k.3) ∙ ap (instrumented_function p) laid.1;
        after = goes.after;
        near = goes.near;
      }

  pub named_goes : (out : Output) → function_named e b at s d body true (Some x) ≡ fine out → NamedGoes p e f b n at s d body (new_body (sites_of p) tags at b.sites body) (Some x) out
  named_goes out h =
      let i = first_fine (function_declared e true at s d x) (on (type_declared e at s d) (defined_as left_env b (place_or at d) d x items_left)) (λ _ f. fine (output_of_function f)) out h in
      let j = on_fine (type_declared e at s d) (defined_as left_env b (place_or at d) d x items_left) i.1 i.3 in
      let same : j.0 ≡ function t ts = fine_same j.0 (function t ts) (sym j.1 ∙ typed_left) in
      let files : FilesBeside left_env right_env = function_files e f w true at s d x i.0 i.2 in
      let goes : DefinedGoes i.1 = definition_goes files i.1 (subst (λ z. defined_as left_env b (place_or at d) d x items_left z ≡ fine i.1) same j.2) in
      let declared : function_declared f true at s d x ≡ fine i.0 = fine_leads (function_declared e true at s d x) (function_declared f true at s d x) i.0 (function_declared_leads e f w true at s d x) i.2 in
      let output_is : output_of_function i.1 ≡ out = fine_same (output_of_function i.1) out i.4 in
      record {
        output = output_of_function goes.right;
        count = n + calls_of_block items_right;
        follows =
            both_gives (function_declared f true at s d x) (on (type_declared f at s d) (defined_as right_env (at_site b n) (place_or at d) d x items_right)) (λ _ f. fine (output_of_function f)) i.0 goes.right declared
            (ap (λ r. on r (defined_as right_env (at_site b n) (place_or at d) d x items_right)) typed_right ∙ goes.follows);
        functions = ap (λ z. z ∷ []) goes.same ∙ ap (λ o. map (instrumented_function p) o.functions) output_is;
        statics = ap (λ o. o.statics) output_is;
        files = files;
        after =
            ap (λ r. past (at_site b n) (calls_of_block items_right) (held_by_typed right_env d items_right r)) typed_right
            ∙ (goes.after ∙ ap (λ r. at_site (past b (calls_of_block items_left) (held_by_typed left_env d items_left r)) (n + calls_of_block items_right)) (sym typed_left));
        few = goes.near;
      }

-- ## Items

-- tags in a definition
pub record TagsGo (stood : List Name) (i j : Item) : Type 0 where
  pub aside : tags_of_item true j ≡ tags_of_item true i
  pub stand : AreAmong stood (tags_of_item false j)

definition_tags : (p : Program) (enums tags : List Name) (more : List Name) (e : Env) (b : Before) (count at : ℕ) (class : Storage) (s : Spec) (d : Declarator) (body : Stmt)
    → BodyFacts p (sites_of p) enums tags (tags_of_item false (function_item at class s d body) ++ more) e b count (items_of_body body)
    → TagsGo (tags_of_item false (function_item at class s d body) ++ more) (function_item at class s d body) (function_item at class s d (new_body (sites_of p) tags at b.sites body))
definition_tags p enums tags more e b count at class s d body facts =
    let is : BlockItems = items_of_body body in
    let xs : List Temporary = kept_of_block (sites_of p) b.sites is in
    let inner : BlockItems = marked_statements.items_of_block (sites_of p) b.sites is in
    let own : List Name = tags_of_item false (function_item at class s d body) in
    let rest : List Name = tags_of_declarator d ++ tags_of_stmt false body in
    let mine : AreAmong (own ++ more) own = among_front own more own (among_itself own) in
    let others : AreAmong (own ++ more) rest = among_right (own ++ more) (tags_of_spec s) rest mine in
    let inside : AreAmong (own ++ more) (tags_of_block false inner) =
    subst (AreAmong (own ++ more)) (sym (tags_stay (sites_of p) false b.sites is facts.named ∙ body_tags false body)) (among_right (own ++ more) (tags_of_declarator d) (tags_of_stmt false body) others) in
    record {
      aside =
          ap (λ ts. tags_of_spec s ++ (tags_of_declarator d ++ ts))
          (declared_aside enums tags (own ++ more) at xs inner (all_free b.sites (calls_of_block is) xs facts.temporaries.sites) ∙ (tags_stay (sites_of p) true b.sites is facts.named ∙ body_tags true body));
      stand =
          among_both (own ++ more) (tags_of_spec s) (tags_of_declarator d ++ tags_of_block false (declared_before tags at xs inner)) (among_left (own ++ more) (tags_of_spec s) rest mine)
          (among_both (own ++ more) (tags_of_declarator d) (tags_of_block false (declared_before tags at xs inner)) (among_left (own ++ more) (tags_of_declarator d) (tags_of_stmt false body) others)
          (declared_stand enums tags (own ++ more) at xs inner facts.temporaries.written inside));
    }

-- each item with its tags
pub item_tags : (p : Program) (tags : List Name) (e : Env) (b : Before) (i : Item) → FunctionFacts p tags e b i → TagsGo (tags_of_item false i ++ e.tags) i (units.item (sites_of p) tags b.sites i)
item_tags p tags e b (function_item at class s d body) h = definition_tags p e.enums tags e.tags (body_env (behind_function_named e at s d (name_of d)) d h.1) b (count_params (parameters_of d)) at class s d body h.3
item_tags p tags e b i h = record { aside = refl; stand = among_front (tags_of_item false i) e.tags (tags_of_item false i) (among_itself (tags_of_item false i)) }

by_name : (p : Program) (enums tags stood : List Name) (e f : Env) → FilesBeside e f → HasFunctions p e.whole.functions → (b : Before) (n at : ℕ) (s : Spec) (d : Declarator) (body : Stmt) (k : Bool) (o : Option Ident) (out : Output)
    → declares_function d ≡ k → NamedFacts p enums tags stood e b at s d body o → n ≤ 3 * b.sites → b.sites ≤ 10000 → function_named e b at s d body k o ≡ fine out
    → (k ≡ true) × NamedGoes p e f b n at s d body (new_body (sites_of p) tags at b.sites body) o out
by_name p enums tags stood e f w g b n at s d body true (Some x) out q h few low r = (refl, named_goes p enums tags stood e f w g b n at s d body x h.0 h.1 h.2 q few low h.3 out r)
by_name p enums tags stood e f w g b n at s d body k o out q h few low r = absurd (cc)

pub function_item_goes : DefinitionsGo
function_item_goes p tags e f w g b n at class s d body out h few low r =
    let i : Item = function_item at class s d body in
    let j : Item = units.item (sites_of p) tags b.sites i in
    let e1 : Env = behind_function_named e at s d (name_of d) in
    let f1 : Env = behind_function_named f at s d (name_of d) in
    let named = by_name p e.enums tags (tags_of_item false i ++ e.tags) e f w g b n at s d body (declares_function d) (name_of d) out refl h few low r in
    let goes = named.1 in
    let stand : AreAmong (tags_of_item false i ++ e.tags) (tags_of_item false j) = (item_tags p tags e b i h).stand in
    record {
      output = goes.output;
      count = goes.count;
      follows = ap (λ k. function_named f (at_site b n) at s d (new_body (sites_of p) tags at b.sites body) k (name_of d)) named.0 ∙ goes.follows;
      functions = goes.functions;
      statics = goes.statics;
      files = tags_files e1 f1 goes.files i j (λ x k. among_cases (is_among (tags_of_item false i ++ e1.tags) x ≡ true) (tags_of_item false j) f1.tags x k
          (λ l. subst (λ ts. is_among (tags_of_item false i ++ ts) x ≡ true) (sym (form_tags i e b)) (is_in (tags_of_item false i ++ e.tags) (tags_of_item false j) stand x l))
          (λ l. among_later (tags_of_item false i) e1.tags x (files_tags e1 f1 goes.files x l)));
      after = goes.after;
      few = goes.few;
    }
