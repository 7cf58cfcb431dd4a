-- The items of a unit that is fine: the sites in their functions are the numbers of the calls from those before them on, and no limit on calls, strings and cells is passed.
use Rattle.std.proofs.Common.{◌≡◌, ℕ, zero, suc, ◌+◌, ◌≤◌, true, false, List, [], ◌∷◌, ◌++◌, flat_map, length, length-append, append_assoc, nat_le, refl, ap, ap₂, sym, subst, ◌∙◌, arith}
use Rattle.std.specs.List.{range_with_len}
use Rattle.c_tree.specs.Tree.{CType, function, CTypes, Function}
use Rattle.c_tree.specs.Tree as typed
use Rattle.c_tree.specs.Layout.{cells_of_all}
use Rattle.c_tree.specs.Sites.{sites_of_function}
use Rattle.c_syntax.specs.Tree.{Ident, Declarator, Params, MaybeInit, BlockItems, Items}
use Rattle.c_rules.specs.Checked.{fine, demand, met}
use Rattle.c_rules.specs.Limits.{most_local_cells}
use Rattle.c_rules.specs.Scopes.{Env, evaluated, inside, layout_of, Before}
use Rattle.c_rules.specs.Counts.{string_cells, past}
use Rattle.c_rules.specs.Declarators.{place_or}
use Rattle.c_rules.specs.Initialisers.{held_by, calls_of_maybe_init, initialised_static}
use Rattle.c_rules.specs.Objects.{Object}
use Rattle.c_rules.specs.Variables.{Next, calls_of_block}
use Rattle.c_rules.specs.Blocks.{StatementTree, held_by_block}
use Rattle.c_rules.specs.Statements.{Around, items_of_block}
use Rattle.c_rules.specs.Functions.{parameters_of, are_named, with_parameters, variables_of, function_laid, body_env, body_numbers, body_of, held_by_type, items_of_body, defined_as}
use Rattle.c_rules.specs.Items.{Output, no_output, with_output, static_of, output_of_function, within_global, after_object, after_global, behind_defined, items, after_items}
use Rattle.c_rules_laws.specs.Lexical.{IsUnitLexical}
use Rattle.c_rules_laws.proofs.Holding.{held, first_fine, demand_fine, each_both}
use Rattle.c_rules_laws.proofs.Definitions.{definition_fine}
use Rattle.c_meaning.proofs.Differences.{has_cell}
use Rattle.c_rules_laws.proofs.SoundStructs.{are_structs}
use Rattle.c_rules_laws.proofs.SitesOfExpressions.{AreShort, FitsAt, Span, range_append}
use Rattle.c_rules_laws.proofs.RightInitialisers.{AllKnown, known_sites, InitCounted, static_counted}
use Rattle.c_rules_laws.proofs.SitesOfStatements.{IsSpan, StmtsSpan, held_by_named_same, block_span, params_keep}
use Rattle.c_rules_laws.proofs.FileScopes.{IsFileRight}
use Rattle.c_rules_laws.proofs.FileItems.{IsObjectNamed}
use Rattle.c_rules_laws.proofs.NamesOfItems.{Gives, starts, declares, an_object, a_definition, one_and_more, items_give}
use Rattle.c_rules_laws.proofs.KnownCells.{static_known}
use Rattle.c_rules.proofs.NothingMore.{nothing_more}
use Rattle.c_rules.specs.Names.{Name}
use Rattle.c_rules.specs.TypedExpression.{TypedExpression}
use Rattle.std.proofs.lemmas.List.Concat.{flat_map-append}

-- what stands before a part, what stands behind it, and what it gives
pub record Spans (b a : Before) (q : Output) : Type 0 where
  pub count : ℕ
  pub sites : flat_map sites_of_function q.functions ≡ range_with_len b.sites count
  pub counted : a.sites ≡ b.sites + count
  pub more : List (List ℕ)
  pub strings : a.strings ≡ b.strings ++ more
  pub short : AreShort more
  pub sites_fit : b.sites ≤ 30000 → a.sites ≤ 30000
  pub cells_fit : b.cells ≤ 1048576 → a.cells ≤ 1048576
  pub many : b.cells + (length q.statics + length more) ≤ a.cells

spans_none : (b : Before) → Spans b b no_output
spans_none b = record {
  count = 0;
  sites = refl;
  counted = omega arith;
  more = [];
  strings = sym (nothing_more b.strings);
  short = tt;
  sites_fit = λ l. l;
  cells_fit = λ l. l;
  many = omega arith;
}

spans_both : (b a c : Before) (q r : Output) → Spans b a q → Spans a c r → Spans b c (with_output q r)
spans_both b a c q r h k = record {
  count = h.count + k.count;
  sites = flat_map-append sites_of_function q.functions r.functions ∙ (ap₂ (λ xs ys. xs ++ ys) h.sites (k.sites ∙ ap (λ n. range_with_len n k.count) h.counted) ∙ sym (range_append b.sites h.count k.count));
  counted = (let x = h.counted in let y = k.counted in omega (arith, x, y));
  more = h.more ++ k.more;
  strings = k.strings ∙ (ap (λ ws. ws ++ k.more) h.strings ∙ append_assoc b.strings h.more k.more);
  short = each_both (λ w. suc (length w) ≤ 65536) h.more k.more h.short k.short;
  sites_fit = λ l. k.sites_fit (h.sites_fit l);
  cells_fit = λ l. k.cells_fit (h.cells_fit l);
  many = (let x = h.many in let y = k.many in let s = length-append q.statics r.statics in let t = length-append h.more k.more in omega (arith, x, y, s, t));
}

-- ## Objects

pub no_range : (a n : ℕ) → range_with_len a n ≡ [] → n ≡ 0
no_range a zero e = refl
no_range a (suc n) e = absurd (cc)

string_many : (ws : List (List ℕ)) → length ws ≤ string_cells ws
string_many [] = omega arith
string_many (w ∷ ws) = (let l = string_many ws in omega (arith, l))

object_span : (env : Env) → IsFileRight env → (b : Before) (x : Ident) (m : MaybeInit) (o : Object) (gs : List TypedExpression) → IsObjectNamed env true b x o
    → initialised_static (within_global env true x (fine o)) (after_object (within_global env true x (fine o)) b o.whole) o.whole m ≡ fine gs → Spans b (after_global env b m (fine o)) (static_of o gs)
object_span env w b x m o gs h e =
    let inner : Env = within_global env true x (fine o) in
    let start : Before = after_object inner b o.whole in
    let n : ℕ = calls_of_maybe_init m in
    let ws : List (List ℕ) = held_by env o.whole m in
    let seen : held_by inner o.whole m ≡ ws = held_by_named_same m env x.name _ o.whole in
    let counted : InitCounted start n (held_by inner o.whole m) gs = held (InitCounted start n (held_by inner o.whole m)) (initialised_static inner start o.whole m) gs (static_counted m inner w.runs start o.whole) e in
    let known : AllKnown gs = held AllKnown (initialised_static inner start o.whole m) gs (static_known m inner start o.whole) e in
    let none : n ≡ 0 = no_range b.sites n (known_sites gs (Span start n) known counted.0) in
    let fits : FitsAt 30000 start n ws = subst (FitsAt 30000 start n) seen counted.1 in
    let some = has_cell (layout_of env) (are_structs (layout_of env) w.names_known.sound) o.whole h.right.known in
    let many = string_many ws in
    record {
      count = 0;
      sites = refl;
      counted = omega (arith, none);
      more = ws;
      strings = refl;
      short = fits.short;
      sites_fit = λ l. omega (arith, none, l);
      cells_fit = λ _. fits.cells_fit (h.few refl);
      many = omega (arith, some, many);
    }

-- ## Functions

pub params_context : (ps : Params) (ts : CTypes) (env : Env) (k : ℕ) → (with_parameters env k ps ts).context ≡ env.context
params_context ps ts env k = params_keep (λ e. e.context) (λ _ _ _. refl) ps ts env k

function_span : (env : Env) → env.context ≡ evaluated → (b : Before) (place : ℕ) (d : Declarator) (x : Ident) (is : BlockItems) (u : CType) (f : Function) → defined_as env b place d x is u ≡ fine f → IsSpan b (calls_of_block is) (held_by_type env d is u) (sites_of_function f)
function_span env c b place d x is (function t ts) f e =
    let i = first_fine (demand (are_named (parameters_of d)) 3 place met) (body_of env b t d ts is) (λ _ q. function_laid env x t ts q) f (definition_fine env b place d x is t ts f e) in
    let q : StatementTree typed.Stmts = i.1 in
    let j = demand_fine (nat_le (cells_of_all (layout_of env) (variables_of ts q)) (most_local_cells env.whole.mode)) 13 x.at (record { name = x.name; ctype = function t ts; variables = variables_of ts q; body = typed.block q.tree }) f i.4 in
    let inner : Env = body_env env d ts in
    let next : Next = body_numbers d is in
    let around : Around = record { breaks = false; continues = false; returns = t } in
    let runs : inner.context ≡ evaluated = params_context (parameters_of d) ts (inside env) 0 ∙ c in
    let h : StmtsSpan b (calls_of_block is) (held_by_block inner next is) q = held (StmtsSpan b (calls_of_block is) (held_by_block inner next is)) (items_of_block inner around b next is) q (block_span is inner runs around b next) i.3 in
    subst (λ f. IsSpan b (calls_of_block is) (held_by_block inner next is) (sites_of_function f)) j.1 h
function_span env c b place d x is u f e = absurd (cc)

-- a function, and what stands behind it
one_function : (b : Before) (n : ℕ) (ws : List (List ℕ)) (f : Function) → IsSpan b n ws (sites_of_function f) → Spans b (past b n ws) (output_of_function f)
one_function b n ws f h = record {
  count = n;
  sites = nothing_more (sites_of_function f) ∙ h.0;
  counted = refl;
  more = ws;
  strings = refl;
  short = h.1.short;
  sites_fit = h.1.sites_fit;
  cells_fit = h.1.cells_fit;
  many = (let l = string_many ws in omega (arith, l));
}

-- ## Items

pub gives_spans : {env inner : Env} {b a : Before} {q : Output} {xs ys : List Name} → Gives env b inner a q xs ys → Spans b a q
gives_spans (starts {b = b} w) = spans_none b
gives_spans (declares h s d) = gives_spans h
gives_spans {env} {b = b} (an_object x m o gs w l n f s) = object_span env w b x m o gs n f
gives_spans {env} {b = b} (a_definition at s d body x m u f w n l k c e h g t) =
    let is : BlockItems = items_of_body body in
    let inner : Env = behind_defined env at s d x in
    one_function b (calls_of_block is) (held_by_type inner d is u) f (function_span inner w.runs b (place_or at d) d x is u f g)
gives_spans (one_and_more {b = b} {c = c} {a = a} {q = q} {r = r} h k) = spans_both b c a q r (gives_spans h) (gives_spans k)

pub items_span : (is : Items) (env : Env) → IsFileRight env → (b : Before) (q : Output) → IsUnitLexical is → items env b is ≡ fine q → Spans b (after_items env b is) q
items_span is env w b q l e = gives_spans (items_give is env w b q l e)
