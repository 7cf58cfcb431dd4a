-- Units with null calls round their marked calls have the grammar's forms, what they are written with is tokens, and their nodes stand at
-- most 500 deep in each other (C99 5.2.4.1).
use Rattle.std.proofs.Common.{ℕ, suc, ◌+◌, ◌*◌, ◌≤◌, max, false, List, ◌++◌, sym, subst, arith}
use Rattle.c_tree.specs.Tree.{Program}
use Rattle.c_syntax.specs.Tree.{Stmt, block, BlockItems, Item, function_item, Items, no_items, more_items}
use Rattle.c_syntax.specs.Limits.{height_of_declarator, height_of_stmt, height_of_block_items, height_of_item, height_of_unit}
use Rattle.c_syntax_printing.specs.FineUnits.{AreFineBlockItems, IsFineBody, IsFineItem, AreFineItems}
use Rattle.c_rules.specs.Names.{Name}
use Rattle.c_rules.specs.Scopes.{Env, Before}
use Rattle.c_rules.specs.Tags.{tags_of_item}
use Rattle.c_rules.specs.Functions.{items_of_body}
use Rattle.c_rules.specs.Items.{behind_item, after_item}
use Rattle.null_calls_laws.specs.MarkedCalls.{sites_of}
use Rattle.null_calls_laws.specs.Temporaries.{Temporary}
use Rattle.null_calls_laws.specs.InstrumentedStatements.{items_of_block, kept_of_block}
use Rattle.null_calls_laws.specs.Instrumented as units
use Rattle.null_calls_laws.specs.Instrumented.{calls_of_item, null_prototype}
use Rattle.c_syntax_printing.specs.Writable.{IsWritableStmt, AreWritableBlockItems, IsWritableItem, AreWritableItems}
use Rattle.dm_base.specs.Name.{IsName}
use Rattle.null_calls_laws.proofs.StatementCounts.{blocks_low}
use Rattle.null_calls_laws.specs.Functions.{FunctionFacts}
use Rattle.c_rules_laws.proofs.Callers.{form_tags}
use Rattle.null_calls_laws.proofs.Facts.{UnitFacts}
use Rattle.null_calls_laws.proofs.TagsOfUnits.{AllNames, names_both, item_tags_named}
use Rattle.null_calls_laws.proofs.Spelled.{declared_fine, declared_write, declared_low}
use Rattle.null_calls_laws.proofs.FineParts.{FitsWhere, of_tokens, of_grammar, block_stays}

-- ## Bodies

body_fine : (body : Stmt) → IsFineBody body → AreFineBlockItems (items_of_body body) × (suc (height_of_block_items (items_of_body body)) ≤ height_of_stmt body)
body_fine (block at is) h = (h, omega arith)
body_fine body h = absurd h

body_writes : (body : Stmt) → IsWritableStmt body → AreWritableBlockItems (items_of_body body)
body_writes (block at is) h = h
body_writes body h = (h, tt)

-- ## Items

-- an item of an instrumented unit
pub record IsGoodItem (i : Item) : Type 0 where
  pub fine : IsFineItem i
  pub writes : IsWritableItem i
  pub low : height_of_item i ≤ 500

pub record AreGoodItems (is : Items) : Type 0 where
  pub fine : AreFineItems is
  pub writes : AreWritableItems is
  pub low : height_of_unit is ≤ 500

pub null_good : (x : Name) → IsName x → IsGoodItem (null_prototype x)
null_good x h = record { fine = ((tt, tt, (tt, tt)), tt, tt, tt); writes = (tt, ((h, (tt, tt, tt)), tt, tt)); low = omega arith }

pub more_good : (i : Item) (is : Items) → IsGoodItem i → AreGoodItems is → AreGoodItems (more_items i is)
more_good i is h k = record { fine = (h.fine, k.fine); writes = (h.writes, k.writes); low = (let a = h.low in let b = k.low in omega (arith, a, b)) }

function_low : (a c h k l : ℕ) → max a c ≤ 200 → suc h ≤ c → k ≤ 2 * h → l ≤ max 65 k → max a (suc l) ≤ 500
function_low a c h k l e f g i = omega (arith, e, f, g, i)

module _ (p : Program) (tags : List Name) (fit : (s : ℕ) → FitsWhere (sites_of p s) s) where
  good_item : (i : Item) (e : Env) (b : Before) → FunctionFacts p tags e b i → IsFineItem i → IsWritableItem i → height_of_item i ≤ 200 → AllNames (tags_of_item false i ++ e.tags) → IsGoodItem (units.item (sites_of p) tags b.sites i)
  good_item (function_item at class s d body) e b facts f w l names =
      let stood : List Name = tags_of_item false (function_item at class s d body) ++ e.tags in
      let is : BlockItems = items_of_body body in
      let xs : List Temporary = kept_of_block (sites_of p) b.sites is in
      let later : BlockItems = items_of_block (sites_of p) b.sites is in
      let t = facts.3.temporaries in
      let low = declared_low e.enums tags stood at xs later t.written in
      let rest = blocks_low (sites_of p) b.sites is facts.3.named in
      let own = body_fine body f.2 in
      record {
        fine = (f.0, f.1, declared_fine e.enums tags stood at xs later t.written (block_stays (sites_of p) fit of_grammar is b.sites own.0));
        writes = (w.0, w.1, declared_write e.enums tags stood at names b.sites _ xs later t.written t.sites (block_stays (sites_of p) fit of_tokens is b.sites (body_writes body w.2)));
        low = function_low (height_of_declarator d) (height_of_stmt body) (height_of_block_items is) (height_of_block_items later) _ l own.1 rest low;
      }
  good_item i e b facts f w l names = record { fine = f; writes = w; low = omega (arith, l) }

  pub good_items : (is : Items) (e : Env) (b : Before) → UnitFacts p tags e b is → AreFineItems is → AreWritableItems is → height_of_unit is ≤ 200 → AllNames e.tags → AreGoodItems (units.items (sites_of p) tags b.sites is)
  good_items no_items e b facts f w l names = record { fine = tt; writes = tt; low = omega arith }
  good_items (more_items i is) e b facts f w l names =
      let here : AllNames (tags_of_item false i ++ e.tags) = names_both (tags_of_item false i) e.tags (item_tags_named i w.0) names in
      let behind : AllNames (behind_item e b i).tags = subst (λ ts. AllNames (tags_of_item false i ++ ts)) (sym (form_tags i e b)) here in
      let later : AreGoodItems (units.items (sites_of p) tags (after_item e b i).sites is) = good_items is (behind_item e b i) (after_item e b i) facts.2 f.1 w.1 (omega (arith, l)) behind in
      more_good (units.item (sites_of p) tags b.sites i) (units.items (sites_of p) tags (b.sites + calls_of_item i) is) (good_item i e b facts.0 f.0 w.0 (omega (arith, l)) here)
      (subst (λ c. AreGoodItems (units.items (sites_of p) tags c is)) facts.1 later)
