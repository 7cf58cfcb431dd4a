-- Instrumented units.
use Rattle.std.proofs.Common.{ℕ, ◌+◌, List, [], ◌∷◌}
use Rattle.c_syntax.specs.Tree.{function_item, Item, Items, no_items, more_items}
use Rattle.c_syntax.specs.Tree.{BlockItems}
use Rattle.c_rules.specs.Functions.{items_of_body}
use Rattle.c_rules.specs.Names.{Name}
use Rattle.c_rules.specs.Scopes.{nothing_before}
use Rattle.c_rules.specs.Items.{after_items}
use Rattle.c_rules.specs.Units.{tags_of, env_before}
use Rattle.dm_base.specs.declared.mode.Mode.TheVariants.{Plain}
use Rattle.null_calls_laws.specs.MarkedCalls.{Sites, sites_of}
use Rattle.null_calls_laws.specs.Temporaries.{Temporary, declared_before}
use Rattle.null_calls_laws.specs.Instrumented as units
use Rattle.null_calls_laws.specs.Instrumented.{calls_of_item}
use Rattle.null_calls_laws.specs.InstrumentedStatements.{items_of_block, kept_of_block}
use Rattle.null_calls_laws.specs.Lexical.{AreItemsLexical, IsItemLexical, IsUnitLexical}
use Rattle.c_rules_laws.proofs.UnitItems.{body_lexical}
use Rattle.null_calls_laws.proofs.WholeUnits.{unit_program}
use Rattle.null_calls_laws.proofs.Sites.{sites_fit}
use Rattle.null_calls_laws.specs.LexicalTexts.{InstrumentedUnitsAreLexical}
use Rattle.null_calls_laws.proofs.FineParts.{FitsWhere, of_texts, block_stays}

-- temporaries have no initialisers
declared_lexical : (tags : List Name) (at : ℕ) (xs : List Temporary) (is : BlockItems) → AreItemsLexical is → AreItemsLexical (declared_before tags at xs is)
declared_lexical tags at [] is h = h
declared_lexical tags at (x ∷ xs) is h = ((tt, tt), declared_lexical tags at xs is h)

module _ (sites : Sites) (tags : List Name) (fit : (s : ℕ) → FitsWhere (sites s) s) where
  item_lexical : (i : Item) (b : ℕ) → IsItemLexical i → IsItemLexical (units.item sites tags b i)
  item_lexical (function_item at class s d body) b h =
      let is : BlockItems = items_of_body body in
      (h.0, declared_lexical tags at (kept_of_block sites b is) (items_of_block sites b is) (block_stays sites fit of_texts is b (body_lexical body h.1)))
  item_lexical i b h = h

  items_lexical : (is : Items) (b : ℕ) → IsUnitLexical is → IsUnitLexical (units.items sites tags b is)
  items_lexical no_items b h = tt
  items_lexical (more_items i is) b h = (item_lexical i b h.0, items_lexical is (b + calls_of_item i) h.1)

pub instrumented_are_lexical : InstrumentedUnitsAreLexical
instrumented_are_lexical u p lexical typed =
    let fit = sites_fit p (after_items (env_before Plain u) nothing_before u).sites (unit_program u Plain p lexical typed) in
    ((tt, tt), ((tt, tt), items_lexical (sites_of p) (tags_of u) fit u 0 lexical))
