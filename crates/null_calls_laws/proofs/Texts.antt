-- The instrumented units of texts are units.
use Rattle.std.proofs.Common.{ℕ, List}
use Rattle.dm_base.specs.declared.mode.Mode.TheVariants.{Plain}
use Rattle.c_lexer.specs.TokenSpelling.{SpellsTokens}
use Rattle.c_lexer.specs.declared.token.Token.{Token}
use Rattle.c_syntax.specs.Spelling.{SpellsUnit}
use Rattle.c_syntax.specs.Tree.{Items, more_items}
use Rattle.c_syntax_printing.proofs.FineUnitLemmas.{fine_unit}
use Rattle.c_rules.specs.Scopes.{nothing_before}
use Rattle.c_rules.specs.Items.{after_items}
use Rattle.c_rules.specs.Units.{IsTyped, tags_of, env_before}
use Rattle.c_tree.specs.Tree.{Program}
use Rattle.null_calls_laws.specs.MarkedCalls.{sites_of}
use Rattle.null_calls_laws.specs.Temporaries.{pre_name, post_name}
use Rattle.null_calls_laws.specs.Instrumented as units
use Rattle.null_calls_laws.specs.Instrumented.{instrumented_unit, null_prototype}
use Rattle.c_syntax_printing.proofs.WritableReadBack.{spelled_writable, writable_read_back}
use Rattle.c_syntax_printing.proofs.WritableTokens.{writable_are_units}
use Rattle.null_calls_laws.proofs.Fine.{spelled_lexical}
use Rattle.null_calls_laws.proofs.WholeUnits.{unit_program}
use Rattle.null_calls_laws.proofs.TagsOfUnits.{some_fine, spelled_names}
use Rattle.null_calls_laws.proofs.TypedUnits.{typed_facts}
use Rattle.null_calls_laws.specs.Texts.{InstrumentedUnitsAreUnits, InstrumentedTextsAreReadBack}
use Rattle.null_calls_laws.proofs.NamesAreIdentifiers.{pre_named, post_named}
use Rattle.null_calls_laws.proofs.Sites.{sites_fit}
use Rattle.null_calls_laws.proofs.UnitForms.{AreGoodItems, null_good, more_good, good_items}

instrumented_good : (text : List ℕ) (tokens : List Token) (u : Items) (p : Program) → SpellsTokens text Plain tokens → SpellsUnit u tokens Plain → IsTyped u Plain p → AreGoodItems (instrumented_unit p u)
instrumented_good text tokens u p spells reads typed =
    let lexical = spelled_lexical text Plain tokens u spells reads in
    let facts = typed_facts u p lexical (spelled_names reads) typed in
    let fit = sites_fit p (after_items (env_before Plain u) nothing_before u).sites (unit_program u Plain p lexical typed) in
    let later : Items = units.items (sites_of p) (tags_of u) 0 u in
    let good : AreGoodItems later = good_items p (tags_of u) fit u (env_before Plain u) nothing_before facts (some_fine u (fine_unit reads.reads)) (spelled_writable u tokens Plain reads) reads.nested tt in
    more_good (null_prototype pre_name) (more_items (null_prototype post_name) later) (null_good pre_name pre_named) (more_good (null_prototype post_name) later (null_good post_name post_named) good)

pub instrumented_are_units : InstrumentedUnitsAreUnits
instrumented_are_units text tokens u p spells reads typed =
    let whole = instrumented_good text tokens u p spells reads typed in
    writable_are_units (instrumented_unit p u) whole.fine whole.writes whole.low

pub instrumented_are_read_back : InstrumentedTextsAreReadBack
instrumented_are_read_back text tokens u p spells reads typed short =
    let whole = instrumented_good text tokens u p spells reads typed in
    writable_read_back (instrumented_unit p u) whole.fine whole.writes whole.low short
