-- Read in this order: MarkedCalls (at which sites null calls are to stand), SpelledTypes (how a type is written, C99
-- 6.7.5), Temporaries (the names of the instrumenter), InstrumentedExpressions, InstrumentedStatements, Instrumented
-- (the unit). Then InstrumentedPrograms (what that unit is typed as), WithoutSites (a program whose sites are all 0),
-- IsWithNullCalls (when a program is another one with null calls), SitesLaw (sites change nothing).
-- None is for private contracts and proofs alone.
-- Read in this order: Remade (the same with another tree), Laws (the rules on such operands), Tabled (what is known of
-- calls and temporaries), Follow (an instrumented expression beside the plain one), PlainCalls (calls not marked); for
-- marked calls AddedParts (what the instrumenter adds), KeptValues and KeptArguments (arguments in temporaries),
-- MarkedCalls.
-- By themselves: MostCalls (C99 5.2.4.1), NullTypes (6.3.2.3 paragraph 3), OwnTypes (6.5.16.1).
-- None is for private contracts and proofs alone.
-- Read in this order: AbstractCasts (casts that name no object, C99 6.7.6), Units (the law on whole units). Then, for
-- the laws on parts, Spelled (types and their spelling, 6.7.2, 6.7.5), WrittenTypes (those whose tags stand before),
-- TemporaryNames, Declarations (of temporaries, 6.7), ClosedTypes of c_rules_laws (what a scope has; the rest of it
-- is for proofs), Scopes (in functions of a plain unit), Bodies (of functions), FileScopes (6.2.1, 6.9), Functions
-- (6.9.1), OtherItems.
-- For proofs alone: CallsIn.
pub mod Instrumented
pub mod InstrumentedExpressions
pub mod InstrumentedPrograms
pub mod InstrumentedStatements
pub mod IsWithNullCalls
pub mod MarkedCalls
pub mod SitesLaw
pub mod SpelledTypes
pub mod Temporaries
pub mod WithoutSites
pub mod Counts
pub mod Heights
pub mod CountedStatements
pub mod Tags
pub mod AddedParts
pub mod Follow
pub mod KeptArguments
pub mod KeptValues
pub mod ExpressionLaws
pub mod InstrumentedCalls
pub mod MostCalls
pub mod NullTypes
pub mod OwnTypes
pub mod PlainCalls
pub mod Remade
pub mod Tabled
pub mod DeclarationsBeside
pub mod Heads
pub mod Initialisers
pub mod Standing
pub mod StatementsBeside
pub mod AbstractCasts
pub mod Bodies
pub mod CallsIn
pub mod TemporaryDeclarations
pub mod FileScopes
pub mod Functions
pub mod OtherItems
pub mod Scopes
pub mod Spelled
pub mod TemporaryNames
pub mod Units
pub mod WrittenTypes
pub mod InstrumentedTexts
pub mod LexicalTexts
pub mod Texts
pub mod RunLaws
pub mod NoFalseAlarmInstrumented
pub mod Pieces
pub use Rattle.c_meaning.specs.MarkedRuns
pub use Rattle.c_meaning.specs.Monitors
pub use Rattle.c_meaning.specs.NoFalseAlarm
pub use Rattle.c_rules_laws.specs.ClosedTypes
pub use Rattle.c_rules_laws.specs.Lexical
pub use Rattle.c_rules_laws.specs.MadeTypes
pub use Rattle.c_rules_laws.specs.PlaceLaws
pub use Rattle.c_rules_laws.specs.TypedAlike
