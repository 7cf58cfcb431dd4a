-- Read in this order: Starts, Heads, Ranks (what a token begins and may follow, by numbers), Fronts, Twins (phrases as parts of lists of tokens), Fails (where tokens cannot go on), Phrases (the grammar's phrases as relations between lists of
-- tokens); then their parts: Operands, Specs, Declarators, Initialisers, Declarations, Labels, Groups, Units, Items.
-- Then what is past the limits: Nodes (where counted nodes stand), Pairs (where parentheses that make no node stand),
-- Opens (where tokens go on with one too many), Deep (labels, statements, groups and declarators with one too many).
-- None is for private contracts and proofs alone.
pub mod Fronts
pub mod Starts
pub mod Heads
pub mod Ranks
pub mod Twins
pub mod Declarations
pub mod Declarators
pub mod Deep
pub mod Fails
pub mod Groups
pub mod Initialisers
pub mod Items
pub mod Labels
pub mod Nodes
pub mod Opens
pub mod Operands
pub mod Pairs
pub mod Phrases
pub mod Specs
pub mod Units
pub mod Fine
pub mod FineUnits
pub mod Laws
pub mod Writable
pub mod Counted
pub mod PrintedOperands
