-- Read in this order: Call (a call edge), Graph (a model as lists of records), Language (Wagner and Dean 2001; Giffin,
-- Jha and Miller 2004), Verdict (what a monitor says of a trace), Order (of a model's edges), Rules (what is valid),
-- Built (what a builder was given, and its model), Groups (sites by node and by function), Cost (of an event), Found
-- (nodes found).
-- For private contracts and proofs alone: Ends, Starts, Grouped, Growth, Members, Checked, Inside.
pub mod Built
pub mod Call
pub mod Checked
pub mod Cost
pub mod Ends
pub mod Found
pub mod Graph
pub mod Grouped
pub mod Groups
pub mod Growth
pub mod Inside
pub mod Language
pub mod Members
pub mod Order
pub mod Rules
pub mod Starts
pub mod Verdict
