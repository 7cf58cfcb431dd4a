-- Read in this order: Results (what a part of a program gives, C99 5.1.2.3), Pointers (steps on values, 6.3.2, 6.5),
-- SystemCalls, Meaning (what expressions and statements do, 6.5, 6.8), Runs (what a program does, 5.1.2.2.3, 6.7.8).
-- Then the laws: More (more recorded results and turns change nothing), Records and BadResults (which recorded results
-- answer a call, and which is bad), WithoutNullCalls and NullCalls (null calls round calls change nothing).
-- None is for private contracts and proofs alone.
-- Read in this order: Shape (the control flow of functions, Wagner and Dean 2001), Words (of a shape), Walks (the
-- callgraph language), Languages (what a run may show; Giffin, Jha and Miller 2004); then Mentions (where functions are
-- named and called), CallGraph, ShapeOf (the shape of each form of C, C99 6.5, 6.8), ProgramLanguages.
-- Then, for the laws: Bodies (where a break, a continue and a return may stand), Table (the words as a table).
-- None is for private contracts and proofs alone.
-- Read in this order: Layout (the edges of shapes, and the numbers of their nodes), Sorted (items in order, each once),
-- GraphOf (the graph of a program's shapes), GraphOfProgram (that of a program), Equal (languages that have the same
-- words); then, for the laws, Premises (what the shapes of programs meet).
-- None is for private contracts and proofs alone.
-- Read in this order: StoreTyping (typed memory, C99 6.2.4), TypedResults (what parts of a well-typed program give);
-- then the laws: Laws (values have the kinds of their types, pointers lie in their objects), Callees (which functions a
-- call calls), FurtherObjects and FurtherLaws (objects to which no pointer leads change nothing), Turns (how many
-- suffice).
-- None is for private contracts and proofs alone.
pub mod BadResults
pub mod Meaning
pub mod More
pub mod NullCalls
pub mod Pointers
pub mod Records
pub mod Results
pub mod Runs
pub mod SystemCalls
pub mod WithoutNullCalls
pub mod Shape
pub mod Bodies
pub mod Words
pub mod ShapeTable
pub mod Walks
pub mod Languages
pub mod Mentions
pub mod CallGraph
pub mod ShapeOf
pub mod ProgramLanguages
pub mod GraphLayout
pub mod Sorted
pub mod GraphOf
pub mod Premises
pub mod Equal
pub mod GraphOfProgram
pub mod CallDepth
pub mod Callees
pub mod FurtherLaws
pub mod FurtherObjects
pub mod Laws
pub mod StoreTyping
pub mod Turns
pub mod TypedResults
pub mod MarkedRuns
pub mod Monitors
pub mod NoFalseAlarm
pub use Rattle.c_tree.specs.Constants
pub use Rattle.c_tree.specs.Functions
pub use Rattle.c_tree.specs.Layout
pub use Rattle.c_tree.specs.Operators
pub use Rattle.c_tree.specs.Program
pub use Rattle.c_tree.specs.Sites
pub use Rattle.c_tree.specs.Tree
pub use Rattle.c_tree.specs.Typed
pub use Rattle.c_tree.specs.declared.tree.TLabel
pub use Rattle.c_tree.specs.declared.value.IntType
pub use Rattle.c_tree.specs.declared.value.Value
pub use Rattle.c_values.specs.Answers
pub use Rattle.c_values.specs.Memory
pub use Rattle.flow_model.specs.Graph
pub use Rattle.flow_model.specs.Language
pub use Rattle.flow_model.specs.Verdict
pub use Rattle.flow_model.specs.declared.which.Which
pub use Rattle.sys_table.specs.Answering
pub use Rattle.sys_table.specs.Table
pub use Rattle.sys_table.specs.declared.kinds.ArgKind
pub use Rattle.sys_table.specs.declared.kinds.ResultKind
pub use Rattle.sys_table.specs.declared.sys_result.SysResult
