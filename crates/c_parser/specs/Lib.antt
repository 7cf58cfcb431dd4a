-- Read in this order: TooDeep (what an error of nesting says, C99 5.2.4.1), Refused (why tokens spell no unit of the
-- grammar, C99 6.5 to 6.9, and at which place that shows).
-- For private contracts and proofs alone: Lists, Parsed, Making, Starting, Nesting, Refusing.
pub mod Lists
pub mod Making
pub mod Parsed
pub mod Refused
pub mod Refusing
pub mod Starting
pub mod Nesting
pub mod TooDeep
