-- Read in this order: Faults (what results of steps tell of the answers of the definitions), Asking (the same where a
-- step takes memory), Requests (what a system call asks for), Taking (what it comes to with a recorded result), Words
-- (which values a machine can hold).
-- For private contracts and proofs alone: ByteCells.
pub mod Asking
pub mod ByteCells
pub mod Faults
pub mod Requests
pub mod Taking
pub mod Words
