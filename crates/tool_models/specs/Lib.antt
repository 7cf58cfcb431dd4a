-- Read in this order: Judge, Measure and Upgrade (what these commands make of their files, and why they refuse them),
-- Watched (the verdicts on the processes of interleaved traces), Watch (what that command makes of its files).
-- For private contracts and proofs alone: Following, Found.
pub mod Following
pub mod Found
pub mod Judge
pub mod Measure
pub mod Upgrade
pub mod Watch
pub mod Watched
