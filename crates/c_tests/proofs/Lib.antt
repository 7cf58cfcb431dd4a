pub mod TagUnit
