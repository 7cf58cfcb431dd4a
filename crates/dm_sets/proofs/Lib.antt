pub mod Members
pub mod Tops
pub mod Words
