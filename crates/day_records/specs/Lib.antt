pub mod Items
pub mod Kinds
pub mod Views
