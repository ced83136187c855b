pub mod Letters
pub mod Pieces
pub mod Spelling
pub mod Texts
