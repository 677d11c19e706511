pub mod FrontLemmas
pub mod PartLemmas
pub mod PieceLaw
pub mod PieceLemmas
pub mod PiecesLaw
pub mod Rows
pub mod SpellsLemmas
pub mod Words
