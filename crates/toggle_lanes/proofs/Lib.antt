pub mod PairLemmas
pub mod SumLemmas
pub mod MoveLemmas
pub mod LaneLemmas
pub mod FillLemmas
pub mod RowLemmas
