mod ArgumentLemmas
mod CallLemmas
mod LineLemmas
mod SameLemmas
pub mod BuildLemmas
pub mod PathLemmas
mod StartLemmas
mod PhaseLemmas
pub mod WritingLemmas
pub mod LineageLemmas
pub mod ChosenLemmas
pub mod DumpLemmas
pub mod HeaderLemmas
pub mod SampleLemmas
pub mod WriterLemmas
