pub mod GivenLemmas
pub mod DecimalLemmas
pub mod EntriesLemmas
