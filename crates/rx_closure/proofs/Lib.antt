pub mod ClosureLemmas
pub mod NameLemmas
