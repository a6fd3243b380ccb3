pub mod Examples
pub mod NaturalLemmas
pub mod LogicalLemmas
pub mod EscapeLemmas
pub mod EntryLemmas
mod NaturalLaws
mod PutLaws
mod WrittenLaws
