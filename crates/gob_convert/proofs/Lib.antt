pub mod MadeLemmas
pub mod Going
