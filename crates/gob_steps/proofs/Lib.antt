pub mod Named
pub mod Cuts
pub mod Chains
pub mod Making
pub mod Telling
pub mod Lists
pub mod Picking
