pub mod Made
pub mod Machine
pub mod Taking
pub mod States
pub mod Routes
pub mod Making
pub mod Laws
pub mod Alphabet
