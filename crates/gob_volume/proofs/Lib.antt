pub mod Failing
pub mod Listings
pub mod Tables
pub mod Trails
