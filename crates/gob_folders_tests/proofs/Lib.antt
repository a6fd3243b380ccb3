pub mod Pathnames
