pub mod Places
pub mod Contigs
pub mod Laws
pub mod Runs
