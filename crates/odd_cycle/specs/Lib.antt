pub mod Fold
pub mod Laws
pub mod Marks
pub mod Numbers
pub mod Short
pub mod Tables
