pub mod Sides
pub mod Convex
pub mod Places
