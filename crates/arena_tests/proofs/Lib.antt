mod Conditions
mod Stars
