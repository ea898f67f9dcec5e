pub mod EvenLaws
pub mod UnionLaws
pub mod ClassLaws
