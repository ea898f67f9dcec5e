pub mod ChildLists
pub mod Layout
pub mod NamedTree
pub mod RowLeaves
