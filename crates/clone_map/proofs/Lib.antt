pub mod ChainLaws
pub mod PlaceLaws
pub mod RunLaws
pub mod ContigLaws
pub mod SweepLaws
