pub mod PlaceLaws
pub mod RowLaws
pub mod TableLaws
pub mod LineTableLaws
pub mod Laws
pub mod Examples
