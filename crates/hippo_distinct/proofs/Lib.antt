pub mod DifferentLemmas
pub mod NeededRows
pub mod KeptLemmas
pub mod CellOrder
pub mod BagLemmas
pub mod BestValues
pub mod NeededGroups
pub mod NeededForms
