pub mod GroupCells
pub mod KeptGroups
